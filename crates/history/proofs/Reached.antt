-- Demand 3: the bounds are met, by equality, for every number of tries that a cold start takes and every count of orders, calls and
-- losses that a history can have.
-- Proves: reached, demand-reached, p10-records, reached-one-each, reached-to-nine, waiting-not-sooner-each, waiting-not-sooner.
use mathlib.Core.Path.{◌≡◌, refl, ap, ◌∙◌}
use mathlib.Core.Logic.{◌⊎◌, inl, inr}
use mathlib.Core.Bool.{true, false, ◌||◌}
use mathlib.Core.List.{List, [], ◌∷◌, ◌++◌, map}
use Prim.Native.Nat.{ℕ, zero, suc, ◌+◌, ◌-◌, ◌*◌, ◌≤◌, ◌<◌}
use native.Mathlib.Omega.{arith}
use lib.ListN.{get_or, replicate}
use Rattle.record.specs.Records.{reading}
use Rattle.place.specs.Places.{most_tries, fleet_tries, vacant, held_phase}
use Rattle.place.specs.Table.{turn}
use Rattle.place.specs.declared.phase.Phase.{Phase}
use Rattle.place.specs.declared.phase.Phase.TheVariants.{Connecting, Contacting, Lost, Ending}
use Rattle.place.specs.declared.place.Direction.{Direction}
use Rattle.unit.specs.States.{first, seek, places_ok, sound, cold, cold_start, some}
use Rattle.unit.specs.Steps.{closed, closing_actions, step}
use Rattle.unit.specs.Lasts.{recalled}
use Rattle.unit.specs.OnRecords.{action_room, on_record}
use Rattle.unit.specs.declared.last.Last.{Last}
use Rattle.unit.specs.declared.last.Last.TheVariants.{Unknown}
use Rattle.unit.specs.declared.state.State.{State}
use Rattle.unit.specs.Examples.{examples}
use Rattle.history.specs.Histories.{after, summed, orders, calls, losses, actions}
use Rattle.history.specs.PerEvent.{per_order, per_call, per_loss, timeouts_to_release}
use Rattle.history.specs.Histories.{silent, timeouts, holds_place, waiting_phase, waits}
use Rattle.history.specs.Reaching.{rbc5, order5, drop5, up5, lost5, timeout5, call5, retries, losses_in, ordering, calling}
use Rattle.history.specs.Sums.{started, sums_of, counts}
use Rattle.history.specs.Reaching.{repeated, reaching, one_to_nine, HeldTo}
use Rattle.history.proofs.Leads.{Leads, stays, goes_on, counted-as, again-and-again}
use Rattle.history.proofs.Sessions.{box, idle, five, started-idle, ordering-leads, calling-leads}
use Rattle.history.proofs.Sessions.{connecting-starts, contacting-starts, lost-starts, ending-starts}
use Rattle.history.proofs.Sessions.{connecting-holds, contacting-holds, lost-holds, ending-holds}

-- the last known RBC after such a history
abbrev known_after : ℕ → ℕ → Last
known_after zero zero = Unknown
known_after zero (suc b) = five
known_after (suc a) b = five

module _ (n : ℕ) (some-try : 1 ≤ n) (most : n ≤ most_tries) where
  -- sessions that begin and end with RBC 5 as the last known
  orders-lead : (a : ℕ)
      → Leads (idle n five) (repeated a (ordering n 0)) (idle n five)
      (1 * a) (0 * a) (0 * a) ((per_order n + per_loss n * 0) * a)
  orders-lead = again-and-again (idle n five) (ordering n 0) _ _ _ _ (ordering-leads n some-try most five refl 0)

  calls-lead : (b : ℕ)
      → Leads (idle n five) (repeated b (calling n 0)) (idle n five)
      (0 * b) (1 * b) (0 * b) ((per_call n + per_loss n * 0) * b)
  calls-lead = again-and-again (idle n five) (calling n 0) _ _ _ _ (calling-leads n some-try most five refl 0)

  -- no loss without a session
  reaching-leads : (a b c : ℕ)
      → (c ≡ 0) ⊎ (0 < a + b)
      → Leads (idle n Unknown) (reaching n a b c) (idle n (known_after a b)) a b c (per_order n * a + per_call n * b + per_loss n * c)
  unfolding reaching
  reaching-leads zero zero c (inl none) =
      counted-as _ _ _ _ _ _ _ 0 0 c (per_order n * 0 + per_call n * 0 + per_loss n * c) (stays (idle n Unknown))
      refl
      refl
      (omega arith)
      (rw none (omega arith))
  reaching-leads zero zero c (inr some) = absurd (omega arith)
  reaching-leads zero (suc b) c h =
      let first = calling-leads n some-try most Unknown refl c in
      counted-as _ _ _ _ _ _ _ 0 (suc b) c (per_order n * 0 + per_call n * suc b + per_loss n * c)
      (goes_on _ _ _ (calling n c) (repeated b (calling n 0)) _ _ _ _ _ _ _ _ first (calls-lead b))
      (omega arith)
      (omega arith)
      (omega arith)
      (omega arith)
  reaching-leads (suc a) b c h =
      let first = ordering-leads n some-try most Unknown refl c in
      let rest = goes_on _ _ _ (repeated a (ordering n 0)) (repeated b (calling n 0)) _ _ _ _ _ _ _ _ (orders-lead a) (calls-lead b) in
      counted-as _ _ _ _ _ _ _ (suc a) b c (per_order n * suc a + per_call n * b + per_loss n * c)
      (goes_on _ _ _ (ordering n c) (repeated a (ordering n 0) ++ repeated b (calling n 0)) _ _ _ _ _ _ _ _ first rest)
      (omega arith)
      (omega arith)
      (omega arith)
      (omega arith)

  -- "each reached, proved once over n": for every n that a cold start takes
  -- promise
  pub reached : (a b c : ℕ)
      → (c ≡ 0) ⊎ (0 < a + b)
      → sums_of n (reaching n a b c) ≡ counts a b c (per_order n * a + per_call n * b + per_loss n * c)
  unfolding sums_of
  reached a b c h =
      let leads = reaching-leads a b c h in
      let history = reaching n a b c in
      let from = started-idle n some-try most in
      λ i.
      record {
        orders = (ap (λ s. orders s history) from ∙ leads.ordered) i;
        calls = (ap (λ s. calls s history) from ∙ leads.called) i;
        losses = (ap (λ s. losses s history) from ∙ leads.lost) i;
        actions = (ap (λ s. actions s history) from ∙ leads.acted) i;
      }

-- with the three tries of document 01
-- promise
pub demand-reached : (a b c : ℕ)
    → (c ≡ 0) ⊎ (0 < a + b)
    → sums_of fleet_tries (reaching fleet_tries a b c) ≡ counts a b c (11 * a + 5 * b + 3 * c)
demand-reached = reached fleet_tries (omega arith) (omega arith)

-- the history of one order is the marked example P10
-- promise
pub p10-records : ordering fleet_tries 0 ≡ map (λ line. line.bytes) (get_or examples 9 [])
unfolding ordering losses_in examples
p10-records = refl

-- by computation: one order; one call; one call and one loss
-- promise
pub reached-one-each :
    map (sums_of fleet_tries) (ordering fleet_tries 0 ∷ calling fleet_tries 0 ∷ calling fleet_tries 1 ∷ [])
    ≡ counts 1 0 0 11 ∷ counts 0 1 0 5 ∷ counts 0 1 1 8 ∷ []
unfolding reading turn first seek places_ok sound cold cold_start closed closing_actions step on_record
    summed losses_in ordering calling sums_of some recalled
reached-one-each = refl

-- the same for every limit of tries from 1 to 9
-- promise
pub reached-to-nine :
    map (λ n. sums_of n (ordering n 0) ∷ sums_of n (calling n 0) ∷ sums_of n (calling n 1) ∷ []) one_to_nine
    ≡ map (λ n. counts 1 0 0 (per_order n) ∷ counts 0 1 0 (per_call n) ∷ counts 0 1 1 (per_call n + per_loss n) ∷ []) one_to_nine
unfolding reading turn first seek places_ok sound cold cold_start closed closing_actions step on_record
    summed losses_in ordering calling sums_of some recalled
reached-to-nine = refl

-- the timeouts of RBC 5, from any state
retries-name : (k : ℕ) (s : State)
    → (silent rbc5 s (replicate k timeout5) ≡ true) × (timeouts rbc5 (replicate k timeout5) ≡ k)
unfolding silent timeouts reading
retries-name zero s = (refl, refl)
retries-name (suc k) s =
    let rest = retries-name k (on_record s timeout5 action_room).state in
    (rest.0, omega arith)

module _ (n : ℕ) (some-try : 1 ≤ n) (most : n ≤ most_tries) where
  -- where such records lead to such a box, and its timeouts but one to another
  held_to : (records : List (List ℕ)) (last : Last) (d : Direction) (ph late : Phase)
      → after (started n) records ≡ box n last d ph
      → waiting_phase ph ≡ true
      → after (after (started n) records) (retries n) ≡ box n last d late
      → HeldTo n records ph
  unfolding some
  held_to records last d ph late starts waits-then holds =
      let name = retries-name (n - 1) (after (started n) records) in
      let many = name.1 in (
        ap (λ s. held_phase (get_or s.places 0 vacant)) starts,
        ap (λ s. waits rbc5 s.places) starts ∙ ap (λ b. b || false) waits-then,
        name.0,
        omega arith,
        ap (λ s. holds_place rbc5 s.places) holds,
      )

  -- one timeout less than those of a waiting partner's release does not release it, in none of the phases that wait
  -- promise
  pub waiting-not-sooner-each :
      HeldTo n (order5 ∷ []) (Connecting 1)
      × HeldTo n (order5 ∷ up5 ∷ []) (Contacting 1)
      × HeldTo n (call5 ∷ lost5 ∷ []) (Lost 1)
      × HeldTo n (call5 ∷ drop5 ∷ []) (Ending 1)
  waiting-not-sooner-each = (
    held_to _ _ _ _ _ (connecting-starts n some-try most) refl (connecting-holds n some-try most),
    held_to _ _ _ _ _ (contacting-starts n some-try most) refl (contacting-holds n some-try most),
    held_to _ _ _ _ _ (lost-starts n some-try most) refl (lost-holds n some-try most),
    held_to _ _ _ _ _ (ending-starts n some-try most) refl (ending-holds n some-try most),
  )

-- promise
pub waiting-not-sooner : (n : ℕ)
    → 1 ≤ n
    → n ≤ most_tries
    → (waits rbc5 (after (started n) (order5 ∷ [])).places ≡ true)
    × (silent rbc5 (after (started n) (order5 ∷ [])) (retries n) ≡ true)
    × (timeouts rbc5 (retries n) + 1 ≡ timeouts_to_release n)
    × (holds_place rbc5 (after (after (started n) (order5 ∷ [])) (retries n)).places ≡ true)
waiting-not-sooner n some-try most =
    let held = (waiting-not-sooner-each n some-try most).0 in
    (held.1, held.2, held.3, held.4)
