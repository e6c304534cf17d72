-- Who waits when the core's step is done: those that still have their places, as they were, and the newly ordered one.
-- Defines: Moved, stayers.
-- Proves: wakes-is, just-connecting, joins-lowest, each-fresh, waiting-effect, still-same, joins-fresh, line-each, line-fresh, line-apart.
use mathlib.Core.Path.{◌≡◌, refl, sym, ap, subst, ◌∙◌}
use mathlib.Core.Bool.{Bool, true, false, not}
use mathlib.Core.Logic.{◌⊎◌, inl, inr}
use mathlib.Core.List.{List, ◌++◌, append-nil}
use Prim.Native.Nat.{ℕ, ◌≤◌}
use native.Mathlib.Omega.{arith}
use lib.Dec.{eqb, ltb}
use lib.ListN.{length, get_or}
use borrow.Author.Tests.{eqb-true, eq-eqb, ltb-true, ltb-false}
use Rattle.wire.proofs.Tests.{and_left, and_right, and_both, true-false}
use Rattle.record.specs.Partners.{same_partner}
use Rattle.record.specs.declared.partner.Partner.{Partner}
use Rattle.record.specs.declared.event.PartnerEvent.TheVariants.{Drop, Up, Loss, Timeout, Version, Ended}
use Rattle.record.proofs.Partners.{same-eq, same_refl}
use Rattle.place.specs.Places.{vacant, seat, is_free, holds}
use Rattle.place.specs.declared.phase.Phase.{Phase}
use Rattle.place.specs.declared.phase.Phase.TheVariants.{Connecting, Contacting, Open, Lost, Ending}
use Rattle.place.specs.declared.place.Direction.{Direction}
use Rattle.place.specs.declared.place.Place.{Place}
use Rattle.unit.specs.Concerns.{stirring, stirs, is_connecting}
use Rattle.unit.specs.Kept.{here}
use Rattle.wire.specs.Sums.{sum}
use Rattle.unit.specs.Standings.{Concern, nobody, order_to, call_of, naming}
use Rattle.unit.specs.States.{place_count, first}
use Rattle.unit.proofs.Effects.{Effect, stays, leaves, moves, Newcomer, Places, turning-each}
use Rattle.unit.proofs.Searches.{first_passes, first-lowest, seek-lowest}
use Rattle.unit.proofs.Few.{busy}
use Rattle.shunter.specs.Queues.{among, every, distinct, place_at, outgoing, first_tried, just_ordered}
use Rattle.shunter.specs.Shunting.{wakes, kept, waits_for, newcomers, line_up}
use Rattle.shunter.proofs.TwoTests.{fails-then, or-either, or-first, or-none}
use Rattle.shunter.proofs.InRow.{among-append, among-kept, among-every, every-each, distinct-kept, distinct_append}
use Rattle.shunter.proofs.Modems.{just-held}
use Rattle.shunter.proofs.Ready.{some-waits}

-- what wakes a partner that waits is what the core's laws say that it stirs
pub wakes-is : (mine : Partner → Bool) (c : Concern) → wakes mine c ≡ stirs mine c
wakes-is mine nobody = refl
wakes-is mine (order_to p) = refl
wakes-is mine (call_of p) = refl
wakes-is mine (naming p Drop) = refl
wakes-is mine (naming p Up) = refl
wakes-is mine (naming p Loss) = refl
wakes-is mine (naming p Timeout) = refl
wakes-is mine (naming p (Version v)) = refl
wakes-is mine (naming p Ended) = refl

-- an event that stirs some of these partners stirs some of more
stirs-more : (mine more : Partner → Bool) (c : Concern)
    → ((q : Partner) → mine q ≡ true → more q ≡ true)
    → stirs mine c ≡ true
    → stirs more c ≡ true
stirs-more mine more nobody all h = h
stirs-more mine more (order_to p) all h = h
stirs-more mine more (call_of p) all h = h
stirs-more mine more (naming p e) all h =
    and_both (more p) (stirring e) (all p (and_left (mine p) (stirring e) h)) (and_right (mine p) (stirring e) h)

-- a place as its order left it is Connecting
pub just-connecting : (d : Direction) (ph : Phase) (p : Partner) → just_ordered (seat d ph p) ≡ true → is_connecting ph ≡ true
just-connecting d ph p h = by ph (and_right (outgoing d) (first_tried ph) h)
  where
    by : (ph : Phase) → first_tried ph ≡ true → is_connecting ph ≡ true
    by (Connecting t) h = refl
    by (Contacting t) h = h
    by Open h = h
    by (Lost t) h = h
    by (Ending t) h = h

-- a place that holds nobody is not free and held at once
free-held : (place : Place) → is_free place ≡ true → busy place ≡ true → ⊥
free-held place free own = true-false (busy place) own (ap not free)

-- the place that is newly taken is the lowest free one
pub joins-lowest : (c : Concern) (p : Partner) (x : Place) (before after : List Place)
    → (changed : Newcomer c p x before after)
    → first is_free before ≡ changed.at
joins-lowest c p x before after changed =
    by (ltb (first is_free before) changed.at) (ltb changed.at (first is_free before)) refl refl
  where
    by : (a b : Bool)
        → ltb (first is_free before) changed.at ≡ a
        → ltb changed.at (first is_free before) ≡ b
        → first is_free before ≡ changed.at
    by true b less more =
        let low = ltb-true (first is_free before) changed.at less in
        let bound = changed.below in
        true-false (is_free (get_or before (first is_free before) vacant)) (first_passes is_free before (omega arith))
        (seek-lowest p before changed.at (first is_free before) changed.found low)
    by false true less more =
        true-false (is_free (get_or before changed.at vacant)) changed.free
        (first-lowest is_free before changed.at (ltb-true changed.at (first is_free before) more))
    by false false less more =
        let up = ltb-false (first is_free before) changed.at less in
        let down = ltb-false changed.at (first is_free before) more in
        omega arith

-- an accepted step of the core, as far as the queue sees it: what it does to the places, and that it stirs none of those that wait
pub record Moved (c : Concern) (before after : List Place) (is : List ℕ) : Type 0 where
  pub changed : Places c before after
  pub four : length before ≡ place_count
  pub still-four : length after ≡ place_count
  pub one : (p : Partner) → sum (here (holds p)) before ≤ 1
  pub fresh : every (λ i. just_ordered (place_at before i)) is ≡ true
  pub apart : distinct is ≡ true
  pub calm : stirs (waits_for before is) c ≡ false

module _ (c : Concern) (before after : List Place) (is : List ℕ) (step : Moved c before after is) where
  -- each that waits is as its order left it
  pub each-fresh : (i : ℕ) → among i is ≡ true → just_ordered (place_at before i) ≡ true
  each-fresh i waits = among-every (λ j. just_ordered (place_at before j)) i is step.fresh waits

  -- an effect on a place that waits leaves it as it was, or vacant
  one-effect : (i : ℕ)
      → among i is ≡ true
      → Effect c (place_at before i) (place_at after i)
      → (place_at after i ≡ place_at before i) ⊎ (place_at after i ≡ vacant)
  one-effect i one (stays same) = inl same
  one-effect i one (leaves free) = inr free
  one-effect i one (moves d ph next p was now connecting) =
      let own : just_ordered (seat d ph p) ≡ true = sym (ap just_ordered was) ∙ each-fresh i one in
      let stirred = connecting (just-connecting d ph p own) in
      let waits = some-waits before p i is one (ap (holds p) was ∙ same_refl p) in
      true-false (stirs (waits_for before is) c)
      (stirs-more (same_partner p) (waits_for before is) c
      (λ q same. subst (λ r. waits_for before is r ≡ true) (same-eq p q same) waits)
      stirred)
      step.calm

  -- the effect on any place that was held
  old-effect : (i : ℕ) → busy (place_at before i) ≡ true → Effect c (place_at before i) (place_at after i)
  old-effect i own = by c step.changed
    where
      by : (c : Concern) → Places c before after → Effect c (place_at before i) (place_at after i)
      by nobody changed = changed i
      by (order_to p) changed =
          changed.others i (λ same. free-held (place_at before i) (ap (λ j. is_free (place_at before j)) same ∙ changed.free) own)
      by (call_of p) changed =
          changed.others i (λ same. free-held (place_at before i) (ap (λ j. is_free (place_at before j)) same ∙ changed.free) own)
      by (naming p e) changed = turning-each changed i

  -- a place that waits stays as it was, or is left vacant
  pub waiting-effect : (i : ℕ) → among i is ≡ true → (place_at after i ≡ place_at before i) ⊎ (place_at after i ≡ vacant)
  waiting-effect i one = one-effect i one (old-effect i (just-held (place_at before i) (each-fresh i one)))

  -- where it is still held it is as it was
  pub still-same : (i : ℕ) → among i is ≡ true → busy (place_at after i) ≡ true → place_at after i ≡ place_at before i
  still-same i one own = by (waiting-effect i one)
    where
      by : (place_at after i ≡ place_at before i) ⊎ (place_at after i ≡ vacant) → place_at after i ≡ place_at before i
      by (inl same) = same
      by (inr free) = absurd (free-held (place_at after i) (ap is_free free) own)

  -- those that still have their places
  abbrev pub stayers : List ℕ
  stayers = kept (λ i. not (is_free (place_at after i))) is

  stayers-fresh : (i : ℕ) → among i stayers ≡ true → just_ordered (place_at after i) ≡ true
  stayers-fresh i one =
      let both = among-kept (λ i. not (is_free (place_at after i))) i is one in
      ap just_ordered (still-same i both.0 both.1) ∙ each-fresh i both.0

  stayers-apart : distinct stayers ≡ true
  stayers-apart = distinct-kept (λ i. not (is_free (place_at after i))) is step.apart

  -- who joins is as its order left it, and had no place before
  pub joins-fresh : (i : ℕ)
      → among i (newcomers before c) ≡ true
      → (just_ordered (place_at after i) ≡ true) × (is_free (place_at before i) ≡ true)
  unfolding among
  joins-fresh i one = by c step.changed one
    where
      by : (c : Concern)
          → Places c before after
          → among i (newcomers before c) ≡ true
          → (just_ordered (place_at after i) ≡ true) × (is_free (place_at before i) ≡ true)
      by nobody changed one = true-false false one refl
      by (order_to p) changed one =
          let lowest = joins-lowest (order_to p) p _ before after changed in
          let same : i ≡ changed.at =
          eqb-true i (first is_free before) (sym (or-none (eqb i (first is_free before))) ∙ one) ∙ lowest in (
            ap (λ j. just_ordered (place_at after j)) same ∙ ap just_ordered changed.seated,
            ap (λ j. is_free (place_at before j)) same ∙ changed.free,
          )
      by (call_of p) changed one = true-false false one refl
      by (naming p e) changed one = true-false false one refl

  -- the line
  abbrev line : List ℕ
  line = line_up before is c after

  -- each in it is as its order left it
  pub line-each : (i : ℕ) → among i line ≡ true → just_ordered (place_at after i) ≡ true
  unfolding line_up
  line-each i one =
      either (or-either (among i stayers) (among i (newcomers before c)) (sym (among-append i stayers (newcomers before c)) ∙ one))
    where
      either : (among i stayers ≡ true) ⊎ (among i (newcomers before c) ≡ true) → just_ordered (place_at after i) ≡ true
      either (inl old) = stayers-fresh i old
      either (inr new) = (joins-fresh i new).0

  -- so are all
  pub line-fresh : every (λ i. just_ordered (place_at after i)) line ≡ true
  line-fresh = every-each (λ i. just_ordered (place_at after i)) line line-each

  -- and stands in it once
  pub line-apart : distinct line ≡ true
  unfolding line_up among
  line-apart = by c joins-fresh
    where
      by : (c : Concern)
          → ((i : ℕ) → among i (newcomers before c) ≡ true
          → (just_ordered (place_at after i) ≡ true) × (is_free (place_at before i) ≡ true))
          → distinct (stayers ++ newcomers before c) ≡ true
      by nobody new = rw (append-nil stayers) stayers-apart
      by (order_to p) new = distinct_append stayers (first is_free before) stayers-apart missing
        where
          missing : among (first is_free before) stayers ≡ false
          missing =
              let i = first is_free before in
              fails-then (among i stayers)
              (λ one.
              let waits = (among-kept (λ i. not (is_free (place_at after i))) i is one).0 in
              absurd (
              free-held (place_at before i) (new i (or-first (eqb i i) false (eq-eqb i i refl))).1
              (just-held (place_at before i) (each-fresh i waits))
              ))
      by (call_of p) new = rw (append-nil stayers) stayers-apart
      by (naming p e) new = rw (append-nil stayers) stayers-apart
