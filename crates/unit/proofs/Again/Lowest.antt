-- "Lowest first": which place an order or a call takes, and in which order the actions of closings stand.
-- Proves: order-lowest, call-lowest, order-seated, call-seated, order-actions, end-all-actions, closings-lowest, closing-sends,
-- sessions-send.
use mathlib.Core.Path.{◌≡◌, refl, sym, ap, subst, ◌∙◌}
use mathlib.Core.Bool.{Bool, true, false, cond}
use mathlib.Core.List.{List, [], ◌∷◌, ◌++◌, append_assoc}
use Prim.Native.Nat.{ℕ, ◌<◌}
use native.Mathlib.Omega.{arith}
use lib.Dec.{eqb}
use lib.ListN.{length, get_or, set}
use lib.Seq.{get_or-set_same, get_or-set_other}
use borrow.Author.Tests.{eqb-true, eqb-false}
use Rattle.wire.specs.Refusals.{accepted}
use Rattle.wire.proofs.Tests.{cond-case}
use Rattle.record.specs.Partners.{is_rbc}
use Rattle.record.specs.Records.{mission_ended}
use Rattle.record.specs.declared.partner.Partner.{Partner}
use Rattle.record.specs.declared.event.Cause.{Cause}
use Rattle.record.specs.declared.event.Event.TheVariants.{Mission, Order, EndAll, Call}
use Rattle.place.specs.Places.{vacant, seat, on_holding, is_free, holds}
use Rattle.place.specs.Table.{first_try, closing, closes, closed_by}
use Rattle.place.specs.declared.phase.Phase.{Phase}
use Rattle.place.specs.declared.phase.Phase.TheVariants.{Connecting, Contacting, Open, Lost, Ending}
use Rattle.place.specs.declared.place.Direction.{Direction}
use Rattle.place.specs.declared.place.Direction.TheVariants.{Outgoing, Incoming}
use Rattle.place.specs.declared.place.Holding.{Holding}
use Rattle.place.specs.declared.place.Holding.TheVariants.{Free, Held}
use Rattle.place.specs.declared.place.Place.{Place}
use Rattle.place.specs.declared.turn.Closing.{Closing}
use Rattle.place.specs.declared.turn.Turn.TheVariants.{Stays}
use Rattle.place.specs.declared.turn.Closing.TheVariants.{Every, Sessions, Nothing}
use Rattle.unit.specs.Lasts.{meant}
use Rattle.unit.specs.States.{seek}
use Rattle.unit.specs.Steps.{Outcome, act, actions_in, closed, closing_actions, displaced, ordered_at}
use Rattle.unit.specs.Searching.{admitted}
use Rattle.unit.specs.Steps.{called_at, step}
use Rattle.unit.specs.Kept.{here}
use Rattle.wire.specs.Sums.{sum}
use Rattle.unit.specs.declared.state.State.{State}
use Rattle.unit.specs.declared.search.Found.{Found}
use Rattle.unit.specs.declared.search.Found.TheVariants.{At, Vacant, Full}
use Rattle.unit.proofs.Searches.{FoundOk, seek_ok, found_ok, seek-lowest}
use Rattle.unit.proofs.Facts.{closed-here}
use Rattle.unit.proofs.Weights.{length-closed}
use Rattle.unit.proofs.Again.Closings.{absent}
use Rattle.unit.proofs.ByFound.{order-by, call_by}

-- a partner that has no place, set at a number, has that place and no other
only-there : (q : Partner) (ps : List Place) (k : ℕ) (x : Place)
    → sum (here (holds q)) ps ≡ 0
    → (i : ℕ)
    → holds q (get_or (set ps k x) i vacant) ≡ true
    → i ≡ k
only-there q ps k x none i held =
    cond-case {A = ℕ} (λ n. i ≡ k) (eqb i k) 0 0
    (λ same. eqb-true i k same)
    (λ other. absurd (absent q ps i none (sym (ap (holds q) (get_or-set_other ps k i x vacant (eqb-false i k other))) ∙ held)))

module _ (s : State) where
  -- every place below the one that the partner has after an accepted step was taken
  abbrev Lowest : Partner → Outcome → Type 0
  Lowest q o =
      o.code ≡ accepted
      → (i j : ℕ)
      → holds q (get_or o.state.places i vacant) ≡ true
      → j < i
      → is_free (get_or s.places j vacant) ≡ false

  order-lower : (q : Partner) (accepting : Bool) (cause : Cause) (found : Found)
      → seek q s.places ≡ found
      → Lowest q (admitted s (ordered_at s q accepting cause) found)
  order-lower q accepting cause (At k ph) e h i j held below = absurd (omega arith)
  order-lower q accepting cause (Vacant k) e h i j held below =
      let which = displaced q accepting in
      let gone = closed-here which s.places q in
      let none = (found_ok q s.places (Vacant k) e).2 in
      let at = only-there q (closed which s.places) k (seat Outgoing (Connecting first_try) q) (omega arith) i held in
      seek-lowest q s.places k j e (subst (λ n. j < n) at below)
  order-lower q accepting cause Full e h i j held below = absurd (omega arith)

  call-lower : (q : Partner) (found : Found) → seek q s.places ≡ found → Lowest q (admitted s (called_at s q) found)
  call-lower q (At k ph) e h i j held below = absurd (omega arith)
  call-lower q (Vacant k) e h i j held below =
      let none = (found_ok q s.places (Vacant k) e).2 in
      seek-lowest q s.places k j e (subst (λ n. j < n) (only-there q s.places k (seat Incoming Open q) none i held) below)
  call-lower q Full e h i j held below = absurd (omega arith)

  -- "the partner takes the lowest-numbered free place": no place below it was free
  -- promise
  pub order-lowest : (p : Partner) (accepting : Bool) (cause : Cause)
      → (step s (Order p accepting cause)).code ≡ accepted
      → (i j : ℕ)
      → holds (meant s.last p) (get_or (step s (Order p accepting cause)).state.places i vacant) ≡ true
      → j < i
      → is_free (get_or s.places j vacant) ≡ false
  order-lowest p accepting cause =
      let q = meant s.last p in
      order-by s p accepting cause (Lowest q)
      (λ in-force known. order-lower q accepting cause (seek q s.places) refl)
      (λ h. absurd (omega arith))
      (λ h. absurd (omega arith))

  -- "Message 38 takes the lowest free place"
  -- promise
  pub call-lowest : (p : Partner)
      → (step s (Call p)).code ≡ accepted
      → (i j : ℕ)
      → holds p (get_or (step s (Call p)).state.places i vacant) ≡ true
      → j < i
      → is_free (get_or s.places j vacant) ≡ false
  call-lowest p = call_by s p (Lowest p) (λ rbc. call-lower p (seek p s.places) refl) (λ h. absurd (omega arith))

  -- "as Connecting, outgoing, tries 1": what the place is that the partner has after an accepted order
  abbrev Seats : Direction → Phase → Partner → Outcome → Type 0
  Seats d ph q o =
      o.code ≡ accepted
      → (i : ℕ)
      → holds q (get_or o.state.places i vacant) ≡ true
      → get_or o.state.places i vacant ≡ seat d ph q

  seated-there : (q : Partner) (ps : List Place) (k : ℕ) (x : Place)
      → sum (here (holds q)) ps ≡ 0
      → k < length ps
      → (i : ℕ)
      → holds q (get_or (set ps k x) i vacant) ≡ true
      → get_or (set ps k x) i vacant ≡ x
  seated-there q ps k x none below i held =
      ap (λ n. get_or (set ps k x) n vacant) (only-there q ps k x none i held) ∙ get_or-set_same ps k x vacant below

  order-seats : (q : Partner) (accepting : Bool) (cause : Cause) (found : Found)
      → FoundOk q s.places found
      → Seats Outgoing (Connecting 1) q (admitted s (ordered_at s q accepting cause) found)
  order-seats q accepting cause (At k ph) ok h i held = absurd (omega arith)
  order-seats q accepting cause (Vacant k) ok h i held =
      let which = displaced q accepting in
      let gone = closed-here which s.places q in
      let none = ok.2 in
      let below = ok.0 in
      let same = length-closed which s.places in
      seated-there q (closed which s.places) k (seat Outgoing (Connecting first_try) q) (omega arith) (omega arith) i held
  order-seats q accepting cause Full ok h i held = absurd (omega arith)

  call-seats : (q : Partner) (found : Found) → FoundOk q s.places found → Seats Incoming Open q (admitted s (called_at s q) found)
  call-seats q (At k ph) ok h i held = absurd (omega arith)
  call-seats q (Vacant k) ok h i held = seated-there q s.places k (seat Incoming Open q) ok.2 ok.0 i held
  call-seats q Full ok h i held = absurd (omega arith)

  -- promise
  pub order-seated : (p : Partner) (accepting : Bool) (cause : Cause)
      → (step s (Order p accepting cause)).code ≡ accepted
      → (i : ℕ)
      → holds (meant s.last p) (get_or (step s (Order p accepting cause)).state.places i vacant) ≡ true
      → get_or (step s (Order p accepting cause)).state.places i vacant ≡ seat Outgoing (Connecting 1) (meant s.last p)
  order-seated p accepting cause =
      let q = meant s.last p in
      order-by s p accepting cause (Seats Outgoing (Connecting 1) q)
      (λ in-force known. order-seats q accepting cause (seek q s.places) (seek_ok q s.places))
      (λ h i held. absurd (omega arith))
      (λ h i held. absurd (omega arith))

  -- "Message 38 takes .. as Open, incoming, with 159"
  -- promise
  pub call-seated : (p : Partner)
      → (step s (Call p)).code ≡ accepted
      → ((step s (Call p)).actions ≡ act p 159 ∷ [])
      × ((i : ℕ)
      → holds p (get_or (step s (Call p)).state.places i vacant) ≡ true
      → get_or (step s (Call p)).state.places i vacant ≡ seat Incoming Open p)
  call-seated p h = (
    call_by s p Sends159 (λ rbc. sends (seek p s.places)) (λ h. absurd (omega arith)) h,
    call_by s p (Seats Incoming Open p) (λ rbc. call-seats p (seek p s.places) (seek_ok p s.places))
        (λ h i held. absurd (omega arith)) h,
  )
    where
      Sends159 : Outcome → Type 0
      Sends159 o = o.code ≡ accepted → o.actions ≡ act p 159 ∷ []

      sends : (found : Found) → Sends159 (admitted s (called_at s p) found)
      sends (At k ph) h = absurd (omega arith)
      sends (Vacant k) h = refl
      sends Full h = absurd (omega arith)

  -- what an order sends: the actions of its closings, "with action 21 last"
  abbrev ClosesThenRequests : Bool → Partner → Outcome → Type 0
  ClosesThenRequests accepting q o =
      o.code ≡ accepted → o.actions ≡ closing_actions (displaced q accepting) s.places ++ (act q 21 ∷ [])

  order-sends : (q : Partner) (accepting : Bool) (cause : Cause) (found : Found)
      → ClosesThenRequests accepting q (admitted s (ordered_at s q accepting cause) found)
  order-sends q accepting cause (At k ph) h = absurd (omega arith)
  order-sends q accepting cause (Vacant k) h = refl
  order-sends q accepting cause Full h = absurd (omega arith)

  -- promise
  pub order-actions : (p : Partner) (accepting : Bool) (cause : Cause)
      → (step s (Order p accepting cause)).code ≡ accepted
      → (step s (Order p accepting cause)).actions
      ≡ closing_actions (displaced (meant s.last p) accepting) s.places ++ (act (meant s.last p) 21 ∷ [])
  order-actions p accepting cause =
      let q = meant s.last p in
      order-by s p accepting cause (ClosesThenRequests accepting q)
      (λ in-force known. order-sends q accepting cause (seek q s.places))
      (λ h. absurd (omega arith))
      (λ h. absurd (omega arith))

  -- an end all, and the end of the mission, send the actions of their closings
  -- promise
  pub end-all-actions :
      ((step s EndAll).actions ≡ closing_actions Every s.places)
      × ((step s (Mission mission_ended)).actions ≡ closing_actions Every s.places)
  unfolding step
  end-all-actions = (refl, refl)

-- "lowest first": the actions of the lower places stand before those of the higher
-- promise
pub closings-lowest : (which : Closing) (lower higher : List Place)
    → closing_actions which (lower ++ higher) ≡ closing_actions which lower ++ closing_actions which higher
unfolding closing_actions
closings-lowest which [] higher = refl
closings-lowest which (place ∷ lower) higher =
    ap (◌++◌ (actions_in place.holding (closed_by which place))) (closings-lowest which lower higher)
    ∙ sym (append_assoc (actions_in place.holding (closed_by which place)) (closing_actions which lower) (closing_actions which higher))

-- what closing one place sends: 22, and 156 for an open session; a place that is Ending is not closed
-- promise
pub closing-sends : (d : Direction) (p : Partner) (t : ℕ)
    → (closing_actions Every (seat d (Connecting t) p ∷ []) ≡ act p 22 ∷ [])
    × (closing_actions Every (seat d (Contacting t) p ∷ []) ≡ act p 22 ∷ [])
    × (closing_actions Every (seat d Open p ∷ []) ≡ act p 156 ∷ [])
    × (closing_actions Every (seat d (Lost t) p ∷ []) ≡ act p 22 ∷ [])
    × (closing_actions Every (seat d (Ending t) p ∷ []) ≡ [])
    × (closing_actions Every (vacant ∷ []) ≡ [])
unfolding closing_actions
closing-sends d p t = (refl, refl, refl, refl, refl, refl)

-- and what closing a session sends, as an order does; one that it is not for sends nothing, and no more does an order that closes nobody
-- promise
pub sessions-send : (d : Direction) (p : Partner) (t : ℕ)
    → (is_rbc p ≡ true → closing_actions Sessions (seat d Open p ∷ []) ≡ act p 156 ∷ [])
    × (is_rbc p ≡ true → closing_actions Sessions (seat d (Lost t) p ∷ []) ≡ act p 22 ∷ [])
    × ((ph : Phase) → closes Sessions ph p ≡ false → closing_actions Sessions (seat d ph p ∷ []) ≡ [])
    × (closing_actions Sessions (vacant ∷ []) ≡ [])
    × ((ps : List Place) → closing_actions Nothing ps ≡ [])
unfolding closing_actions
sessions-send d p t = ((λ rbc. simp rbc), (λ rbc. simp rbc), (λ ph other. simp other), refl, none)
  where
    none : (ps : List Place) → closing_actions Nothing ps ≡ []
    none [] = refl
    none (place ∷ ps) = by place.holding (none ps)
      where
        silent : (k : Holding) → actions_in k Stays ++ closing_actions Nothing ps ≡ closing_actions Nothing ps
        silent Free = refl
        silent (Held d ph p) = refl

        by : (k : Holding)
            → closing_actions Nothing ps ≡ []
            → actions_in place.holding (on_holding Stays (λ d ph p. cond (closes Nothing ph p) (closing ph) Stays) k)
            ++ closing_actions Nothing ps
            ≡ []
        by Free rest = silent place.holding ∙ rest
        by (Held d ph p) rest = silent place.holding ∙ rest
