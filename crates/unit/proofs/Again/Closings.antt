-- What an end all leaves, and which place an order takes.
-- Proves: closed-done, end-all-closes, mission-closes, absent, order-place.
use mathlib.Core.Path.{◌≡◌, refl, sym, ap, subst, ◌∙◌}
use mathlib.Core.Bool.{Bool, true, false, ◌&&◌}
use mathlib.Core.List.{List, [], ◌∷◌}
use Prim.Native.Nat.{ℕ, zero, suc}
use native.Mathlib.Omega.{arith}
use lib.Dec.{eqb}
use lib.ListN.{get_or}
use lib.Seq.{get_or-set_other}
use borrow.Author.Tests.{eqb-true, eqb-false}
use Rattle.record.specs.Partners.{is_rbc}
use Rattle.record.specs.Records.{mission_ended}
use Rattle.record.specs.declared.partner.Partner.{Partner}
use Rattle.record.specs.declared.event.Cause.{Cause}
use Rattle.record.specs.declared.event.Event.TheVariants.{Mission, Order, EndAll}
use Rattle.wire.proofs.Tests.{cond-case}
use Rattle.place.specs.Places.{vacant, seat, is_free, holds}
use Rattle.place.specs.Table.{first_try, closing, closes, place_after, closed_by}
use Rattle.place.proofs.Holdings.{holding_closed_by}
use Rattle.place.specs.declared.phase.Phase.{Phase}
use Rattle.place.specs.declared.phase.Phase.TheVariants.{Connecting, Contacting, Open, Lost, Ending}
use Rattle.place.specs.declared.place.Direction.{Direction}
use Rattle.place.specs.declared.place.Direction.TheVariants.{Outgoing}
use Rattle.place.specs.declared.place.Holding.{Holding}
use Rattle.place.specs.declared.place.Holding.TheVariants.{Free, Held}
use Rattle.place.specs.declared.place.Place.{Place}
use Rattle.place.specs.declared.turn.Turn.TheVariants.{Stays}
use Rattle.place.specs.declared.turn.Closing.{Closing}
use Rattle.place.specs.declared.turn.Closing.TheVariants.{Every, Sessions, Nothing}
use Rattle.unit.specs.Lasts.{meant}
use Rattle.unit.specs.States.{seek}
use Rattle.unit.specs.Steps.{closed, displaced, ordered_at, step}
use Rattle.unit.specs.Searching.{admitted}
use Rattle.unit.specs.declared.state.State.{State}
use Rattle.unit.specs.declared.search.Found.{Found}
use Rattle.unit.specs.declared.search.Found.TheVariants.{At, Vacant, Full}
use Rattle.unit.specs.Kept.{here}
use Rattle.unit.specs.StepWords.{is_closed_by, WasFree}
use Rattle.wire.specs.Bytes.{as_bit}
use Rattle.wire.specs.Sums.{sum}
use Rattle.unit.proofs.Searches.{FoundOk, seek_ok}
use Rattle.unit.proofs.Facts.{closed-here}
use Rattle.unit.proofs.ByFound.{order-by}

and-false : (b : Bool) → (b && false) ≡ false
and-false true = refl
and-false false = refl

ending-not-closed : (which : Closing) (t : ℕ) (p : Partner) → closes which (Ending t) p ≡ false
ending-not-closed Every t p = refl
ending-not-closed Sessions t p = and-false (is_rbc p)
ending-not-closed Nothing t p = refl

-- what is closed is free or Ending
closed-once : (which : Closing) (d : Direction) (ph : Phase) (p : Partner)
    → is_closed_by which (place_after (seat d ph p) (closing ph)) ≡ false
closed-once which d (Connecting t) p = refl
closed-once which d (Contacting t) p = refl
closed-once which d Open p = ending-not-closed which first_try p
closed-once which d (Lost t) p = refl
closed-once which d (Ending t) p = ending-not-closed which t p

closed_by-one : (which : Closing) (k : Holding)
    → is_closed_by which (place_after (record { holding = k }) (holding_closed_by which k)) ≡ false
closed_by-one which Free = refl
closed_by-one which (Held d ph p) =
    cond-case (λ t. is_closed_by which (place_after (seat d ph p) t) ≡ false) (closes which ph p) (closing ph) Stays
    (λ is-closed. closed-once which d ph p)
    (λ not-closed. not-closed)

-- after a closing no place is left that it was for
pub closed-done : (which : Closing) (ps : List Place) → sum (here (is_closed_by which)) (closed which ps) ≡ 0
unfolding sum closed
closed-done which [] = refl
closed-done which (p ∷ ps) =
    let first : here (is_closed_by which) (place_after p (closed_by which p)) ≡ 0 = ap as_bit (closed_by-one which p.holding) in
    let rest = closed-done which ps in
    omega arith

-- "End all: closes every place .. that is not Ending"; mission "0 also ends all"
-- promise
pub end-all-closes : (s : State) → sum (here (is_closed_by Every)) (step s EndAll).state.places ≡ 0
unfolding step
end-all-closes s = closed-done Every s.places

-- promise
pub mission-closes : (s : State) → sum (here (is_closed_by Every)) (step s (Mission mission_ended)).state.places ≡ 0
unfolding step
mission-closes s = closed-done Every s.places

-- a partner without a place stands at no number
pub absent : (p : Partner) (ps : List Place) (i : ℕ) → sum (here (holds p)) ps ≡ 0 → holds p (get_or ps i vacant) ≡ true → ⊥
unfolding sum
absent p [] i none held =
    let wrong : as_bit false ≡ as_bit true = ap as_bit held in
    omega arith
absent p (q ∷ ps) zero none held =
    let one : here (holds p) q ≡ 1 = ap as_bit held in
    omega arith
absent p (q ∷ ps) (suc i) none held = absent p ps i (omega arith) held

module _ (s : State) (p : Partner) where
  ordered-place : (accepting : Bool) (cause : Cause) (found : Found)
      → FoundOk p s.places found
      → WasFree s p (admitted s (ordered_at s p accepting cause) found)
  ordered-place accepting cause (At j ph) ok h i held = absurd (omega arith)
  ordered-place accepting cause (Vacant j) ok h i held =
      let which = displaced p accepting in
      let none = closed-here which s.places p in
      let taken = seat Outgoing (Connecting first_try) p in
      cond-case {A = ℕ} (λ k. is_free (get_or s.places i vacant) ≡ true) (eqb i j) 0 0
      (λ same. subst (λ k. is_free (get_or s.places k vacant) ≡ true) (sym (eqb-true i j same)) ok.1)
      (λ other.
      absurd
      (absent p (closed which s.places) i (omega (arith, ok.2))
      (sym (ap (holds p) (get_or-set_other (closed which s.places) j i taken vacant (eqb-false i j other)))
      ∙ held)))
  ordered-place accepting cause Full ok h i held = absurd (omega arith)

-- "A place freed by this same order is not counted as free for it": of the partner that is meant
-- promise
pub order-place : (s : State) (p : Partner) (accepting : Bool) (cause : Cause)
    → WasFree s (meant s.last p) (step s (Order p accepting cause))
order-place s p accepting cause =
    let q = meant s.last p in
    order-by s p accepting cause (WasFree s q)
    (λ in-force known. ordered-place s q accepting cause (seek q s.places) (seek_ok q s.places))
    (λ accepted. absurd (omega arith))
    (λ accepted. absurd (omega arith))
