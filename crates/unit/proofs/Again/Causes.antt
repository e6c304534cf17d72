-- Cross-checks only: rules told a second time.
-- "Its cause must be in force": when each cause is, and which mark an accepted order clears.
-- Proves: in_force-start, in_force-trackside, in_force-mode, in_force-manual, in_force-hole, start-marks, trackside-marks, mode-marks,
-- manual-marks, hole-marks.
use mathlib.Core.Path.{◌≡◌, refl, sym, ap}
use mathlib.Core.Logic.{◌↔◌, ◌⊎◌, inl, inr, ⊎_elim}
use mathlib.Core.Bool.{Bool, true, false, ◌||◌, not, true≢false}
use native.Mathlib.Omega.{arith}
use lib.Dec.{eqb}
use borrow.Author.Tests.{eqb-true, eqb-false, eq-eqb, ne_eqb}
use Rattle.wire.specs.Refusals.{accepted}
use Rattle.wire.proofs.Tests.{and_left, and_right, and_both}
use Rattle.record.specs.declared.partner.Partner.{Partner}
use Rattle.record.specs.declared.event.Cause.{Cause}
use Rattle.record.specs.declared.event.Cause.TheVariants.{StartOfMission, Trackside, ModeChange, ManualLevel, HoleEnd}
use Rattle.record.specs.declared.event.Event.TheVariants.{Order}
use Rattle.unit.specs.Lasts.{meant}
use Rattle.unit.specs.States.{seek}
use Rattle.unit.specs.Steps.{Outcome, radio_level, in_force, spend, ordered_at, step}
use Rattle.unit.specs.Searching.{admitted}
use Rattle.unit.specs.declared.state.Train.{Train}
use Rattle.unit.specs.declared.state.Marks.{Marks}
use Rattle.unit.specs.declared.state.State.{State}
use Rattle.unit.specs.declared.search.Found.{Found}
use Rattle.unit.specs.declared.search.Found.TheVariants.{At, Vacant, Full}
use Rattle.unit.proofs.ByFound.{order-by}

by-not : (b : Bool) → not b ≡ true → b ≡ false
by-not true h = absurd (true≢false (sym h))
by-not false h = refl

-- "level 2 or 3"
radio-means : (t : Train) → (radio_level t ≡ true) ↔ ((t.level ≡ 2) ⊎ (t.level ≡ 3))
radio-means t = (
  there (eqb t.level 2) (eqb t.level 3) refl refl,
  ⊎_elim
      (λ two. ap (λ b. b || eqb t.level 3) (eq-eqb t.level 2 two))
      (λ three. back (eqb t.level 2) (eq-eqb t.level 3 three)),
)
  where
    there : (a b : Bool)
        → eqb t.level 2 ≡ a
        → eqb t.level 3 ≡ b
        → (a || b) ≡ true
        → (t.level ≡ 2) ⊎ (t.level ≡ 3)
    there true b two three h = inl (eqb-true t.level 2 two)
    there false true two three h = inr (eqb-true t.level 3 three)
    there false false two three h = absurd (true≢false (sym h))

    back : (a : Bool) → eqb t.level 3 ≡ true → (a || eqb t.level 3) ≡ true
    back true three = refl
    back false three = three

module _ (t : Train) (m : Marks) where
  -- "0 start of mission (mission 1, level 2 or 3)"
  -- promise
  pub in_force-start : (in_force StartOfMission t m ≡ true) ↔ ((t.mission ≡ 1) × ((t.level ≡ 2) ⊎ (t.level ≡ 3)))
  in_force-start = (
    (λ h. (eqb-true t.mission 1 (and_left _ _ h), (radio-means t).0 (and_right (eqb t.mission 1) _ h))),
    (λ h. and_both _ _ (eq-eqb t.mission 1 h.0) ((radio-means t).1 h.1)),
  )

  -- "1 trackside (always)"
  -- promise
  pub in_force-trackside : in_force Trackside t m ≡ true
  in_force-trackside = refl

  -- "2 mode change (mission not 0, level 2 or 3, mark set)"
  -- promise
  pub in_force-mode : (in_force ModeChange t m ≡ true)
      ↔ ((t.mission ≡ 0 → ⊥) × ((t.level ≡ 2) ⊎ (t.level ≡ 3)) × (m.mode ≡ true))
  in_force-mode = (
    (λ h.
        let rest = and_right (not (eqb t.mission 0)) _ h in
        let running = eqb-false t.mission 0 (by-not (eqb t.mission 0) (and_left _ _ h)) in
        (running, (radio-means t).0 (and_left _ _ rest), and_right (radio_level t) _ rest)),
    (λ h.
        and_both _ _ (ap not (ne_eqb t.mission 0 h.0)) (and_both _ _ ((radio-means t).1 h.1) h.2)),
  )

  -- "3 manual level (level 2 or 3, mark set)"
  -- promise
  pub in_force-manual : (in_force ManualLevel t m ≡ true) ↔ (((t.level ≡ 2) ⊎ (t.level ≡ 3)) × (m.manual ≡ true))
  in_force-manual = (
    (λ h. ((radio-means t).0 (and_left _ _ h), and_right (radio_level t) _ h)),
    (λ h. and_both _ _ ((radio-means t).1 h.0) h.1),
  )

  -- "4 hole end (mark set)"
  -- promise
  pub in_force-hole : (in_force HoleEnd t m ≡ true) ↔ (m.end ≡ true)
  in_force-hole = ((λ h. h), (λ h. h))

-- "Acceptance clears the mark used by causes 2, 3, 4, and no other"
module _ (s : State) (p : Partner) (accepting : Bool) where
  -- what the marks are after an order that is accepted
  abbrev Spent : Cause → Outcome → Type 0
  Spent cause o = o.code ≡ accepted → o.state.marks ≡ spend cause s.marks

  admitted-marks : (q : Partner) (cause : Cause) (found : Found) → Spent cause (admitted s (ordered_at s q accepting cause) found)
  admitted-marks q cause (At i ph) h = absurd (omega arith)
  admitted-marks q cause (Vacant i) h = refl
  admitted-marks q cause Full h = absurd (omega arith)

  marks-spent : (cause : Cause) → Spent cause (step s (Order p accepting cause))
  marks-spent cause =
      let q = meant s.last p in
      order-by s p accepting cause (Spent cause)
      (λ in-force known. admitted-marks q cause (seek q s.places))
      (λ h. absurd (omega arith))
      (λ h. absurd (omega arith))

  -- promise
  pub start-marks : (step s (Order p accepting StartOfMission)).code ≡ accepted
      → (step s (Order p accepting StartOfMission)).state.marks ≡ s.marks
  start-marks = marks-spent StartOfMission

  -- promise
  pub trackside-marks : (step s (Order p accepting Trackside)).code ≡ accepted
      → (step s (Order p accepting Trackside)).state.marks ≡ s.marks
  trackside-marks = marks-spent Trackside

  -- promise
  pub mode-marks : (step s (Order p accepting ModeChange)).code ≡ accepted
      → (step s (Order p accepting ModeChange)).state.marks
      ≡ record { inside = s.marks.inside; mode = false; manual = s.marks.manual; end = s.marks.end }
  mode-marks = marks-spent ModeChange

  -- promise
  pub manual-marks : (step s (Order p accepting ManualLevel)).code ≡ accepted
      → (step s (Order p accepting ManualLevel)).state.marks
      ≡ record { inside = s.marks.inside; mode = s.marks.mode; manual = false; end = s.marks.end }
  manual-marks = marks-spent ManualLevel

  -- promise
  pub hole-marks : (step s (Order p accepting HoleEnd)).code ≡ accepted
      → (step s (Order p accepting HoleEnd)).state.marks
      ≡ record { inside = s.marks.inside; mode = s.marks.mode; manual = s.marks.manual; end = false }
  hole-marks = marks-spent HoleEnd
