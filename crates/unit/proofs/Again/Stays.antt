-- Cross-checks only: rules told a second time.
-- What an event leaves as it was: level and mission, and the marks. The limits are `step-limits` (Effects), the last known RBC is
-- `step-last` (Recalled).
-- Proves: others-train, others-marks.
use mathlib.Core.Path.{◌≡◌, refl, sym, subst}
use mathlib.Core.Bool.{Bool}
use Prim.Native.Nat.{ℕ}
use lib.Dec.{eqb}
use Rattle.wire.proofs.Tests.{cond-holds}
use Rattle.record.specs.Records.{mission_ended}
use Rattle.record.specs.declared.partner.Partner.{Partner}
use Rattle.record.specs.declared.event.Cause.{Cause}
use Rattle.record.specs.declared.event.PartnerEvent.{PartnerEvent}
use Rattle.record.specs.declared.event.Event.TheVariants.{Mission, Mode, Hole, Order, EndAll, Call, Named}
use Rattle.place.specs.Table.{turn, takes}
use Rattle.unit.specs.Lasts.{meant}
use Rattle.unit.specs.States.{seek}
use Rattle.unit.specs.Steps.{Outcome, hole_taken, ordered_at, called_at, step}
use Rattle.unit.specs.Searching.{admitted, named_at}
use Rattle.unit.specs.declared.state.State.{State}
use Rattle.unit.specs.declared.search.Found.{Found}
use Rattle.unit.specs.declared.search.Found.TheVariants.{At, Vacant, Full}
use Rattle.unit.proofs.ByFound.{order-by, call_by, named-found}

module _ (s : State) where
  abbrev TrainStays : Outcome → Type 0
  TrainStays o = o.state.train ≡ s.train

  abbrev MarksStay : Outcome → Type 0
  MarksStay o = o.state.marks ≡ s.marks

  -- by what the search for the partner found
  order-train : (p : Partner) (accepting : Bool) (cause : Cause) (found : Found)
      → TrainStays (admitted s (ordered_at s p accepting cause) found)
  order-train p accepting cause (At i ph) = refl
  order-train p accepting cause (Vacant i) = refl
  order-train p accepting cause Full = refl

  call_stays : (p : Partner) (found : Found)
      → TrainStays (admitted s (called_at s p) found) × MarksStay (admitted s (called_at s p) found)
  call_stays p (At i ph) = (refl, refl)
  call_stays p (Vacant i) = (refl, refl)
  call_stays p Full = (refl, refl)

  named-train : (p : Partner) (e : PartnerEvent) (found : Found) → TrainStays (named_at s p e found)
  named-train p e (At i ph) = cond-holds TrainStays (takes (turn s.limits ph e)) _ _ refl refl
  named-train p e (Vacant i) = refl
  named-train p e Full = refl

  named-marks : (p : Partner) (e : PartnerEvent) (found : Found) → MarksStay (named_at s p e found)
  named-marks p e (At i ph) = cond-holds MarksStay (takes (turn s.limits ph e)) _ _ refl refl
  named-marks p e (Vacant i) = refl
  named-marks p e Full = refl

  -- level and mission: every event but these two leaves them
  -- promise
  pub others-train : (p : Partner) (entered accepting : Bool) (cause : Cause) (e : PartnerEvent)
      → ((step s Mode).state.train ≡ s.train)
      × ((step s (Hole entered)).state.train ≡ s.train)
      × ((step s (Order p accepting cause)).state.train ≡ s.train)
      × ((step s EndAll).state.train ≡ s.train)
      × ((step s (Call p)).state.train ≡ s.train)
      × ((step s (Named p e)).state.train ≡ s.train)
  unfolding step
  others-train p entered accepting cause e =
      let q = meant s.last p in (
        refl,
        cond-holds TrainStays (hole_taken s.marks entered) _ _ refl refl,
        order-by s p accepting cause TrainStays (λ in-force known. order-train q accepting cause (seek q s.places)) refl refl,
        refl,
        call_by s p TrainStays (λ rbc. (call_stays p (seek p s.places)).0) refl,
        subst TrainStays (sym (named-found s p e)) (named-train p e (seek p s.places)),
      )

  -- the marks: every event but a level, a mode change, a hole and an order leaves them
  -- promise
  pub others-marks : (mission : ℕ) (p : Partner) (e : PartnerEvent)
      → ((step s (Mission mission)).state.marks ≡ s.marks)
      × ((step s EndAll).state.marks ≡ s.marks)
      × ((step s (Call p)).state.marks ≡ s.marks)
      × ((step s (Named p e)).state.marks ≡ s.marks)
  unfolding step
  others-marks mission p e = (
    cond-holds MarksStay (eqb mission mission_ended) _ _ refl refl,
    refl,
    call_by s p MarksStay (λ rbc. (call_stays p (seek p s.places)).1) refl,
    subst MarksStay (sym (named-found s p e)) (named-marks p e (seek p s.places)),
  )
