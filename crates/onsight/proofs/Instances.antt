-- The promises that ask something of a history or an event, each at histories that meet it.
-- Proves: late-brakes-shown, expired-codes-shown, expired-stays-shown, expired-brakes-shown, acknowledged-codes-shown,
-- acknowledged-done-shown, acknowledged-released-shown, expired-never-late-shown, expired-only-acknowledgement-shown,
-- done-in-force-shown, brake-in-force-shown, in-force-stays-shown, done-codes-shown, done-stays-shown, profile-idle-shown,
-- start-in-force-shown, step-stays-shown, profile-taken-shown, expired-plainly-shown, in-force-exactly-shown, done-exactly-shown,
-- brake-exactly-shown.
use mathlib.Core.Path.{◌≡◌, refl, ap}
use mathlib.Core.Logic.{◌≢◌, inl, inr}
use mathlib.Core.Bool.{true, false, false≢true}
use mathlib.Core.List.{[], ◌∷◌, ◌++◌}
use native.Mathlib.Omega.{arith}
use lib.ListN.{replicate}
use Rattle.onsight.specs.Numbers.{event_number}
use Rattle.onsight.specs.Procedures.{fresh, step, os_in_force, service_brake}
use Rattle.onsight.specs.Histories.{after}
use Rattle.onsight.specs.HistoryWords.{Met, met, codes, accepted_in, accepted_of, any_is, every, is_idle, is_profile, brings_os}
use Rattle.onsight.specs.Instances.{late_at_once, late_by_asked, silence}
use Rattle.onsight.specs.declared.event.Area.{Area}
use Rattle.onsight.specs.declared.event.Area.TheVariants.{Ahead, Entered}
use Rattle.onsight.specs.declared.event.Mode.{Mode}
use Rattle.onsight.specs.declared.event.Mode.TheVariants.{OS, SB, PT, Another}
use Rattle.onsight.specs.declared.event.Event.TheVariants.{Profile, Window, Start, Acknowledgement, Expiry}
use Rattle.onsight.specs.declared.procedure.State.TheVariants.{Idle, Waiting, Asked, Late, Braking, Done}
use Rattle.onsight.proofs.Again.Tests.{is_profile-means}
use Rattle.onsight.proofs.Again.Meanings.{unacknowledged-means}
use Rattle.onsight.proofs.AfterExpiry.{late-brakes, expired-codes, expired-stays, expired-brakes}
use Rattle.onsight.proofs.AfterExpiry.{acknowledged-codes, acknowledged-done, acknowledged-released}
use Rattle.onsight.proofs.AfterExpiry.{expired-never-late, expired-only-acknowledgement}
use Rattle.onsight.proofs.ByEvent.{profile-idle, start-in-force}
use Rattle.onsight.proofs.InForce.{done-in-force, brake-in-force, in-force-stays, done-codes, done-stays}
use Rattle.onsight.proofs.Plainly.{profile-taken, brake-exactly, in-force-exactly, done-exactly, expired-plainly}
use Rattle.onsight.proofs.Refusals.{step_stays}

-- both histories come to Late
-- instance
pub late-brakes-shown :
    (step (after fresh late_at_once) Expiry ≡ record { code = 0; state = Braking })
    × (service_brake (after fresh (late_at_once ++ (Expiry ∷ []))) ≡ true)
    × (step (after fresh late_by_asked) Expiry ≡ record { code = 0; state = Braking })
    × (service_brake (after fresh (late_by_asked ++ (Expiry ∷ []))) ≡ true)
unfolding after
late-brakes-shown = (
  (late-brakes late_at_once refl).0,
  (late-brakes late_at_once refl).1,
  (late-brakes late_by_asked refl).0,
  (late-brakes late_by_asked refl).1,
)

-- and nothing of the silence is taken
-- instance
pub expired-codes-shown :
    (codes fresh (late_at_once ++ (Expiry ∷ silence))
    ≡ (0 ∷ 0 ∷ replicate 15 14))
    × (codes fresh (late_by_asked ++ (Expiry ∷ silence))
    ≡ (14 ∷ 14 ∷ 0 ∷ 14 ∷ 14 ∷ 0 ∷ 14 ∷ 14 ∷ 0 ∷ 14 ∷ 0 ∷ replicate 15 14))
unfolding after met every
expired-codes-shown = (
  expired-codes late_at_once refl silence refl,
  expired-codes late_by_asked refl silence refl,
)

-- the state stays Braking
-- instance
pub expired-stays-shown :
    (after fresh (late_at_once ++ (Expiry ∷ silence)) ≡ Braking)
    × (after fresh (late_by_asked ++ (Expiry ∷ silence)) ≡ Braking)
unfolding after every
expired-stays-shown = (
  expired-stays late_at_once refl silence refl,
  expired-stays late_by_asked refl silence refl,
)

-- the brake stays on
-- instance
pub expired-brakes-shown :
    (service_brake (after fresh (late_at_once ++ (Expiry ∷ silence))) ≡ true)
    × (service_brake (after fresh (late_by_asked ++ (Expiry ∷ silence))) ≡ true)
unfolding after every
expired-brakes-shown = (
  expired-brakes late_at_once refl silence refl,
  expired-brakes late_by_asked refl silence refl,
)

-- then the acknowledgement is taken
-- instance
pub acknowledged-codes-shown :
    (codes fresh (late_at_once ++ (Expiry ∷ (silence ++ (Acknowledgement ∷ []))))
    ≡ (0 ∷ 0 ∷ (replicate 15 14 ++ (0 ∷ []))))
    × (codes fresh (late_by_asked ++ (Expiry ∷ (silence ++ (Acknowledgement ∷ []))))
    ≡ (14 ∷ 14 ∷ 0 ∷ 14 ∷ 14 ∷ 0 ∷ 14 ∷ 14 ∷ 0 ∷ 14 ∷ 0 ∷ (replicate 15 14 ++ (0 ∷ []))))
unfolding after met every
acknowledged-codes-shown = (
  acknowledged-codes late_at_once refl silence refl,
  acknowledged-codes late_by_asked refl silence refl,
)

-- it gives Done
-- instance
pub acknowledged-done-shown :
    (after fresh (late_at_once ++ (Expiry ∷ (silence ++ (Acknowledgement ∷ [])))) ≡ Done)
    × (after fresh (late_by_asked ++ (Expiry ∷ (silence ++ (Acknowledgement ∷ [])))) ≡ Done)
unfolding after every
acknowledged-done-shown = (
  acknowledged-done late_at_once refl silence refl,
  acknowledged-done late_by_asked refl silence refl,
)

-- and the brake off
-- instance
pub acknowledged-released-shown :
    (service_brake (after fresh (late_at_once ++ (Expiry ∷ (silence ++ (Acknowledgement ∷ []))))) ≡ false)
    × (service_brake (after fresh (late_by_asked ++ (Expiry ∷ (silence ++ (Acknowledgement ∷ []))))) ≡ false)
unfolding after every
acknowledged-released-shown = (
  acknowledged-released late_at_once refl silence refl,
  acknowledged-released late_by_asked refl silence refl,
)

-- no later state is Late, an acknowledgement or none
-- instance
pub expired-never-late-shown :
    (after fresh (late_at_once ++ (Expiry ∷ silence)) ≢ Late)
    × (after fresh (late_by_asked ++ (Expiry ∷ (silence ++ (Acknowledgement ∷ silence)))) ≢ Late)
unfolding after
expired-never-late-shown = (
  expired-never-late late_at_once refl silence,
  expired-never-late late_by_asked refl (silence ++ (Acknowledgement ∷ silence)),
)

-- an acknowledgement is taken there, and no other event
-- instance
pub expired-only-acknowledgement-shown :
    ((step (after fresh (late_by_asked ++ (Expiry ∷ silence))) Acknowledgement).code ≡ 0)
    × ((step (after fresh (late_by_asked ++ (Expiry ∷ silence))) (Profile Ahead Another)).code ≢ 0)
    × ((step (after fresh (late_by_asked ++ (Expiry ∷ silence))) (Profile Entered OS)).code ≢ 0)
    × ((step (after fresh (late_by_asked ++ (Expiry ∷ silence))) Window).code ≢ 0)
    × ((step (after fresh (late_by_asked ++ (Expiry ∷ silence))) Start).code ≢ 0)
    × ((step (after fresh (late_by_asked ++ (Expiry ∷ silence))) Expiry).code ≢ 0)
unfolding after
expired-only-acknowledgement-shown = (
  refl,
  (λ h. let z = ap event_number (expired-only-acknowledgement late_by_asked refl silence (Profile Ahead Another) h) in omega arith),
  (λ h. let z = ap event_number (expired-only-acknowledgement late_by_asked refl silence (Profile Entered OS) h) in omega arith),
  (λ h. let z = ap event_number (expired-only-acknowledgement late_by_asked refl silence Window h) in omega arith),
  (λ h. let z = ap event_number (expired-only-acknowledgement late_by_asked refl silence Start h) in omega arith),
  (λ h. let z = ap event_number (expired-only-acknowledgement late_by_asked refl silence Expiry h) in omega arith),
)

-- Done at once, and Done after an expiry and an acknowledgement
-- instance
pub done-in-force-shown :
    (os_in_force (after fresh (Profile Entered OS ∷ [])) ≡ true)
    × (any_is brings_os false (accepted_in fresh (Profile Entered OS ∷ [])) ≡ true)
    × (os_in_force (after fresh (late_by_asked ++ (Expiry ∷ (silence ++ (Acknowledgement ∷ silence))))) ≡ true)
    × (any_is brings_os false (accepted_in fresh (late_by_asked ++ (Expiry ∷ (silence ++ (Acknowledgement ∷ silence))))) ≡ true)
unfolding after met
done-in-force-shown = (
  (done-in-force (Profile Entered OS ∷ []) refl).0,
  (done-in-force (Profile Entered OS ∷ []) refl).1,
  (done-in-force (late_by_asked ++ (Expiry ∷ (silence ++ (Acknowledgement ∷ silence)))) refl).0,
  (done-in-force (late_by_asked ++ (Expiry ∷ (silence ++ (Acknowledgement ∷ silence)))) refl).1,
)

-- the brake on after an expiry
-- instance
pub brake-in-force-shown :
    (os_in_force (after fresh (late_by_asked ++ (Expiry ∷ silence))) ≡ true)
    × (any_is brings_os false (accepted_in fresh (late_by_asked ++ (Expiry ∷ silence))) ≡ true)
unfolding after met
brake-in-force-shown = (
  (brake-in-force (late_by_asked ++ (Expiry ∷ silence)) refl).0,
  (brake-in-force (late_by_asked ++ (Expiry ∷ silence)) refl).1,
)

-- Late, then silence; Late, then everything
-- instance
pub in-force-stays-shown :
    (os_in_force (after fresh (late_at_once ++ silence)) ≡ true)
    × (os_in_force (after fresh (late_by_asked ++ (silence ++ (Acknowledgement ∷ silence)))) ≡ true)
unfolding after
in-force-stays-shown = (
  in-force-stays late_at_once silence refl,
  in-force-stays late_by_asked (silence ++ (Acknowledgement ∷ silence)) refl,
)

-- Done by way of Waiting and Asked, and then nothing is taken
-- instance
pub done-codes-shown :
    codes fresh ((Profile Ahead SB ∷ Window ∷ Acknowledgement ∷ []) ++ (silence ++ (Acknowledgement ∷ silence)))
    ≡ (0 ∷ 0 ∷ 0 ∷ replicate 31 14)
unfolding after met
done-codes-shown = done-codes (Profile Ahead SB ∷ Window ∷ Acknowledgement ∷ []) (silence ++ (Acknowledgement ∷ silence)) refl

-- and the state stays Done
-- instance
pub done-stays-shown :
    after fresh ((Profile Ahead SB ∷ Window ∷ Acknowledgement ∷ []) ++ (silence ++ (Acknowledgement ∷ silence))) ≡ Done
unfolding after
done-stays-shown = done-stays (Profile Ahead SB ∷ Window ∷ Acknowledgement ∷ []) (silence ++ (Acknowledgement ∷ silence)) refl

-- a profile taken in Idle, an acknowledgement taken in Asked; and the window, in Idle, not
-- instance
pub profile-idle-shown :
    (is_profile (Profile Entered SB) ≡ is_idle Idle)
    × (is_profile Acknowledgement ≡ is_idle Asked)
    × ((step Idle Window).code ≢ 0)
profile-idle-shown = (
  profile-idle Idle (Profile Entered SB) refl,
  profile-idle Asked Acknowledgement refl,
  (λ h. false≢true (profile-idle Idle Window h)),
)

-- the start in each state but Idle
-- instance
pub start-in-force-shown :
    (os_in_force (step Waiting Start).state ≡ true)
    × (os_in_force (step Asked Start).state ≡ true)
    × (os_in_force (step Late Start).state ≡ true)
    × (os_in_force (step Braking Start).state ≡ true)
    × (os_in_force (step Done Start).state ≡ true)
start-in-force-shown = (
  start-in-force Waiting refl,
  start-in-force Asked refl,
  start-in-force Late refl,
  start-in-force Braking refl,
  start-in-force Done refl,
)

-- a refusal in each state
-- instance
pub step-stays-shown :
    ((step Idle Expiry).state ≡ Idle)
    × ((step Waiting Acknowledgement).state ≡ Waiting)
    × ((step Asked Window).state ≡ Asked)
    × ((step Late Start).state ≡ Late)
    × ((step Braking Expiry).state ≡ Braking)
    × ((step Done (Profile Entered OS)).state ≡ Done)
step-stays-shown = (
  step_stays Idle Expiry refl,
  step_stays Waiting Acknowledgement refl,
  step_stays Asked Window refl,
  step_stays Late Start refl,
  step_stays Braking Expiry refl,
  step_stays Done (Profile Entered OS) refl,
)

-- a profile taken in Idle; the window taken in Waiting, and so not in Idle
-- instance
pub profile-taken-shown :
    ((area : Area) × ((mode : Mode) × (Profile Entered PT ≡ Profile area mode)))
    × (Waiting ≢ Idle)
profile-taken-shown = (
  (profile-taken Idle (Profile Entered PT) refl).1 refl,
  (λ h. false≢true ((is_profile-means Window).1 ((profile-taken Waiting Window refl).1 h))),
)

-- every event of the silence between the expiry and the acknowledgement
-- instance
pub expired-plainly-shown :
    (codes fresh (late_by_asked ++ (Expiry ∷ (silence ++ (Acknowledgement ∷ []))))
    ≡ (14 ∷ 14 ∷ 0 ∷ 14 ∷ 14 ∷ 0 ∷ 14 ∷ 14 ∷ 0 ∷ 14 ∷ 0 ∷ (replicate 15 14 ++ (0 ∷ []))))
    × (after fresh (late_by_asked ++ (Expiry ∷ silence)) ≡ Braking)
    × (after fresh (late_by_asked ++ (Expiry ∷ (silence ++ (Acknowledgement ∷ [])))) ≡ Done)
unfolding after met every
expired-plainly-shown = expired-plainly late_by_asked silence Window refl ((unacknowledged-means silence Window).0 refl)

-- the start, ninth of ten, brings OS
-- instance
pub in-force-exactly-shown :
    os_in_force (after fresh late_by_asked) ≡ true
unfolding after
in-force-exactly-shown = (in-force-exactly late_by_asked Window).1 (8, (omega arith, (refl, inr (inr (inl refl)))))

-- the area entered in OS ends the procedure, whatever follows
-- instance
pub done-exactly-shown :
    after fresh (Window ∷ Profile Entered OS ∷ silence) ≡ Done
unfolding after
done-exactly-shown = (done-exactly (Window ∷ Profile Entered OS ∷ silence) Window).1 (1, (omega arith, (refl, inl refl)))

-- the area entered in another mode, the expiry, and then silence
-- instance
pub brake-exactly-shown :
    service_brake (after fresh (late_at_once ++ (Expiry ∷ silence))) ≡ true
unfolding after met accepted_of
brake-exactly-shown =
    let first : Met = record { state = Idle; event = Profile Entered Another; answer = step Idle (Profile Entered Another) } in
    let last : Met = record { state = Late; event = Expiry; answer = step Late Expiry } in
    (brake-exactly (late_at_once ++ (Expiry ∷ silence))).1 (first ∷ [], (last, (refl, (refl, refl))))
