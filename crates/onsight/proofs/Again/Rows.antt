-- Cross-checks only: rules told a second time.
-- The table of request Q-1 in numbers, a law for each state: what every event gives there, 0 and the next state, or 14 and the same one;
-- and what holds in each state.
-- Proves: accepted-zero, fresh-idle, idle-answers, waiting-answers, asked-answers, late-answers, braking-answers, done-answers,
-- os_in_force-states, service_brake-states.
use mathlib.Core.Path.{◌≡◌, refl, ap}
use mathlib.Core.Logic.{◌↔◌, ◌⊎◌, inl, inr, ⊎_elim}
use mathlib.Core.Bool.{true}
use Rattle.onsight.specs.Numbers.{accepted, not_taken_here}
use Rattle.onsight.specs.Procedures.{fresh, step, os_in_force, service_brake}
use Rattle.onsight.specs.declared.event.Area.TheVariants.{Ahead, Entered}
use Rattle.onsight.specs.declared.event.Mode.{Mode}
use Rattle.onsight.specs.declared.event.Mode.TheVariants.{OS, SB, PT, Another}
use Rattle.onsight.specs.declared.event.Event.TheVariants.{Profile, Window, Start, Acknowledgement, Expiry}
use Rattle.onsight.specs.declared.procedure.State.{State}
use Rattle.onsight.specs.declared.procedure.State.TheVariants.{Idle, Waiting, Asked, Late, Braking, Done}
use Rattle.onsight.proofs.Again.Each.{never, by_state}

-- an event that is taken is answered 0; "Refusals: 14, event not taken here"
-- promise
pub accepted-zero : (accepted ≡ 0) × (not_taken_here ≡ 14)
accepted-zero = (refl, refl)

-- "The next procedure starts from a fresh Idle."
-- promise
pub fresh-idle : fresh ≡ Idle
fresh-idle = refl

-- "Idle takes only this: ahead gives Waiting; entered gives Done for OS, Asked for SB or PT, Late for another."
-- promise
pub idle-answers :
    ((mode : Mode) → step Idle (Profile Ahead mode) ≡ record { code = 0; state = Waiting })
    × (step Idle (Profile Entered OS) ≡ record { code = 0; state = Done })
    × (step Idle (Profile Entered SB) ≡ record { code = 0; state = Asked })
    × (step Idle (Profile Entered PT) ≡ record { code = 0; state = Asked })
    × (step Idle (Profile Entered Another) ≡ record { code = 0; state = Late })
    × (step Idle Window ≡ record { code = 14; state = Idle })
    × (step Idle Start ≡ record { code = 14; state = Idle })
    × (step Idle Acknowledgement ≡ record { code = 14; state = Idle })
    × (step Idle Expiry ≡ record { code = 14; state = Idle })
idle-answers = ((λ mode. refl), refl, refl, refl, refl, refl, refl, refl, refl)

-- "Waiting: front and speed in the window gives Asked. Waiting and Asked: the safe front passing the start gives Late."
-- promise
pub waiting-answers :
    ((mode : Mode) → step Waiting (Profile Ahead mode) ≡ record { code = 14; state = Waiting })
    × (step Waiting (Profile Entered OS) ≡ record { code = 14; state = Waiting })
    × (step Waiting (Profile Entered SB) ≡ record { code = 14; state = Waiting })
    × (step Waiting (Profile Entered PT) ≡ record { code = 14; state = Waiting })
    × (step Waiting (Profile Entered Another) ≡ record { code = 14; state = Waiting })
    × (step Waiting Window ≡ record { code = 0; state = Asked })
    × (step Waiting Start ≡ record { code = 0; state = Late })
    × (step Waiting Acknowledgement ≡ record { code = 14; state = Waiting })
    × (step Waiting Expiry ≡ record { code = 14; state = Waiting })
waiting-answers = ((λ mode. refl), refl, refl, refl, refl, refl, refl, refl, refl)

-- "Waiting and Asked: the safe front passing the start gives Late. Asked, Late and Braking: driver acknowledgement gives Done."
-- promise
pub asked-answers :
    ((mode : Mode) → step Asked (Profile Ahead mode) ≡ record { code = 14; state = Asked })
    × (step Asked (Profile Entered OS) ≡ record { code = 14; state = Asked })
    × (step Asked (Profile Entered SB) ≡ record { code = 14; state = Asked })
    × (step Asked (Profile Entered PT) ≡ record { code = 14; state = Asked })
    × (step Asked (Profile Entered Another) ≡ record { code = 14; state = Asked })
    × (step Asked Window ≡ record { code = 14; state = Asked })
    × (step Asked Start ≡ record { code = 0; state = Late })
    × (step Asked Acknowledgement ≡ record { code = 0; state = Done })
    × (step Asked Expiry ≡ record { code = 14; state = Asked })
asked-answers = ((λ mode. refl), refl, refl, refl, refl, refl, refl, refl, refl)

-- "Asked, Late and Braking: driver acknowledgement gives Done. Late: timer expiry gives Braking."
-- promise
pub late-answers :
    ((mode : Mode) → step Late (Profile Ahead mode) ≡ record { code = 14; state = Late })
    × (step Late (Profile Entered OS) ≡ record { code = 14; state = Late })
    × (step Late (Profile Entered SB) ≡ record { code = 14; state = Late })
    × (step Late (Profile Entered PT) ≡ record { code = 14; state = Late })
    × (step Late (Profile Entered Another) ≡ record { code = 14; state = Late })
    × (step Late Window ≡ record { code = 14; state = Late })
    × (step Late Start ≡ record { code = 14; state = Late })
    × (step Late Acknowledgement ≡ record { code = 0; state = Done })
    × (step Late Expiry ≡ record { code = 0; state = Braking })
late-answers = ((λ mode. refl), refl, refl, refl, refl, refl, refl, refl, refl)

-- "Asked, Late and Braking: driver acknowledgement gives Done."
-- promise
pub braking-answers :
    ((mode : Mode) → step Braking (Profile Ahead mode) ≡ record { code = 14; state = Braking })
    × (step Braking (Profile Entered OS) ≡ record { code = 14; state = Braking })
    × (step Braking (Profile Entered SB) ≡ record { code = 14; state = Braking })
    × (step Braking (Profile Entered PT) ≡ record { code = 14; state = Braking })
    × (step Braking (Profile Entered Another) ≡ record { code = 14; state = Braking })
    × (step Braking Window ≡ record { code = 14; state = Braking })
    × (step Braking Start ≡ record { code = 14; state = Braking })
    × (step Braking Acknowledgement ≡ record { code = 0; state = Done })
    × (step Braking Expiry ≡ record { code = 14; state = Braking })
braking-answers = ((λ mode. refl), refl, refl, refl, refl, refl, refl, refl, refl)

-- no sentence names an event that Done takes
-- promise
pub done-answers :
    ((mode : Mode) → step Done (Profile Ahead mode) ≡ record { code = 14; state = Done })
    × (step Done (Profile Entered OS) ≡ record { code = 14; state = Done })
    × (step Done (Profile Entered SB) ≡ record { code = 14; state = Done })
    × (step Done (Profile Entered PT) ≡ record { code = 14; state = Done })
    × (step Done (Profile Entered Another) ≡ record { code = 14; state = Done })
    × (step Done Window ≡ record { code = 14; state = Done })
    × (step Done Start ≡ record { code = 14; state = Done })
    × (step Done Acknowledgement ≡ record { code = 14; state = Done })
    × (step Done Expiry ≡ record { code = 14; state = Done })
done-answers = ((λ mode. refl), refl, refl, refl, refl, refl, refl, refl, refl)

-- "OS is in force in Late, Braking and Done;
-- promise
pub os_in_force-states : (s : State) → (os_in_force s ≡ true) ↔ ((s ≡ Late) ⊎ ((s ≡ Braking) ⊎ (s ≡ Done)))
os_in_force-states s = (
  by_state (λ s. os_in_force s ≡ true → (s ≡ Late) ⊎ ((s ≡ Braking) ⊎ (s ≡ Done)))
      never never never (λ h. inl refl) (λ h. inr (inl refl)) (λ h. inr (inr refl)) s,
  ⊎_elim (ap os_in_force) (⊎_elim (ap os_in_force) (ap os_in_force)),
)

-- the service brake is on in Braking only."
-- promise
pub service_brake-states : (s : State) → (service_brake s ≡ true) ↔ (s ≡ Braking)
service_brake-states s = (
  by_state (λ s. service_brake s ≡ true → s ≡ Braking) never never never never (λ h. refl) never s,
  ap service_brake,
)
