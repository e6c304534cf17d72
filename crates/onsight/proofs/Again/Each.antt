-- What holds of each state holds of every one, and of each event.
-- Proves: never, by_state, by-event.
use mathlib.Core.Path.{◌≡◌}
use mathlib.Core.Bool.{true, false, false≢true}
use Rattle.onsight.specs.declared.event.Area.TheVariants.{Ahead, Entered}
use Rattle.onsight.specs.declared.event.Mode.{Mode}
use Rattle.onsight.specs.declared.event.Mode.TheVariants.{OS, SB, PT, Another}
use Rattle.onsight.specs.declared.event.Event.{Event}
use Rattle.onsight.specs.declared.event.Event.TheVariants.{Profile, Window, Start, Acknowledgement, Expiry}
use Rattle.onsight.specs.declared.procedure.State.{State}
use Rattle.onsight.specs.declared.procedure.State.TheVariants.{Idle, Waiting, Asked, Late, Braking, Done}

-- a test that says no there
pub never : {A : Type 0} → false ≡ true → A
never h = absurd (false≢true h)

pub by_state : (P : State → Type 0) → P Idle → P Waiting → P Asked → P Late → P Braking → P Done → (s : State) → P s
by_state P idle waiting asked late braking done Idle = idle
by_state P idle waiting asked late braking done Waiting = waiting
by_state P idle waiting asked late braking done Asked = asked
by_state P idle waiting asked late braking done Late = late
by_state P idle waiting asked late braking done Braking = braking
by_state P idle waiting asked late braking done Done = done

pub by-event : (P : Event → Type 0)
    → ((mode : Mode) → P (Profile Ahead mode))
    → P (Profile Entered OS)
    → P (Profile Entered SB)
    → P (Profile Entered PT)
    → P (Profile Entered Another)
    → P Window
    → P Start
    → P Acknowledgement
    → P Expiry
    → (e : Event)
    → P e
by-event P ahead os sb pt other window start driver timer (Profile Ahead mode) = ahead mode
by-event P ahead os sb pt other window start driver timer (Profile Entered OS) = os
by-event P ahead os sb pt other window start driver timer (Profile Entered SB) = sb
by-event P ahead os sb pt other window start driver timer (Profile Entered PT) = pt
by-event P ahead os sb pt other window start driver timer (Profile Entered Another) = other
by-event P ahead os sb pt other window start driver timer Window = window
by-event P ahead os sb pt other window start driver timer Start = start
by-event P ahead os sb pt other window start driver timer Acknowledgement = driver
by-event P ahead os sb pt other window start driver timer Expiry = timer
