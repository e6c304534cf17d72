-- One case split for each type of request Q-1: what is said of each state, of each profile and of each event, in the order of Q-1.
-- Defines: by_state, by_profile, by_event.
use Rattle.onsight.specs.declared.event.Area.{Area}
use Rattle.onsight.specs.declared.event.Area.TheVariants.{Ahead, Entered}
use Rattle.onsight.specs.declared.event.Mode.{Mode}
use Rattle.onsight.specs.declared.event.Mode.TheVariants.{OS, SB, PT, Another}
use Rattle.onsight.specs.declared.event.Event.{Event}
use Rattle.onsight.specs.declared.event.Event.TheVariants.{Profile, Window, Start, Acknowledgement, Expiry}
use Rattle.onsight.specs.declared.procedure.State.{State}
use Rattle.onsight.specs.declared.procedure.State.TheVariants.{Idle, Waiting, Asked, Late, Braking, Done}

-- "Its own state is Idle, Waiting, Asked, Late, Braking or Done."
abbrev pub by_state : {A : Type 0} → A → A → A → A → A → A → State → A
by_state idle waiting asked late braking done Idle = idle
by_state idle waiting asked late braking done Waiting = waiting
by_state idle waiting asked late braking done Asked = asked
by_state idle waiting asked late braking done Late = late
by_state idle waiting asked late braking done Braking = braking
by_state idle waiting asked late braking done Done = done

-- "A profile event says whether the area is ahead or already entered, and whether the mode is OS, SB or PT, or another."
abbrev pub by_profile : {A : Type 0} → A → A → A → A → Area → Mode → A
by_profile ahead os sb-pt other Ahead mode = ahead
by_profile ahead os sb-pt other Entered OS = os
by_profile ahead os sb-pt other Entered SB = sb-pt
by_profile ahead os sb-pt other Entered PT = sb-pt
by_profile ahead os sb-pt other Entered Another = other

-- a profile; "front and speed in the window", "the safe front passing the start", "driver acknowledgement", "timer expiry"
abbrev pub by_event : {A : Type 0} → (Area → Mode → A) → A → A → A → A → Event → A
by_event profile window start driver timer (Profile area mode) = profile area mode
by_event profile window start driver timer Window = window
by_event profile window start driver timer Start = start
by_event profile window start driver timer Acknowledgement = driver
by_event profile window start driver timer Expiry = timer
