-- The numbers of request Q-1: its refusal, and the cases of each enum, counted from 0 in the order in which Q-1 names them.
-- Defines: accepted, not_taken_here, state_number, area_number, mode_number, event_number.
use Rattle.std.specs.Prelude.{ℕ}
use Rattle.onsight.specs.Cases.{by_state, by_event}
use Rattle.onsight.specs.declared.event.Area.{Area}
use Rattle.onsight.specs.declared.event.Area.TheVariants.{Ahead, Entered}
use Rattle.onsight.specs.declared.event.Mode.{Mode}
use Rattle.onsight.specs.declared.event.Mode.TheVariants.{OS, SB, PT, Another}
use Rattle.onsight.specs.declared.event.Event.{Event}
use Rattle.onsight.specs.declared.procedure.State.{State}

-- what an answer carries where nothing was refused
abbrev pub accepted : ℕ
accepted = 0

-- "14, event not taken here"
abbrev pub not_taken_here : ℕ
not_taken_here = 14

-- "Its own state is Idle, Waiting, Asked, Late, Braking or Done."
abbrev pub state_number : State → ℕ
state_number = by_state 0 1 2 3 4 5

-- "A profile event says whether the area is ahead or already entered,
abbrev pub area_number : Area → ℕ
area_number Ahead = 0
area_number Entered = 1

-- and whether the mode is OS, SB or PT, or another."
abbrev pub mode_number : Mode → ℕ
mode_number OS = 0
mode_number SB = 1
mode_number PT = 2
mode_number Another = 3

-- the events, each at its first sentence
abbrev pub event_number : Event → ℕ
event_number = by_event (λ area mode. 0) 1 2 3 4
