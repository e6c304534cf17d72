-- Document 02, request Q-1: the On-Sight procedure drawn as a table, a row for each state and a column for each event; one step.
-- Defines: cell, fresh, taken, refused, answered, step, os_in_force, service_brake.
use Rattle.std.specs.Prelude.{Bool, true, false, Option, Some, None}
use Rattle.onsight.specs.Cases.{by_state, by_profile, by_event}
use Rattle.onsight.specs.Numbers.{accepted, not_taken_here}
use Rattle.onsight.specs.declared.event.Event.{Event}
use Rattle.onsight.specs.declared.procedure.State.{State}
use Rattle.onsight.specs.declared.procedure.State.TheVariants.{Idle, Waiting, Asked, Late, Braking, Done}
use Rattle.onsight.specs.declared.procedure.Answer.{Answer}

-- the table: a row for each state; a column for each event, in the order of Q-1: a profile (the area ahead; entered, for OS, for SB or PT,
-- for another mode), front and speed in the window, the safe front passing the start, driver acknowledgement, timer expiry
abbrev pub cell : State → Event → Option State
cell =
    by_state
    -- Idle: "Idle takes only this: ahead gives Waiting; entered gives Done for OS, Asked for SB or PT, Late for another."
    (by_event (by_profile (Some Waiting) (Some Done) (Some Asked) (Some Late)) None None None None)
    -- Waiting: "Waiting: front and speed in the window gives Asked. Waiting and Asked: the safe front passing the start gives Late."
    (by_event (λ area mode. None) (Some Asked) (Some Late) None None)
    -- Asked: "Waiting and Asked: the safe front passing the start gives Late. Asked, Late and Braking: driver acknowledgement gives Done."
    (by_event (λ area mode. None) None (Some Late) (Some Done) None)
    -- Late: "Asked, Late and Braking: driver acknowledgement gives Done. Late: timer expiry gives Braking."
    (by_event (λ area mode. None) None None (Some Done) (Some Braking))
    -- Braking: "Asked, Late and Braking: driver acknowledgement gives Done."
    (by_event (λ area mode. None) None None (Some Done) None)
    -- Done: no sentence names an event that Done takes
    (by_event (λ area mode. None) None None None None)

-- "The next procedure starts from a fresh Idle."
abbrev pub fresh : State
fresh = Idle

-- the event is taken
abbrev pub taken : State → Answer
taken next = record { code = accepted; state = next }

-- "Refusals: 14, event not taken here; the state stays."
abbrev pub refused : State → Answer
refused s = record { code = not_taken_here; state = s }

-- what a cell makes of a state
abbrev pub answered : State → Option State → Answer
answered s None = refused s
answered s (Some next) = taken next

-- one step
abbrev pub step : State → Event → Answer
step s e = answered s (cell s e)

-- "OS is in force in Late, Braking and Done;
abbrev pub os_in_force : State → Bool
os_in_force = by_state false false false true true true

-- the service brake is on in Braking only."
abbrev pub service_brake : State → Bool
service_brake = by_state false false false false true false
