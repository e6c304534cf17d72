-- Request Q-7: the step of the engine of sets on a record, from the state as the code holds it.
-- Defines: set_reading, boxed, apply_sets, on_sets, set_listed, set_buffer, set_stepped.
use Rattle.std.specs.Prelude.{ℕ, cond, List, leb, length}
use Rattle.wire.specs.Refusals.{no_room, not_sound}
use Rattle.record.specs.Records.{reading}
use Rattle.record.specs.Readings.{Reading}
use Rattle.record.specs.Readings.{Meant, Refused}
use Rattle.unit.specs.Forms.{listed}
use Rattle.unit.specs.OnRecords.{action_room, written}
use Rattle.sets.specs.SixSets.{Sets, unpacked, packed_sets, set_ready}
use Rattle.sets.specs.SetSteps.{SetOutcome, set_refused, set_step}
use Rattle.sets.specs.declared.state.SetState.{SetState}
use Rattle.sets.specs.declared.answer.SetAnswer.{SetAnswer}
use Rattle.sets.specs.declared.answer.SetStepped.{SetStepped}

-- a record that is refused changes nothing; one that means an event is stepped
abbrev pub set_reading : Sets → Reading → SetOutcome Sets
set_reading z (Meant e) = set_step z e
set_reading z (Refused r) = set_refused r z

-- an outcome with its state as the code holds it
abbrev pub boxed : SetOutcome Sets → SetOutcome SetState
boxed o = record { code = o.code; state = packed_sets o.state; actions = o.actions; phase = o.phase }

-- "11, then 1 (empty), 2, 1 (length), 3; then .."
unfoldable pub apply_sets : SetState → List ℕ → SetOutcome SetState
apply_sets b bytes = cond (set_ready b) (boxed (set_reading (unpacked b) (reading bytes))) (set_refused not_sound b)

-- "Step: 10, 11, ..": room is the length of the action buffer
unfoldable pub on_sets : SetState → List ℕ → ℕ → SetOutcome SetState
on_sets b bytes room = cond (leb action_room room) (apply_sets b bytes) (set_refused no_room b)

-- an outcome as the code holds it, its actions in an array of four
unfoldable pub set_listed : SetOutcome SetState → SetAnswer
set_listed o = record { code = o.code; state = o.state; actions = listed o.actions; phase = o.phase }

-- "An accepted call writes only its actions ..; later bytes stay"
abbrev pub set_buffer : SetState → List ℕ → List ℕ → List ℕ
set_buffer b bytes buffer = written (on_sets b bytes (length buffer)).actions buffer

-- what the step on bytes answers beside the buffer
unfoldable pub set_stepped : SetOutcome SetState → SetStepped
set_stepped o = record { code = o.code; state = o.state; count = length o.actions; phase = o.phase }
