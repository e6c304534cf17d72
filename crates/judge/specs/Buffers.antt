-- Only private contracts use what stands here: actions as a step writes them into a buffer, and a sheet counted before it is written.
-- Defines: action_in, buffer_actions, sent_actions, measured.
use Rattle.std.specs.Prelude.{ℕ, zero, suc, ◌+◌, ◌/◌, List, [], ◌∷◌, length, drop}
use Rattle.wire.specs.Bytes.{byte}
use Rattle.unit.specs.OnRecords.{action_size}
use Rattle.unit.specs.Runs.{Course}
use Rattle.unit.specs.declared.answer.Action.{Action}
use Rattle.judge.specs.declared.produce.Measured.{Measured}
use Rattle.judge.specs.Producing.{course_sheet, course_records, course_stop}

-- the action whose five bytes stand at a place
abbrev pub action_in : List ℕ → ℕ → Action
action_in s at =
    record {
      number = byte s at;
      partner = record { kind = byte s (at + 1); high = byte s (at + 2); middle = byte s (at + 3); low = byte s (at + 4) };
    }

-- so many actions, one after the other
unfoldable pub buffer_actions : ℕ → List ℕ → List Action
buffer_actions zero s = []
buffer_actions (suc count) s = action_in s 0 ∷ buffer_actions count (drop action_size s)

-- the actions of a part of a buffer, five bytes each
abbrev pub sent_actions : List ℕ → List Action
sent_actions sent = buffer_actions (length sent / action_size) sent

-- the sheet of a course, counted
abbrev pub measured : Course → Measured
measured c = record { size = length (course_sheet c); records = course_records c; stop = course_stop c }
