-- Cross-checks only: nobody has to believe what stands here.
-- Further words on the front of a sheet of ours and on what is due behind it: lengths, and the numbers that a step sends.
-- Defines: answer_size, FrontOfOurs, entries_before, sendable, length_by, standing_length, through_record.
use Rattle.std.specs.Prelude.{ℕ, ◌+◌, Bool, cond, ◌||◌, List, ◌++◌, eqb, length, take}
use Rattle.std.proofs.Common.{inl, inr}
use Rattle.wire.specs.Bytes.{byte}
use Rattle.record.specs.Records.{known, length_of}
use Rattle.place.specs.Table.{request, release, incompatible, initiate, terminate, established}
use Rattle.unit.specs.OnRecords.{action_size}
use Rattle.unit.specs.declared.state.State.{State}
use Rattle.judge.specs.declared.due.Due.{Due}
use Rattle.judge.specs.Sheets.{answer_kind}
use Rattle.judge.specs.Fronts.{OurSheet, DueAfter}

-- an answer is its kind and one byte
abbrev pub answer_size : ℕ
answer_size = 2

-- the front of a sheet of ours
abbrev pub FrontOfOurs : State → List ℕ → Type 0
FrontOfOurs s front = (row : List (List ℕ)) × (more : List ℕ) × OurSheet s row (front ++ more)

-- the event records of such a front that stand there with all that follows them
abbrev pub entries_before : (s : State) (front : List ℕ) (d : Due) → DueAfter s front d → ℕ
entries_before s front d (inl h) = length h.0
entries_before s front d (inr h) = length h.0

-- the six action numbers
abbrev pub sendable : ℕ → Bool
sendable n =
    eqb n request || (eqb n release || (eqb n incompatible || (eqb n initiate || (eqb n terminate || eqb n established))))

-- how long the record is that begins with this byte: an event record, an answer, an action; of an unknown kind the byte alone
abbrev pub length_by : ℕ → ℕ
length_by kind = cond (known kind) (length_of kind) (cond (eqb kind answer_kind) answer_size (cond (sendable kind) action_size 1))

-- how long the record is that stands at an offset
abbrev pub standing_length : List ℕ → ℕ → ℕ
standing_length sheet at = length_by (byte sheet at)

-- "the bytes through the end of" the record at an offset
abbrev pub through_record : List ℕ → ℕ → List ℕ
through_record sheet at = take (at + standing_length sheet at) sheet
