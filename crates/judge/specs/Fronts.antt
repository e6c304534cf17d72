-- Request Q-9, what the judge's offset is: the front of a sheet of ours, and what is due behind it.
-- Defines: OurSheet, DueAfter, FaultAt.
use Rattle.std.specs.Prelude.{ℕ, ◌≤◌, ◌≡◌, ◌⊎◌, true, false, List, ◌∷◌, ◌++◌, length, take, drop}
use Rattle.wire.specs.Blocks.{blocks}
use Rattle.unit.specs.OnRecords.{action_room, on_record}
use Rattle.unit.specs.declared.state.State.{State}
use Rattle.judge.specs.declared.due.Due.{Due}
use Rattle.judge.specs.declared.due.Due.TheVariants.{AnEvent}
use Rattle.judge.specs.Sheets.{due_bytes, dues, sheet_of, are_records, is_record, row_end}
use Rattle.judge.specs.Judging.{is_right, against}

-- the sheet of this row of event records from this state
abbrev pub OurSheet : State → List (List ℕ) → List ℕ → Type 0
OurSheet s row sheet = (are_records row ≡ true) × (sheet ≡ sheet_of s row)

-- where a front of whole records ends, and what is due there: behind the sheet of a row an event record; or behind one more event record
-- and those of its answer and actions that are met, the next of them
abbrev pub DueAfter : State → List ℕ → Due → Type 0
DueAfter s front d =
    ((row : List (List ℕ)) × OurSheet s row front × (d ≡ AnEvent))
    ⊎ ((row : List (List ℕ)) × (bytes : List ℕ) × (met left : List Due)
    × (are_records row ≡ true)
    × (is_record bytes ≡ true)
    × (dues (on_record (row_end s row) bytes action_room) ≡ met ++ (d ∷ left))
    × (front ≡ sheet_of s row ++ (bytes ++ blocks due_bytes met)))

-- "the offset of the first record that is wrong, short or missing": the bytes before it are the front of a sheet of ours in whole records,
-- and what stands there is not what is due
abbrev pub FaultAt : State → List ℕ → ℕ → Due → Type 0
FaultAt s sheet at d =
    (at ≤ length sheet) × DueAfter s (take at sheet) d × (is_right (against d (drop at sheet)) ≡ false)
