-- Request Q-9: what a sheet is: event records, each with its answer and its actions behind it.
-- Defines: answer_kind, due_bytes, dues, entry_of, sheet_of, is_record, are_records, row_end.
use Rattle.std.specs.Prelude.{ℕ, Bool, true, false, ◌&&◌, List, [], ◌∷◌, ◌++◌, map, eqb, length}
use Rattle.wire.specs.Blocks.{blocks}
use Rattle.record.specs.Records.{known, length_of}
use Rattle.unit.specs.Steps.{Outcome}
use Rattle.unit.specs.OnRecords.{action_room, on_record, bytes_of}
use Rattle.unit.specs.declared.state.State.{State}
use Rattle.judge.specs.declared.due.Due.{Due}
use Rattle.judge.specs.declared.due.Due.TheVariants.{AnEvent, TheAnswer, TheAction}

-- "kind 30 with one byte"
abbrev pub answer_kind : ℕ
answer_kind = 30

-- the bytes of a record that is due: "kind 30 with one byte", "actions as five-byte records"; of an event record nothing is known
abbrev pub due_bytes : Due → List ℕ
due_bytes AnEvent = []
due_bytes (TheAnswer code) = answer_kind ∷ code ∷ []
due_bytes (TheAction a) = bytes_of a

-- what is due behind an event record: "kind 30 with one byte (0 or the refusal ..) and then its actions"
abbrev pub dues : Outcome → List Due
dues o = TheAnswer o.code ∷ map TheAction o.actions

-- an event record with what follows it
abbrev pub entry_of : List ℕ → Outcome → List ℕ
entry_of bytes o = bytes ++ blocks due_bytes (dues o)

-- the sheet of a row of event records from a state: each step given 20 bytes for its actions
unfoldable pub sheet_of : State → List (List ℕ) → List ℕ
sheet_of s [] = []
sheet_of s (bytes ∷ row) =
    let o : Outcome = on_record s bytes action_room in
    entry_of bytes o ++ sheet_of o.state row

-- an event record: of a known kind, and of its kind's length
abbrev pub is_record : List ℕ → Bool
is_record [] = false
is_record (kind ∷ rest) = known kind && eqb (length (kind ∷ rest)) (length_of kind)

unfoldable pub are_records : List (List ℕ) → Bool
are_records [] = true
are_records (bytes ∷ row) = is_record bytes && are_records row

-- the state after a row of records
unfoldable pub row_end : State → List (List ℕ) → State
row_end s [] = s
row_end s (bytes ∷ row) = row_end (on_record s bytes action_room).state row
