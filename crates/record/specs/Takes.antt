-- Document 01, "Run over a log", the part on one record, and request Q-8: taking one record off the front of a log.
-- Defines: nothing_left, budget_used, record_short, kind_unknown, longest_log, Taken, take_one, taken, on_taken.
use Rattle.std.specs.Prelude.{ℕ, not, List, [], ◌∷◌, leb, length, take}
use Rattle.wire.specs.Bytes.{byte, is_empty}
use Rattle.wire.specs.Orders.{first_that_applies}
use Rattle.wire.specs.Refusals.{log_too_long}
use Rattle.record.specs.Records.{known, length_of, reading}
use Rattle.record.specs.Readings.{Reading}

-- "nothing left, stop 0; budget used up, stop 1; kind unknown, stop 3; fewer bytes than the kind's length, stop 2"
abbrev pub nothing_left : ℕ
nothing_left = 0

abbrev pub budget_used : ℕ
budget_used = 1

abbrev pub record_short : ℕ
record_short = 2

abbrev pub kind_unknown : ℕ
kind_unknown = 3

-- "log longer than 1,048,576 bytes"
abbrev pub longest_log : ℕ
longest_log = 1_048_576

-- a whole record, its length and what it means; or the number of the stop; or that of the refusal
pub data Taken : Type 0 where
  Whole : ℕ → Reading → Taken
  Stopped : ℕ → Taken
  Overlong : ℕ → Taken

-- what stands at the front of a log, the budget left aside: a whole record, its length and what it means; or the stop
unfoldable pub take_one : List ℕ → Taken
take_one log =
    first_that_applies Stopped
    ((not (is_empty log), nothing_left)
    ∷ (known (byte log 0), kind_unknown)
    ∷ (leb (length_of (byte log 0)) (length log), record_short)
    ∷ [])
    (Whole (length_of (byte log 0)) (reading (take (length_of (byte log 0)) log)))

-- Q-8: "take one record off the front of the log, answering the record or stop 0, 2 or 3"; "12 for taking, by the length of what is
-- handed over"
unfoldable pub taken : List ℕ → Taken
taken log = first_that_applies Overlong ((leb (length log) longest_log, log_too_long) ∷ []) (take_one log)

-- what is done with what was taken: with the number of the stop or of the refusal, or with the record's length
abbrev pub on_taken : {A : Type 0} → Taken → (ℕ → A) → (ℕ → A) → A
on_taken (Whole k r) ends whole = whole k
on_taken (Stopped stop) ends whole = ends stop
on_taken (Overlong r) ends whole = ends r
