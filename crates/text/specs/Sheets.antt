-- Document 01, "Run over a log", the part on the program `sheet`: the whole text of a sheet, for any input.
-- Defines: header_text, too_long_text, most_input, sheet_limits, sheet_budget, course_text, sheet_text, sheet_room, sheet_count,
-- sheet_placed.
use Rattle.std.specs.Prelude.{ℕ, ◌+◌, cond, List, [], ◌∷◌, ◌++◌, leb, length}
use Rattle.wire.specs.Bytes.{byte}
use Rattle.place.specs.Places.{fleet_tries}
use Rattle.place.specs.declared.limits.Limits.{Limits}
use Rattle.unit.specs.States.{cold_start, one_to_two}
use Rattle.unit.specs.Runs.{Course, stops, applies, course}
use Rattle.text.specs.Texts.{newline, space, line_text, end_text, placed}

-- "prints a header": `rec kind code actions`
abbrev pub header_text : List ℕ
header_text =
    114 ∷ 101 ∷ 99 ∷ space ∷ 107 ∷ 105 ∷ 110 ∷ 100 ∷ space ∷ 99 ∷ 111 ∷ 100 ∷ 101 ∷ space
    ∷ 97 ∷ 99 ∷ 116 ∷ 105 ∷ 111 ∷ 110 ∷ 115 ∷ newline ∷ []

-- "more prints only `too long`"
abbrev pub too_long_text : List ℕ
too_long_text = 116 ∷ 111 ∷ 111 ∷ space ∷ 108 ∷ 111 ∷ 110 ∷ 103 ∷ newline ∷ []

-- "at most 4,096 bytes"
abbrev pub most_input : ℕ
most_input = 4096

-- "cold starts with X 1 to 2"; Q-3: "`sheet` .. relied on 3", so it passes 3
abbrev pub sheet_limits : Limits
sheet_limits = one_to_two fleet_tries

-- "runs with a budget of 4,096"
abbrev pub sheet_budget : ℕ
sheet_budget = 4096

-- "one line a record (number from 1, kind, 0 or refusal, each action ..), and `end`, stop, records read", after so many records
unfoldable pub course_text : ℕ → Course → List ℕ
course_text read (stops stop) = end_text stop read
course_text read (applies bytes o rest) = line_text (read + 1) (byte bytes 0) o.code o.actions ++ course_text (read + 1) rest

-- "reads standard input (at most 4,096 bytes; more prints only `too long`), cold starts .., runs .., and prints .."
unfoldable pub sheet_text : List ℕ → List ℕ
sheet_text input =
    cond (leb (length input) most_input) (header_text ++ course_text 0 (course sheet_budget (cold_start sheet_limits).state input))
    too_long_text

-- room for every sheet: the header's 22 bytes, and 192 bytes for each of 4,096 lines and for the last one
abbrev pub sheet_room : ℕ
sheet_room = 786_646

-- a sheet put to the front of a lent buffer, where every sheet has room; later bytes stay
unfoldable pub sheet_count : List ℕ → ℕ → ℕ
sheet_count input room = cond (leb sheet_room room) (length (sheet_text input)) 0

unfoldable pub sheet_placed : List ℕ → List ℕ → List ℕ
sheet_placed input buffer = cond (leb sheet_room (length buffer)) (placed (sheet_text input) buffer) buffer
