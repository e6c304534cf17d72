-- Only private contracts use what stands here: a sheet while it is written.
-- Defines: outcome_of, next_line, next_page, to_come, Ready, Follows.
use Rattle.text.specs.declared.sheet.Page.{Page}
use Rattle.std.specs.Prelude.{ℕ, ◌+◌, ◌-◌, ◌≤◌, List, length, drop}
use Rattle.wire.specs.Bytes.{byte}
use Rattle.unit.specs.Steps.{Outcome}
use Rattle.unit.specs.OnRecords.{action_room, on_record}
use Rattle.unit.specs.Runs.{course}
use Rattle.text.specs.Texts.{line_text}
use Rattle.text.specs.Making.{HasRoom}
use Rattle.text.specs.Sheets.{most_input, sheet_budget, course_text}

-- what a record gives, its line, and the sheet with it
abbrev pub outcome_of : Page → List ℕ → Outcome
outcome_of p bytes = on_record p.state bytes action_room

unfoldable pub next_line : Page → List ℕ → List ℕ
next_line p bytes = line_text (p.number + 1) (byte bytes 0) (outcome_of p bytes).code (outcome_of p bytes).actions

unfoldable pub next_page : Page → List ℕ → Page
next_page p bytes =
    record {
      state = (outcome_of p bytes).state;
      at = p.at + length bytes;
      number = p.number + 1;
      used = p.used + length (next_line p bytes);
    }

-- the text that is still to come
unfoldable pub to_come : Page → List ℕ → List ℕ
to_come p input = course_text p.number (course (sheet_budget - p.number) p.state (drop p.at input))

-- every record has a byte, and all that is still to come has room
abbrev pub Ready : Page → List ℕ → List ℕ → Type 0
Ready p input buffer =
    (p.at ≤ length input)
    × (length input ≤ most_input)
    × (p.number ≤ p.at)
    × HasRoom (to_come p input) p.used buffer

-- the line of one more record has room
abbrev pub Follows : Page → List ℕ → List ℕ → Type 0
Follows p bytes buffer =
    (p.at + length bytes ≤ most_input)
    × (p.number ≤ p.at)
    × HasRoom (next_line p bytes) p.used buffer
