-- Every sheet has room, and the sheet that document 01 prints is the defined one.
-- Proves: course-fits, sheet-fits, count_fits, sheet-example, sheet-refusals, sheet-too-long, sheet-runs,
-- sheet-counted, sheet-placed, sheet-uncounted, sheet-unplaced, decimal-largest, line-four.
use mathlib.Core.Path.{◌≡◌, refl, sym, ap, subst, ◌∙◌}
use mathlib.Core.Bool.{cond}
use mathlib.Core.List.{List, [], ◌∷◌, ◌++◌}
use Prim.Native.Nat.{ℕ, zero, suc, ◌+◌, ◌*◌, ◌≤◌, ◌<◌}
use native.Mathlib.Omega.{arith}
use lib.Dec.{leb}
use lib.ListN.{length, take, drop, length-append}
use borrow.Author.Tests.{leb-true, lt-leb, le-leb}
use Rattle.wire.specs.Blocks.{blocks}
use Rattle.wire.specs.Bytes.{byte}
use Rattle.wire.proofs.Tests.{cond-holds, cond-case}
use Rattle.record.specs.Records.{reading}
use Rattle.place.specs.Table.{turn}
use Rattle.unit.specs.Lasts.{recalled}
use Rattle.unit.specs.States.{first, seek, places_ok, sound, cold, cold_start, some}
use Rattle.unit.specs.Steps.{closed, closing_actions, step}
use Rattle.unit.specs.OnRecords.{action_room, on_record}
use Rattle.record.specs.Takes.{take_one, taken}
use Rattle.unit.specs.Runs.{course}
use Rattle.unit.specs.declared.state.State.{State}
use Rattle.record.specs.Takes.{Taken}
use Rattle.record.specs.Takes.{Whole, Stopped, Overlong}
use Rattle.unit.proofs.Few.{on_record-few}
use Rattle.text.specs.Texts.{digits, decimal, action_text, line_text, end_text, placed}
use Rattle.text.specs.Sheets.{header_text, too_long_text, most_input, sheet_limits, sheet_budget, course_text, sheet_text}
use Rattle.text.specs.Sheets.{sheet_room, sheet_count, sheet_placed}
use Rattle.text.specs.SheetExample.{example_input, example_text, refusals_input, refusals_text, to}
use Rattle.text.proofs.Room.{text_room, line-room, end-room}

-- the lines of a course, and its last one
pub course-fits : (budget : ℕ) (s : State) (log : List ℕ) (read : ℕ)
    → length (course_text read (course budget s log)) ≤ text_room * suc budget
unfolding course course_text
course-fits zero s [] read = omega (arith, end-room 0 read)
course-fits zero s (kind ∷ rest) read = omega (arith, end-room 1 read)
course-fits (suc budget) s log read = by (taken log) (course-fits budget) refl
  where
    by : (t : Taken)
        → ((s : State) (log : List ℕ) (read : ℕ) → length (course_text read (course budget s log)) ≤ text_room * suc budget)
        → taken log ≡ t
        → length (course_text read (course (suc budget) s log)) ≤ text_room * suc (suc budget)
    by (Stopped stop) rest-fits e = rw e (omega (arith, end-room stop read))
    by (Overlong r) rest-fits e = rw e (omega (arith, end-room r read))
    by (Whole k r) rest-fits e =
        let o = on_record s (take k log) action_room in
        let line-fits = line-room (read + 1) (byte (take k log) 0) o.code o.actions (on_record-few s (take k log) action_room) in
        let more = rest-fits o.state (drop k log) (read + 1) in
        rw e (simp length-append (omega arith))

-- promise
pub sheet-fits : (input : List ℕ) → length (sheet_text input) ≤ sheet_room
unfolding sheet_text
sheet-fits input =
    let body = course_text 0 (course sheet_budget (cold_start sheet_limits).state input) in
    let fits = course-fits sheet_budget (cold_start sheet_limits).state input 0 in
    cond-holds (λ l. length l ≤ sheet_room) (leb (length input) most_input) (header_text ++ body) too_long_text
    (simp length-append (omega arith))
    (omega arith)

-- what is counted stands in the buffer
pub count_fits : (input : List ℕ) (room r : ℕ) → r ≡ sheet_count input room → r ≤ room
unfolding sheet_count
count_fits input room r is =
    subst (λ n. n ≤ room) (sym is)
    (cond-case (λ n. n ≤ room) (leb sheet_room room) (length (sheet_text input)) 0
    (λ enough. omega (arith, sheet-fits input, leb-true sheet_room room enough))
    (λ small. omega arith))

-- promise
pub sheet-example : sheet_text example_input ≡ example_text
unfolding reading turn first seek places_ok sound cold cold_start closed closing_actions step on_record some taken take_one course recalled
    digits blocks action_text line_text end_text course_text sheet_text example_input example_text
sheet-example = refl

-- one with refusals, two actions for a record, and a record that is cut
-- promise
pub sheet-refusals : sheet_text refusals_input ≡ refusals_text
unfolding reading turn first seek places_ok sound cold cold_start closed closing_actions step on_record some taken take_one course recalled
    digits blocks action_text line_text end_text course_text sheet_text refusals_input refusals_text
sheet-refusals = refl

-- "at most 4,096 bytes; more prints only `too long`"
-- promise
pub sheet-too-long : (input : List ℕ)
    → 4096 < length input
    → sheet_text input ≡ 116 ∷ 111 ∷ 111 ∷ 32 ∷ 108 ∷ 111 ∷ 110 ∷ 103 ∷ 10 ∷ []
unfolding sheet_text
sheet-too-long input long =
    ap
    (λ b. cond b (header_text ++ course_text 0 (course sheet_budget (cold_start sheet_limits).state input)) too_long_text)
    (lt-leb (length input) most_input long)

-- "at most 4,096 bytes", "cold starts with X 1 to 2, runs with a budget of 4,096"; Q-3: with three tries
-- promise
pub sheet-runs : (input : List ℕ)
    → length input ≤ 4096
    → sheet_text input
    ≡ header_text ++ course_text 0 (course 4096 (cold_start (record { lowest = 1; highest = 2; tries = 3 })).state input)
unfolding sheet_text
sheet-runs input fits =
    ap
    (λ b. cond b (header_text ++ course_text 0 (course sheet_budget (cold_start sheet_limits).state input)) too_long_text)
    (le-leb (length input) most_input fits)

-- "Output, whole": with room for every sheet the whole sheet stands at the front of the buffer, and its length is answered
-- promise
pub sheet-counted : (input : List ℕ) (room : ℕ) → 786_646 ≤ room → sheet_count input room ≡ length (sheet_text input)
unfolding sheet_count
sheet-counted input room enough = ap (λ b. cond b (length (sheet_text input)) 0) (le-leb sheet_room room enough)

-- promise
pub sheet-placed : (input buffer : List ℕ)
    → 786_646 ≤ length buffer
    → sheet_placed input buffer ≡ sheet_text input ++ drop (length (sheet_text input)) buffer
unfolding sheet_placed placed
sheet-placed input buffer enough =
    let text = sheet_text input in
    let fits : length text ≤ length buffer = omega (arith, sheet-fits input) in
    ap (λ b. cond b (placed text buffer) buffer) (le-leb sheet_room (length buffer) enough)
    ∙ ap (λ b. cond b (text ++ drop (length text) buffer) buffer) (le-leb (length text) (length buffer) fits)

-- with less room nothing is counted and nothing written
-- promise
pub sheet-uncounted : (input : List ℕ) (room : ℕ) → room < 786_646 → sheet_count input room ≡ 0
unfolding sheet_count
sheet-uncounted input room small = ap (λ b. cond b (length (sheet_text input)) 0) (lt-leb sheet_room room small)

-- promise
pub sheet-unplaced : (input buffer : List ℕ) → length buffer < 786_646 → sheet_placed input buffer ≡ buffer
unfolding sheet_placed
sheet-unplaced input buffer small =
    ap (λ b. cond b (placed (sheet_text input) buffer) buffer) (lt-leb sheet_room (length buffer) small)

-- "numbers are decimal": the largest of a partner
-- promise
pub decimal-largest : decimal 16_777_215 ≡ 49 ∷ 54 ∷ 55 ∷ 55 ∷ 55 ∷ 50 ∷ 49 ∷ 53 ∷ []
unfolding digits
decimal-largest = refl

-- "each action as number:type/partner": `4096 5 0 156:0/1 22:0/2 156:0/3 21:0/4`
-- promise
pub line-four : line_text 4096 5 0 (to 156 1 ∷ to 22 2 ∷ to 156 3 ∷ to 21 4 ∷ [])
    ≡ 52 ∷ 48 ∷ 57 ∷ 54 ∷ 32 ∷ 53 ∷ 32 ∷ 48
    ∷ 32 ∷ 49 ∷ 53 ∷ 54 ∷ 58 ∷ 48 ∷ 47 ∷ 49
    ∷ 32 ∷ 50 ∷ 50 ∷ 58 ∷ 48 ∷ 47 ∷ 50
    ∷ 32 ∷ 49 ∷ 53 ∷ 54 ∷ 58 ∷ 48 ∷ 47 ∷ 51
    ∷ 32 ∷ 50 ∷ 49 ∷ 58 ∷ 48 ∷ 47 ∷ 52
    ∷ 10 ∷ []
unfolding digits blocks action_text line_text
line-four = refl
