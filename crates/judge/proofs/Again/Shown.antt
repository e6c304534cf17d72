-- The sheet of document 01's five records and others, computed: what the promises ask for is met there.
-- Proves: shown-ours, shown-judged, wrong-judged, sheets-judged, shown-produced, shown-accepted, shown-row, shown-due, shown-changed,
-- shown-action-changed, shown-fault, shown-counted, shown-missing, shown-nowhere, shown-answers, shown-made.
use native.Mathlib.Omega.{arith}
use mathlib.Core.Path.{◌≡◌, refl, sym, ap, subst}
use mathlib.Core.Logic.{inr}
use mathlib.Core.Bool.{true, false}
use mathlib.Core.List.{List, [], ◌∷◌, map}
use Prim.Native.Nat.{ℕ, ◌≤◌}
use lib.ListN.{length, set, take, drop}
use Rattle.wire.specs.Blocks.{blocks}
use Rattle.wire.specs.Refusals.{accepted}
use Rattle.record.specs.Records.{reading}
use Rattle.record.specs.Takes.{take_one, taken}
use Rattle.place.specs.Table.{turn}
use Rattle.unit.specs.States.{some, first, seek, places_ok, sound, cold}
use Rattle.unit.specs.Lasts.{recalled}
use Rattle.unit.specs.Steps.{closed, closing_actions, step}
use Rattle.unit.specs.OnRecords.{on_record, trace}
use Rattle.unit.specs.Runs.{course}
use Rattle.unit.specs.RunWords.{all_codes}
use Rattle.judge.specs.declared.due.Due.TheVariants.{AnEvent, TheAnswer, TheAction}
use Rattle.judge.specs.declared.due.Finding.TheVariants.{Right, Wrong}
use Rattle.judge.specs.Sheets.{sheet_of, are_records, row_end}
use Rattle.judge.specs.Judging.{starts_with, stands_at, dues_at, point_at, verdict_at, judged_from, judge_from, judgement}
use Rattle.judge.specs.Producing.{course_sheet, produce_code, own_sheet}
use Rattle.judge.specs.Fronts.{OurSheet, DueAfter}
use Rattle.judge.specs.FrontWords.{entries_before, through_record}
use Rattle.judge.specs.SheetExamples.{shown_limits, shown_row, shown_log, shown_sheet, wrong_sheet, rbc_action, JudgedSheet, judged_sheets}
use Rattle.judge.proofs.Again.Accepted.{ours-accepted, row-once}
use Rattle.judge.proofs.Again.Changed.{due-within, changed-refused}
use Rattle.judge.proofs.Again.Faults.{fault-once, fault-counted, missing-last, wrong-nowhere}
use Rattle.judge.proofs.Again.Numbered.{answers-numbered}
use Rattle.judge.proofs.Again.Refused.{produce-made}

-- the shown sheet is that of the shown row
-- promise
pub shown-ours : OurSheet (cold shown_limits) shown_row shown_sheet
unfolding sheet_of are_records reading turn first seek places_ok sound cold closed closing_actions step on_record some recalled blocks
shown-ours = (refl, refl)

-- it is accepted, by computation
-- promise
pub shown-judged : judgement shown_limits shown_sheet ≡ verdict_at 5 (point_at Right 66 AnEvent)
unfolding judge_from judged_from dues_at stands_at starts_with take_one reading turn first seek places_ok sound cold closed closing_actions
    step on_record some recalled blocks
shown-judged = refl

-- the other one is wrong at the third answer
-- promise
pub wrong-judged : judgement shown_limits wrong_sheet ≡ verdict_at 2 (point_at Wrong 33 (TheAnswer 0))
unfolding judge_from judged_from dues_at stands_at starts_with take_one reading turn first seek places_ok sound cold closed closing_actions
    step on_record some recalled blocks
wrong-judged = refl

-- what else the judge answers, a sheet a line
-- promise
pub sheets-judged :
    map (λ (j : JudgedSheet). judgement shown_limits j.sheet) judged_sheets ≡ map (λ (j : JudgedSheet). j.answer) judged_sheets
unfolding judged_sheets judge_from judged_from dues_at stands_at starts_with take_one reading turn first seek places_ok sound cold closed
    closing_actions step on_record some recalled blocks
sheets-judged = refl

-- our own sheet of the five records is that sheet, where the room has its 66 bytes
-- promise
pub shown-produced : (produce_code shown_limits shown_log 66 ≡ accepted) × (own_sheet shown_limits shown_log ≡ shown_sheet)
unfolding produce_code course_sheet course taken take_one reading turn first seek places_ok sound cold closed closing_actions step on_record
    some recalled blocks
shown-produced = (refl, refl)

-- the third event record's answer is due behind its bytes
shown-third : DueAfter (cold shown_limits) (take 33 shown_sheet) (TheAnswer 0)
unfolding sheet_of are_records row_end reading turn first seek places_ok sound cold closed closing_actions step on_record some recalled
    blocks
shown-third = inr (take 2 shown_row, 11 ∷ 0 ∷ 0 ∷ 0 ∷ 5 ∷ 32 ∷ 17 ∷ [], [], _, refl, refl, refl, refl)

-- the first event record's action is due behind its answer
shown-first : DueAfter (cold shown_limits) (take 9 shown_sheet) (TheAction (rbc_action 21 5))
unfolding sheet_of are_records row_end reading turn first seek places_ok sound cold closed closing_actions step on_record some recalled
    blocks
shown-first = inr ([], 5 ∷ 0 ∷ 0 ∷ 0 ∷ 5 ∷ 1 ∷ 1 ∷ [], TheAnswer 0 ∷ [], _, refl, refl, refl, refl)

-- instance
pub shown-accepted : judgement shown_limits shown_sheet ≡ verdict_at 5 (point_at Right 66 AnEvent)
shown-accepted = ours-accepted shown_limits shown_sheet shown_row refl (omega arith) shown-ours

-- instance
pub shown-row : shown_row ≡ take 5 shown_row
shown-row = row-once (cold shown_limits) shown_sheet shown_row (take 5 shown_row) shown-ours shown-ours

-- instance
pub shown-due : take 2 (drop 33 (sheet_of (cold shown_limits) shown_row)) ≡ 30 ∷ 0 ∷ []
unfolding sheet_of are_records row_end reading turn first seek places_ok sound cold closed closing_actions step on_record some recalled
    blocks
shown-due =
    (due-within (cold shown_limits) (take 2 shown_row) (drop 3 shown_row) (11 ∷ 0 ∷ 0 ∷ 0 ∷ 5 ∷ 32 ∷ 17 ∷ []) [] _
    (TheAnswer 0)
    (take 33 shown_sheet) refl refl refl refl).1

-- instance
pub shown-changed : (judgement shown_limits (set shown_sheet 34 7)).point ≡ point_at Wrong 33 (TheAnswer 0)
shown-changed =
    (changed-refused shown_limits shown_row shown_sheet 33 34 7 (TheAnswer 0) refl (omega arith) shown-ours shown-third (omega arith)
    (omega arith) (λ same. omega arith)).1

-- instance
pub shown-action-changed : (judgement shown_limits (set shown_sheet 9 22)).point ≡ point_at Wrong 9 (TheAction (rbc_action 21 5))
shown-action-changed =
    (changed-refused shown_limits shown_row shown_sheet 9 9 22 (TheAction (rbc_action 21 5)) refl (omega arith) shown-ours shown-first
    (omega arith) (omega arith) (λ same. omega arith)).1

-- instance
pub shown-fault : (judgement shown_limits wrong_sheet).point ≡ point_at Wrong 33 (TheAnswer 0)
unfolding starts_with
shown-fault =
    (fault-once shown_limits wrong_sheet 33 (TheAnswer 0) refl (omega arith) (omega arith, shown-third, refl)).1

-- instance
pub shown-counted :
    (due : DueAfter (cold shown_limits) (take 33 wrong_sheet) (TheAnswer 0))
    × (entries_before (cold shown_limits) (take 33 wrong_sheet) (TheAnswer 0) due ≡ 2)
unfolding judge_from judged_from dues_at stands_at starts_with take_one reading turn first seek places_ok sound cold closed closing_actions
    step on_record some recalled blocks
shown-counted = (shown-third, (fault-counted shown_limits wrong_sheet refl refl).1 shown-third)

-- instance
pub shown-missing : (judgement shown_limits (take 9 shown_sheet)).point.at ≡ 9
unfolding judge_from judged_from dues_at stands_at starts_with take_one reading turn first seek places_ok sound cold closed closing_actions
    step on_record some recalled blocks
shown-missing = missing-last shown_limits (take 9 shown_sheet) refl refl

-- instance
pub shown-nowhere : starts_with (take 35 wrong_sheet) (sheet_of (cold shown_limits) shown_row) ≡ false
shown-nowhere =
    subst (λ at. starts_with (through_record wrong_sheet at) (sheet_of (cold shown_limits) shown_row) ≡ false)
    (ap (λ v. v.point.at) wrong-judged)
    (wrong-nowhere shown_limits wrong_sheet shown_row (ap (λ v. v.code) wrong-judged) (ap (λ v. v.point.stands) wrong-judged)
    shown-ours.0)

-- instance
pub shown-answers : all_codes (trace (cold shown_limits) shown_row) ≡ true
shown-answers = answers-numbered shown_limits shown_row refl shown-ours.0

-- instance
pub shown-made : produce_code shown_limits shown_log 67 ≡ 0
shown-made =
    produce-made shown_limits shown_log 67 refl (omega arith) (fits 1_048_576 (omega arith)) (fits 67 (omega arith))
  where
    fits : (room : ℕ) → 66 ≤ room → length (own_sheet shown_limits shown_log) ≤ room
    fits room most = subst (λ (x : List ℕ). length x ≤ room) (sym shown-produced.1) most
