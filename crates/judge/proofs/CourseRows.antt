-- The course of a run as a row of event records.
-- Defines: Ran, row_of.
-- Proves: course-ran, ran-ours, ran-records, ran-log.
use mathlib.Core.Path.{◌≡◌, refl, sym, ap, ap₂, subst, ◌∙◌}
use mathlib.Core.Bool.{true}
use mathlib.Core.List.{List, [], ◌∷◌, ◌++◌, append_assoc}
use Prim.Native.Nat.{ℕ, zero, suc, ◌≤◌}
use native.Mathlib.Omega.{arith}
use lib.ListN.{length, take, drop, length-append}
use lib.Seq.{take-append_seam, drop-append_seam}
use Rattle.wire.specs.Blocks.{blocks}
use Rattle.wire.proofs.Tests.{and_both}
use Rattle.record.specs.Takes.{longest_log, take_one, on_taken}
use Rattle.record.specs.Takes.{Taken}
use Rattle.record.specs.Takes.{Stopped}
use Rattle.record.proofs.Takes.{taken-short}
use Rattle.unit.specs.Steps.{Outcome}
use Rattle.unit.specs.OnRecords.{action_room, on_record}
use Rattle.unit.specs.Runs.{Course, stops, applies, course}
use Rattle.unit.specs.declared.state.State.{State}
use Rattle.judge.specs.Sheets.{entry_of, sheet_of, is_record, are_records}
use Rattle.judge.specs.Producing.{course_sheet, course_records, course_stop}
use Rattle.judge.specs.Fronts.{OurSheet}
use Rattle.judge.proofs.Fronts.{Front, ends, breaks, begins, front-is, record-some}

-- a course over a whole log: at each step an event record is taken off the front, until none can be
pub data Ran : State → List ℕ → Course → Type 0 where
  stops-here : {s : State} {log : List ℕ} (stop : ℕ)
      → take_one log ≡ Stopped stop
      → Ran s log (stops stop)
  goes : {s : State} {log : List ℕ} {rest : Course} (bytes more : List ℕ)
      → is_record bytes ≡ true
      → log ≡ bytes ++ more
      → Ran (on_record s bytes action_room).state more rest
      → Ran s log (applies bytes (on_record s bytes action_room) rest)

pub course-ran : (budget : ℕ) (s : State) (log : List ℕ)
    → length log ≤ longest_log
    → length log ≤ budget
    → Ran s log (course budget s log)
unfolding course take_one
course-ran zero s [] short enough = stops-here _ refl
course-ran zero s (kind ∷ rest) short enough = absurd (omega arith)
course-ran (suc budget) s log short enough =
    subst (λ t. Ran s log (on_taken t stops on)) (sym (taken-short log short)) (by (take_one log) refl (front-is log) (course-ran budget))
  where
    step : List ℕ → List ℕ → Course
    step bytes more =
        let o : Outcome = on_record s bytes action_room in
        applies bytes o (course budget o.state more)

    on : ℕ → Course
    on k = step (take k log) (drop k log)

    by : (t : Taken)
        → take_one log ≡ t
        → Front log t
        → ((u : State) (l : List ℕ) → length l ≤ longest_log → length l ≤ budget → Ran u l (course budget u l))
        → Ran s log (on_taken t stops on)
    by t e (ends none) later = stops-here _ e
    by t e (breaks stop wrong) later = stops-here stop e
    by t e (begins bytes more is cut) later =
        let front = ap (take (length bytes)) cut ∙ take-append_seam bytes more in
        let behind = ap (drop (length bytes)) cut ∙ drop-append_seam bytes more in
        let size = ap length cut ∙ length-append bytes more in
        let some = record-some bytes is in
        subst (Ran s log) (sym (ap₂ step front behind))
        (goes bytes more is cut (later (on_record s bytes action_room).state more (omega arith) (omega arith)))

-- its event records
pub row_of : Course → List (List ℕ)
row_of (stops stop) = []
row_of (applies bytes o rest) = bytes ∷ row_of rest

pub ran-ours : (s : State) (log : List ℕ) (c : Course) → Ran s log c → OurSheet s (row_of c) (course_sheet c)
unfolding row_of course_sheet sheet_of are_records
ran-ours s log c (stops-here stop e) = (refl, refl)
ran-ours s log c (goes {rest = rest} bytes more is cut ran) =
    let o = on_record s bytes action_room in
    let later = ran-ours o.state more rest ran in
    (and_both (is_record bytes) (are_records (row_of rest)) is later.0, ap (◌++◌ (entry_of bytes o)) later.1)

pub ran-records : (c : Course) → course_records c ≡ length (row_of c)
unfolding row_of course_records
ran-records (stops stop) = refl
ran-records (applies bytes o rest) = omega (arith, ran-records rest)

-- they are the front of the log, and at its stop no whole one stands
pub ran-log : (s : State) (log : List ℕ) (c : Course)
    → Ran s log c
    → (rest : List ℕ) × (log ≡ blocks (λ bytes. bytes) (row_of c) ++ rest) × (take_one rest ≡ Stopped (course_stop c))
unfolding row_of course_stop blocks
ran-log s log c (stops-here stop e) = (log, refl, e)
ran-log s log c (goes {rest = rest} bytes more is cut ran) =
    let later = ran-log (on_record s bytes action_room).state more rest ran in
    let joined = blocks (λ x. x) (row_of rest) in
    (later.0, cut ∙ ap (◌++◌ bytes) later.1 ∙ sym (append_assoc bytes joined later.0), later.2)
