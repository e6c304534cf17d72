-- The sheet that our own side makes of a log: "the records before the run's stop, each with its answer (kind 30, decimal) and its
-- actions".
-- Proves: own_row, own-run, own-accepted, own-told, own_room, own-later.
use mathlib.Core.Path.{◌≡◌, refl, sym, ap, ◌∙◌}
use mathlib.Core.Bool.{true}
use mathlib.Core.List.{List, ◌++◌}
use Prim.Native.Nat.{ℕ, ◌≤◌}
use native.Mathlib.Omega.{arith}
use lib.Dec.{leb}
use lib.ListN.{length, take, drop}
use lib.Seq.{take-append_seam, drop-append_seam}
use borrow.Author.Tests.{leb-true}
use Rattle.wire.specs.Blocks.{blocks}
use Rattle.wire.specs.Refusals.{accepted, no_room, log_too_long, bad_limits}
use Rattle.wire.proofs.Tests.{cond-case}
use Rattle.record.specs.Takes.{longest_log, take_one}
use Rattle.record.specs.Takes.{Stopped}
use Rattle.place.specs.declared.limits.Limits.{Limits}
use Rattle.unit.specs.States.{limits_ok, cold}
use Rattle.unit.specs.Runs as runs
use Rattle.unit.specs.Runs.{Course, stops, applies, fresh, tallied, run}
use Rattle.unit.specs.RunWords.{steps_of}
use Rattle.unit.specs.declared.run.Tally.{Tally}
use Rattle.unit.proofs.Runs.Steps.{is-go, run-read}
use Rattle.unit.proofs.Runs.Stops.{run-taken}
use Rattle.judge.specs.declared.due.Due.TheVariants.{AnEvent}
use Rattle.judge.specs.declared.due.Finding.TheVariants.{Right}
use Rattle.judge.specs.Judging.{longest_sheet, point_at, verdict_at, judgement}
use Rattle.judge.specs.Producing.{course_records, course_stop, own_course, own_sheet, produce_code, produced, produced_room}
use Rattle.judge.specs.Fronts.{OurSheet}
use Rattle.judge.proofs.Numbers.{cold-good}
use Rattle.judge.proofs.CourseRows.{row_of, course-ran, ran-ours, ran-records, ran-log}
use Rattle.judge.proofs.Again.Accepted.{ours-accepted}

-- our own sheet of a log is the sheet of a row of event records: those that the log begins with, as many as it counts, up to the stop
-- promise
pub own_row : (l : Limits) (log : List ℕ)
    → length log ≤ longest_log
    → (row : List (List ℕ))
    × (rest : List ℕ)
    × OurSheet (cold l) row (own_sheet l log)
    × (course_records (own_course l log) ≡ length row)
    × (log ≡ blocks (λ bytes. bytes) row ++ rest)
    × (take_one rest ≡ Stopped (course_stop (own_course l log)))
own_row l log short =
    let c = own_course l log in
    let ran = course-ran (length log) (cold l) log short (omega arith) in
    let left = ran-log (cold l) log c ran in
    (row_of c, left.0, ran-ours (cold l) log c ran, ran-records c, left.1, left.2)

counted : (c : Course) → course_records c ≡ length (steps_of c)
unfolding course_records steps_of
counted (stops stop) = refl
counted (applies bytes o rest) = omega (arith, counted rest)

stopped : (t : Tally) (c : Course) → course_stop c ≡ (tallied t c).stop
unfolding course_stop tallied
stopped t (stops stop) = refl
stopped t (applies bytes o rest) = stopped (runs.counted t (length bytes) o) rest

-- its records and its stop are those of the run over the whole log
-- promise
pub own-run : (l : Limits) (log : List ℕ)
    → limits_ok l ≡ true
    → length log ≤ longest_log
    → (course_records (own_course l log) ≡ (run (cold l) log (length log)).tally.read)
    × (course_stop (own_course l log) ≡ (run (cold l) log (length log)).stop)
own-run l log good short =
    let taken = run-taken (cold l) log (length log) short (cold-good l good) in
    let c = own_course l log in (
      counted c ∙ sym (run-read (cold l) log (length log) taken),
      stopped (fresh (cold l)) c ∙ sym (ap (λ r. r.stop) (is-go (cold l) log (length log) taken)),
    )

-- a log whose sheet is made is short enough, and so are the sheet and the room
produce-fine : (l : Limits) (log : List ℕ) (room : ℕ)
    → produce_code l log room ≡ accepted
    → (limits_ok l ≡ true)
    × (length log ≤ longest_log)
    × (length (own_sheet l log) ≤ longest_sheet)
    × (length (own_sheet l log) ≤ room)
unfolding produce_code
produce-fine l log room =
    let own = length (own_sheet l log) in
    let Fine : ℕ → Type 0 =
    λ code. code ≡ accepted → (limits_ok l ≡ true) × (length log ≤ longest_log) × (own ≤ longest_sheet) × (own ≤ room) in
    cond-case Fine (limits_ok l) _ bad_limits
    (λ good.
    cond-case Fine (leb (length log) longest_log) _ log_too_long
    (λ short.
    cond-case Fine (leb own longest_sheet) _ log_too_long
    (λ small.
    cond-case Fine (leb own room) accepted no_room
    (λ fits is.
    (good, leb-true (length log) longest_log short, leb-true own longest_sheet small, leb-true own room fits))
    (λ no is. absurd (omega arith)))
    (λ no is. absurd (omega arith)))
    (λ no is. absurd (omega arith)))
    (λ no is. absurd (omega arith))

-- the judge accepts our own sheet, whole, with its number of records
-- promise
pub own-accepted : (l : Limits) (log : List ℕ) (room : ℕ)
    → produce_code l log room ≡ accepted
    → judgement l (own_sheet l log) ≡ verdict_at (course_records (own_course l log)) (point_at Right (length (own_sheet l log)) AnEvent)
own-accepted l log room made =
    let fine = produce-fine l log room made in
    let own = own_row l log fine.1 in
    ours-accepted l (own_sheet l log) own.0 fine.0 fine.2 own.2
    ∙ ap (λ n. verdict_at n (point_at Right (length (own_sheet l log)) AnEvent)) (sym own.3)

-- "The answer has the bytes written, the records and the stop"
-- promise
pub own-told : (l : Limits) (log : List ℕ) (room : ℕ)
    → produce_code l log room ≡ accepted
    → ((produced l log room).code ≡ accepted)
    × ((produced l log room).written ≡ length (own_sheet l log))
    × ((produced l log room).records ≡ course_records (own_course l log))
    × ((produced l log room).stop ≡ course_stop (own_course l log))
unfolding produced
own-told l log room made = simp made (refl, refl, refl, refl)

module _ (l : Limits) (log room : List ℕ) (made : produce_code l log (length room) ≡ accepted) where
  filled : produced_room l log room ≡ own_sheet l log ++ drop (length (own_sheet l log)) room
  unfolding produced_room
  filled = simp made

  -- the sheet stands at the front of the lent room
  -- promise
  pub own_room : take (length (own_sheet l log)) (produced_room l log room) ≡ own_sheet l log
  own_room =
      ap (take (length (own_sheet l log))) filled ∙ take-append_seam (own_sheet l log) (drop (length (own_sheet l log)) room)

  -- and the bytes behind it stay
  -- promise
  pub own-later : drop (length (own_sheet l log)) (produced_room l log room) ≡ drop (length (own_sheet l log)) room
  own-later =
      ap (drop (length (own_sheet l log))) filled ∙ drop-append_seam (own_sheet l log) (drop (length (own_sheet l log)) room)
