-- The stops by their numbers, and what taking a record answers, told in the numbers of document 01.
-- Defines: stop_number, told_front, told_taken.
use Rattle.std.specs.Prelude.{ℕ, Result, Ok, Err}
use Rattle.wire.specs.Refusals.{number}
use Rattle.wire.specs.declared.refusal.Refusal.{Refusal}
use Rattle.record.specs.Readings.{told_reading}
use Rattle.record.specs.Takes.{nothing_left, budget_used, record_short, kind_unknown, Taken, Whole, Stopped, Overlong}
use Rattle.record.specs.declared.stop.Stop.{Stop}
use Rattle.record.specs.declared.stop.Stop.TheVariants.{NothingLeft, BudgetUsed, RecordShort, KindUnknown}
use Rattle.record.specs.declared.take.Front as front

-- "nothing left, stop 0; budget used up, stop 1; kind unknown, stop 3; fewer bytes than the kind's length, stop 2"
abbrev pub stop_number : Stop → ℕ
stop_number NothingLeft = nothing_left
stop_number BudgetUsed = budget_used
stop_number RecordShort = record_short
stop_number KindUnknown = kind_unknown

-- what stands at a place of a log
abbrev pub told_front : front.Front → Taken
told_front (front.TheVariants.Next k r) = Whole k (told_reading r)
told_front (front.TheVariants.Stop stop) = Stopped (stop_number stop)

-- what taking answers
abbrev pub told_taken : Result front.Front Refusal → Taken
told_taken (Ok f) = told_front f
told_taken (Err r) = Overlong (number r)
