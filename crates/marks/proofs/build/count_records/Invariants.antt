-- The records passed are counted.
use Rattle.std.proofs.Common.{length, ◌-◌}
use Rattle.marks.proofs.Counting.{Counting}
use Rattle.marks.proofs.build.count_records.Given as goal

abbrev pub invariant-loop-at : goal.invariant-loop-at
invariant-loop-at l = Counting l.log l.from l.at l.records

abbrev pub decreases-loop-at : goal.decreases-loop-at
decreases-loop-at l = length l.log - l.at
