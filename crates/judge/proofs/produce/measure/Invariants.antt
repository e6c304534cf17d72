-- The records passed are counted.
use Rattle.std.proofs.Common.{◌-◌, length}
use Rattle.judge.proofs.Measuring.{Measuring}
use Rattle.judge.proofs.produce.measure.Given as goal

abbrev pub invariant-loop-stop : goal.invariant-loop-stop
invariant-loop-stop l = Measuring l.log l.fn.start l.state l.at l.size l.records

abbrev pub decreases-loop-stop : goal.decreases-loop-stop
decreases-loop-stop l = length l.log - l.at
