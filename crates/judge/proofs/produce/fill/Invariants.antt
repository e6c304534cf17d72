-- The records passed are written with what follows them.
use Rattle.std.proofs.Common.{◌-◌, length}
use Rattle.judge.proofs.Filling.{Filling}
use Rattle.judge.proofs.produce.fill.Given as goal

abbrev pub invariant-loop-length : goal.invariant-loop-length
invariant-loop-length l = Filling l.log l.fn.room l.fn.start l.room l.state l.at l.used

abbrev pub decreases-loop-length : goal.decreases-loop-length
decreases-loop-length l = length l.log - l.at
