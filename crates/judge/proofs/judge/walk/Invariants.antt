-- The records passed stand right, with all that follows them.
use Rattle.std.proofs.Common.{◌-◌, length}
use Rattle.judge.proofs.Walks.{Judged}
use Rattle.judge.proofs.judge.walk.Given as goal

abbrev pub invariant-loop-stop : goal.invariant-loop-stop
invariant-loop-stop l = Judged l.sheet l.fn.start l.from l.state l.at l.records

abbrev pub decreases-loop-stop : goal.decreases-loop-stop
decreases-loop-stop l = length l.sheet - l.at
