-- Two numbers more are counted.
use Rattle.std.proofs.Common.{arith}
use Rattle.unit.proofs.Runs.Tallies.{below_more, added-below}
use Rattle.unit.proofs.run.Rest.accept.Goals as goal

pub add-requires-2 : goal.add-requires-2
add-requires-2 c = rw c.add.ensures (below_more (omega arith) (added-below _ _ _ c.requires.2))
