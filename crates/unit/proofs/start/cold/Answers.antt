-- Nothing is held.
use Rattle.std.proofs.Common.{refl}
use Rattle.unit.specs.States.{cold}
use Rattle.unit.proofs.start.cold.Goals as goal

pub returns : goal.returns
unfolding cold
returns c = refl
