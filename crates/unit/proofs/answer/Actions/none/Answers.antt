-- Four zeros, none of them counted.
use Rattle.std.proofs.Common.{refl}
use Rattle.unit.specs.Forms.{listed}
use Rattle.unit.proofs.answer.Actions.none.Goals as goal

pub returns : goal.returns
unfolding listed
returns c = refl
