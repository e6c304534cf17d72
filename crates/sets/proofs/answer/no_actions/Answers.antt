-- Four zeros, none of them counted.
use Rattle.std.proofs.Common.{refl}
use Rattle.unit.specs.Forms.{listed}
use Rattle.sets.proofs.answer.no_actions.Goals as goal

pub returns : goal.returns
unfolding listed
returns c = refl
