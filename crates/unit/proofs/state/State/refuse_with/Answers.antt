-- The train and the marks as they are.
use Rattle.std.proofs.Common.{◌∙◌, ap, refl}
use Rattle.unit.specs.Changes.{noted, carried}
use Rattle.unit.proofs.Settling.{carried-refused}
use Rattle.unit.proofs.state.State.refuse_with.Goals as goal

pub returns : goal.returns
unfolding noted
returns c = ap (carried c.args.self) c.noted.ensures ∙ carried-refused c.args.self _ c.args.refusal refl
