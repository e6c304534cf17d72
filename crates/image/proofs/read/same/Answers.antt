-- Slices are compared byte after byte.
use Rattle.std.proofs.Common.{◌∙◌}
use Rattle.image.proofs.Taking.{same-pointwise}
use Rattle.image.proofs.read.same.Goals as goal

pub returns : goal.returns
returns c = c.eq.ensures ∙ same-pointwise c.args.a.now c.args.b.now
