-- No action is counted.
use Rattle.unit.specs.Forms.{stepped}
use Rattle.unit.proofs.answer.Stepped.refused.Goals as goal

pub returns : goal.returns
unfolding stepped
returns c = λ i. record { code = c.number.ensures i; state = c.args.state; count = 0; standing = c.args.standing }
