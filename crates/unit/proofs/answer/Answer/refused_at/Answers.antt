-- No action.
use Rattle.unit.specs.Forms.{packed}
use Rattle.unit.proofs.answer.Answer.refused_at.Goals as goal

pub returns : goal.returns
unfolding packed
returns c = λ i. record { code = c.number.ensures i; state = c.args.state; actions = c.none.ensures i; standing = c.args.standing }
