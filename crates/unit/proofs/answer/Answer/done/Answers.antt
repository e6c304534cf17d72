-- The actions as they are.
use Rattle.wire.specs.Refusals.{accepted}
use Rattle.unit.specs.Forms.{packed}
use Rattle.unit.proofs.answer.Answer.done.Goals as goal

pub returns : goal.returns
unfolding packed
returns c =
    λ acts is i.
    record { code = accepted; state = c.args.state; actions = is i; standing = c.nowhere.ensures i }
