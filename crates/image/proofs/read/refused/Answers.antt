-- The cold state with X from 0 to 0.
use Rattle.unit.specs.States.{cold_start}
use Rattle.image.proofs.read.refused.Goals as goal

pub returns : goal.returns
unfolding cold_start
returns c = λ i. record { code = c.number.ensures i; state = (c.cold_start-start.ensures i).state }
