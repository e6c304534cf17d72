-- Every place is closed.
use Rattle.unit.specs.Steps.{step}
use Rattle.unit.proofs.state.State.end_all.Goals as goal

pub returns : goal.returns
unfolding step
returns c = c.close_all.ensures
