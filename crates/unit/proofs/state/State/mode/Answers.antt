-- The mark is set.
use Rattle.unit.specs.Steps.{step}
use Rattle.unit.proofs.state.State.mode.Goals as goal

pub returns : goal.returns
unfolding step
returns c = c.note.ensures
