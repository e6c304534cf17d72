-- The level is stored, and manual 1 sets its mark.
use Rattle.unit.specs.Steps.{step}
use Rattle.unit.proofs.state.State.level.Goals as goal

pub returns : goal.returns
unfolding step
returns c = rw (← c.or-marked.ensures) c.note.ensures
