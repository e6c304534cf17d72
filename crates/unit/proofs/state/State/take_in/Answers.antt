-- The place is held before its actions are sent.
use Rattle.unit.proofs.Settling.{carried-take}
use Rattle.unit.proofs.state.State.take_in.Goals as goal

pub returns : goal.returns
returns c = rw c.held.ensures (carried-take c.args.self _ _ _ _ _)
