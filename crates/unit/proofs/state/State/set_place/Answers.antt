-- No place is closed, and each number may make an RBC known.
use Rattle.unit.proofs.Settling.{carried-set}
use Rattle.unit.proofs.state.State.set_place.Goals as goal

pub returns : goal.returns
returns c = carried-set c.args.self _ _ _ _ _ _ _ _ c.recall.ensures c.recall-2.ensures
