-- The box's cold start, nobody in any set.
use Rattle.sets.proofs.SixLaws.{start-sets}
use Rattle.sets.proofs.start.set_start.Goals as goal

pub returns : goal.returns
returns c = start-sets c.args.limits _ _ c.cold_start-started.ensures c.none.ensures
