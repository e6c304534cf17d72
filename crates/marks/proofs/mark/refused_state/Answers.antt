-- Limits with the lowest over the highest are refused.
use Rattle.std.proofs.Common.{ap}
use Rattle.unit.specs.States.{cold_start}
use Rattle.unit.specs.declared.start.Started.{Started}
use Rattle.marks.proofs.mark.refused_state.Goals as goal

pub returns : goal.returns
unfolding cold_start
returns c = ap (λ (x : Started). x.state) c.cold_start-started.ensures
