-- The row of the phase, the column of the event.
use Rattle.place.proofs.Drawn.{draws-turn}
use Rattle.place.proofs.phase.Phase.choice.Goals as goal

pub returns : goal.returns
returns c = draws-turn c.args.self c.args.event _ _ c.cell_at.result c.row.ensures c.column_of.ensures c.cell_at.ensures
