-- The second arm is the second row of the table of kinds.
use Rattle.record.proofs.ByKind.{fields_at}
use Rattle.record.proofs.read.fields_of.Goals as goal

pub returns-in-2 : goal.returns-in-2
returns-in-2 c = fields_at c.args.s.now c.args.kind 2 _ c.in-2.is c.mission_body.ensures
