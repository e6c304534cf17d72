-- The end of the log, then of the budget, then what stands there.
use Rattle.std.proofs.Common.{◌∙◌}
use Rattle.unit.proofs.Runs.Fronts.{front-used, front-left}
use Rattle.unit.proofs.run.Rest.front.Goals as goal

pub returns-then-self-budget : goal.returns-then-self-budget
returns-then-self-budget c =
    front-used c.args.self.read c.args.budget c.args.log.now c.args.self.offset c.if-at-log.false
    c.if-self-budget.true

pub returns : goal.returns
returns c =
    c.front_at.ensures
    ∙ front-left c.args.self.read c.args.budget c.args.log.now c.args.self.offset c.if-at-log.false
    c.if-self-budget.false
