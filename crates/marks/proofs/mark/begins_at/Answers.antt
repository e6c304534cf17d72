-- The refusals in their order; then the mark.
use Rattle.std.proofs.Common.{ap, ◌∙◌}
use Rattle.marks.specs.Marks.{begun_refused}
use Rattle.marks.proofs.Starting.{begins-limits, begins-log, begins-there}
use Rattle.marks.proofs.mark.begins_at.Goals as goal

pub returns-then-refusal-ne-ACCEPTED : goal.returns-then-refusal-ne-ACCEPTED
returns-then-refusal-ne-ACCEPTED c =
    c.refused.ensures
    ∙ begins-limits c.args.limits c.args.log.now c.args.marks.now c.args.number c.args.missing _ c.cold_start-started.ensures
    c.if-refusal-ne-ACCEPTED.true

pub returns-then-log-gt-LONGEST_LOG : goal.returns-then-log-gt-LONGEST_LOG
returns-then-log-gt-LONGEST_LOG c =
    c.refused-then-log-gt-LONGEST_LOG.ensures
    ∙ ap begun_refused c.number.ensures
    ∙ begins-log c.args.limits c.args.log.now c.args.marks.now c.args.number c.args.missing _ c.cold_start-started.ensures
    c.if-refusal-ne-ACCEPTED.false c.if-log-gt-LONGEST_LOG.true

pub returns : goal.returns
returns c =
    c.begun_at.ensures
    ∙ begins-there c.args.limits c.args.log.now c.args.marks.now c.args.number c.args.missing _ c.cold_start-started.ensures
    c.if-refusal-ne-ACCEPTED.false c.if-log-gt-LONGEST_LOG.false
