-- A refusal on the way to the mark; then the run from the mark to the record.
use Rattle.std.proofs.Common.{◌/◌, ◌∙◌, arith}
use Rattle.marks.specs.Marks.{mark_every}
use Rattle.marks.specs.Lookup.{no_mark}
use Rattle.marks.proofs.Starting.{begins-good, begins-fine}
use Rattle.marks.proofs.Looking.{first-refused, record-inside, stop-refused, record-found}
use Rattle.marks.proofs.lookup.look_up.Goals as goal

pub returns-then-code-ne-ACCEPTED : goal.returns-then-code-ne-ACCEPTED
returns-then-code-ne-ACCEPTED c =
    c.refused.ensures
    ∙ first-refused c.args.limits c.args.log.now c.args.marks.now c.args.n _ c.begins_at-begun.ensures
    c.if-code-ne-ACCEPTED.true

pub slice_bounds-run-count : goal.slice_bounds-run-count
slice_bounds-run-count c =
    (begins-fine c.args.limits c.args.log.now c.args.marks.now (c.args.n / mark_every) no_mark _ c.begins_at-begun.ensures).0

pub slice_bounds-run-start : goal.slice_bounds-run-start
slice_bounds-run-start c =
    (begins-fine c.args.limits c.args.log.now c.args.marks.now (c.args.n / mark_every) no_mark _ c.begins_at-begun.ensures).0

pub returns-then-tally-steps : goal.returns-then-tally-steps
returns-then-tally-steps c =
    c.refused-then-tally-steps.ensures
    ∙ stop-refused c.args.limits c.args.log.now c.args.marks.now c.args.n _ c.begins_at-begun.ensures
    c.if-code-ne-ACCEPTED.false _ c.run-report.ensures c.if-tally-steps.true

pub overflow_add-result : goal.overflow_add-result
overflow_add-result c =
    let good =
    begins-good c.args.limits c.args.log.now c.args.marks.now (c.args.n / mark_every) no_mark _ c.begins_at-begun.ensures
    c.if-code-ne-ACCEPTED.false in
    let inside =
    record-inside c.args.limits c.args.log.now c.args.marks.now c.args.n _ c.begins_at-begun.ensures c.if-code-ne-ACCEPTED.false _
    c.run-report.ensures in
    omega (arith, inside, good.0)

pub returns : goal.returns
returns c =
    record-found c.args.limits c.args.log.now c.args.marks.now c.args.n _ c.begins_at-begun.ensures c.if-code-ne-ACCEPTED.false _
    c.run-report.ensures c.if-tally-steps.false
