-- Number 0, a mark that is not there whole, and one that is.
use Rattle.std.proofs.Common.{◌∙◌}
use Rattle.marks.proofs.Begun.{begun_first, begun-missing, begun-there}
use Rattle.marks.proofs.mark.begun_at.Goals as goal

pub returns-then-number-eq0 : goal.returns-then-number-eq0
returns-then-number-eq0 c =
    begun_first c.args.start c.args.log.now c.args.marks.now c.args.number c.args.missing c.if-number-eq0.true

pub returns-then-marks-number : goal.returns-then-marks-number
returns-then-marks-number c =
    c.refused.ensures
    ∙ begun-missing c.args.start c.args.log.now c.args.marks.now c.args.number c.args.missing c.if-number-eq0.false
    c.if-marks-number.true

pub returns : goal.returns
returns c =
    c.mark_in.ensures
    ∙ begun-there c.args.start c.args.log.now c.args.marks.now c.args.number c.args.missing c.if-number-eq0.false
    c.if-marks-number.false
