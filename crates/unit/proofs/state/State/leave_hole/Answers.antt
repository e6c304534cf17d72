-- Taken only inside a hole.
use Rattle.std.proofs.Common.{sym, ◌∙◌, true, false}
use Rattle.unit.proofs.Rules.{hole-is}
use Rattle.unit.proofs.state.State.leave_hole.Goals as goal

pub returns-then-marks : goal.returns-then-marks
returns-then-marks c = c.note.ensures ∙ sym (hole-is c.args.self false true c.if-marks.true)

pub returns : goal.returns
returns c = c.refuse.ensures ∙ sym (hole-is c.args.self false false c.if-marks.false)
