-- Taken only outside a hole.
use Rattle.std.proofs.Common.{sym, ap, ◌∙◌, true, false, not}
use Rattle.unit.proofs.Rules.{hole-is}
use Rattle.unit.proofs.state.State.enter_hole.Goals as goal

pub returns-then-marks : goal.returns-then-marks
returns-then-marks c = c.refuse.ensures ∙ sym (hole-is c.args.self true false (ap not c.if-marks.true))

pub returns : goal.returns
returns c = c.note.ensures ∙ sym (hole-is c.args.self true true (ap not c.if-marks.false))
