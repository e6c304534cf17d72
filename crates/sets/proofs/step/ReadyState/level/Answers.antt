-- The level is stored, and manual 1 sets its mark.
use Rattle.std.proofs.Common.{refl, ap, ◌∙◌}
use Rattle.sets.proofs.StepLaws.{answering, level-is}
use Rattle.sets.proofs.step.ReadyState.level.Goals as goal

pub returns : goal.returns
returns c = c.note.ensures ∙ ap answering (level-is c.args.self.state c.args.level c.args.manual _ refl)
