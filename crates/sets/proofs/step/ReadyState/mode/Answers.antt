-- The mark is set.
use Rattle.std.proofs.Common.{ap, ◌∙◌}
use Rattle.sets.proofs.StepLaws.{answering, mode-is}
use Rattle.sets.proofs.step.ReadyState.mode.Goals as goal

pub returns : goal.returns
returns c = c.note.ensures ∙ ap answering (mode-is c.args.self.state)
