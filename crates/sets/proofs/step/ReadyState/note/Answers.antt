-- The train and the marks alone.
use Rattle.std.proofs.Common.{[], ◌∙◌}
use Rattle.sets.proofs.StepLaws.{noted-held}
use Rattle.sets.proofs.step.ReadyState.note.Goals as goal

pub returns : goal.returns
returns c = c.done.ensures [] c.no_actions.ensures ∙ noted-held c.args.self.state c.args.train c.args.marks c.args.self.is_ready
