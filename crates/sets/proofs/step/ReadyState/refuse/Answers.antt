-- A refusal with no phase.
use Rattle.std.proofs.Common.{◌∙◌}
use Rattle.wire.specs.Refusals.{number}
use Rattle.sets.proofs.StepLaws.{refused-held}
use Rattle.sets.proofs.step.ReadyState.refuse.Goals as goal

pub returns : goal.returns
returns c = c.refused.ensures ∙ refused-held c.args.self.state (number c.args.refusal) 0 c.args.self.is_ready
