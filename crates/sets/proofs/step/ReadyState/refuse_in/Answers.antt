-- A refusal with the phase of the set.
use Rattle.std.proofs.Common.{ap, ◌∙◌}
use Rattle.wire.specs.Refusals.{number}
use Rattle.sets.specs.SetSteps.{set_refused_at}
use Rattle.sets.specs.OnSets.{set_listed}
use Rattle.sets.proofs.StepLaws.{refused-held}
use Rattle.sets.proofs.step.ReadyState.refuse_in.Goals as goal

pub returns : goal.returns
returns c =
    let a = c.args in
    c.refused.ensures
    ∙ ap (λ phase. set_listed (set_refused_at (number a.refusal) phase a.self.state)) c.phase.ensures
    ∙ refused-held a.self.state (number a.refusal) _ c.args.self.is_ready
