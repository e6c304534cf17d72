-- Every member leaves or terminates.
use Rattle.std.proofs.Common.{◌∙◌}
use Rattle.sets.proofs.StepLaws.{ready-few, closed-held}
use Rattle.sets.proofs.step.ReadyState.close_all.Goals as goal

pub closed-requires : goal.closed-requires
closed-requires c = ready-few c.args.self.state c.args.self.is_ready

pub closing_actions-requires : goal.closing_actions-requires
closing_actions-requires c = ready-few c.args.self.state c.args.self.is_ready

pub returns : goal.returns
returns c =
    c.done.ensures _ c.closing_actions.ensures ∙ closed-held c.args.self.state c.args.train _ c.closed.ensures
