-- The move, what is then last known, and the actions.
use Rattle.std.proofs.Common.{◌∙◌}
use Rattle.sets.proofs.Packing.{ready-tidy, ready-size}
use Rattle.sets.proofs.StepLaws.{recalled-held}
use Rattle.sets.proofs.step.ReadyState.carry_out.Goals as goal

pub moved-requires : goal.moved-requires
moved-requires c =
    let self = c.args.self.state in
    (ready-tidy self c.args.self.is_ready, ready-size self c.args.self.is_ready, c.requires)

pub returns : goal.returns
returns c =
    c.done.ensures _ c.sent_in.ensures ∙ recalled-held c.args.self.state _ _ _ _ c.moved.ensures c.recalled_in.ensures
