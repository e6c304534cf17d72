-- The closing, then the partner, with its action last.
use Rattle.std.proofs.Common.{arith, ◌∙◌}
use Rattle.place.specs.Table.{request, first_try}
use Rattle.place.specs.declared.place.Direction.TheVariants.{Outgoing}
use Rattle.sets.specs.SixSets.{unpacked_six}
use Rattle.sets.specs.SetSteps.{new_member}
use Rattle.sets.specs.declared.names.SetName.TheVariants.{Calling}
use Rattle.sets.proofs.SixLaws.{closed-size, sent-size}
use Rattle.sets.proofs.SentLaws.{listed-room, listed-sent}
use Rattle.sets.proofs.StepLaws.{packed-room, packed-enter, ready-few, joined-held}
use Rattle.sets.proofs.step.ReadyState.join.Goals as goal

pub closed-closed-requires : goal.closed-closed-requires
closed-closed-requires c = ready-few c.args.self.state c.args.self.is_ready

pub enter-requires : goal.enter-requires
enter-requires c =
    let fewer = closed-size c.displaced-which.result (unpacked_six c.args.self.state.sets) in
    packed-room _ _ c.closed-closed.ensures (omega (arith, c.requires))

pub closing_actions-closings-requires : goal.closing_actions-closings-requires
closing_actions-closings-requires c = ready-few c.args.self.state c.args.self.is_ready

pub send-requires : goal.send-requires
send-requires c =
    let fewer = sent-size c.displaced-which.result (unpacked_six c.args.self.state.sets) in
    listed-room _ _ c.closing_actions-closings.ensures (omega (arith, c.requires))

pub returns : goal.returns
returns c =
    let a = c.args in
    let six = unpacked_six a.self.state.sets in
    let which = c.displaced-which.result in
    let caller = new_member Outgoing first_try a.partner in
    let few = sent-size which six in
    let fewer = closed-size which six in
    c.done.ensures _ (c.send.ensures ∙ listed-sent _ _ a.partner request c.closing_actions-closings.ensures (omega (arith, c.requires)))
    ∙ joined-held a.self.state a.partner a.accepting a.cause which _ _ c.displaced-which.ensures c.spend.ensures
    (c.enter.ensures ∙ packed-enter _ _ Calling caller c.closed-closed.ensures (omega (arith, c.requires)))
