-- The RBC enters the incoming sessions, with its one action.
use Rattle.std.proofs.Common.{[], ◌∷◌, ap, ◌∙◌}
use Rattle.place.specs.Table.{established}
use Rattle.unit.specs.Lasts.{recalled}
use Rattle.unit.specs.Steps.{act}
use Rattle.sets.proofs.Packing.{ready-tidy}
use Rattle.sets.proofs.SentLaws.{none-room, none-sent}
use Rattle.sets.proofs.StepLaws.{answering, recalled-held, received_is}
use Rattle.sets.proofs.step.ReadyState.receive.Goals as goal

pub enter-requires : goal.enter-requires
enter-requires c = (ready-tidy c.args.self.state c.args.self.is_ready, c.requires)

pub send-requires : goal.send-requires
send-requires c = none-room _ c.no_actions.ensures

pub returns : goal.returns
unfolding recalled
returns c =
    let a = c.args in
    let alone = none-sent _ a.partner established c.no_actions.ensures in
    c.done.ensures (act a.partner established ∷ []) (c.send.ensures ∙ alone)
    ∙ recalled-held a.self.state _ _ _ _ c.enter.ensures c.recall.ensures
    ∙ ap answering (received_is a.self.state a.partner)
