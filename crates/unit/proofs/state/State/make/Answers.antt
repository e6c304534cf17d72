-- With closings or without.
use Rattle.std.proofs.Common.{sym, ap, ◌∙◌, ◌++◌}
use Rattle.unit.specs.Changes.{push_all, given}
use Rattle.unit.proofs.Rules.{push-append}
use Rattle.unit.proofs.Settling.{packed-unclosed}
use Rattle.unit.proofs.state.State.make.Goals as goal

pub returns : goal.returns
returns c =
    let change = c.args.change in
    let p = change.partner in
    packed-unclosed c.args.self change c.requires _ _ _ c.done.ensures
    (sym c.closes_any.ensures ∙ c.if-closes_any.false)
    c.settle.ensures
    (c.send_number-sent.ensures
    ∙ ap (λ a. push_all a p (given change.second)) c.send_number.ensures
    ∙ push-append _ p (given change.first) (given change.second)
    ∙ ap (λ a. push_all a p (given change.first ++ given change.second)) c.none.ensures)
