-- First the closings, then the place and the actions.
use Rattle.std.proofs.Common.{ap, ◌∙◌, ◌++◌}
use Rattle.unit.specs.Steps.{with_places}
use Rattle.unit.specs.Forms.{listed, packed}
use Rattle.unit.specs.Changes.{push_all, given, sent_for, settled}
use Rattle.unit.proofs.Rules.{push-append}
use Rattle.unit.proofs.Closings.{sent-closings}
use Rattle.unit.proofs.Settling.{packed-made}
use Rattle.unit.proofs.state.State.close_and_settle.Goals as goal

pub returns : goal.returns
unfolding packed
returns c =
    let self = c.args.self in
    let change = c.args.change in
    let p = change.partner in
    let own = given change.first ++ given change.second in
    packed-made self change c.requires _ _ _ c.done.ensures
    (c.settle.ensures
    ∙ ap (λ s. settled s change) (c.with_places-state.ensures ∙ ap (with_places self) c.close_places-closed.ensures.0))
    (c.send_number-sent.ensures
    ∙ ap (λ a. push_all a p (given change.second)) c.send_number.ensures
    ∙ push-append _ p (given change.first) (given change.second)
    ∙ ap (λ a. push_all a p own) c.of.ensures
    ∙ ap (λ l. push_all (listed l) p own)
    (ap (sent_for self.places) c.close_places-closed.ensures.1 ∙ sent-closings change.which self.places))
