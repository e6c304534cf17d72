-- The cause, then the partner that is meant.
use Rattle.std.proofs.Common.{refl, sym, ap, ◌∙◌, true, false}
use Rattle.sets.proofs.StepLaws.{answering, order_is}
use Rattle.sets.proofs.step.ReadyState.order.Goals as goal

pub returns-then-in_force : goal.returns-then-in_force
returns-then-in_force c =
    let a = c.args in
    let force = sym c.in_force.ensures ∙ c.if-in_force.true in
    c.order_to.ensures ∙ ap answering (order_is a.self.state a.partner _ a.accepting a.cause true force c.meant.ensures)

pub returns-else-in_force : goal.returns-else-in_force
returns-else-in_force c =
    let a = c.args in
    let out = sym c.in_force.ensures ∙ c.if-in_force.false in
    c.refuse.ensures ∙ ap answering (order_is a.self.state a.partner _ a.accepting a.cause false out refl)
