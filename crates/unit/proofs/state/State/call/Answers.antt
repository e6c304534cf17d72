-- An RBC takes the lowest free place.
use Rattle.std.proofs.Common.{refl, sym, ap, ◌∙◌, true, false, [], ◌∷◌}
use Rattle.place.specs.Table.{established}
use Rattle.unit.specs.Steps.{act, set_at}
use Rattle.unit.specs.Changes.{given}
use Rattle.unit.proofs.Rules.{call-is}
use Rattle.unit.proofs.state.State.call.Goals as goal

pub returns-in-At : goal.returns-in-At
returns-in-At c =
    let a = c.args in
    let rbc = sym c.is_rbc.ensures ∙ c.if-is_rbc.true in
    c.refuse_at.ensures ∙ sym (call-is a.self a.partner true _ rbc (sym c.in-At.ensures))

pub returns-in-Vacant : goal.returns-in-Vacant
unfolding given
returns-in-Vacant c =
    let a = c.args in
    let rbc = sym c.is_rbc.ensures ∙ c.if-is_rbc.true in
    let alone = act a.partner established ∷ [] in
    c.set_place.ensures
    ∙ ap (λ place. set_at a.self c.in-Vacant.at place alone) c.held-place.ensures
    ∙ sym (call-is a.self a.partner true _ rbc (sym c.in-Vacant.ensures))

pub returns-in-Full : goal.returns-in-Full
returns-in-Full c =
    let a = c.args in
    let rbc = sym c.is_rbc.ensures ∙ c.if-is_rbc.true in
    c.refuse.ensures ∙ sym (call-is a.self a.partner true _ rbc (sym c.in-Full.ensures))

pub returns-else-is_rbc : goal.returns-else-is_rbc
returns-else-is_rbc c =
    let a = c.args in
    let riu = sym c.is_rbc.ensures ∙ c.if-is_rbc.false in
    c.refuse-else-is_rbc.ensures ∙ sym (call-is a.self a.partner false _ riu refl)
