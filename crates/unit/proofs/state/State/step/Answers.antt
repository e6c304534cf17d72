-- What the event changes is carried out or refused.
use Rattle.std.proofs.Common.{sym, ap, ◌∙◌}
use Rattle.unit.specs.Forms.{packed}
use Rattle.unit.proofs.Settling.{carried-refused, carried-made, made-few}
use Rattle.unit.proofs.FourPlaces.{four-places}
use Rattle.unit.proofs.state.State.step.Goals as goal

pub make-requires : goal.make-requires
make-requires c =
    let a = c.args in
    let change = c.change-change.result in
    let made-is = sym (carried-made a.self change c.in-None.is) ∙ c.change-change.ensures in
    made-few a.self change (four-places a.self c.well_formed.0) a.event made-is

pub returns-in-None : goal.returns-in-None
returns-in-None c =
    let made-is = sym (carried-made c.args.self c.change-change.result c.in-None.is) ∙ c.change-change.ensures in
    c.make.ensures ∙ ap packed made-is

pub returns-in-Some : goal.returns-in-Some
returns-in-Some c =
    let numbered = carried-refused c.args.self c.change-change.result _ c.in-Some.is in
    c.refused_at.ensures ∙ ap packed (sym numbered ∙ c.change-change.ensures)
