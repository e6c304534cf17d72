-- What the event changes is carried out or refused.
use Rattle.std.proofs.Common.{refl, sym, ap, ◌∙◌}
use Rattle.unit.specs.Forms.{stepped}
use Rattle.unit.specs.OnRecords.{written}
use Rattle.unit.proofs.Settling.{carried-refused, carried-made, made-few, written-refused}
use Rattle.unit.proofs.FourPlaces.{four-places}
use Rattle.unit.proofs.state.State.write_step.Goals as goal

pub write_change-requires : goal.write_change-requires
write_change-requires c =
    let self = c.args.self in
    let change = c.change-change.result in
    let four = four-places self c.well_formed.0 in
    let is = sym (carried-made self change c.in-None.is) ∙ c.change-change.ensures in
    (made-few self change four c.args.event is, c.requires)

pub returns-in-None : goal.returns-in-None
returns-in-None c =
    let is = sym (carried-made c.args.self c.change-change.result c.in-None.is) ∙ c.change-change.ensures in
    let wrote = c.write_change.ensures in
    (wrote.0 ∙ ap stepped is, wrote.1 ∙ ap (λ o. written o.actions c.args.s.now) is)

pub returns-in-Some : goal.returns-in-Some
returns-in-Some c =
    let numbered = carried-refused c.args.self c.change-change.result _ c.in-Some.is in
    written-refused _ _ _ _ _ c.args.self c.args.s.now c.refused.ensures refl (sym c.change-change.ensures ∙ numbered)
