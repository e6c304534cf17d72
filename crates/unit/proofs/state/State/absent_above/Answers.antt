-- The partner is looked for from the next place on.
use Rattle.std.proofs.Common.{arith, ap, sym, ◌∙◌}
use Rattle.std.proofs.Math.Dec.{leb}
use Rattle.unit.proofs.FourPlaces.{four-places}
use Rattle.unit.proofs.Tested.{absent_by}
use Rattle.unit.proofs.state.State.absent_above.Goals as goal

pub returns-in-Held : goal.returns-in-Held
returns-in-Held c =
    let four = four-places c.args.self c.well_formed.0 in
    sym (ap (λ k. leb k c.place_from.result) four)
    ∙ absent_by c.args.self.places _ _ _ _ _ _ c.in-Held.is c.place_from.ensures (omega (arith, four))
