-- The places passed do not hold the partner.
use Rattle.std.proofs.Common.{arith, refl, sym, ◌∙◌}
use Rattle.unit.proofs.FourPlaces.{four-places}
use Rattle.unit.proofs.Searches.{searched-more, searched-found, searched-none}
use Rattle.unit.proofs.state.State.place_from.Goals as goal

pub loop-i-init : goal.loop-i-init
loop-i-init c = (c.requires, refl)

pub loop-i-preserved : goal.loop-i-preserved
loop-i-preserved c = (
  omega arith,
  searched-more _ c.args.self.places _ _ c.loop-i.invariant.1 (omega (arith, four-places c.args.self c.well_formed.0))
      (sym c.holds.ensures ∙ c.if-holds.false),
)

pub returns-then-i-ge-PLACES : goal.returns-then-i-ge-PLACES
returns-then-i-ge-PLACES c =
    let four = four-places c.args.self c.well_formed.0 in
    let none = searched-none _ c.args.self.places _ _ c.loop-i.invariant.1 (omega (arith, four)) in
    omega (arith, none)

pub returns-then-holds : goal.returns-then-holds
returns-then-holds c =
    searched-found _ c.args.self.places _ _ c.loop-i.invariant.1 (omega (arith, four-places c.args.self c.well_formed.0))
    (sym c.holds.ensures ∙ c.if-holds.true)
