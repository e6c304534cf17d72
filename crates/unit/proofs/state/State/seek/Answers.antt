-- The partner is looked for first, then a free place.
use Rattle.std.proofs.Common.{arith, ap, ◌∙◌}
use Rattle.place.specs.Places.{held_phase}
use Rattle.unit.proofs.FourPlaces.{four-places}
use Rattle.unit.proofs.Searches.{seek-at, seek_vacant, seek-full}
use Rattle.unit.proofs.state.State.seek.Goals as goal

pub returns-then-held-lt-PLACES : goal.returns-then-held-lt-PLACES
returns-then-held-lt-PLACES c =
    seek-at c.args.partner c.args.self.places _ c.place_from-held.ensures _ (omega (arith, four-places c.args.self c.well_formed.0))
    (c.held_phase.ensures ∙ ap held_phase c.place_at-place.ensures)

pub returns-then-free-lt-PLACES : goal.returns-then-free-lt-PLACES
returns-then-free-lt-PLACES c =
    let four = four-places c.args.self c.well_formed.0 in
    seek_vacant c.args.partner c.args.self.places _ c.place_from-held.ensures (omega (arith, four)) _
    c.lowest_free-free.ensures (omega (arith, four))

pub returns : goal.returns
returns c =
    let four = four-places c.args.self c.well_formed.0 in
    seek-full c.args.partner c.args.self.places _ c.place_from-held.ensures (omega (arith, four)) _
    c.lowest_free-free.ensures (omega (arith, four))
