-- The places passed are held.
use Rattle.std.proofs.Common.{◌≤◌}
use Rattle.place.specs.Places.{is_free}
use Rattle.unit.proofs.Searches.{SearchedTo}
use Rattle.shunter.proofs.state.lowest_free.Given as goal

abbrev pub invariant-loop-at : goal.invariant-loop-at
invariant-loop-at l = (l.at ≤ 4) × SearchedTo is_free l.state.places 0 l.at
