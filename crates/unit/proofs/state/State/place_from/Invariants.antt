-- The places passed do not hold the partner.
use Rattle.std.proofs.Common.{◌-◌, ◌≤◌}
use Rattle.place.specs.Places.{holds}
use Rattle.unit.proofs.Searches.{SearchedTo}
use Rattle.unit.proofs.state.State.place_from.Given as goal

abbrev pub invariant-loop-i : goal.invariant-loop-i
invariant-loop-i l = (l.i ≤ 4) × SearchedTo (holds l.partner) l.self.places l.from l.i

abbrev pub decreases-loop-i : goal.decreases-loop-i
decreases-loop-i l = 4 - l.i
