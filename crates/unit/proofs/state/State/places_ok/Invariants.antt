-- The places passed are sound, and their partners have no higher place.
use Rattle.std.proofs.Common.{◌≤◌, ◌≡◌, drop}
use Rattle.unit.specs.States.{places_ok}
use Rattle.unit.proofs.state.State.places_ok.Given as goal

abbrev pub invariant-loop-i : goal.invariant-loop-i
invariant-loop-i l = (l.i ≤ 4) × (places_ok l.self.limits l.self.places ≡ places_ok l.self.limits (drop l.i l.self.places))
