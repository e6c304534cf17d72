-- The places passed are spelt.
use Rattle.std.proofs.Common.{◌-◌, ◌+◌, ◌*◌, ◌≤◌, ◌≡◌, drop}
use Rattle.unit.specs.States.{place_count}
use Rattle.image.specs.Images.{place_size, head_size}
use Rattle.image.proofs.Spelt.{PlacesSpelt}
use Rattle.image.proofs.read.places_spelt.Given as goal

abbrev pub invariant-loop-i : goal.invariant-loop-i
invariant-loop-i l =
    (l.i ≤ place_count)
    × (PlacesSpelt place_count (drop head_size l.body) ≡ PlacesSpelt (place_count - l.i) (drop (head_size + place_size * l.i) l.body))
