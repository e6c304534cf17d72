-- The places passed are mended.
use Rattle.std.proofs.Common.{◌≡◌, ℕ, ◌+◌, ◌*◌, ◌≤◌, List, length, drop}
use Rattle.unit.specs.States.{place_count}
use Rattle.image.specs.Images.{size_a2, place_size, state_in}
use Rattle.image.specs.Bodies.{places_at}
use Rattle.image.specs.Rescue.{most_fields}
use Rattle.image.specs.Mends.{MendedTo}
use Rattle.image.proofs.rescue.mend_places.Given as goal

abbrev pub invariant-loop-i : goal.invariant-loop-i
invariant-loop-i l =
    (l.i ≤ place_count)
    × ((length l.image ≡ size_a2)
    × ((length l.fields ≡ most_fields)
    × ((l.listed ≤ 6 + l.i)
    × ((old : List ℕ)
    → length old ≡ size_a2
    → l.limits ≡ (state_in (drop 1 old)).limits
    → MendedTo old 6 places_at l.fn.image l.fn.fields l.fn.count
    → MendedTo old (6 + l.i) (places_at + place_size * l.i) l.image l.fields l.listed))))
