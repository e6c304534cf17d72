-- The kind and the head, then the places passed, then what stood there.
use Rattle.std.proofs.Common.{◌+◌, ◌*◌, ◌≤◌, ◌≡◌, length}
use Rattle.wire.proofs.Blocks.{FilledTo}
use Rattle.image.specs.Images.{place_size, place_bytes}
use Rattle.image.proofs.write.put_body.Given as goal

abbrev pub invariant-loop-i : goal.invariant-loop-i
invariant-loop-i l =
    (l.i ≤ 4)
    × (length l.s ≡ length l.initial.s)
    × (l.s ≡ FilledTo place_bytes 9 l.state.places l.initial.s l.i (9 + place_size * l.i))
