-- The places passed hold others.
use Rattle.std.proofs.Common.{◌≡◌, ℕ, ◌+◌, ◌*◌, ◌-◌, drop}
use Rattle.record.specs.Partners.{partner_at}
use Rattle.image.specs.Images.{place_size}
use Rattle.image.specs.Bodies.{places_at}
use Rattle.image.proofs.Keeping.{Lower}
use Rattle.image.proofs.rescue.repeats.Given as goal

abbrev pub invariant-loop-lower : goal.invariant-loop-lower
invariant-loop-lower l =
    (i : ℕ) → l.at ≡ places_at + place_size * i → Lower (partner_at 3 (drop l.at l.image)) l.image i l.at l.lower

abbrev pub decreases-loop-lower : goal.decreases-loop-lower
decreases-loop-lower l = l.at - l.lower
