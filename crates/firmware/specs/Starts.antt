-- Request Q-14: "starting from one that a cold start wrote": the call that writes it.
-- Defines: limits_of, start_returned, start_image.
use Rattle.std.specs.Prelude.{ℕ, cond, List, eqb, ℤ, pos, neg_ℤ}
use Rattle.wire.specs.Refusals.{accepted}
use Rattle.place.specs.declared.limits.Limits.{Limits}
use Rattle.unit.specs.States.{cold_start}
use Rattle.image.specs.Images.{write_a2, imaged_a2}

-- the three numbers of a cold start, as C gives them
abbrev pub limits_of : ℕ → ℕ → ℕ → Limits
limits_of lowest highest tries = record { lowest = lowest; highest = highest; tries = tries }

-- 0, or minus the refusal: 13 of the cold start, then 10 of the writing
abbrev pub start_returned : Limits → ℕ → ℤ
start_returned l room =
    cond (eqb (cold_start l).code accepted) (neg_ℤ (pos (write_a2 (cold_start l).state room).code)) (neg_ℤ (pos (cold_start l).code))

-- the buffer after it
abbrev pub start_image : Limits → List ℕ → List ℕ
start_image l image = cond (eqb (cold_start l).code accepted) (imaged_a2 (cold_start l).state image) image
