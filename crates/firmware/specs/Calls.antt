-- Request Q-14: what a call of the step from C answers, and what it leaves.
-- Defines: below_none, returned, Seen, seen_after.
use Rattle.std.specs.Prelude.{ℕ, cond, List, eqb, ℤ, pos, neg_ℤ, length}
use Rattle.wire.specs.Refusals.{accepted}
use Rattle.unit.specs.OnRecords.{written}
use Rattle.unit.specs.Steps.{Outcome}
use Rattle.image.specs.Calls.{on_image, image_after}

-- "minus the refusal"
abbrev pub below_none : ℕ → ℤ
below_none code = neg_ℤ (pos code)

-- "the number of actions or minus the refusal"
abbrev pub returned : Outcome → ℤ
returned o = cond (eqb o.code accepted) (pos (length o.actions)) (neg_ℤ (pos o.code))

-- what C sees after a call: the number, the image, the action buffer
pub record Seen : Type 0 where
  pub number : ℤ
  pub image : List ℕ
  pub actions : List ℕ

-- a call with an image, a record and an action buffer
unfoldable pub seen_after : List ℕ → List ℕ → List ℕ → Seen
seen_after image bytes actions =
    let o : Outcome = on_image image bytes (length actions) in
    record { number = returned o; image = image_after o image; actions = written o.actions actions }
