-- Request Q-14: "Demands 2 and 3 are read through the images": a history of calls, and what C sees of it.
-- Defines: Lent, lent_records, roomy, seen_along, last_image, is_accepted.
use Rattle.std.specs.Prelude.{ℕ, Bool, true, false, ◌&&◌, List, [], ◌∷◌, map, leb, ℤ, pos, negsuc, length}
use Rattle.unit.specs.OnRecords.{action_room}
use Rattle.firmware.specs.Calls.{Seen, seen_after}

-- what C lends for one call beside the image: a record and an action buffer
pub record Lent : Type 0 where
  pub bytes : List ℕ
  pub actions : List ℕ

-- the records of a history of calls
abbrev pub lent_records : List Lent → List (List ℕ)
lent_records = map (λ x. x.bytes)

-- each buffer has room for a step's actions, "each given 20 bytes for its actions" and more
unfoldable pub roomy : List Lent → Bool
roomy [] = true
roomy (x ∷ rest) = leb action_room (length x.actions) && roomy rest

-- what C sees after each call of a history, each with the image that the one before it left
unfoldable pub seen_along : List ℕ → List Lent → List Seen
seen_along image [] = []
seen_along image (x ∷ rest) =
    let seen : Seen = seen_after image x.bytes x.actions in
    seen ∷ seen_along seen.image rest

-- the image after them
unfoldable pub last_image : List ℕ → List Seen → List ℕ
last_image image [] = image
last_image image (seen ∷ rest) = last_image seen.image rest

-- a number that is not minus a refusal
abbrev pub is_accepted : ℤ → Bool
is_accepted (pos n) = true
is_accepted (negsuc n) = false
