-- Only private contracts and laws use what stands here: an image A2 while it is mended, field after field, and the list that grows with it.
-- Defines: head_fields, tries_at, Mendable, Field, Cleared, MendedTo.
use Rattle.std.specs.Prelude.{◌≡◌, ℕ, ◌+◌, ◌*◌, ◌≤◌, ◌<◌, Bool, cond, List, ◌++◌, length, get_or, set, take}
use Rattle.std.specs.Prelude.{drop, replicate}
use Rattle.std.proofs.lemmas.List.Edits.{sets}
use Rattle.wire.specs.Bytes.{byte}
use Rattle.wire.specs.Refusals.{accepted}
use Rattle.unit.specs.States.{place_count}
use Rattle.image.specs.Images.{kind_a2, size_a2, place_size}
use Rattle.image.specs.Bodies.{places_at}
use Rattle.image.specs.Rescue.{field_offsets, most_fields, size_of, changed, listing, left}
use Rattle.image.specs.declared.rescue.Rescued.{Rescued}

-- the fields of one byte, which come before the places, and the offset of n, which comes after them and never changes
abbrev pub head_fields : ℕ
head_fields = 6

abbrev pub tries_at : ℕ
tries_at = places_at + place_count * place_size

-- it has the kind and the length of A2
abbrev pub Mendable : List ℕ → Type 0
Mendable image = (length image ≡ size_a2) × (byte image 0 ≡ kind_a2)

-- the field with a number, by its offset and its bytes
pub record Field (old : List ℕ) (n at size : ℕ) : Type 0 where
  pub long : length old ≡ size_a2
  pub few : n < most_fields
  pub begins : get_or field_offsets n 0 ≡ at
  pub sized : size_of at ≡ size
  pub ends : at + size ≤ size_a2

-- the field at an offset, of so many bytes: where it is good nothing changes, else its bytes become zeros and the offset is listed
abbrev pub Cleared : Bool → ℕ → ℕ → List ℕ → List ℕ → ℕ → List ℕ → List ℕ → ℕ → Type 0
Cleared good at size image fields count image' fields' count' =
    (image' ≡ cond good image (sets image at (replicate size 0)))
    × ((fields' ≡ cond good fields (set fields count at)) × (count' ≡ cond good count (count + 1)))

-- the image has what is left of the old one up to an offset, and the first n fields are listed where they changed
pub record MendedTo (old : List ℕ) (n at : ℕ) (image fields : List ℕ) (count : ℕ) : Type 0 where
  pub stands : image ≡ take at (left old) ++ drop at old
  pub lists : ◌≡◌ {A = Rescued} (record { code = accepted; fields = fields; count = count })
      (listing accepted (changed (take n field_offsets) old (left old)))
