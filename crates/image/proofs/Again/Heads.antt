-- Cross-checks only: rules told a second time.
-- Where each field of a state stands in its image of either kind.
-- Proves: image-head, image-place.
use mathlib.Core.Path.{◌≡◌, refl, ap, subst, ◌∙◌}
use mathlib.Core.Logic.{◌⊎◌, ⊎_elim}
use mathlib.Core.Bool.{true}
use mathlib.Core.List.{List, [], ◌∷◌}
use Prim.Native.Nat.{ℕ, ◌+◌, ◌*◌, ◌<◌}
use lib.ListN.{length, get_or, take, drop}
use Rattle.wire.specs.Bytes.{byte}
use Rattle.record.specs.declared.partner.Partner.{Partner}
use Rattle.place.specs.Places.{phase_number, tries, direction_number, vacant, seat}
use Rattle.place.specs.declared.phase.Phase.{Phase}
use Rattle.place.specs.declared.place.Direction.{Direction}
use Rattle.unit.specs.declared.state.State.{State}
use Rattle.image.specs.Images.{place_bytes, body_bytes, whole_bytes, image_a1, image_a2, fits_a1}
use Rattle.wire.specs.Bytes.{as_bit}
use Rattle.image.proofs.RoundTrips.{place-in-either}

-- "lowest X, highest X, level, mission; the marks in the order listed above": the eight bytes after the kind
abbrev HeadAt : State → List ℕ → Type 0
HeadAt s bytes =
    (byte bytes 1 ≡ s.limits.lowest)
    × (byte bytes 2 ≡ s.limits.highest)
    × (byte bytes 3 ≡ s.train.level)
    × (byte bytes 4 ≡ s.train.mission)
    × (byte bytes 5 ≡ as_bit s.marks.inside)
    × (byte bytes 6 ≡ as_bit s.marks.mode)
    × (byte bytes 7 ≡ as_bit s.marks.manual)
    × (byte bytes 8 ≡ as_bit s.marks.end)

module _ (s : State) where
  head_a1 : HeadAt s (image_a1 s)
  unfolding image_a1 body_bytes
  head_a1 = (refl, refl, refl, refl, refl, refl, refl, refl)

  head_a2 : HeadAt s (image_a2 s)
  unfolding image_a2 whole_bytes body_bytes
  head_a2 = (refl, refl, refl, refl, refl, refl, refl, refl)

  module _ (bytes : List ℕ) (image : (image_a2 s ≡ bytes) ⊎ (image_a1 s ≡ bytes)) where
    -- promise
    pub image-head :
        (byte bytes 1 ≡ s.limits.lowest)
        × (byte bytes 2 ≡ s.limits.highest)
        × (byte bytes 3 ≡ s.train.level)
        × (byte bytes 4 ≡ s.train.mission)
        × (byte bytes 5 ≡ as_bit s.marks.inside)
        × (byte bytes 6 ≡ as_bit s.marks.mode)
        × (byte bytes 7 ≡ as_bit s.marks.manual)
        × (byte bytes 8 ≡ as_bit s.marks.end)
    image-head = ⊎_elim (λ a2. subst (HeadAt s) a2 head_a2) (λ a1. subst (HeadAt s) a1 head_a1) image

-- "phase, direction, tries, partner": the seven bytes of a place that holds a partner
-- promise
pub image-place : (s : State) (bytes : List ℕ)
    → (image_a2 s ≡ bytes) ⊎ ((fits_a1 s ≡ true) × (image_a1 s ≡ bytes))
    → (i : ℕ)
    → i < length s.places
    → (d : Direction) (ph : Phase) (p : Partner)
    → get_or s.places i vacant ≡ seat d ph p
    → take 7 (drop (9 + 7 * i) bytes)
    ≡ phase_number ph ∷ direction_number d ∷ tries ph ∷ p.kind ∷ p.high ∷ p.middle ∷ p.low ∷ []
image-place s bytes image i below d ph p held = place-in-either s i below bytes image ∙ ap place_bytes held
