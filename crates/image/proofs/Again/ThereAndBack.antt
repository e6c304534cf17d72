-- Request Q-4: what A1 is read as, and "there and back gives the same bytes".
-- Defines: state.
-- Proves: read-both, good, from-a1, from-a2, a1-read, a1-back, a2-back.
use mathlib.Core.Path.{◌≡◌, ap, ◌∙◌}
use mathlib.Core.Logic.{⊎_elim}
use mathlib.Core.Bool.{true}
use mathlib.Core.List.{List}
use Prim.Native.Nat.{ℕ}
use native.Mathlib.Omega.{arith}
use Rattle.wire.specs.Bytes.{byte}
use Rattle.wire.specs.Refusals.{accepted}
use Rattle.unit.specs.States.{sound}
use Rattle.unit.specs.declared.last.Last.TheVariants.{Unknown}
use Rattle.unit.specs.declared.state.State.{State}
use Rattle.image.specs.Images.{kind_a1, kind_a2, image_a1, image_a2, fits_a1, read_image}
use Rattle.image.proofs.Again.Writing.{fits_a1-means}
use Rattle.image.proofs.RoundTrips.{read-written, read_a1-written, written_read}

-- the two images of one state are read as that state
-- promise
pub read-both : (s : State)
    → sound s ≡ true
    → fits_a1 s ≡ true
    → (read_image (image_a1 s) ≡ record { code = accepted; state = s })
    × (read_image (image_a2 s) ≡ record { code = accepted; state = s })
read-both s ok fits = (read_a1-written s ok fits, read-written s ok)

module _ (bytes : List ℕ) (ok : (read_image bytes).code ≡ accepted) where
  abbrev pub state : State
  state = (read_image bytes).state

  pub good : sound state ≡ true
  good = (written_read bytes ok).0

  pub from-a1 : byte bytes 0 ≡ kind_a1 → (fits_a1 state ≡ true) × (image_a1 state ≡ bytes)
  unfolding image_a2
  from-a1 kind =
      ⊎_elim
      (λ a2.
      let other : kind_a2 ≡ kind_a1 = ap (λ l. byte l 0) a2 ∙ kind in
      absurd (omega arith))
      (λ a1. a1)
      (written_read bytes ok).1

  pub from-a2 : byte bytes 0 ≡ kind_a2 → image_a2 state ≡ bytes
  unfolding image_a1
  from-a2 kind =
      ⊎_elim
      (λ a2. a2)
      (λ a1.
      let other : kind_a1 ≡ kind_a2 = ap (λ l. byte l 0) a1.1 ∙ kind in
      absurd (omega arith))
      (written_read bytes ok).1

  -- "A1 is read as n = 3 and none known"
  -- promise
  pub a1-read : byte bytes 0 ≡ kind_a1 → ((read_image bytes).state.limits.tries ≡ 3) × ((read_image bytes).state.last ≡ Unknown)
  a1-read kind = (fits_a1-means state).0 (from-a1 kind).0

  -- from A1 to A2 and back
  -- promise
  pub a1-back : byte bytes 0 ≡ kind_a1 → image_a1 (read_image (image_a2 (read_image bytes).state)).state ≡ bytes
  a1-back kind = ap (λ r. image_a1 r.state) (read-written state good) ∙ (from-a1 kind).1

  -- from A2 to A1, which holds the state, and back
  -- promise
  pub a2-back : byte bytes 0 ≡ kind_a2
      → fits_a1 (read_image bytes).state ≡ true
      → image_a2 (read_image (image_a1 (read_image bytes).state)).state ≡ bytes
  a2-back kind fits = ap (λ r. image_a2 r.state) (read_a1-written state good fits) ∙ from-a2 kind
