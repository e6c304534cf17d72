-- Cross-checks only: rules told a second time.
-- Request Q-4: "Kind A2 is the 36 old body bytes, then n, then 1 and the last RBC's three bytes, or four zeros when none is known".
-- Proves: image_a1-kind, image_a2-kind, image_a2-body, image_a2-tries, image_a2-known, image_a2-unknown.
use mathlib.Core.Path.{◌≡◌, refl, sym, ap, ◌∙◌}
use mathlib.Core.List.{[], ◌∷◌}
use Prim.Native.Nat.{ℕ}
use lib.ListN.{length, take, drop}
use lib.Seq.{take_at, drop-drop, get_or-drop}
use Rattle.wire.specs.Bytes.{byte}
use Rattle.unit.specs.States.{place_count}
use Rattle.unit.specs.declared.last.Last.TheVariants.{Unknown, Known}
use Rattle.unit.specs.declared.state.State.{State}
use Rattle.image.specs.Images.{body_bytes, last_bytes, whole_bytes, image_a1, image_a2}
use Rattle.image.specs.Bodies.{tail_bytes}
use Rattle.image.proofs.Bytes.{body_bytes-length, whole-tail}

module _ (s : State) where
  -- "kind A1 hex"
  -- promise
  pub image_a1-kind : byte (image_a1 s) 0 ≡ 0xA1
  unfolding image_a1
  image_a1-kind = refl

  -- "Kind A2"
  -- promise
  pub image_a2-kind : byte (image_a2 s) 0 ≡ 0xA2
  unfolding image_a2
  image_a2-kind = refl

  module _ (four : length s.places ≡ place_count) where
    -- "the 36 old body bytes"
    -- promise
    pub image_a2-body : take 36 (drop 1 (image_a2 s)) ≡ drop 1 (image_a1 s)
    unfolding image_a1 image_a2 whole_bytes
    image_a2-body = take_at (body_bytes s) (tail_bytes s) 36 (body_bytes-length s four)

    after-body : drop 37 (image_a2 s) ≡ tail_bytes s
    unfolding image_a2
    after-body = whole-tail s four

    -- "then n"
    -- promise
    pub image_a2-tries : byte (image_a2 s) 37 ≡ s.limits.tries
    image_a2-tries = sym (get_or-drop 37 (image_a2 s) 0 0) ∙ ap (λ l. byte l 0) after-body

    after-tries : drop 38 (image_a2 s) ≡ last_bytes s.last
    after-tries = sym (drop-drop 1 37 (image_a2 s)) ∙ ap (drop 1) after-body

    -- "then 1 and the last RBC's three bytes"
    -- promise
    pub image_a2-known : (high middle low : ℕ)
        → s.last ≡ Known high middle low
        → drop 38 (image_a2 s) ≡ 1 ∷ high ∷ middle ∷ low ∷ []
    image_a2-known high middle low known = after-tries ∙ ap last_bytes known

    -- "or four zeros when none is known"
    -- promise
    pub image_a2-unknown : s.last ≡ Unknown → drop 38 (image_a2 s) ≡ 0 ∷ 0 ∷ 0 ∷ 0 ∷ []
    image_a2-unknown none = after-tries ∙ ap last_bytes none
