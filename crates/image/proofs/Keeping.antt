-- Whether a rescue keeps a place and the last known RBC, as the code tests it.
-- Defines: Lower.
-- Proves: held-here, lower-start, lower-end, lower-same, lower-other, kept_free, kept-held, kept-unsound, kept-unspelt, last-none-kept,
-- last-some-kept.
use mathlib.Core.Path.{◌≡◌, refl, sym, ap, ap₂, ◌∙◌}
use mathlib.Core.Bool.{Bool, true, false, cond, ◌&&◌, ◌||◌, not}
use mathlib.Core.List.{List}
use Prim.Native.Nat.{ℕ, zero, suc, ◌+◌, ◌*◌, ◌≤◌, ◌<◌}
use native.Mathlib.Nat.{add-zero}
use native.Mathlib.Omega.{arith}
use lib.Dec.{eqb}
use lib.ListN.{length, take, drop}
use lib.Seq.{drop-drop, get_or-drop}
use borrow.Author.Tests.{eq-eqb, ne_eqb}
use Rattle.wire.specs.Bytes.{byte}
use Rattle.record.specs.Partners.{rbc, partner_at, same_partner, named_ok}
use Rattle.record.specs.declared.partner.Partner.{Partner}
use Rattle.place.specs.Places.{vacant, seat, holds, place_ok}
use Rattle.place.specs.declared.limits.Limits.{Limits}
use Rattle.place.specs.declared.place.Place.{Place}
use Rattle.unit.specs.Lasts.{last_ok}
use Rattle.unit.specs.States.{some, absent_from}
use Rattle.unit.specs.declared.last.Last.{Last}
use Rattle.unit.specs.declared.last.Last.TheVariants.{Unknown, Known}
use Rattle.image.specs.Images.{size_a2, place_size, place_bytes, last_size, last_bytes, phase_of, direction_of, held_in, place_in}
use Rattle.image.specs.Images.{places_in}
use Rattle.image.specs.Images.{same_bytes}
use Rattle.image.specs.Bodies.{places_at, last_at}
use Rattle.image.specs.Rescue.{is_place_of, is_last_of}
use Rattle.image.proofs.Bytes.{same_bytes_lem}
use Rattle.image.proofs.Spelt.{bytes_from, take-bytes, and-true, and-swap, eqb-sym, zero-eqb}

-- whether a place of these bytes holds a partner
holds-in : (p : Partner) (s : List ℕ) → holds p (place_in s) ≡ (not (eqb (byte s 0) 0) && same_partner p (partner_at 3 s))
holds-in p s = by (eqb (byte s 0) 0)
  where
    by : (b : Bool) → holds p (cond b vacant (held_in s)) ≡ (not b && same_partner p (partner_at 3 s))
    by true = refl
    by false = refl

-- the lower places that are still to be asked: those that begin from an offset on
pub record Lower (p : Partner) (image : List ℕ) (i at from : ℕ) : Type 0 where
  pub many : ℕ
  pub begins : at ≡ from + place_size * many
  pub asked : some (holds p) (places_in i (drop places_at image)) ≡ some (holds p) (places_in many (drop from image))

module _ (p : Partner) (image : List ℕ) (i at : ℕ) where
  pub lower-start : at ≡ places_at + place_size * i → Lower p image i at places_at
  lower-start own = record { many = i; begins = own; asked = refl }

  module _ (from : ℕ) where
    abbrev all : Bool
    all = some (holds p) (places_in i (drop places_at image))

    none_left : (many : ℕ)
        → at ≤ from
        → at ≡ from + place_size * many
        → all ≡ some (holds p) (places_in many (drop from image))
        → false ≡ all
    unfolding places_in some
    none_left zero past own asked = sym asked
    none_left (suc many) past own asked = absurd (omega arith)

    pub lower-end : at ≤ from → Lower p image i at from → false ≡ all
    lower-end past lower = none_left lower.many past lower.begins lower.asked

    -- the next one
    abbrev here : Bool
    here = not (eqb (byte image from) 0) && same_partner p (partner_at 3 (drop from image))

    here-holds : holds p (place_in (drop from image)) ≡ here
    here-holds =
        holds-in p (drop from image)
        ∙ ap (λ b. not (eqb b 0) && same_partner p (partner_at 3 (drop from image)))
        (get_or-drop from image 0 0 ∙ ap (byte image) (add-zero from))

    next-at : (many : ℕ)
        → from < at
        → at ≡ from + place_size * many
        → all ≡ some (holds p) (places_in many (drop from image))
        → (here ≡ true → true ≡ all) × (here ≡ false → Lower p image i at (from + place_size))
    unfolding places_in some
    next-at zero before own asked = absurd (omega arith)
    next-at (suc many) before own asked =
        let rest = some (holds p) (places_in many (drop place_size (drop from image))) in (
          (λ yes. sym (asked ∙ ap (λ b. b || rest) (here-holds ∙ yes))),
          (λ no.
              record {
                many = many;
                begins = omega (arith, own);
                asked =
                    asked
                    ∙ ap (λ b. b || rest) (here-holds ∙ no)
                    ∙ ap (λ l. some (holds p) (places_in many l)) (drop-drop place_size from image);
              }),
        )

    pub lower-same : from < at → Lower p image i at from → here ≡ true → true ≡ all
    lower-same before lower = (next-at lower.many before lower.begins lower.asked).0

    pub lower-other : from < at → Lower p image i at from → here ≡ false → Lower p image i at (from + place_size)
    lower-other before lower = (next-at lower.many before lower.begins lower.asked).1

-- a place by what the tests showed
module _ (image : List ℕ) (at : ℕ) where
  abbrev s : List ℕ
  s = drop at image

  first : byte s 0 ≡ byte image at
  first = get_or-drop at image 0 0 ∙ ap (byte image) (add-zero at)

  place_none : byte image at ≡ 0 → place_in s ≡ vacant
  place_none none = ap (λ b. cond b vacant (held_in s)) (eq-eqb (byte s 0) 0 (first ∙ none))

  place-some : (byte image at ≡ 0 → ⊥) → place_in s ≡ held_in s
  place-some held = ap (λ b. cond b vacant (held_in s)) (ne_eqb (byte s 0) 0 (λ z. held (sym first ∙ z)))

  pub held-here : (byte image at ≡ 0 → ⊥)
      → seat (direction_of (byte image (at + 1))) (phase_of (byte image at) (byte image (at + 2))) (partner_at 3 s) ≡ place_in s
  held-here held =
      (λ i. seat (direction_of (sym (get_or-drop at image 1 0) i)) (phase_of (sym first i) (sym (get_or-drop at image 2 0) i))
      (partner_at 3 s))
      ∙ sym (place-some held)

  module _ (limits : Limits) (lower : List Place) where
    abbrev Kept : Bool
    Kept = is_place_of limits s && absent_from lower (place_in s).holding

    abbrev own : Bool
    own = same_bytes (place_bytes (place_in s)) (take place_size s)

    pub kept-unspelt : own ≡ false → false ≡ Kept
    kept-unspelt other =
        let good = place_ok limits (place_in s) in
        sym (ap (λ b. (good && b) && absent_from lower (place_in s).holding) other ∙ by good)
      where
        by : (b : Bool) → ((b && false) && absent_from lower (place_in s).holding) ≡ false
        by true = refl
        by false = refl

    pub kept-unsound : place_ok limits (place_in s) ≡ false → false ≡ Kept
    kept-unsound bad = sym (ap (λ b. (b && own) && absent_from lower (place_in s).holding) bad)

    pub kept_free : own ≡ true → byte image at ≡ 0 → true ≡ Kept
    kept_free spelt none =
        let free = place_none none in
        sym
        (ap₂ (λ b c. (b && c) && absent_from lower (place_in s).holding) (ap (place_ok limits) free) spelt
        ∙ ap (λ p. absent_from lower p.holding) free)

    pub kept-held : own ≡ true
        → place_ok limits (place_in s) ≡ true
        → (byte image at ≡ 0 → ⊥)
        → not (some (holds (partner_at 3 s)) lower) ≡ Kept
    kept-held spelt good held =
        sym
        (ap₂ (λ b c. (b && c) && absent_from lower (place_in s).holding) good spelt
        ∙ ap (λ p. absent_from lower p.holding) (place-some held))

-- the last known RBC
module _ (image : List ℕ) (long : length image ≡ size_a2) where
  abbrev t : List ℕ
  t = drop last_at image

  four : take last_size t ≡ bytes_from image last_at last_size
  four = take-bytes image last_at last_size (omega (arith, long))

  abbrev Read : Last → Bool
  Read last = last_ok last && same_bytes (last_bytes last) (take last_size t)

  pub last-none-kept :
      byte image 38 ≡ 0
      → (eqb (byte image 39) 0 && (eqb (byte image 40) 0 && eqb (byte image 41) 0)) ≡ is_last_of t
  unfolding same_bytes bytes_from
  last-none-kept none =
      (λ i. zero-eqb (byte image 39) i && (zero-eqb (byte image 40) i && zero-eqb (byte image 41) i))
      ∙ ap (λ b. eqb 0 (byte image 39) && (eqb 0 (byte image 40) && b)) (and-true (eqb 0 (byte image 41)))
      ∙ ap (λ b. b && (eqb 0 (byte image 39) && (eqb 0 (byte image 40) && (eqb 0 (byte image 41) && true))))
      (sym (eq-eqb 0 (byte image 38) (sym none)))
      ∙ ap (same_bytes (last_bytes Unknown)) (sym four)
      ∙ ap (λ b. Read (cond b Unknown (Known (byte t 1) (byte t 2) (byte t 3))))
      (sym (eq-eqb (byte t 0) 0 (get_or-drop last_at image 0 0 ∙ none)))

  pub last-some-kept :
      (byte image 38 ≡ 0 → ⊥)
      → (eqb (byte image 38) 1 && named_ok (record { kind = rbc; high = byte image 39; middle = byte image 40; low = byte image 41 }))
      ≡ is_last_of t
  unfolding same_bytes bytes_from
  last-some-kept some =
      let last = Known (byte image 39) (byte image 40) (byte image 41) in
      let at : (k : ℕ) → byte image (last_at + k) ≡ byte t k = λ k. sym (get_or-drop last_at image k 0) in
      and-swap (eqb (byte image 38) 1) (last_ok last)
      ∙ ap (◌&&◌ (last_ok last))
      (eqb-sym (byte image 38) 1
      ∙ and-true (eqb 1 (byte image 38))
      ∙ ap (◌&&◌ (eqb 1 (byte image 38))) (sym (same_bytes_lem (bytes_from image 39 3)))
      ∙ ap (same_bytes (last_bytes last)) (sym four))
      ∙ (λ i. Read (Known (at 1 i) (at 2 i) (at 3 i)))
      ∙ ap (λ b. Read (cond b Unknown (Known (byte t 1) (byte t 2) (byte t 3))))
      (sym (ne_eqb (byte t 0) 0 (λ z. some (at 0 ∙ z))))
