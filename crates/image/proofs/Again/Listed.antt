-- Request Q-13: "It lists each changed field by its first offset, ascending"; and what is in no field stays.
-- Proves: told-changed, listed-field, listed-changed, unlisted-same, listed-ascends, rescued-length, rescued-outside, listed-byte,
-- listed-place, listed-last, listed-numbers, told-count, told-front, size_of-means.
use mathlib.Core.Path.{◌≡◌, refl, sym, ap, subst, ◌∙◌}
use mathlib.Core.Logic.{◌↔◌}
use mathlib.Core.Bool.{Bool, true, false, cond, ◌&&◌, ◌||◌, not}
use mathlib.Core.List.{List, [], ◌∷◌, ◌++◌}
use Prim.Native.Nat.{ℕ, zero, suc, ◌+◌, ◌*◌, ◌≤◌, ◌<◌}
use native.Mathlib.Omega.{arith}
use lib.Dec.{eqb, leb}
use lib.ListN.{length, take, drop, replicate}
use borrow.Author.Tests.{eqb-true, eqb-false, leb-true, le-leb}
use Rattle.wire.specs.Bytes.{byte}
use Rattle.wire.specs.Refusals.{accepted}
use Rattle.wire.proofs.Tests.{and_left, and_right, and_both, true-false, cond-holds}
use Rattle.wire.proofs.Padded.{padded-take}
use Rattle.image.specs.Images.{same_bytes, read_a2, image_a2, whole_bytes, body_bytes, state_in}
use Rattle.image.specs.Rescue.{mended, field_offsets, most_fields, size_of, part, changed, listing, told, spoilt, left}
use Rattle.image.specs.Rescue.{rescue, rescued}
use Rattle.image.specs.RescueWords.{is_in, ascends}
use Rattle.image.specs.declared.rescue.Rescued.{Rescued}
use Rattle.image.proofs.Bytes.{same_bytes_lem, bytes_same, image_a2-length}
use Rattle.image.proofs.Again.Rescues.{rescue-kind, rescue-empty, rescue-refused}
use Rattle.image.proofs.Again.Tails.{image_a2-tries}
use Rattle.image.proofs.Mending.{mended-four}
use Rattle.image.proofs.Rescuing.{changed-none, changed-few, size_of-mark, size_of-place, size_of-last}
use Rattle.image.proofs.Left.{rescued-left, accepted-long, body-byte}

-- the list is that of the fields in which the image differs from what is left
pub told-changed : (image : List ℕ) → told (rescue image) ≡ changed field_offsets image (rescued image)
unfolding rescue rescued
told-changed image = by (spoilt image)
  where
    by : (b : Bool)
        → told (cond b (listing accepted (changed field_offsets image (left image))) (listing (read_a2 image).code []))
        ≡ changed field_offsets image (cond b (left image) image)
    by true = padded-take most_fields 0 (changed field_offsets image (left image)) (changed-few image (left image) field_offsets)
    by false = sym (changed-none field_offsets image)

-- a field is in the list where its bytes differ
in-cond : (at f : ℕ) (l : List ℕ) (b : Bool) → is_in at (cond b l (f ∷ l)) ≡ cond b (is_in at l) (eqb at f || is_in at l)
unfolding is_in
in-cond at f l true = refl
in-cond at f l false = refl

or-and : (is b x y s : Bool)
    → x ≡ (y && not s)
    → (is ≡ true → b ≡ s)
    → cond b x (is || x) ≡ ((is || y) && not s)
or-and true true x true true h g = h
or-and true true x false true h g = h
or-and true true x y false h g = true-false true refl (g refl)
or-and true false x y true h g = true-false true refl (sym (g refl))
or-and true false x y false h g = refl
or-and false true x y s h g = h
or-and false false x y s h g = h

in-changed : (at : ℕ) (fs old new : List ℕ)
    → is_in at (changed fs old new) ≡ (is_in at fs && not (same_bytes (part at old) (part at new)))
unfolding changed is_in
in-changed at [] old new = refl
in-changed at (f ∷ fs) old new =
    in-cond at f (changed fs old new) (same_bytes (part f old) (part f new))
    ∙ or-and (eqb at f) (same_bytes (part f old) (part f new)) (is_in at (changed fs old new)) (is_in at fs)
    (same_bytes (part at old) (part at new)) (in-changed at fs old new)
    (λ is. ap (λ k. same_bytes (part k old) (part k new)) (sym (eqb-true at f is)))

module _ (image : List ℕ) (at : ℕ) where
  listed : is_in at (told (rescue image)) ≡ (is_in at field_offsets && not (same_bytes (part at image) (part at (rescued image))))
  listed = ap (is_in at) (told-changed image) ∙ in-changed at field_offsets image (rescued image)

  -- what is listed is a field
  pub listed-field : is_in at (told (rescue image)) ≡ true → is_in at field_offsets ≡ true
  listed-field is = and_left (is_in at field_offsets) (not (same_bytes (part at image) (part at (rescued image)))) (sym listed ∙ is)

  module _ (field : is_in at field_offsets ≡ true) where
    -- a field is listed exactly where its bytes changed
    pub listed-changed : (is_in at (told (rescue image)) ≡ true) ↔ (part at (rescued image) ≡ part at image → ⊥)
    listed-changed = (
      (λ is unchanged.
          let other = and_right (is_in at field_offsets) (not (same_bytes (part at image) (part at (rescued image)))) (sym listed ∙ is) in
          let equal = ap (same_bytes (part at image)) unchanged ∙ same_bytes_lem (part at image) in
          true-false (not (same_bytes (part at image) (part at (rescued image)))) other (ap not equal)),
      (λ other. by (same_bytes (part at image) (part at (rescued image))) refl other),
    )
      where
        by : (b : Bool)
            → same_bytes (part at image) (part at (rescued image)) ≡ b
            → (part at (rescued image) ≡ part at image → ⊥)
            → is_in at (told (rescue image)) ≡ true
        by true equal other = absurd (other (sym (bytes_same (part at image) (part at (rescued image)) equal)))
        by false differ other = listed ∙ and_both (is_in at field_offsets) _ field (ap not differ)

    -- and its bytes are as they were where it is not
    pub unlisted-same : is_in at (told (rescue image)) ≡ false → part at (rescued image) ≡ part at image
    unlisted-same not_in = by (same_bytes (part at image) (part at (rescued image))) refl
      where
        by : (b : Bool) → same_bytes (part at image) (part at (rescued image)) ≡ b → part at (rescued image) ≡ part at image
        by true equal = sym (bytes_same (part at image) (part at (rescued image)) equal)
        by false differ =
            true-false (is_in at (told (rescue image))) (listed ∙ and_both (is_in at field_offsets) _ field (ap not differ)) not_in

-- "ascending"
ascends-more : (from to : ℕ) (l : List ℕ) → from ≤ to → ascends to l ≡ true → ascends from l ≡ true
unfolding ascends
ascends-more from to [] le up = refl
ascends-more from to (n ∷ rest) le up =
    let above = leb-true to n (and_left (leb to n) (ascends (suc n) rest) up) in
    and_both (leb from n) (ascends (suc n) rest) (le-leb from n (omega arith)) (and_right (leb to n) (ascends (suc n) rest) up)

changed-ascends : (from : ℕ) (fs old new : List ℕ) → ascends from fs ≡ true → ascends from (changed fs old new) ≡ true
unfolding changed ascends
changed-ascends from [] old new up = refl
changed-ascends from (f ∷ fs) old new up =
    let above = and_left (leb from f) (ascends (suc f) fs) up in
    let rest = changed-ascends (suc f) fs old new (and_right (leb from f) (ascends (suc f) fs) up) in
    let le = leb-true from f above in
    cond-holds (λ l. ascends from l ≡ true) (same_bytes (part f old) (part f new)) (changed fs old new) (f ∷ changed fs old new)
    (ascends-more from (suc f) (changed fs old new) (omega arith) rest)
    (and_both (leb from f) (ascends (suc f) (changed fs old new)) above rest)

-- promise
pub listed-ascends : (image : List ℕ) → ascends 0 (told (rescue image)) ≡ true
unfolding ascends
listed-ascends image =
    ap (ascends 0) (told-changed image) ∙ changed-ascends 0 field_offsets image (rescued image) refl

-- what holds of an accepted rescue and of one that changes nothing holds of every one
by_code : (P : List ℕ → Type 0) (image : List ℕ)
    → P image
    → ((rescue image).code ≡ accepted → P (left image))
    → P (rescued image)
by_code P image old new = by (eqb (rescue image).code accepted) refl
  where
    by : (b : Bool) → eqb (rescue image).code accepted ≡ b → P (rescued image)
    by true ok =
        let taken = eqb-true (rescue image).code accepted ok in
        subst P (sym (rescued-left image taken)) (new taken)
    by false refused = subst P (sym (rescue-refused image (eqb-false (rescue image).code accepted refused)).0) old

-- the length stays, and so do the bytes outside the fields: the kind, the X numbers, n
-- promise
pub rescued-length : (image : List ℕ) → length (rescued image) ≡ length image
rescued-length image =
    by_code (λ b. length b ≡ length image) image refl
    (λ ok. image_a2-length (mended (drop 1 image)) (mended-four (drop 1 image)) ∙ sym (accepted-long image ok))

kind-accepted : (image : List ℕ) → (rescue image).code ≡ accepted → byte image 0 ≡ 0xA2
kind-accepted [] ok = absurd (omega (arith, ok, rescue-empty))
kind-accepted (kind ∷ body) ok = by (eqb kind 0xA2) refl
  where
    by : (b : Bool) → eqb kind 0xA2 ≡ b → kind ≡ 0xA2
    by true same = eqb-true kind 0xA2 same
    by false other =
        let two = rescue-kind kind body (eqb-false kind 0xA2 other) in
        absurd (omega (arith, ok, two))

-- promise
pub rescued-outside : (image : List ℕ)
    → (byte (rescued image) 0 ≡ byte image 0)
    × (byte (rescued image) 1 ≡ byte image 1)
    × (byte (rescued image) 2 ≡ byte image 2)
    × (byte (rescued image) 37 ≡ byte image 37)
unfolding image_a2 whole_bytes body_bytes mended state_in
rescued-outside image =
    by_code
    (λ b. (byte b 0 ≡ byte image 0) × (byte b 1 ≡ byte image 1) × (byte b 2 ≡ byte image 2) × (byte b 37 ≡ byte image 37))
    image
    (refl, refl, refl, refl)
    (λ ok. (
      sym (kind-accepted image ok),
      body-byte image 0,
      body-byte image 1,
      image_a2-tries (mended (drop 1 image)) (mended-four (drop 1 image)) ∙ body-byte image 36,
    ))

module _ (image : List ℕ) where
  -- a field of the list, by its number
  field-listed : (at : ℕ)
      → is_in at field_offsets ≡ true
      → ((is_in at (told (rescue image)) ≡ true) ↔ (part at (rescued image) ≡ part at image → ⊥))
      × (is_in at (told (rescue image)) ≡ false → part at (rescued image) ≡ part at image)
  field-listed at field = (listed-changed image at field, unlisted-same image at field)

  -- "It lists each changed field by its first offset": level, mission and the four marks, each listed exactly where its byte changed,
  -- and as it was where it is not listed
  -- promise
  pub listed-byte : (k : ℕ)
      → k < 6
      → ((is_in (3 + k) (told (rescue image)) ≡ true)
      ↔ (take 1 (drop (3 + k) (rescued image)) ≡ take 1 (drop (3 + k) image) → ⊥))
      × (is_in (3 + k) (told (rescue image)) ≡ false
      → take 1 (drop (3 + k) (rescued image)) ≡ take 1 (drop (3 + k) image))
  unfolding is_in
  listed-byte zero below = field-listed 3 refl
  listed-byte (suc zero) below = field-listed 4 refl
  listed-byte (suc (suc zero)) below = field-listed 5 refl
  listed-byte (suc (suc (suc zero))) below = field-listed 6 refl
  listed-byte (suc (suc (suc (suc zero)))) below = field-listed 7 refl
  listed-byte (suc (suc (suc (suc (suc zero))))) below = field-listed 8 refl
  listed-byte (suc (suc (suc (suc (suc (suc k)))))) below = absurd (omega arith)

  -- the four places
  -- promise
  pub listed-place : (i : ℕ)
      → i < 4
      → ((is_in (9 + 7 * i) (told (rescue image)) ≡ true)
      ↔ (take 7 (drop (9 + 7 * i) (rescued image)) ≡ take 7 (drop (9 + 7 * i) image) → ⊥))
      × (is_in (9 + 7 * i) (told (rescue image)) ≡ false
      → take 7 (drop (9 + 7 * i) (rescued image)) ≡ take 7 (drop (9 + 7 * i) image))
  unfolding is_in
  listed-place zero below = field-listed 9 refl
  listed-place (suc zero) below = field-listed 16 refl
  listed-place (suc (suc zero)) below = field-listed 23 refl
  listed-place (suc (suc (suc zero))) below = field-listed 30 refl
  listed-place (suc (suc (suc (suc i)))) below = absurd (omega arith)

  -- the last known RBC
  -- promise
  pub listed-last :
      ((is_in 38 (told (rescue image)) ≡ true)
      ↔ (take 4 (drop 38 (rescued image)) ≡ take 4 (drop 38 image) → ⊥))
      × (is_in 38 (told (rescue image)) ≡ false
      → take 4 (drop 38 (rescued image)) ≡ take 4 (drop 38 image))
  unfolding is_in
  listed-last = field-listed 38 refl

  -- and nothing else is listed
  -- promise
  pub listed-numbers : (at : ℕ)
      → is_in at (told (rescue image)) ≡ true
      → is_in at (3 ∷ 4 ∷ 5 ∷ 6 ∷ 7 ∷ 8 ∷ 9 ∷ 16 ∷ 23 ∷ 30 ∷ 38 ∷ []) ≡ true
  listed-numbers at is = listed-field image at is

  abbrev Answer : Bool → Rescued
  Answer b = cond b (listing accepted (changed field_offsets image (left image))) (listing (read_a2 image).code [])

  padded : take (length (changed field_offsets image (left image))) (listing accepted (changed field_offsets image (left image))).fields
      ≡ changed field_offsets image (left image)
  padded = padded-take most_fields 0 (changed field_offsets image (left image)) (changed-few image (left image) field_offsets)

  -- the count is how many are listed
  -- promise
  pub told-count : length (told (rescue image)) ≡ (rescue image).count
  unfolding rescue
  told-count = by (spoilt image)
    where
      by : (b : Bool) → length (told (Answer b)) ≡ (Answer b).count
      by true = ap length padded
      by false = refl

  -- they stand at the front of the array, and zeros after them
  -- promise
  pub told-front : (rescue image).fields ≡ take 11 (told (rescue image) ++ replicate 11 0)
  unfolding rescue
  told-front = by (spoilt image)
    where
      by : (b : Bool) → (Answer b).fields ≡ take 11 (told (Answer b) ++ replicate 11 0)
      by true = ap (λ l. take 11 (l ++ replicate 11 0)) (sym padded)
      by false = refl

-- the bytes of the field that begins at an offset: before the places one, from 9 on a place's seven, from 38 on the last RBC's four
-- meaning
pub size_of-means : (at : ℕ)
    → (at < 9 → size_of at ≡ 1) × (9 ≤ at → at < 38 → size_of at ≡ 7) × (38 ≤ at → size_of at ≡ 4)
size_of-means at = (
  (λ low. sym (size_of-mark at low)),
  (λ from below. sym (size_of-place at from below)),
  (λ from. sym (size_of-last at (omega arith) from)),
)
