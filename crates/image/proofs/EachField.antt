-- What the test of each field says of it: the fields of one byte, the places, the last known RBC.
-- Proves: head-field, left-level, left-mission, left-inside, left-mode, left-manual, byte_next, number-next, end-next, place-next,
-- last-next.
use mathlib.Core.Path.{◌≡◌, refl, sym, ap, ap₂, subst, ◌∙◌}
use mathlib.Core.Bool.{Bool, true, false, cond, ◌&&◌, not}
use mathlib.Core.List.{List, [], ◌∷◌, ◌++◌, append_assoc}
use Prim.Native.Nat.{ℕ, zero, suc, ◌+◌, ◌*◌, ◌≤◌, ◌<◌}
use native.Mathlib.Nat.{add-zero, le_of_suc-le-suc}
use native.Mathlib.Omega.{arith}
use lib.Dec.{eqb, leb}
use lib.ListN.{length, get_or, take, drop, replicate}
use lib.Seq.{take-add, take-take, take-append-add, drop_at, drop-cons, get_or-take, get_or-drop, length-take-le}
use borrow.Author.Tests.{leb-false, eq-eqb, ne_eqb}
use Rattle.wire.specs.Bytes.{byte, flag, as_bit}
use Rattle.wire.specs.Blocks.{blocks}
use Rattle.wire.proofs.Tests.{and_both, true-false, cond-holds}
use Rattle.record.specs.Records.{highest_level, mission_under_way}
use Rattle.place.specs.Places.{vacant}
use Rattle.place.specs.declared.limits.Limits.{Limits}
use Rattle.place.specs.declared.place.Place.{Place}
use Rattle.unit.specs.Lasts.{last_ok}
use Rattle.unit.specs.States.{place_count, absent_from}
use Rattle.unit.specs.declared.last.Last.TheVariants.{Unknown, Known}
use Rattle.image.specs.Images.{size_a2, place_size, place_bytes, body_bytes, last_size, last_bytes, whole_bytes, image_a2, place_in}
use Rattle.image.specs.Images.{places_in, last_in, state_in, same_bytes}
use Rattle.image.specs.Bodies.{places_bytes, tail_bytes, places_at, last_at}
use Rattle.image.specs.Rescue.{within, is_place_of, is_last_of, mended, field_offsets, most_fields, part, left}
use Rattle.image.specs.Mends.{Field, Cleared, MendedTo}
use Rattle.image.proofs.Bytes.{place_bytes-length, place_in-bytes, same_bytes_lem, bytes_same}
use Rattle.image.proofs.Again.Mended.{mark_of, is_place_of-holds}
use Rattle.image.proofs.Left.{body-byte, left-place, left-last}
use Rattle.image.proofs.Mending.{mended-four}
use Rattle.image.proofs.Rescuing.{size_of-mark, size_of-place}
use Rattle.image.proofs.Fields.{left-long, mended-here, mended-before, field_next}

-- the fields of one byte stand one after the other
pub head-field : (old : List ℕ) → length old ≡ size_a2 → (n : ℕ) → n < 6 → Field old n (3 + n) 1
head-field old long n below = record {
  long = long;
  few = omega arith;
  begins = by n below;
  sized = sym (size_of-mark (3 + n) (omega arith));
  ends = omega arith;
}
  where
    by : (k : ℕ) → k < 6 → get_or field_offsets k 0 ≡ 3 + k
    by zero h = refl
    by (suc zero) h = refl
    by (suc (suc zero)) h = refl
    by (suc (suc (suc zero))) h = refl
    by (suc (suc (suc (suc zero)))) h = refl
    by (suc (suc (suc (suc (suc zero))))) h = refl
    by (suc (suc (suc (suc (suc (suc k)))))) h = absurd (omega arith)

-- the level, the mission and three of the marks, which are what is left of them by themselves
module _ (old : List ℕ) where
  pub left-level : byte (left old) 3 ≡ within highest_level (byte old 3)
  unfolding image_a2 whole_bytes body_bytes mended state_in
  left-level = ap (within highest_level) (body-byte old 2)

  pub left-mission : byte (left old) 4 ≡ within mission_under_way (byte old 4)
  unfolding image_a2 whole_bytes body_bytes mended state_in
  left-mission = ap (within mission_under_way) (body-byte old 3)

  pub left-inside : byte (left old) 5 ≡ within 1 (byte old 5)
  unfolding image_a2 whole_bytes body_bytes mended state_in
  left-inside = ap (λ b. as_bit (flag b)) (body-byte old 4) ∙ mark_of (byte old 5)

  pub left-mode : byte (left old) 6 ≡ within 1 (byte old 6)
  unfolding image_a2 whole_bytes body_bytes mended state_in
  left-mode = ap (λ b. as_bit (flag b)) (body-byte old 5) ∙ mark_of (byte old 6)

  pub left-manual : byte (left old) 7 ≡ within 1 (byte old 7)
  unfolding image_a2 whole_bytes body_bytes mended state_in
  left-manual = ap (λ b. as_bit (flag b)) (body-byte old 6) ∙ mark_of (byte old 7)

-- a field of one byte
module _ (old : List ℕ) (n at : ℕ) (field : Field old n at 1) (image fields : List ℕ) (count : ℕ)
    (image' fields' : List ℕ) (count' : ℕ) (so_far : MendedTo old n at image fields count) where
  part-one : (l : List ℕ) → length l ≡ size_a2 → part at l ≡ byte l at ∷ []
  part-one l long = ap (λ k. take k (drop at l)) field.sized ∙ ap (take 1) (drop-cons l at 0 (omega (arith, long, field.ends)))

  byte-here : byte image at ≡ byte old at
  byte-here =
      let first : (l : List ℕ) → byte (drop at l) 0 ≡ byte l at = λ l. get_or-drop at l 0 0 ∙ ap (byte l) (add-zero at) in
      sym (first image)
      ∙ ap (λ l. byte l 0) (mended-here old n at image fields count field.long (omega (arith, field.ends)) so_far)
      ∙ first old

  pub byte_next : (good : Bool)
      → byte (left old) at ≡ cond good (byte old at) 0
      → (good ≡ false → byte old at ≡ 0 → ⊥)
      → Cleared good at 1 image fields count image' fields' count'
      → MendedTo old (n + 1) (at + 1) image' fields' count'
  unfolding same_bytes
  byte_next good own other =
      field_next old n at 1 field image fields count image' fields' count' so_far good
      (part-one (left old) (left-long old)
      ∙ ap (λ b. b ∷ []) own
      ∙ by good
      ∙ ap (λ l. cond good l (0 ∷ [])) (sym (part-one old field.long)))
      (λ bad. ap (λ l. same_bytes l (0 ∷ [])) (part-one old field.long) ∙ ap (λ t. t && true) (ne_eqb (byte old at) 0 (other bad)))
    where
      by : (b : Bool) → (cond b (byte old at) 0 ∷ []) ≡ cond b (byte old at ∷ []) (0 ∷ [])
      by true = refl
      by false = refl

  -- a number in its range
  pub number-next : (most : ℕ)
      → byte (left old) at ≡ within most (byte old at)
      → Cleared (leb (byte image at) most) at 1 image fields count image' fields' count'
      → MendedTo old (n + 1) (at + 1) image' fields' count'
  number-next most own =
      byte_next (leb (byte image at) most)
      (own ∙ ap (λ b. cond (leb b most) (byte old at) 0) (sym byte-here))
      (λ bad none.
      let over = leb-false (byte image at) most bad in
      absurd (omega (arith, byte-here)))

-- the mark of a hole end, by the image so far: the mark "inside a hole" is mended already
module _ (x y : ℕ) where
  abbrev end-good : Bool
  end-good = eqb (as_bit (flag x)) x && not (eqb (as_bit (flag y)) 1 && eqb x 1)

end_of : (x y : ℕ) → as_bit (flag x && not (flag y)) ≡ cond (end-good x y) x 0
end_of zero y = cond-holds (λ b. 0 ≡ b) (end-good 0 y) 0 0 refl refl
end_of (suc zero) y = by (flag y)
  where
    by : (b : Bool) → as_bit (not b) ≡ cond (not (eqb (as_bit b) 1 && true)) 1 0
    by true = refl
    by false = refl
end_of (suc (suc x)) y =
    let more = suc (suc x) in
    let other = ne_eqb more 1 (λ z. absurd (omega arith)) in
    let none = ne_eqb 0 more (λ z. absurd (omega arith)) in
    ap (λ t. as_bit (t && not (flag y))) other
    ∙ sym
    (ap (λ t. cond (eqb (as_bit t) more && not (eqb (as_bit (flag y)) 1 && eqb more 1)) more 0) other
    ∙ ap (λ t. cond (t && not (eqb (as_bit (flag y)) 1 && eqb more 1)) more 0) none)

end-some : (x y : ℕ) → end-good x y ≡ false → x ≡ 0 → ⊥
end-some x y bad none = true-false (end-good 0 y) (by (eqb (as_bit (flag y)) 1)) (ap (λ k. end-good k y) (sym none) ∙ bad)
  where
    by : (b : Bool) → not (b && false) ≡ true
    by true = refl
    by false = refl

module _ (old : List ℕ) (long : length old ≡ size_a2) (image fields : List ℕ) (count : ℕ)
    (image' fields' : List ℕ) (count' : ℕ) where
  pub end-next :
      MendedTo old 5 8 image fields count
      → Cleared (eqb (as_bit (flag (byte image 8))) (byte image 8) && not (eqb (byte image 5) 1 && eqb (byte image 8) 1)) 8 1
      image fields count image' fields' count'
      → MendedTo old 6 9 image' fields' count'
  unfolding image_a2 whole_bytes body_bytes mended state_in
  end-next so_far cleared =
      byte_next old 5 8 field image fields count image' fields' count' so_far (end-good x y)
      (ap₂ (λ a b. as_bit (flag a && not (flag b))) (body-byte old 7) (body-byte old 4) ∙ end_of x y)
      (end-some x y)
      (subst (λ b. Cleared b 8 1 image fields count image' fields' count') same cleared)
    where
      field : Field old 5 8 1
      field = head-field old long 5 (omega arith)

      x : ℕ
      x = byte old 8

      y : ℕ
      y = byte old 5

      inside : byte image 5 ≡ as_bit (flag y)
      inside =
          sym (get_or-take 8 image 5 0 (omega arith))
          ∙ ap (λ l. byte l 5) (mended-before old 5 8 image fields count long (omega arith) so_far)
          ∙ get_or-take 8 (left old) 5 0 (omega arith)
          ∙ ap (λ b. as_bit (flag b)) (body-byte old 4)

      same : (eqb (as_bit (flag (byte image 8))) (byte image 8) && not (eqb (byte image 5) 1 && eqb (byte image 8) 1)) ≡ end-good x y
      same =
          ap₂ (λ a b. eqb (as_bit (flag a)) a && not (eqb b 1 && eqb a 1))
          (byte-here old 5 8 field image fields count image' fields' count' so_far) inside

-- the places so far are the first of those that are left
lower-places : (ps : List Place) (i : ℕ) (rest after : List ℕ)
    → i ≤ length ps
    → places_in i (take (place_size * i) (places_bytes ps ++ rest) ++ after) ≡ take i ps
unfolding places_in blocks
lower-places ps zero rest after below = refl
lower-places [] (suc i) rest after below = absurd (omega arith)
lower-places (p ∷ ps) (suc i) rest after below =
    let next : place_size * suc i ≡ length (place_bytes p) + place_size * i = omega (arith, place_bytes-length p.holding) in
    let after-it = take (place_size * i) (places_bytes ps ++ rest) ++ after in
    ap (λ l. places_in (suc i) (l ++ after))
    (ap₂ take next (append_assoc (place_bytes p) (places_bytes ps) rest)
    ∙ take-append-add (place_bytes p) (places_bytes ps ++ rest) (place_size * i))
    ∙ ap (places_in (suc i)) (append_assoc (place_bytes p) (take (place_size * i) (places_bytes ps ++ rest)) after)
    ∙ ap₂ ◌∷◌ (place_in-bytes p.holding after-it)
    (ap (places_in i) (drop_at (place_bytes p) after-it place_size (place_bytes-length p.holding))
    ∙ lower-places ps i rest after (le_of_suc-le-suc below))

-- a place
module _ (old : List ℕ) (long : length old ≡ size_a2) (i at : ℕ) (below : i < place_count)
    (begins : at ≡ places_at + place_size * i)
    (image fields : List ℕ) (count : ℕ) (so_far : MendedTo old (6 + i) at image fields count) where
  abbrev left_here : List Place
  left_here = (mended (drop 1 old)).places

  field_at : Field old (6 + i) at place_size
  field_at = record {
    long = long;
    few = omega arith;
    begins = by i below ∙ sym begins;
    sized = sym (size_of-place at (omega arith) (omega arith));
    ends = omega arith;
  }
    where
      by : (k : ℕ) → k < place_count → get_or field_offsets (6 + k) 0 ≡ places_at + place_size * k
      by zero h = refl
      by (suc zero) h = refl
      by (suc (suc zero)) h = refl
      by (suc (suc (suc zero))) h = refl
      by (suc (suc (suc (suc k)))) h = absurd (omega arith)

  places-before : places_in i (drop places_at image) ≡ take i left_here
  unfolding image_a2 whole_bytes body_bytes
  places-before =
      let new = left old in
      ap (λ l. places_in i (drop places_at l))
      (so_far.stands
      ∙ ap (λ k. take k new ++ drop at old) begins
      ∙ ap (λ l. l ++ drop at old) (take-add places_at (place_size * i) new)
      ∙ append_assoc (take places_at new) (take (place_size * i) (drop places_at new)) (drop at old))
      ∙ ap (places_in i)
      (drop_at (take places_at new) (take (place_size * i) (drop places_at new) ++ drop at old) places_at
      (length-take-le places_at new (omega (arith, left-long old))))
      ∙ lower-places left_here i (tail_bytes (mended (drop 1 old))) (drop at old) (omega (arith, mended-four (drop 1 old)))

  -- seven zeros are those of a free place, which is kept
  zeros-kept : (l : Limits) (s : List ℕ) (lower : List Place)
      → (is_place_of l s && absent_from lower (place_in s).holding) ≡ false
      → same_bytes (take place_size s) (replicate place_size 0) ≡ false
  zeros-kept l s lower bad = by (same_bytes (take place_size s) (replicate place_size 0)) refl
    where
      by : (b : Bool) → same_bytes (take place_size s) (replicate place_size 0) ≡ b → b ≡ false
      by true same =
          let free = is_place_of-holds l s vacant refl (bytes_same (take place_size s) (replicate place_size 0) same) in
          let absent = ap (λ p. absent_from lower p.holding) free.1 in
          true-false (is_place_of l s && absent_from lower (place_in s).holding)
          (and_both (is_place_of l s) (absent_from lower (place_in s).holding) free.0 absent)
          bad
      by false other = refl

  pub place-next : (limits : Limits) (good : Bool) (image' fields' : List ℕ) (count' : ℕ)
      → limits ≡ (state_in (drop 1 old)).limits
      → good ≡ (is_place_of limits (drop at image)
      && absent_from (places_in i (drop places_at image)) (place_in (drop at image)).holding)
      → Cleared good at place_size image fields count image' fields' count'
      → MendedTo old (6 + i + 1) (at + place_size) image' fields' count'
  place-next limits good image' fields' count' own test =
      field_next old (6 + i) at place_size field_at image fields count image' fields' count' so_far good
      (ap (λ k. take k (drop at (left old))) field_at.sized
      ∙ ap (λ k. take place_size (drop k (left old))) begins
      ∙ left-place old i below
      ∙ ap (λ k. cond (Good (drop k old)) (take place_size (drop k old)) (replicate place_size 0)) (sym begins)
      ∙ ap₂ (λ b k. cond b (take k (drop at old)) (replicate place_size 0)) (sym is) (sym field_at.sized))
      (λ bad.
      ap (λ k. same_bytes (take k (drop at old)) (replicate place_size 0)) field_at.sized
      ∙ zeros-kept (state_in (drop 1 old)).limits (drop at old) (take i left_here) (sym is ∙ bad))
    where
      Good : List ℕ → Bool
      Good s = is_place_of (state_in (drop 1 old)).limits s && absent_from (take i left_here) (place_in s).holding

      here : drop at image ≡ drop at old
      here = mended-here old (6 + i) at image fields count long (omega arith) so_far

      is : good ≡ Good (drop at old)
      is =
          test
          ∙ (λ j. is_place_of (own j) (here j) && absent_from (places-before j) (place_in (here j)).holding)

-- the last known RBC
module _ (old : List ℕ) (long : length old ≡ size_a2) (image fields : List ℕ) (count : ℕ)
    (so_far : MendedTo old 10 last_at image fields count) where
  pub last-next : (good : Bool) (image' fields' : List ℕ) (count' : ℕ)
      → good ≡ is_last_of (drop last_at image)
      → Cleared good last_at last_size image fields count image' fields' count'
      → MendedTo old most_fields size_a2 image' fields' count'
  last-next good image' fields' count' test =
      field_next old 10 last_at last_size field image fields count image' fields' count' so_far good
      (ap (take last_size) (left-last old) ∙ by good (sym is))
      (λ bad. other (same_bytes (take last_size s) (replicate last_size 0)) refl (sym is ∙ bad))
    where
      field : Field old 10 last_at last_size
      field = record { long = long; few = omega arith; begins = refl; sized = refl; ends = omega arith }

      s : List ℕ
      s = drop last_at old

      is : good ≡ is_last_of (drop last_at old)
      is = test ∙ ap is_last_of (mended-here old 10 last_at image fields count long (omega arith) so_far)

      Four : Bool → List ℕ
      Four b = cond b (take last_size s) (replicate last_size 0)

      by : (b : Bool) → is_last_of s ≡ b → take last_size (Four (is_last_of s)) ≡ Four b
      by true h = ap (λ b. take last_size (Four b)) h ∙ take-take last_size last_size s (omega arith)
      by false h = ap (λ b. take last_size (Four b)) h

      other : (b : Bool) → same_bytes (take last_size s) (replicate last_size 0) ≡ b → is_last_of s ≡ false → b ≡ false
      other true same bad =
          let four = bytes_same (take last_size s) (replicate last_size 0) same in
          let first = sym (get_or-take last_size s 0 0 (omega arith)) ∙ ap (λ l. byte l 0) four in
          let none : last_in s ≡ Unknown =
          ap (λ b. cond b Unknown (Known (byte s 1) (byte s 2) (byte s 3))) (eq-eqb (byte s 0) 0 first) in
          true-false (is_last_of s)
          (ap₂ (λ last l. last_ok last && same_bytes (last_bytes last) l) none four ∙ same_bytes_lem (replicate last_size 0)) bad
      other false h bad = refl
