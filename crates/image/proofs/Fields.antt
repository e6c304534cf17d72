-- An image mended field after field: one law for every field.
-- Proves: cleared-bad, cleared-long, zeros-stored, left-long, mended-long, mended-here, mended-before, mended-few, mended-listed,
-- field_next, mended-start, mended-past, mended-all, field_room.
use mathlib.Core.Path.{◌≡◌, refl, sym, ap, ap₂, subst, ◌∙◌}
use mathlib.Core.Bool.{Bool, true, false, cond}
use mathlib.Core.List.{List, [], ◌∷◌, ◌++◌, append-nil, append_assoc}
use Prim.Native.Nat.{ℕ, ◌+◌, ◌≤◌, ◌<◌}
use native.Mathlib.Numerals.{add-one, add-two, add-three, add-four, add_five, add_six}
use native.Mathlib.Omega.{arith}
use lib.ListN.{length, set, take, drop, replicate, length-append, length-drop, length-set, length-replicate}
use lib.ListN.{take-append-drop, drop_of_length-le}
use lib.Seq.{sets, sets-eq, length-sets, take-add, take_at, take_all, take-suc, drop_at, drop-cons, drop-drop, length-take-le}
use Rattle.wire.specs.Bytes.{byte}
use Rattle.wire.specs.Refusals.{accepted}
use Rattle.wire.proofs.Tests.{cond-holds}
use Rattle.image.specs.Images.{size_a2, place_size, body_bytes, whole_bytes, image_a2, old_body_size, state_in, same_bytes}
use Rattle.image.specs.Rescue.{mended, field_offsets, most_fields, part, changed, listing, left}
use Rattle.image.specs.Mends.{Mendable, Field, Cleared, MendedTo}
use Rattle.image.specs.declared.rescue.Rescued.{Rescued}
use Rattle.image.proofs.Bytes.{image_a2-length, same_bytes_lem}
use Rattle.image.proofs.Again.Tails.{image_a2-tries}
use Rattle.image.proofs.Left.{body-byte}
use Rattle.image.proofs.Mending.{mended-four}
use Rattle.image.proofs.Spelt.{bytes_from, take-bytes}
use Rattle.image.proofs.Rescuing.{changed-more, changed-few, listing-same, listing-more}

-- a field that is not good, and what clearing one leaves of the lengths
module _ (good : Bool) (at size : ℕ) (image fields : List ℕ) (count : ℕ) (image' fields' : List ℕ) (count' : ℕ) where
  pub cleared-bad :
      good ≡ false
      → image' ≡ sets image at (replicate size 0)
      → fields' ≡ set fields count at
      → count' ≡ count + 1
      → Cleared good at size image fields count image' fields' count'
  cleared-bad bad wrote listed counted = (
    wrote ∙ sym (ap (λ b. cond b image (sets image at (replicate size 0))) bad),
    (
      listed ∙ sym (ap (λ b. cond b fields (set fields count at)) bad),
      counted ∙ sym (ap (λ b. cond b count (count + 1)) bad),
    ),
  )

  pub cleared-long :
      Cleared good at size image fields count image' fields' count'
      → (length image' ≡ length image) × ((length fields' ≡ length fields) × (count' ≤ count + 1))
  cleared-long cleared = (
    ap length cleared.0
        ∙ cond-holds (λ l. length l ≡ length image) good image (sets image at (replicate size 0)) refl
        (length-sets image at (replicate size 0)),
    (
      ap length cleared.1.0
          ∙ cond-holds (λ l. length l ≡ length fields) good fields (set fields count at) refl (length-set fields count at),
      subst (λ k. k ≤ count + 1) (sym cleared.1.1)
          (cond-holds (λ k. k ≤ count + 1) good count (count + 1) (omega arith) (omega arith)),
    ),
  )

-- seven zeros, stored one after the other
pub zeros-stored : (image : List ℕ) (at from : ℕ)
    → from ≡ at
    → set
    (set (set (set (set (set (set image from 0) (from + 1) 0) (from + 2) 0) (from + 3) 0) (from + 4) 0) (from + 5) 0)
    (from + 6) 0
    ≡ sets image at (replicate place_size 0)
zeros-stored image at from same =
    ap
    (λ k. set (set (set (set (set (set (set image k 0) (k + 1) 0) (k + 2) 0) (k + 3) 0) (k + 4) 0) (k + 5) 0) (k + 6) 0) same
    ∙ simp (add-one, add-two, add-three, add-four, add_five, add_six)

-- what is left has the length of an image
pub left-long : (old : List ℕ) → length (left old) ≡ size_a2
left-long old = image_a2-length (mended (drop 1 old)) (mended-four (drop 1 old))

module _ (old : List ℕ) (n at : ℕ) (image fields : List ℕ) (count : ℕ)
    (long : length old ≡ size_a2) (inside : at ≤ size_a2) (so_far : MendedTo old n at image fields count) where
  before-long : length (take at (left old)) ≡ at
  before-long = length-take-le at (left old) (omega (arith, left-long old))

  pub mended-long : length image ≡ size_a2
  mended-long =
      ap length so_far.stands
      ∙ length-append (take at (left old)) (drop at old)
      ∙ ap₂ ◌+◌ before-long (length-drop at old)
      ∙ omega (arith, long)

  -- from the offset on it is the old one
  pub mended-here : drop at image ≡ drop at old
  mended-here = ap (drop at) so_far.stands ∙ drop_at (take at (left old)) (drop at old) at before-long

  pub mended-before : take at image ≡ take at (left old)
  mended-before = ap (take at) so_far.stands ∙ take_at (take at (left old)) (drop at old) at before-long

module _ (old : List ℕ) (n at : ℕ) (image fields : List ℕ) (count : ℕ) (few : n ≤ most_fields)
    (so_far : MendedTo old n at image fields count) where
  abbrev so-many : List ℕ
  so-many = changed (take n field_offsets) old (left old)

  listed-few : length so-many ≤ n
  listed-few =
      let shorter = length-take-le n field_offsets few in
      omega (arith, changed-few old (left old) (take n field_offsets))

  pub mended-few : count ≤ n
  mended-few =
      let counted = ap (λ (r : Rescued). r.count) so_far.lists in
      omega (arith, listed-few)

  pub mended-listed : length fields ≡ most_fields
  mended-listed =
      ap (λ (r : Rescued). length r.fields) so_far.lists
      ∙ length-take-le most_fields (so-many ++ replicate most_fields 0)
      (simp (length-append, length-replicate) (omega arith))

-- one field more: where it is good its bytes are left, else zeros, and then it had others
module _ (old : List ℕ) (n at size : ℕ) (field : Field old n at size) where
  abbrev new : List ℕ
  new = left old

  abbrev list : List ℕ
  list = changed (take n field_offsets) old new

  abbrev zeros : List ℕ
  zeros = replicate size 0

  grown : (take at new ++ part at new) ++ drop (at + size) old ≡ take (at + size) new ++ drop (at + size) old
  grown =
      ap (λ l. l ++ drop (at + size) old)
      (ap (λ k. take at new ++ take k (drop at new)) field.sized ∙ sym (take-add at size new))

  more : list ++ changed (at ∷ []) old new ≡ changed (take (n + 1) field_offsets) old new
  more =
      ap (λ k. list ++ changed (k ∷ []) old new) (sym field.begins) ∙ changed-more old new field_offsets n field.few

  module _ (image fields : List ℕ) (count : ℕ) (image' fields' : List ℕ) (count' : ℕ)
      (so_far : MendedTo old n at image fields count) where
    abbrev Listed : List ℕ → ℕ → Rescued
    Listed fs k = record { code = accepted; fields = fs; count = k }

    kept : part at new ≡ part at old
        → Cleared true at size image fields count image' fields' count'
        → MendedTo old (n + 1) (at + size) image' fields' count'
    kept own cleared = record {
      stands =
          cleared.0
          ∙ so_far.stands
          ∙ ap (◌++◌ (take at new))
          (sym (take-append-drop size (drop at old))
          ∙ ap₂ ◌++◌ (ap (λ k. take k (drop at old)) (sym field.sized) ∙ sym own) (drop-drop size at old))
          ∙ sym (append_assoc (take at new) (part at new) (drop (at + size) old))
          ∙ grown;
      lists =
          (λ i. Listed (cleared.1.0 i) (cleared.1.1 i))
          ∙ so_far.lists
          ∙ listing-same old new list at (ap (same_bytes (part at old)) own ∙ same_bytes_lem (part at old))
          ∙ ap (listing accepted) more;
    }

    freed : part at new ≡ zeros
        → same_bytes (part at old) zeros ≡ false
        → Cleared false at size image fields count image' fields' count'
        → MendedTo old (n + 1) (at + size) image' fields' count'
    freed own other cleared = record {
      stands =
          cleared.0
          ∙ sets-eq zeros image at (omega (arith, all, whole, field.ends))
          ∙ (λ i. (mended-before old n at image fields count field.long inside so_far i ++ sym own i) ++ later i)
          ∙ grown;
      lists =
          (λ i. Listed (cleared.1.0 i) (cleared.1.1 i))
          ∙ ap (λ (r : Rescued). Listed (set r.fields r.count at) (r.count + 1)) so_far.lists
          ∙ listing-more old new list at (ap (same_bytes (part at old)) own ∙ other)
          (omega (arith, listed-few old n at image fields count (omega (arith, field.few)) so_far, field.few))
          ∙ ap (listing accepted) more;
    }
      where
        inside : at ≤ size_a2
        inside = omega (arith, field.ends)

        whole : length image ≡ size_a2
        whole = mended-long old n at image fields count field.long (omega (arith, field.ends)) so_far

        all : length zeros ≡ size
        all = length-replicate size 0

        later : drop (at + length zeros) image ≡ drop (at + size) old
        later =
            ap (λ k. drop (at + k) image) (length-replicate {A = ℕ} size 0)
            ∙ sym (drop-drop size at image)
            ∙ ap (drop size)
            (mended-here old n at image fields count field.long (omega (arith, field.ends)) so_far)
            ∙ drop-drop size at old

    pub field_next : (good : Bool)
        → part at new ≡ cond good (part at old) zeros
        → (good ≡ false → same_bytes (part at old) zeros ≡ false)
        → Cleared good at size image fields count image' fields' count'
        → MendedTo old (n + 1) (at + size) image' fields' count'
    field_next true own other cleared = kept own cleared
    field_next false own other cleared = freed own (other refl) cleared

-- before the first field, over n, and after the last one
module _ (old : List ℕ) where
  pub mended-start : Mendable old → MendedTo old 0 3 old (replicate most_fields 0) 0
  unfolding image_a2 whole_bytes body_bytes mended state_in bytes_from changed
  mended-start given = record {
    stands =
        sym (take-append-drop 3 old)
        ∙ ap (λ l. l ++ drop 3 old)
        (take-bytes old 0 3 (omega (arith, given.0))
        ∙ (λ i. given.1 i ∷ sym (body-byte old 0) i ∷ sym (body-byte old 1) i ∷ []));
    lists = refl;
  }

  module _ (long : length old ≡ size_a2) (n : ℕ) (image fields : List ℕ) (count : ℕ) where
    left-tries : byte (left old) 37 ≡ byte old 37
    unfolding mended state_in
    left-tries = image_a2-tries (mended (drop 1 old)) (mended-four (drop 1 old)) ∙ body-byte old old_body_size

    pub mended-past : MendedTo old n 37 image fields count → MendedTo old n 38 image fields count
    mended-past so_far = record {
      stands =
          so_far.stands
          ∙ ap (◌++◌ (take 37 (left old))) (drop-cons old 37 0 (omega (arith, long))
          ∙ ap (λ b. b ∷ drop 38 old) (sym left-tries))
          ∙ sym (append_assoc (take 37 (left old)) (byte (left old) 37 ∷ []) (drop 38 old))
          ∙ ap (λ l. l ++ drop 38 old) (sym (take-suc (left old) 37 0 (omega (arith, left-long old))));
      lists = so_far.lists;
    }

    pub mended-all :
        MendedTo old most_fields size_a2 image fields count
        → (◌≡◌ {A = Rescued} (record { code = accepted; fields = fields; count = count })
        (listing accepted (changed field_offsets old (left old))))
        × (image ≡ left old)
    mended-all so_far = (
      so_far.lists,
      so_far.stands
          ∙ ap₂ ◌++◌ (take_all size_a2 (left old) (omega (arith, left-long old)))
          (drop_of_length-le old {i = size_a2} (omega (arith, long)))
          ∙ append-nil (left old),
    )

-- there is room for a field
module _ (old : List ℕ) (n at size : ℕ) (field : Field old n at size) (image fields : List ℕ) (count : ℕ)
    (so_far : MendedTo old n at image fields count) where
  pub field_room : (at + size ≤ length image) × (count < length fields)
  field_room =
      let few : n ≤ most_fields = omega (arith, field.few) in (
        omega (arith, field.ends, mended-long old n at image fields count field.long (omega (arith, field.ends)) so_far),
        omega (arith, field.few, mended-few old n at image fields count few so_far, mended-listed old n at image fields count few so_far),
      )
