-- A rescue by its cases, and the list of changed fields as it grows.
-- Proves: mend_last-by, limits-started, size_of-mark, size_of-place, size_of-last, changed-none, changed-more, changed-few, listing-same,
-- listing-more, image-whole, unsound-long, rescue-mends, rescue-leaves, rescue-unlimited, rescue-readable.
use mathlib.Core.Path.{◌≡◌, refl, sym, ap, ap₂, ◌∙◌}
use mathlib.Core.Bool.{Bool, true, false, cond, ◌&&◌}
use mathlib.Core.List.{List, [], ◌∷◌, ◌++◌, append-nil}
use Prim.Native.Nat.{ℕ, suc, ◌+◌, ◌≤◌, ◌<◌}
use native.Mathlib.Omega.{arith}
use native.Mathlib.Numerals.{add-one}
use lib.Dec.{eqb, leb}
use lib.ListN.{length, get_or, set, take, drop, length-append, drop_of_length-le}
use lib.Seq.{take-suc}
use borrow.Author.Tests.{le-leb, lt-leb, eqb-true, eq-eqb, ne_eqb}
use Rattle.wire.specs.Refusals.{accepted, wrong_length, unknown_kind, not_sound, bad_limits}
use Rattle.wire.proofs.Tests.{and_both, cond-case, cond-holds}
use Rattle.wire.proofs.Padded.{padded-push}
use Rattle.place.specs.declared.limits.Limits.{Limits}
use Rattle.unit.specs.Lasts.{last_ok}
use Rattle.unit.specs.States.{limits_ok, cold_start, cold, no_limits}
use Rattle.unit.specs.declared.last.Last.{Last}
use Rattle.unit.specs.declared.last.Last.TheVariants.{Unknown}
use Rattle.unit.specs.declared.state.State.{State}
use Rattle.unit.specs.declared.start.Started.{Started}
use Rattle.image.specs.Images.{kind_a2, size_a2, place_size, last_size, last_bytes, image_a2, last_in, state_in, same_bytes}
use Rattle.image.specs.Images.{read_refused, read_a2}
use Rattle.image.specs.Bodies.{places_at, last_at, read_body, of_length}
use Rattle.image.specs.Rescue.{mend_last, field_offsets, most_fields, size_of, part, changed, listing, spoilt, left, rescue, rescued}
use Rattle.image.proofs.Bytes.{same_bytes_lem}

-- the last known RBC by what the two tests showed
pub mend_last-by : (s : List ℕ) (last : Last) (good own : Bool)
    → last ≡ last_in s
    → last_ok last ≡ good
    → same_bytes (last_bytes last) (take last_size s) ≡ own
    → cond (good && own) last Unknown ≡ mend_last s
mend_last-by s last good own read test written =
    ap₂ (λ x y. cond (x && y) last Unknown) (sym test) (sym written)
    ∙ ap (λ k. cond (last_ok k && same_bytes (last_bytes k) (take last_size s)) k Unknown) read

-- the limits are good where a cold start takes them
pub limits-started : (l : Limits) → eqb (cold_start l).code accepted ≡ limits_ok l
unfolding cold_start
limits-started l = by (limits_ok l)
  where
    good : Started
    good = record { code = accepted; state = cold l }

    bad : Started
    bad = record { code = bad_limits; state = cold no_limits }

    by : (b : Bool) → eqb (cond b good bad).code accepted ≡ b
    by true = refl
    by false = refl

-- the bytes of the fields
pub size_of-mark : (at : ℕ) → at < places_at → 1 ≡ size_of at
size_of-mark at h = sym (ap (λ b. cond b (cond (leb last_at at) last_size place_size) 1) (lt-leb places_at at h))

pub size_of-place : (at : ℕ) → places_at ≤ at → at < last_at → place_size ≡ size_of at
size_of-place at h g =
    sym (ap₂ (λ a b. cond a (cond b last_size place_size) 1) (le-leb places_at at h) (lt-leb last_at at g))

pub size_of-last : (at : ℕ) → places_at ≤ at → last_at ≤ at → last_size ≡ size_of at
size_of-last at h g =
    sym (ap₂ (λ a b. cond a (cond b last_size place_size) 1) (le-leb places_at at h) (le-leb last_at at g))

-- nothing has changed between an image and itself
pub changed-none : (fs image : List ℕ) → changed fs image image ≡ []
unfolding changed
changed-none [] image = refl
changed-none (at ∷ fs) image =
    ap (λ b. cond b (changed fs image image) (at ∷ changed fs image image)) (same_bytes_lem (part at image)) ∙ changed-none fs image

-- the list of changed fields, one field more
module _ (old new : List ℕ) where
  changed-append : (xs ys : List ℕ) → changed (xs ++ ys) old new ≡ changed xs old new ++ changed ys old new
  unfolding changed
  changed-append [] ys = refl
  changed-append (x ∷ xs) ys =
      by (same_bytes (part x old) (part x new)) (changed-append xs ys)
    where
      by : (b : Bool)
          → changed (xs ++ ys) old new ≡ changed xs old new ++ changed ys old new
          → cond b (changed (xs ++ ys) old new) (x ∷ changed (xs ++ ys) old new)
          ≡ cond b (changed xs old new) (x ∷ changed xs old new) ++ changed ys old new
      by true e = e
      by false e = ap (◌∷◌ x) e

  pub changed-more : (fs : List ℕ) (i : ℕ)
      → i < length fs
      → changed (take i fs) old new ++ changed (get_or fs i 0 ∷ []) old new ≡ changed (take (i + 1) fs) old new
  changed-more fs i below =
      sym (changed-append (take i fs) (get_or fs i 0 ∷ []))
      ∙ ap (λ l. changed l old new) (sym (take-suc fs i 0 below) ∙ ap (λ k. take k fs) (sym (add-one i)))

  pub changed-few : (fs : List ℕ) → length (changed fs old new) ≤ length fs
  unfolding changed
  changed-few [] = omega arith
  changed-few (x ∷ xs) =
      let rest = changed-few xs in
      cond-holds (λ l. length l ≤ suc (length xs)) (same_bytes (part x old) (part x new)) (changed xs old new) (x ∷ changed xs old new)
      (omega arith)
      (omega arith)

  module _ (list : List ℕ) (at : ℕ) where
    pub listing-same :
        same_bytes (part at old) (part at new) ≡ true
        → listing accepted list ≡ listing accepted (list ++ changed (at ∷ []) old new)
    unfolding changed
    listing-same same =
        ap (listing accepted) (sym (append-nil list))
        ∙ ap (λ b. listing accepted (list ++ cond b [] (at ∷ []))) (sym same)

    pub listing-more :
        same_bytes (part at old) (part at new) ≡ false
        → length list < most_fields
        → record {
          code = accepted;
          fields = set (listing accepted list).fields (length list) at;
          count = length list + 1;
        }
        ≡ listing accepted (list ++ changed (at ∷ []) old new)
    unfolding changed
    listing-more other room =
        (λ i. record { code = accepted; fields = padded-push 10 0 at list room i; count = longer i })
        ∙ ap (λ b. listing accepted (list ++ cond b [] (at ∷ []))) (sym other)
      where
        longer : length list + 1 ≡ length (list ++ (at ∷ []))
        longer = sym (length-append list (at ∷ []))

-- an image in a buffer of its own length
pub image-whole : (s : State) (buffer : List ℕ) → length buffer ≡ size_a2 → image_a2 s ++ drop size_a2 buffer ≡ image_a2 s
image-whole s buffer all =
    ap (◌++◌ (image_a2 s)) (drop_of_length-le buffer {i = size_a2} (omega arith)) ∙ append-nil (image_a2 s)

-- an image that a reading refuses with 11 is as long as an image A2
module _ (image : List ℕ) where
  abbrev Long : Started → Type 0
  Long r = r.code ≡ not_sound → length image ≡ size_a2

  body-long : (body : List ℕ) → Long (of_length size_a2 image body)
  body-long body =
      cond-case Long (eqb (length image) size_a2) (read_body body) (read_refused wrong_length)
      (λ long h. eqb-true (length image) size_a2 long)
      (λ short h. absurd (omega arith))

pub unsound-long : (image : List ℕ) → (read_a2 image).code ≡ not_sound → length image ≡ size_a2
unfolding read_a2
unsound-long [] = λ h. absurd (omega arith)
unsound-long (kind ∷ body) =
    cond-case (Long (kind ∷ body)) (eqb kind kind_a2) (of_length size_a2 (kind ∷ body) body) (read_refused unknown_kind)
    (λ known. body-long (kind ∷ body) body)
    (λ unknown h. absurd (omega arith))

and-false : (b : Bool) → (b && false) ≡ false
and-false true = refl
and-false false = refl

-- a rescue by what its tests showed
module _ (image : List ℕ) where
  pub rescue-mends :
      (read_a2 image).code ≡ not_sound
      → limits_ok (state_in (drop 1 image)).limits ≡ true
      → (listing accepted (changed field_offsets image (left image)) ≡ rescue image) × (left image ≡ rescued image)
  unfolding rescue rescued
  rescue-mends bad good =
      let is : spoilt image ≡ true = and_both _ _ (eq-eqb (read_a2 image).code not_sound bad) good in (
        sym (ap (λ b. cond b (listing accepted (changed field_offsets image (left image))) (listing (read_a2 image).code [])) is),
        sym (ap (λ b. cond b (left image) image) is),
      )

  pub rescue-leaves : spoilt image ≡ false → (listing (read_a2 image).code [] ≡ rescue image) × (image ≡ rescued image)
  unfolding rescue rescued
  rescue-leaves not_so = (
    sym (ap (λ b. cond b (listing accepted (changed field_offsets image (left image))) (listing (read_a2 image).code [])) not_so),
    sym (ap (λ b. cond b (left image) image) not_so),
  )

  pub rescue-unlimited :
      limits_ok (state_in (drop 1 image)).limits ≡ false
      → (listing (read_a2 image).code [] ≡ rescue image) × (image ≡ rescued image)
  rescue-unlimited bad = rescue-leaves (ap (◌&&◌ (eqb (read_a2 image).code not_sound)) bad
      ∙ and-false (eqb (read_a2 image).code not_sound))

  pub rescue-readable :
      ((read_a2 image).code ≡ not_sound → ⊥)
      → (listing (read_a2 image).code [] ≡ rescue image) × (image ≡ rescued image)
  rescue-readable other =
      rescue-leaves (ap (λ b. b && limits_ok (state_in (drop 1 image)).limits) (ne_eqb (read_a2 image).code not_sound other))
