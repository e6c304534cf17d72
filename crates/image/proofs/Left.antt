-- What an accepted rescue leaves, byte by byte: always the image of what is left of the body, of a sound image too.
-- Proves: rescue-refused, rescue-limited, rescue-bad-limits, rescued-left, accepted-long, accepted-limits, body-byte, limits-at,
-- left-places, left-tail, mend_places-at, keep_first-at, left-place, left-last.
use mathlib.Core.Path.{◌≡◌, refl, sym, ap, ◌∙◌}
use mathlib.Core.Logic.{inl}
use mathlib.Core.Bool.{Bool, true, false, cond, ◌&&◌, ◌||◌, not}
use mathlib.Core.List.{List, [], ◌∷◌}
use Prim.Native.Nat.{ℕ, zero, suc, ◌+◌, ◌*◌, ◌<◌}
use native.Mathlib.Nat.{le_of_suc-le-suc}
use native.Mathlib.Omega.{arith}
use lib.Dec.{eqb}
use lib.ListN.{length, get_or, take, drop, replicate}
use lib.Seq.{drop-drop, get_or-drop}
use borrow.Author.Tests.{eqb-true}
use Rattle.wire.specs.Bytes.{byte}
use Rattle.wire.specs.Refusals.{accepted, not_sound}
use Rattle.wire.proofs.Tests.{and_left, and_right, true-false}
use Rattle.place.specs.Places.{vacant, holds, place_ok}
use Rattle.place.specs.declared.limits.Limits.{Limits}
use Rattle.place.specs.declared.place.Holding.{Holding}
use Rattle.place.specs.declared.place.Holding.TheVariants.{Free, Held}
use Rattle.place.specs.declared.place.Place.{Place}
use Rattle.unit.specs.States.{place_count, some, limits_ok, absent_from}
use Rattle.unit.specs.Lasts.{last_ok}
use Rattle.unit.specs.declared.last.Last.TheVariants.{Unknown}
use Rattle.unit.specs.declared.start.Started.{Started}
use Rattle.unit.proofs.Facts.{sound-facts}
use Rattle.image.specs.Images.{size_a2, place_size, place_bytes, last_size, last_bytes, whole_bytes, image_a2, place_in}
use Rattle.image.specs.Images.{head_size, old_body_size, last_in, state_in, same_bytes, read_refused, is_body_of, read_a2}
use Rattle.image.specs.Bodies.{places_at, last_at, last_from, read_body}
use Rattle.image.specs.Mends.{Mendable}
use Rattle.image.specs.declared.rescue.Rescued.{Rescued}
use Rattle.image.specs.Rescue.{is_place_of, mend_place, mend_places, keep, keep_first, is_last_of, mend_last, mended}
use Rattle.image.specs.Rescue.{field_offsets, changed, listing}
use Rattle.image.specs.Rescue.{spoilt, left, rescue, rescued}
use Rattle.image.proofs.Bytes.{state_in-whole, whole-tail, image_a2-length, bytes_same, is_body_of-means}
use Rattle.image.proofs.RoundTrips.{written_a2-read, place-in-either}
use Rattle.image.proofs.Mending.{mend_places-length, mended-four, mended-whole}
use Rattle.image.proofs.Rescuing.{changed-none, unsound-long, rescue-mends, rescue-unlimited, rescue-readable}
use Rattle.image.proofs.Taking.{read-a2-whole}

-- a sound image is the image of its state, and of what is left of its body
readable : (image : List ℕ)
    → (read_a2 image).code ≡ accepted
    → (left image ≡ image) × ((length image ≡ size_a2) × (limits_ok (state_in (drop 1 image)).limits ≡ true))
unfolding image_a2
readable image h =
    let own = written_a2-read image h in
    let s = (read_a2 image).state in
    let four = (sound-facts s own.0).four in
    let body : drop 1 image ≡ whole_bytes s = ap (drop 1) (sym own.1) in (
      ap (λ b. image_a2 (mended b)) body ∙ ap image_a2 (mended-whole s own.0) ∙ own.1,
      (
        ap length (sym own.1) ∙ image_a2-length s four,
        ap (λ b. limits_ok (state_in b).limits) body
            ∙ ap (λ x. limits_ok x.limits) (state_in-whole s four)
            ∙ (sound-facts s own.0).limits,
      ),
    )

-- a rescue by the kind, the length and the limits of an image, whether it is sound or not
module _ (image : List ℕ) where
  abbrev As : Rescued → List ℕ → Type 0
  As answer after = (answer ≡ rescue image) × (after ≡ rescued image)

  pub rescue-refused : (r : ℕ) → read_refused r ≡ read_a2 image → (r ≡ not_sound → ⊥) → As (listing r []) image
  rescue-refused r refused other =
      let code = ap (λ (s : Started). s.code) refused in
      let law = rescue-readable image (λ h. other (code ∙ h)) in
      (ap (λ k. listing k []) code ∙ law.0, law.1)

  module _ (given : Mendable image) where
    read : read_body (drop 1 image) ≡ read_a2 image
    read = read-a2-whole image (λ h. absurd (omega (arith, given.0))) given.1 given.0

    abbrev own : Bool
    own = is_body_of (state_in (drop 1 image)) (drop 1 image)

    code_by : (b : Bool) → own ≡ b → (read_a2 image).code ≡ cond b accepted not_sound
    code_by b is = ap (λ (s : Started). s.code) (sym read) ∙ by own ∙ ap (λ t. cond t accepted not_sound) is
      where
        by : (t : Bool)
            → (cond t (record { code = accepted; state = state_in (drop 1 image) }) (read_refused not_sound)).code
            ≡ cond t accepted not_sound
        by true = refl
        by false = refl

    pub rescue-limited :
        limits_ok (state_in (drop 1 image)).limits ≡ true
        → As (listing accepted (changed field_offsets image (left image))) (left image)
    rescue-limited good = by own refl
      where
        by : (b : Bool) → own ≡ b → As (listing accepted (changed field_offsets image (left image))) (left image)
        by true is =
            let code = code_by true is in
            let same = (readable image code).0 in
            let law = rescue-readable image (λ h. absurd (omega (arith, code))) in (
              ap (λ l. listing accepted (changed field_offsets image l)) same
                  ∙ ap (listing accepted) (changed-none field_offsets image)
                  ∙ ap (λ k. listing k []) (sym code)
                  ∙ law.0,
              same ∙ law.1,
            )
        by false is = rescue-mends image (code_by false is) good

    pub rescue-bad-limits : limits_ok (state_in (drop 1 image)).limits ≡ false → As (listing not_sound []) image
    rescue-bad-limits bad = by own refl
      where
        by : (b : Bool) → own ≡ b → As (listing not_sound []) image
        by true is =
            let s = state_in (drop 1 image) in
            true-false (limits_ok s.limits) (sound-facts s ((is_body_of-means s (drop 1 image)).0 is).0).limits bad
        by false is =
            let law = rescue-unlimited image bad in
            (ap (λ k. listing k []) (sym (code_by false is)) ∙ law.0, law.1)

module _ (image : List ℕ) (ok : (rescue image).code ≡ accepted) where
  abbrev Leaves : Bool → Type 0
  Leaves b =
      (cond b (left image) image ≡ left image)
      × ((length image ≡ size_a2) × (limits_ok (state_in (drop 1 image)).limits ≡ true))

  leaves : (b : Bool)
      → spoilt image ≡ b
      → (cond b (listing accepted (changed field_offsets image (left image))) (listing (read_a2 image).code [])).code ≡ accepted
      → Leaves b
  leaves true is h = (
    refl,
    (
      unsound-long image (eqb-true (read_a2 image).code not_sound (and_left _ _ is)),
      and_right (eqb (read_a2 image).code not_sound) (limits_ok (state_in (drop 1 image)).limits) is,
    ),
  )
  leaves false is h =
      let own = readable image h in
      (sym own.0, own.1)

  all : Leaves (spoilt image)
  unfolding rescue
  all = leaves (spoilt image) refl ok

  pub rescued-left : rescued image ≡ left image
  unfolding rescued
  rescued-left = all.0

  pub accepted-long : length image ≡ size_a2
  accepted-long = all.1.0

  pub accepted-limits : limits_ok (state_in (drop 1 image)).limits ≡ true
  accepted-limits = all.1.1

-- a byte after the kind, and the parts of what is left
pub body-byte : (image : List ℕ) (k : ℕ) → byte (drop 1 image) k ≡ byte image (1 + k)
body-byte image k = get_or-drop 1 image k 0

-- the X numbers and n
pub limits-at : (image : List ℕ)
    → (state_in (drop 1 image)).limits ≡ record { lowest = byte image 1; highest = byte image 2; tries = byte image 37 }
unfolding state_in
limits-at image = λ i. record { lowest = body-byte image 0 i; highest = body-byte image 1 i; tries = body-byte image 36 i }

pub left-places : (image : List ℕ) (i : ℕ)
    → i < place_count
    → take place_size (drop (places_at + place_size * i) (left image)) ≡ place_bytes (get_or (mended (drop 1 image)).places i vacant)
left-places image i below =
    let s = mended (drop 1 image) in
    place-in-either s i (omega (arith, mended-four (drop 1 image))) (image_a2 s) (inl refl)

pub left-tail : (image : List ℕ) → drop (1 + last_from) (left image) ≡ last_bytes (mended (drop 1 image)).last
unfolding image_a2
left-tail image =
    let s = mended (drop 1 image) in
    sym (drop-drop 1 old_body_size (whole_bytes s)) ∙ ap (drop 1) (whole-tail s (mended-four (drop 1 image)))

-- the place with a number, by itself and among those below it
pub mend_places-at : (l : Limits) (k : ℕ) (s : List ℕ) (i : ℕ)
    → i < k
    → get_or (mend_places l k s) i vacant ≡ mend_place l (drop (place_size * i) s)
unfolding mend_places
mend_places-at l zero s i below = absurd (omega arith)
mend_places-at l (suc k) s zero below = refl
mend_places-at l (suc k) s (suc i) below =
    let next : place_size + place_size * i ≡ place_size * suc i = omega arith in
    mend_places-at l k (drop place_size s) i (le_of_suc-le-suc below)
    ∙ ap (mend_place l) (drop-drop (place_size * i) place_size s ∙ ap (λ n. drop n s) next)

swap : (a b c : Bool) → (not (a || b) && not c) ≡ (not b && not (a || c))
swap true true c = refl
swap true false c = refl
swap false true c = refl
swap false false c = refl

absent-swap : (q : Place) (kept lower : List Place) (k : Holding)
    → (absent_from (q ∷ kept) k && absent_from lower k) ≡ (absent_from kept k && absent_from (q ∷ lower) k)
unfolding some
absent-swap q kept lower Free = refl
absent-swap q kept lower (Held d ph p) = swap (holds p q) (some (holds p) kept) (some (holds p) lower)

absent_none : (kept : List Place) (k : Holding) → absent_from kept k ≡ (absent_from kept k && absent_from [] k)
unfolding some
absent_none kept Free = refl
absent_none kept (Held d ph p) = by (some (holds p) kept)
  where
    by : (b : Bool) → not b ≡ (not b && true)
    by true = refl
    by false = refl

pub keep_first-at : (kept ps : List Place) (i : ℕ)
    → i < length ps
    → get_or (keep_first kept ps) i vacant
    ≡ cond (absent_from kept (get_or ps i vacant).holding && absent_from (take i (keep_first kept ps)) (get_or ps i vacant).holding)
    (get_or ps i vacant) vacant
unfolding keep_first
keep_first-at kept [] i below = absurd (omega arith)
keep_first-at kept (p ∷ ps) zero below = ap (λ b. cond b p vacant) (absent_none kept p.holding)
keep_first-at kept (p ∷ ps) (suc i) below =
    let q = keep kept p in
    let at = get_or ps i vacant in
    keep_first-at (q ∷ kept) ps i (le_of_suc-le-suc below)
    ∙ ap (λ b. cond b at vacant) (absent-swap q kept (take i (keep_first (q ∷ kept) ps)) at.holding)

-- the bytes of what is left of a place
place-bytes : (l : Limits) (s : List ℕ) (b : Bool)
    → place_bytes (cond b (mend_place l s) vacant) ≡ cond (is_place_of l s && b) (take place_size s) (replicate place_size 0)
place-bytes l s b = by (is_place_of l s) b refl
  where
    by : (good b : Bool)
        → is_place_of l s ≡ good
        → place_bytes (cond b (cond good (place_in s) vacant) vacant) ≡ cond (good && b) (take place_size s) (replicate place_size 0)
    by true true is =
        let own = same_bytes (place_bytes (place_in s)) (take place_size s) in
        bytes_same (place_bytes (place_in s)) (take place_size s) (and_right (place_ok l (place_in s)) own is)
    by true false is = refl
    by false true is = refl
    by false false is = refl

-- where a place is sound by itself, what is mended is the place itself
absent_by : (l : Limits) (s : List ℕ) (lower : List Place)
    → (is_place_of l s && absent_from lower (mend_place l s).holding) ≡ (is_place_of l s && absent_from lower (place_in s).holding)
absent_by l s lower = by (is_place_of l s)
  where
    by : (good : Bool)
        → (good && absent_from lower (cond good (place_in s) vacant).holding) ≡ (good && absent_from lower (place_in s).holding)
    by true = refl
    by false = refl

absent-nil : (k : Holding) → absent_from [] k ≡ true
unfolding some
absent-nil Free = refl
absent-nil (Held d ph p) = refl

-- the bytes of a place: its own where it is sound by itself and no lower place that is left holds its partner, else zeros
pub left-place : (image : List ℕ) (i : ℕ)
    → i < place_count
    → take place_size (drop (places_at + place_size * i) (left image))
    ≡ cond
    (is_place_of (state_in (drop 1 image)).limits (drop (places_at + place_size * i) image)
    && absent_from (take i (mended (drop 1 image)).places) (place_in (drop (places_at + place_size * i) image)).holding)
    (take place_size (drop (places_at + place_size * i) image))
    (replicate place_size 0)
unfolding mended
left-place image i below =
    left-places image i below
    ∙ ap place_bytes (keep_first-at [] alone i (omega (arith, mend_places-length l place_count (drop head_size body))))
    ∙ ap (λ p. place_bytes (Kept p)) here
    ∙ ap (λ b. place_bytes (cond (b && absent_from lower (mend_place l s).holding) (mend_place l s) vacant))
    (absent-nil (mend_place l s).holding)
    ∙ place-bytes l s (absent_from lower (mend_place l s).holding)
    ∙ ap (λ b. cond b (take place_size s) (replicate place_size 0)) (absent_by l s lower)
  where
    body : List ℕ
    body = drop 1 image

    l : Limits
    l = (state_in (drop 1 image)).limits

    s : List ℕ
    s = drop (places_at + place_size * i) image

    alone : List Place
    alone = mend_places (state_in (drop 1 image)).limits place_count (drop head_size (drop 1 image))

    lower : List Place
    lower = take i (mended (drop 1 image)).places

    Kept : Place → Place
    Kept p = cond (absent_from [] p.holding && absent_from lower p.holding) p vacant

    here : get_or alone i vacant ≡ mend_place l s
    here =
        let whole : 1 + (head_size + place_size * i) ≡ places_at + place_size * i = omega arith in
        mend_places-at l place_count (drop head_size body) i below
        ∙ ap (mend_place l)
        (drop-drop (place_size * i) head_size body ∙ drop-drop (head_size + place_size * i) 1 image ∙ ap (λ n. drop n image) whole)

-- and of the last known RBC
pub left-last : (image : List ℕ)
    → drop last_at (left image)
    ≡ cond (is_last_of (drop last_at image)) (take last_size (drop last_at image)) (replicate last_size 0)
unfolding mended
left-last image =
    left-tail image ∙ ap (λ s. last_bytes (mend_last s)) (drop-drop last_from 1 image) ∙ by (is_last_of (drop last_at image)) refl
  where
    s : List ℕ
    s = drop last_at image

    by : (b : Bool) → is_last_of s ≡ b → last_bytes (cond b (last_in s) Unknown) ≡ cond b (take last_size s) (replicate last_size 0)
    by true is =
        bytes_same (last_bytes (last_in s)) (take last_size s)
        (and_right (last_ok (last_in s)) (same_bytes (last_bytes (last_in s)) (take last_size s)) is)
    by false is = refl
