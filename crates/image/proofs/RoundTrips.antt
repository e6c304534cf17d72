-- Reading and writing images, on the definitions.
-- Proves: fits-tail, tail-fits, read-written, read_a2-written, read_a1-written, written_a2-read, written_read, place-in-either, read-free.
use mathlib.Core.Path.{◌≡◌, refl, ap, ap₂, sym, ◌∙◌}
use mathlib.Core.Logic.{◌↔◌, ◌⊎◌, inl, inr, ⊎_elim}
use mathlib.Core.Bool.{true, cond}
use mathlib.Core.List.{List, [], ◌∷◌, ◌++◌, append-nil}
use Prim.Native.Nat.{ℕ, ◌+◌, ◌*◌, ◌<◌}
use native.Mathlib.Omega.{arith}
use lib.Dec.{eqb}
use lib.Seq.{take_at, drop_at, drop-drop}
use lib.ListN.{length, get_or, take, drop, replicate}
use borrow.Author.Tests.{eqb-true, eq-eqb}
use Rattle.wire.specs.Bytes.{byte}
use Rattle.wire.specs.Refusals.{accepted, wrong_length, unknown_kind, not_sound}
use Rattle.wire.proofs.Tests.{cond-case}
use Rattle.place.specs.Places.{vacant, is_free}
use Rattle.place.specs.declared.place.Place.{Place}
use Rattle.unit.specs.States.{place_count, sound}
use Rattle.unit.specs.declared.last.Last.{Last}
use Rattle.unit.specs.declared.last.Last.TheVariants.{Unknown, Known}
use Rattle.unit.specs.declared.state.State.{State}
use Rattle.unit.specs.declared.start.Started.{Started}
use Rattle.unit.proofs.Facts.{sound-facts}
use Rattle.image.specs.Images.{kind_a1, kind_a2, size_a1, size_a2, place_size, place_bytes, body_bytes, last_bytes, whole_bytes}
use Rattle.image.specs.Images.{image_a1, image_a2, fits_a1, head_size, state_in, read_refused, is_body_of}
use Rattle.image.specs.Images.{old_body_size}
use Rattle.image.specs.Images.{tail_of_a1, read_a2, read_image}
use Rattle.image.specs.Bodies.{tail_bytes, places_at, read_body, of_length}
use Rattle.image.proofs.Again.Writing.{fits_a1-means}
use Rattle.image.proofs.Bytes.{body_bytes-length, state_in-whole, image_a1-length, image_a2-length}
use Rattle.image.proofs.Bytes.{is_body_of-means, place-bytes-at, zeros-free, free-zeros}

-- a state fits A1 exactly where its tail in A2 is the one that A1 is read with
pub fits-tail : (s : State) → fits_a1 s ≡ true → tail_bytes s ≡ tail_of_a1
fits-tail s fits =
    let means = (fits_a1-means s).0 fits in
    ap₂ (λ n last. n ∷ last_bytes last) means.0 means.1

zeros-unknown : (last : Last) → last_bytes last ≡ last_bytes Unknown → last ≡ Unknown
zeros-unknown Unknown h = refl
zeros-unknown (Known high middle low) h =
    let flag = ap (λ l. byte l 0) h in
    absurd (omega arith)

pub tail-fits : (s : State) → tail_bytes s ≡ tail_of_a1 → fits_a1 s ≡ true
tail-fits s h = (fits_a1-means s).1 (ap (λ l. byte l 0) h, zeros-unknown s.last (ap (drop 1) h))

-- a sound state is read from its own bytes after the kind, in an image of the right length
body-read : (s : State) → sound s ≡ true → read_body (whole_bytes s) ≡ record { code = accepted; state = s }
body-read s ok =
    ap (λ x. cond (is_body_of x (whole_bytes s)) (record { code = accepted; state = x }) (read_refused not_sound))
    (state_in-whole s (sound-facts s ok).four)
    ∙ ap (λ b. cond b (record { code = accepted; state = s }) (read_refused not_sound))
    ((is_body_of-means s (whole_bytes s)).1 (ok, refl))

sized-read : (s : State) (size : ℕ) (image body : List ℕ)
    → sound s ≡ true
    → length image ≡ size
    → body ≡ whole_bytes s
    → of_length size image body ≡ record { code = accepted; state = s }
sized-read s size image body ok long own =
    ap₂ (λ b l. cond b (read_body l) (read_refused wrong_length)) (eq-eqb (length image) size long) own ∙ body-read s ok

module _ (s : State) (ok : sound s ≡ true) where
  four : length s.places ≡ place_count
  four = (sound-facts s ok).four

  -- "what is written reads back": A2 by its own reader
  -- promise
  pub read_a2-written : read_a2 (image_a2 s) ≡ record { code = accepted; state = s }
  unfolding read_a2 image_a2
  read_a2-written = sized-read s size_a2 (image_a2 s) (whole_bytes s) ok (image_a2-length s four) refl

  -- and by the one of both kinds
  -- promise
  pub read-written : read_image (image_a2 s) ≡ record { code = accepted; state = s }
  unfolding read_image image_a2
  read-written = read_a2-written

  -- and A1
  -- promise
  pub read_a1-written : fits_a1 s ≡ true → read_image (image_a1 s) ≡ record { code = accepted; state = s }
  unfolding read_image image_a1 whole_bytes
  read_a1-written fits =
      sized-read s size_a1 (image_a1 s) (body_bytes s ++ tail_of_a1) ok (image_a1-length s four)
      (ap (◌++◌ (body_bytes s)) (sym (fits-tail s fits)))

-- what a reading answers, where it is accepted: a sound state of which something holds
abbrev ReadAs : (State → Type 0) → Started → Type 0
ReadAs P r = r.code ≡ accepted → (sound r.state ≡ true) × P r.state

-- an image of a size, and its body as A2 has it: the body is that of the state
sized-as : (P : State → Type 0) (size : ℕ) (image body : List ℕ)
    → (length image ≡ size → (t : State) → sound t ≡ true → whole_bytes t ≡ body → P t)
    → ReadAs P (of_length size image body)
sized-as P size image body then =
    cond-case (ReadAs P) (eqb (length image) size) (read_body body) (read_refused wrong_length)
    (λ long.
    cond-case (ReadAs P) (is_body_of (state_in body) body) (record { code = accepted; state = state_in body }) (read_refused not_sound)
    (λ good h.
    let own = (is_body_of-means (state_in body) body).0 good in
    (own.0, then (eqb-true (length image) size long) (state_in body) own.0 own.1))
    (λ spoilt h. absurd (omega arith)))
    (λ short h. absurd (omega arith))

-- "each image that is read is the one its state writes": A2 by its own reader
-- promise
pub written_a2-read : (bytes : List ℕ)
    → (read_a2 bytes).code ≡ accepted
    → (sound (read_a2 bytes).state ≡ true) × (image_a2 (read_a2 bytes).state ≡ bytes)
unfolding read_a2 image_a2
written_a2-read [] = λ h. absurd (omega arith)
written_a2-read (kind ∷ body) =
    cond-case (ReadAs P) (eqb kind kind_a2) (of_length size_a2 (kind ∷ body) body) (read_refused unknown_kind)
    (λ known. sized-as P size_a2 (kind ∷ body) body (λ long t ok own. ap₂ ◌∷◌ (sym (eqb-true kind kind_a2 known)) own))
    (λ unknown h. absurd (omega arith))
  where
    P : State → Type 0
    P t = image_a2 t ≡ kind ∷ body

-- and by the one of both kinds: the bytes are one of the two images of the state, A1 only where it holds the state
-- promise
pub written_read : (bytes : List ℕ)
    → (read_image bytes).code ≡ accepted
    → (sound (read_image bytes).state ≡ true)
    × ((image_a2 (read_image bytes).state ≡ bytes)
    ⊎ ((fits_a1 (read_image bytes).state ≡ true) × (image_a1 (read_image bytes).state ≡ bytes)))
unfolding read_image read_a2 image_a1 whole_bytes
written_read [] = λ h. absurd (omega arith)
written_read (kind ∷ body) =
    cond-case (ReadAs P) (eqb kind kind_a1) (of_length size_a1 (kind ∷ body) (body ++ tail_of_a1)) (read_a2 (kind ∷ body))
    (λ known.
    sized-as P size_a1 (kind ∷ body) (body ++ tail_of_a1)
    (λ long t ok own.
    let front = body_bytes-length t (sound-facts t ok).four in
    let fits =
    sym (drop_at (body_bytes t) (tail_bytes t) old_body_size front)
    ∙ ap (drop old_body_size) own
    ∙ drop_at body tail_of_a1 old_body_size (omega arith) in
    let own_body =
    sym (take_at (body_bytes t) (tail_bytes t) old_body_size front)
    ∙ ap (take old_body_size) own
    ∙ take_at body tail_of_a1 old_body_size (omega arith) in
    inr (tail-fits t fits, ap₂ ◌∷◌ (sym (eqb-true kind kind_a1 known)) own_body)))
    (λ other h.
    let a2 = written_a2-read (kind ∷ body) h in
    (a2.0, inl a2.1))
  where
    P : State → Type 0
    P t = (image_a2 t ≡ kind ∷ body) ⊎ ((fits_a1 t ≡ true) × (image_a1 t ≡ kind ∷ body))

-- both images of a state have its places at the same bytes
module _ (s : State) (i : ℕ) (below : i < length s.places) where
  place_in : (kind : ℕ) (rest : List ℕ)
      → take place_size (drop (places_at + place_size * i) ((kind ∷ body_bytes s) ++ rest)) ≡ place_bytes (get_or s.places i vacant)
  unfolding body_bytes
  place_in kind rest =
      ap (take place_size) (sym (drop-drop (place_size * i) places_at ((kind ∷ body_bytes s) ++ rest)))
      ∙ place-bytes-at s.places rest i below

  pub place-in-either : (bytes : List ℕ)
      → (image_a2 s ≡ bytes) ⊎ ((fits_a1 s ≡ true) × (image_a1 s ≡ bytes))
      → take place_size (drop (places_at + place_size * i) bytes) ≡ place_bytes (get_or s.places i vacant)
  unfolding image_a1 image_a2 whole_bytes
  place-in-either bytes =
      ⊎_elim
      (λ a2. ap (λ l. take place_size (drop (places_at + place_size * i) l)) (sym a2) ∙ place_in kind_a2 (tail_bytes s))
      (λ a1.
      ap (λ l. take place_size (drop (places_at + place_size * i) l)) (sym a1.1 ∙ sym (append-nil (image_a1 s)))
      ∙ place_in kind_a1 [])

-- "A free place is seven zeros, and no other bytes mean free": in an image that is read, at every place
-- promise
pub read-free : (bytes : List ℕ) (i : ℕ)
    → (read_image bytes).code ≡ accepted
    → i < place_count
    → (is_free (get_or (read_image bytes).state.places i vacant) ≡ true)
    ↔ (take place_size (drop (1 + head_size + place_size * i) bytes) ≡ replicate place_size 0)
read-free bytes i ok below =
    ((λ free. seven ∙ free-zeros place.holding free), (λ zeros. zeros-free place.holding (sym seven ∙ zeros)))
  where
    s : State
    s = (read_image bytes).state

    place : Place
    place = get_or s.places i vacant

    four : length s.places ≡ place_count
    four = (sound-facts s (written_read bytes ok).0).four

    seven : take place_size (drop (places_at + place_size * i) bytes) ≡ place_bytes place
    seven = place-in-either s i (omega (arith, four)) bytes (written_read bytes ok).1
