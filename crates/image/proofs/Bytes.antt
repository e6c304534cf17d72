-- The layout of an image: one place's seven bytes, proved once over the place number, what follows the places, and the lengths.
-- Proves: place_bytes-length, places_bytes-length, last_bytes-length, body_bytes-length, whole_bytes-length, whole-tail,
-- place_in-bytes, places_in-bytes, last_in-bytes, state_in-whole, image_a1-length, image_a2-length, same_bytes_lem, bytes_same,
-- is_body_of-means, place-bytes-at, zeros-free, free-zeros.
use mathlib.Core.Path.{◌≡◌, refl, ap, ap₂, sym, ◌∙◌}
use mathlib.Core.Logic.{◌↔◌}
use mathlib.Core.Bool.{Bool, true, false, cond}
use mathlib.Core.List.{List, [], ◌∷◌, ◌++◌, append_assoc}
use Prim.Native.Nat.{ℕ, zero, suc, ◌+◌, ◌*◌, ◌<◌}
use native.Mathlib.Nat.{le_of_suc-le-suc}
use native.Mathlib.Omega.{arith}
use lib.Dec.{eqb}
use lib.Seq.{drop_at, drop-drop, get_or-drop}
use lib.ListN.{length, length-append, get_or, take, drop, replicate}
use borrow.Author.Tests.{eqb-true, eq-eqb}
use Rattle.wire.specs.Blocks.{blocks}
use Rattle.wire.specs.Bytes.{byte, flag}
use Rattle.wire.proofs.Blocks.{blocks-length}
use Rattle.wire.proofs.Tests.{and_left, and_right, and_both, true-false}
use Rattle.place.specs.Places.{phase_number, tries, direction_number, vacant, seat}
use Rattle.place.proofs.Holdings.{is_free_holding}
use Rattle.place.specs.declared.phase.Phase.{Phase}
use Rattle.place.specs.declared.phase.Phase.TheVariants.{Connecting, Contacting, Open, Lost, Ending}
use Rattle.place.specs.declared.place.Direction.{Direction}
use Rattle.place.specs.declared.place.Direction.TheVariants.{Outgoing, Incoming}
use Rattle.place.specs.declared.place.Holding.{Holding}
use Rattle.place.specs.declared.place.Holding.TheVariants.{Free, Held}
use Rattle.place.specs.declared.place.Place.{Place}
use Rattle.unit.specs.States.{place_count, sound}
use Rattle.unit.specs.declared.last.Last.{Last}
use Rattle.unit.specs.declared.last.Last.TheVariants.{Unknown, Known}
use Rattle.unit.specs.declared.state.State.{State}
use Rattle.image.specs.Images.{place_size, place_bytes, body_bytes, last_bytes}
use Rattle.wire.specs.Bytes.{as_bit}
use Rattle.image.specs.Images.{whole_bytes, image_a1, image_a2}
use Rattle.image.specs.Images.{phase_of, direction_of, place_in, places_in, last_in, state_in, same_bytes, is_body_of}
use Rattle.image.specs.Images.{old_body_size}
use Rattle.image.specs.Bodies.{places_bytes, tail_bytes, last_from}

-- each value's byte stands for it again
phase_of-number : (ph : Phase) → phase_of (phase_number ph) (tries ph) ≡ ph
phase_of-number (Connecting t) = refl
phase_of-number (Contacting t) = refl
phase_of-number Open = refl
phase_of-number (Lost t) = refl
phase_of-number (Ending t) = refl

direction_of-number : (d : Direction) → direction_of (direction_number d) ≡ d
direction_of-number Outgoing = refl
direction_of-number Incoming = refl

flag-mark : (b : Bool) → flag (as_bit b) ≡ b
flag-mark true = refl
flag-mark false = refl

-- seven bytes a place
pub place_bytes-length : (k : Holding) → length (place_bytes (record { holding = k })) ≡ place_size
place_bytes-length Free = refl
place_bytes-length (Held d ph p) = refl

pub places_bytes-length : (ps : List Place) → length (places_bytes ps) ≡ place_size * length ps
places_bytes-length = blocks-length place_bytes place_size (λ p. place_bytes-length p.holding)

-- a place's seven bytes, whatever follows them, stand for it
not_free : (ph : Phase) → eqb (phase_number ph) 0 ≡ false
not_free (Connecting t) = refl
not_free (Contacting t) = refl
not_free Open = refl
not_free (Lost t) = refl
not_free (Ending t) = refl

pub place_in-bytes : (k : Holding) (rest : List ℕ) → place_in (place_bytes (record { holding = k }) ++ rest) ≡ record { holding = k }
place_in-bytes Free rest = refl
place_in-bytes (Held d ph p) rest =
    ap (λ b. cond b vacant (seat (direction_of (direction_number d)) (phase_of (phase_number ph) (tries ph)) p)) (not_free ph)
    ∙ (λ i. seat (direction_of-number d i) (phase_of-number ph i) p)

drop-place : (k : Holding) (rest : List ℕ) → drop place_size (place_bytes (record { holding = k }) ++ rest) ≡ rest
drop-place Free rest = refl
drop-place (Held d ph p) rest = refl

pub places_in-bytes : (ps : List Place) (rest : List ℕ) → places_in (length ps) (places_bytes ps ++ rest) ≡ ps
unfolding places_in blocks
places_in-bytes [] rest = refl
places_in-bytes (p ∷ ps) rest =
    let grouped = append_assoc (place_bytes p) (places_bytes ps) rest in
    ap₂ ◌∷◌ (ap place_in grouped ∙ place_in-bytes p.holding (places_bytes ps ++ rest))
    (ap (λ l. places_in (length ps) (drop place_size l)) grouped
    ∙ ap (places_in (length ps)) (drop-place p.holding (places_bytes ps ++ rest))
    ∙ places_in-bytes ps rest)

-- and the four of the last known RBC
pub last_in-bytes : (last : Last) → last_in (last_bytes last) ≡ last
last_in-bytes Unknown = refl
last_in-bytes (Known high middle low) = refl

-- the lengths of the parts, and of the images
pub last_bytes-length : (last : Last) → length (last_bytes last) ≡ 4
last_bytes-length Unknown = refl
last_bytes-length (Known high middle low) = refl

module _ (s : State) (four : length s.places ≡ place_count) where
  pub body_bytes-length : length (body_bytes s) ≡ old_body_size
  unfolding body_bytes
  body_bytes-length =
      let places = places_bytes-length s.places in
      omega arith

  pub whole_bytes-length : length (whole_bytes s) ≡ 41
  unfolding whole_bytes
  whole_bytes-length =
      let joined = length-append (body_bytes s) (tail_bytes s) in
      let last = last_bytes-length s.last in
      omega (arith, body_bytes-length)

  -- "37 bytes"
  -- promise
  pub image_a1-length : length (image_a1 s) ≡ 37
  unfolding image_a1
  image_a1-length = omega (arith, body_bytes-length)

  -- "42 bytes"
  -- promise
  pub image_a2-length : length (image_a2 s) ≡ 42
  unfolding image_a2
  image_a2-length = omega (arith, whole_bytes-length)

  -- what follows the body
  pub whole-tail : drop old_body_size (whole_bytes s) ≡ tail_bytes s
  unfolding whole_bytes
  whole-tail = drop_at (body_bytes s) (tail_bytes s) old_body_size body_bytes-length

  -- the bytes of a state with four places stand for it
  pub state_in-whole : state_in (whole_bytes s) ≡ s
  unfolding state_in whole_bytes body_bytes
  state_in-whole =
      λ i.
      record {
        limits = record { lowest = s.limits.lowest; highest = s.limits.highest; tries = tries-in i };
        train = s.train;
        marks =
            record {
              inside = flag-mark s.marks.inside i;
              mode = flag-mark s.marks.mode i;
              manual = flag-mark s.marks.manual i;
              end = flag-mark s.marks.end i;
            };
        places = places-in i;
        last = last-in i;
      }
    where
      tries-in : byte (whole_bytes s) old_body_size ≡ s.limits.tries
      tries-in = sym (get_or-drop old_body_size (whole_bytes s) 0 0) ∙ ap (λ l. byte l 0) whole-tail

      places-in : places_in place_count (places_bytes s.places ++ tail_bytes s) ≡ s.places
      places-in = ap (λ k. places_in k (places_bytes s.places ++ tail_bytes s)) (sym four) ∙ places_in-bytes s.places (tail_bytes s)

      last-in : last_in (drop last_from (whole_bytes s)) ≡ s.last
      last-in =
          ap last_in (sym (drop-drop 1 old_body_size (whole_bytes s)) ∙ ap (drop 1) whole-tail) ∙ last_in-bytes s.last

-- bytes compared
pub same_bytes_lem : (xs : List ℕ) → same_bytes xs xs ≡ true
unfolding same_bytes
same_bytes_lem [] = refl
same_bytes_lem (x ∷ xs) = and_both (eqb x x) (same_bytes xs xs) (eq-eqb x x refl) (same_bytes_lem xs)

pub bytes_same : (xs ys : List ℕ) → same_bytes xs ys ≡ true → xs ≡ ys
unfolding same_bytes
bytes_same [] [] h = refl
bytes_same [] (y ∷ ys) h = true-false false h refl
bytes_same (x ∷ xs) [] h = true-false false h refl
bytes_same (x ∷ xs) (y ∷ ys) h =
    ap₂ ◌∷◌ (eqb-true x y (and_left (eqb x y) (same_bytes xs ys) h)) (bytes_same xs ys (and_right (eqb x y) (same_bytes xs ys) h))

-- these bytes are the body of a sound state's image
pub is_body_of-means : (s : State) (body : List ℕ) → (is_body_of s body ≡ true) ↔ ((sound s ≡ true) × (whole_bytes s ≡ body))
is_body_of-means s body =
    let own = same_bytes (whole_bytes s) body in (
      (λ is. (and_left (sound s) own is, bytes_same (whole_bytes s) body (and_right (sound s) own is))),
      (λ h. and_both (sound s) own h.0 (ap (same_bytes (whole_bytes s)) (sym h.1) ∙ same_bytes_lem (whole_bytes s))),
    )

-- the seven bytes of the place with a number
take-place : (k : Holding) (rest : List ℕ)
    → take place_size (place_bytes (record { holding = k }) ++ rest) ≡ place_bytes (record { holding = k })
take-place Free rest = refl
take-place (Held d ph p) rest = refl

pub place-bytes-at : (ps : List Place) (rest : List ℕ) (i : ℕ)
    → i < length ps
    → take place_size (drop (place_size * i) (places_bytes ps ++ rest)) ≡ place_bytes (get_or ps i vacant)
unfolding blocks
place-bytes-at [] rest i h = absurd (omega arith)
place-bytes-at (p ∷ ps) rest zero h =
    ap (take place_size) (append_assoc (place_bytes p) (places_bytes ps) rest) ∙ take-place p.holding (places_bytes ps ++ rest)
place-bytes-at (p ∷ ps) rest (suc i) h =
    let next : place_size * suc i ≡ place_size + place_size * i = omega arith in
    ap₂ (λ k l. take place_size (drop k l)) next (append_assoc (place_bytes p) (places_bytes ps) rest)
    ∙ ap (take place_size)
    (sym (drop-drop (place_size * i) place_size (place_bytes p ++ (places_bytes ps ++ rest)))
    ∙ ap (drop (place_size * i)) (drop-place p.holding (places_bytes ps ++ rest)))
    ∙ place-bytes-at ps rest i (le_of_suc-le-suc h)

-- "A free place is seven zeros, and no other bytes mean free"
pub zeros-free : (k : Holding) → place_bytes (record { holding = k }) ≡ replicate place_size 0 → is_free_holding k ≡ true
zeros-free Free h = refl
zeros-free (Held d ph p) h = true-false (eqb (phase_number ph) 0) (eq-eqb (phase_number ph) 0 (ap (λ l. get_or l 0 0) h)) (not_free ph)

pub free-zeros : (k : Holding) → is_free_holding k ≡ true → place_bytes (record { holding = k }) ≡ replicate place_size 0
free-zeros Free h = refl
free-zeros (Held d ph p) h = true-false false h refl
