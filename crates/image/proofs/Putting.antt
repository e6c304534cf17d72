-- Writing an image: the numbers that fit a byte, and the buffer once all is written.
-- Defines: Small.
-- Proves: sound-small, fits-unknown, fits-known, body_end, image-end, wrote-a2-no-room, wrote-a2-unsound, wrote-a2,
-- wrote-a1-no-room, wrote-a1-unsound, wrote-a1-unfit, wrote-a1.
use mathlib.Core.Path.{◌≡◌, refl, sym, ap, ap₂, ◌∙◌}
use mathlib.Core.Bool.{Bool, true, false, ◌&&◌}
use mathlib.Core.List.{List, ◌∷◌, ◌++◌, append_assoc}
use Prim.Native.Nat.{ℕ, ◌+◌, ◌≤◌, ◌<◌}
use native.Mathlib.Omega.{arith}
use lib.Dec.{eqb, leb}
use lib.ListN.{length, length-append, length-drop, drop}
use lib.Seq.{sets, sets-eq, take_all, take_at, drop_at, drop-drop}
use borrow.Author.Tests.{leb-true, le-leb, lt-leb}
use Rattle.record.specs.Records.{highest_level, mission_under_way}
use Rattle.wire.specs.Refusals.{accepted, no_room, not_sound, not_in_a1}
use Rattle.wire.proofs.Tests.{and_left, and_right}
use Rattle.wire.proofs.Blocks.{FilledTo}
use Rattle.place.specs.Places.{fleet_tries}
use Rattle.unit.specs.States.{place_count, sound}
use Rattle.unit.specs.declared.last.Last.TheVariants.{Unknown, Known}
use Rattle.unit.specs.declared.state.State.{State}
use Rattle.unit.proofs.Facts.{sound-facts}
use Rattle.image.specs.Images.{kind_a2, size_a1, size_a2, place_bytes, head_bytes, body_bytes, whole_bytes}
use Rattle.image.specs.Images.{image_a1, image_a2, is_unknown, fits_a1, stored}
use Rattle.image.specs.Images.{write_a2, write_a1, imaged_a2, imaged_a1}
use Rattle.image.specs.Bodies.{places_bytes, tail_bytes}
use Rattle.image.proofs.Bytes.{last_bytes-length, image_a1-length}

-- the numbers of a sound state that are wider than a byte in the code
pub record Small (s : State) : Type 0 where
  pub level : s.train.level < 256
  pub mission : s.train.mission < 256

pub sound-small : (s : State) → sound s ≡ true → Small s
sound-small s ok =
    let f = sound-facts s ok in
    let level-ok = leb s.train.level highest_level in
    let mission-ok = leb s.train.mission mission_under_way in
    let level = leb-true s.train.level highest_level (and_left level-ok mission-ok f.train) in
    let mission = leb-true s.train.mission mission_under_way (and_right level-ok mission-ok f.train) in
    record { level = omega arith; mission = omega arith }

-- whether A1 holds a state, by its last known RBC
and-true : (a : Bool) → a ≡ (a && true)
and-true true = refl
and-true false = refl

and-false : (a : Bool) → false ≡ (a && false)
and-false true = refl
and-false false = refl

module _ (s : State) where
  pub fits-unknown : s.last ≡ Unknown → eqb s.limits.tries fleet_tries ≡ fits_a1 s
  fits-unknown none =
      let three = eqb s.limits.tries fleet_tries in
      and-true three ∙ ap (λ last. three && is_unknown last) (sym none)

  pub fits-known : (high middle low : ℕ) → s.last ≡ Known high middle low → false ≡ fits_a1 s
  fits-known high middle low known =
      let three = eqb s.limits.tries fleet_tries in
      and-false three ∙ ap (λ last. three && is_unknown last) (sym known)

module _ (s : State) (buffer : List ℕ) (four : length s.places ≡ place_count) where
  -- a kind and the head, then the four places, then what stood there
  pub body_end : (kind : ℕ)
      → size_a1 ≤ length buffer
      → FilledTo place_bytes 9 s.places (sets buffer 0 (kind ∷ head_bytes s)) 4 size_a1 ≡ (kind ∷ body_bytes s)
      ++ drop size_a1 buffer
  unfolding body_bytes
  body_end kind room =
      ap (λ b. FilledTo place_bytes 9 s.places b 4 size_a1) headed
      ∙ ap₂ (λ ps rest. (kind ∷ head_bytes s) ++ (places_bytes ps ++ rest)) (take_all 4 s.places (omega arith)) later
      ∙ sym (append_assoc (kind ∷ head_bytes s) (places_bytes s.places) (drop size_a1 buffer))
    where
      headed : sets buffer 0 (kind ∷ head_bytes s) ≡ (kind ∷ head_bytes s) ++ drop 9 buffer
      headed = sets-eq (kind ∷ head_bytes s) buffer 0 (omega arith)

      later : drop size_a1 ((kind ∷ head_bytes s) ++ drop 9 buffer) ≡ drop size_a1 buffer
      later = drop-drop 28 9 buffer

  -- then the tail of A2
  pub image-end :
      size_a2 ≤ length buffer
      → sets ((kind_a2 ∷ body_bytes s) ++ drop size_a1 buffer) size_a1 (tail_bytes s) ≡ image_a2 s ++ drop size_a2 buffer
  unfolding image_a1 image_a2 whole_bytes
  image-end room =
      sets-eq (tail_bytes s) (front ++ drop size_a1 buffer) size_a1 fits
      ∙ ap₂ (λ a b. a ++ tail_bytes s ++ b) (take_at front (drop size_a1 buffer) size_a1 long) later
    where
      front : List ℕ
      front = kind_a2 ∷ body_bytes s

      long : length front ≡ size_a1
      long = image_a1-length s four

      five : length (tail_bytes s) ≡ 5
      five =
          let last = last_bytes-length s.last in
          omega arith

      fits : size_a1 + length (tail_bytes s) ≤ length (front ++ drop size_a1 buffer)
      fits =
          let joined = length-append front (drop size_a1 buffer) in
          let rest = length-drop size_a1 buffer in
          omega (arith, long, five)

      later : drop (size_a1 + length (tail_bytes s)) (front ++ drop size_a1 buffer) ≡ drop size_a2 buffer
      later =
          ap (λ k. drop (size_a1 + k) (front ++ drop size_a1 buffer)) five
          ∙ sym (drop-drop 5 size_a1 (front ++ drop size_a1 buffer))
          ∙ ap (drop 5) (drop_at front (drop size_a1 buffer) size_a1 long)
          ∙ drop-drop 5 size_a1 buffer

-- what writing answers, and the buffer at exit, by what the tests showed
module _ (s : State) (buffer : List ℕ) where
  pub wrote-a2-no-room :
      length buffer < size_a2
      → (stored no_room 0 s ≡ write_a2 s (length buffer)) × (buffer ≡ imaged_a2 s buffer)
  unfolding write_a2 imaged_a2
  wrote-a2-no-room small = (simp (lt-leb size_a2 (length buffer) small), simp (lt-leb size_a2 (length buffer) small))

  pub wrote-a1-no-room :
      length buffer < size_a1
      → (stored no_room 0 s ≡ write_a1 s (length buffer)) × (buffer ≡ imaged_a1 s buffer)
  unfolding write_a1 imaged_a1
  wrote-a1-no-room small = (simp (lt-leb size_a1 (length buffer) small), simp (lt-leb size_a1 (length buffer) small))

  module _ (room : size_a2 ≤ length buffer) where
    pub wrote-a2-unsound :
        sound s ≡ false
        → (stored not_sound 0 s ≡ write_a2 s (length buffer)) × (buffer ≡ imaged_a2 s buffer)
    unfolding write_a2 imaged_a2
    wrote-a2-unsound bad = (simp (le-leb size_a2 (length buffer) room, bad), simp (le-leb size_a2 (length buffer) room, bad))

    pub wrote-a2 : (after : List ℕ)
        → sound s ≡ true
        → after ≡ image_a2 s ++ drop size_a2 buffer
        → (stored accepted size_a2 s ≡ write_a2 s (length buffer)) × (after ≡ imaged_a2 s buffer)
    unfolding write_a2 imaged_a2
    wrote-a2 after good wrote =
        (simp (le-leb size_a2 (length buffer) room, good), wrote ∙ simp (le-leb size_a2 (length buffer) room, good))

  module _ (room : size_a1 ≤ length buffer) where
    pub wrote-a1-unsound :
        sound s ≡ false
        → (stored not_sound 0 s ≡ write_a1 s (length buffer)) × (buffer ≡ imaged_a1 s buffer)
    unfolding write_a1 imaged_a1
    wrote-a1-unsound bad = (simp (le-leb size_a1 (length buffer) room, bad), simp (le-leb size_a1 (length buffer) room, bad))

    pub wrote-a1-unfit :
        sound s ≡ true
        → fits_a1 s ≡ false
        → (stored not_in_a1 0 s ≡ write_a1 s (length buffer)) × (buffer ≡ imaged_a1 s buffer)
    unfolding write_a1 imaged_a1
    wrote-a1-unfit good unfit =
        (simp (le-leb size_a1 (length buffer) room, good, unfit), simp (le-leb size_a1 (length buffer) room, good, unfit))

    pub wrote-a1 : (after : List ℕ)
        → sound s ≡ true
        → fits_a1 s ≡ true
        → after ≡ image_a1 s ++ drop size_a1 buffer
        → (stored accepted size_a1 s ≡ write_a1 s (length buffer)) × (after ≡ imaged_a1 s buffer)
    unfolding write_a1 imaged_a1
    wrote-a1 after good fits wrote =
        (simp (le-leb size_a1 (length buffer) room, good, fits), wrote ∙ simp (le-leb size_a1 (length buffer) room, good, fits))
