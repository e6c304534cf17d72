-- A call by what its tests showed.
-- Proves: on_image-none, on_image-few, on_image-sound, on_image-next, number-refused, number-done, imaged-whole, next-written.
use mathlib.Core.Path.{◌≡◌, refl, sym, ap, ap₂, ◌∙◌}
use mathlib.Core.Bool.{true, false, cond}
use mathlib.Core.List.{List, [], ◌++◌}
use Prim.Native.Nat.{ℕ, ◌≤◌}
use native.Mathlib.Omega.{arith}
use lib.Dec.{eqb, leb}
use lib.IntN.{ℤ, pos, neg_ℤ}
use lib.ListN.{length, drop}
use borrow.Author.Tests.{eq-eqb, ne_eqb, le-leb, eqb-true}
use Rattle.wire.specs.Refusals.{accepted, no_room}
use Rattle.wire.proofs.Tests.{true-false, cond-case}
use Rattle.unit.specs.Steps.{Outcome, refused}
use Rattle.unit.specs.States.{sound}
use Rattle.unit.specs.OnRecords.{action_room, on_record}
use Rattle.unit.specs.declared.state.State.{State}
use Rattle.unit.proofs.Few.{on_record-few}
use Rattle.unit.proofs.Sound.{on_record-sound}
use Rattle.unit.proofs.Again.Refusals.{on_record-kept}
use Rattle.image.specs.Images.{size_a2, image_a2, imaged_a2, read_a2}
use Rattle.image.proofs.RoundTrips.{written_a2-read}
use Rattle.image.proofs.Rescuing.{image-whole}
use Rattle.image.specs.Calls.{on_image}
use Rattle.image.proofs.Calling.{read-long}
use Rattle.firmware.specs.Calls.{returned}

module _ (image bytes : List ℕ) (room : ℕ) where
  -- what holds of the step, of the refusal to read and of that for want of room holds of a call
  by_way : (P : Outcome → Type 0)
      → (eqb (read_a2 image).code accepted ≡ true → P (on_record (read_a2 image).state bytes room))
      → (eqb (read_a2 image).code accepted ≡ false → P (refused (read_a2 image).code (read_a2 image).state))
      → P (refused no_room (read_a2 image).state)
      → P (on_image image bytes room)
  unfolding on_image
  by_way P reads unread short =
      let read-or-not = cond-case P (eqb (read_a2 image).code accepted) _ _ reads unread in
      cond-case P (leb action_room room) _ _ (λ enough. read-or-not) (λ small. short)

  -- an image that does not read is not accepted
  unaccepted : {A : Type 0} → eqb (read_a2 image).code accepted ≡ false → (read_a2 image).code ≡ accepted → A
  unaccepted unread ok = true-false (eqb (read_a2 image).code accepted) (eq-eqb (read_a2 image).code accepted ok) unread

  -- whatever the way: a refused one has no action, an accepted one a sound state
  abbrev Refused : Outcome → Type 0
  Refused o = (o.code ≡ accepted → ⊥) → o.actions ≡ []

  pub on_image-none : Refused (on_image image bytes room)
  on_image-none =
      by_way Refused (λ read other. (on_record-kept (read_a2 image).state bytes room other).1)
      (λ unread other. refl)
      (λ other. refl)

  abbrev Few : Outcome → Type 0
  Few o = length o.actions ≤ 4

  pub on_image-few : Few (on_image image bytes room)
  on_image-few =
      by_way Few (λ read. on_record-few (read_a2 image).state bytes room)
      (λ unread. omega arith)
      (omega arith)

  abbrev Good : Outcome → Type 0
  Good o = o.code ≡ accepted → sound o.state ≡ true

  pub on_image-sound : Good (on_image image bytes room)
  on_image-sound = by_way Good stepped-sound unaccepted (λ ok. absurd (omega arith))
    where
      stepped-sound : eqb (read_a2 image).code accepted ≡ true → Good (on_record (read_a2 image).state bytes room)
      stepped-sound read ok =
          let held = written_a2-read image (eqb-true (read_a2 image).code accepted read) in
          on_record-sound (read_a2 image).state bytes room held.0

  abbrev Next : Outcome → Type 0
  Next o = o.code ≡ accepted → o.state ≡ (on_record (read_a2 image).state bytes room).state

  pub on_image-next : Next (on_image image bytes room)
  on_image-next = by_way Next (λ read ok. refl) unaccepted (λ ok. absurd (omega arith))

-- the number that C sees
pub number-refused : (o : Outcome) (z : ℤ) → (o.code ≡ accepted → ⊥) → z ≡ neg_ℤ (pos o.code) → z ≡ returned o
number-refused o z other minus =
    minus ∙ sym (ap (λ t. cond t (pos (length o.actions)) (neg_ℤ (pos o.code))) (ne_eqb o.code accepted other))

pub number-done : (o : Outcome) (z : ℤ) → o.code ≡ accepted → z ≡ pos (length o.actions) → z ≡ returned o
number-done o z ok number =
    number ∙ sym (ap (λ t. cond t (pos (length o.actions)) (neg_ℤ (pos o.code))) (eq-eqb o.code accepted ok))

-- a sound state written over an image that reads is its image
pub imaged-whole : (s : State) (image : List ℕ)
    → sound s ≡ true
    → length image ≡ size_a2
    → imaged_a2 s image ≡ image_a2 s
unfolding imaged_a2
imaged-whole s image good long =
    let fits = le-leb size_a2 (length image) (omega arith) in
    ap₂ (λ a b. cond a (cond b (image_a2 s ++ drop size_a2 image) image) image) fits good ∙ image-whole s image long

pub next-written : (image bytes : List ℕ) (room : ℕ)
    → (read_a2 image).code ≡ accepted
    → imaged_a2 (on_record (read_a2 image).state bytes room).state image ≡ image_a2 (on_record (read_a2 image).state bytes room).state
next-written image bytes room read =
    imaged-whole (on_record (read_a2 image).state bytes room).state image
    (on_record-sound (read_a2 image).state bytes room (written_a2-read image read).0)
    (read-long image read)
