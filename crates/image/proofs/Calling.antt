-- A step on an image by what its tests showed.
-- Proves: on_image-no-room, on_image-unread, on_image-steps, read-long, call-nothing, call-answer, call_kept, call_next, call-sound,
-- call-wrote.
use mathlib.Core.Path.{◌≡◌, sym, ap, ◌∙◌}
use mathlib.Core.Bool.{Bool, true, cond}
use mathlib.Core.List.{List, ◌++◌, append-nil}
use Prim.Native.Nat.{ℕ, ◌≤◌, ◌<◌}
use native.Mathlib.Omega.{arith}
use lib.ListN.{length, drop, drop_of_length-le}
use borrow.Author.Tests.{eq-eqb, ne_eqb, le-leb, lt-leb}
use Rattle.wire.specs.Refusals.{accepted, no_room}
use Rattle.unit.specs.Steps.{Outcome, refused}
use Rattle.unit.specs.States.{sound}
use Rattle.unit.specs.OnRecords.{action_room, on_record, on_record_unchecked, written}
use Rattle.unit.specs.declared.state.State.{State}
use Rattle.unit.specs.Forms.{stepped}
use Rattle.unit.specs.declared.answer.Stepped.{Stepped}
use Rattle.unit.proofs.Facts.{sound-facts}
use Rattle.unit.proofs.Sound.{on_record-sound}
use Rattle.unit.proofs.OnBytes.{unchecked-sound}
use Rattle.unit.proofs.Again.Writing.{written_none}
use Rattle.image.specs.Images.{size_a2, image_a2, read_a2}
use Rattle.image.specs.Calls.{stepped_from, on_image, image_after, called_by}
use Rattle.image.specs.declared.call.Called.{Called}
use Rattle.image.proofs.Bytes.{image_a2-length}
use Rattle.image.proofs.RoundTrips.{written_a2-read}

module _ (image bytes : List ℕ) (room : ℕ) where
  -- by whether the buffer has room, and by whether the image reads
  abbrev by_room : Bool → Outcome
  by_room b = cond b (stepped_from (read_a2 image) bytes room) (refused no_room (read_a2 image).state)

  abbrev by_reading : Bool → Outcome
  by_reading b = cond b (on_record (read_a2 image).state bytes room) (refused (read_a2 image).code (read_a2 image).state)

  pub on_image-no-room : room < action_room → on_image image bytes room ≡ refused no_room (read_a2 image).state
  unfolding on_image
  on_image-no-room small = ap by_room (lt-leb action_room room small)

  module _ (enough : action_room ≤ room) where
    read_first : on_image image bytes room ≡ stepped_from (read_a2 image) bytes room
    unfolding on_image
    read_first = ap by_room (le-leb action_room room enough)

    pub on_image-unread :
        ((read_a2 image).code ≡ accepted → ⊥)
        → on_image image bytes room ≡ refused (read_a2 image).code (read_a2 image).state
    on_image-unread other = read_first ∙ ap by_reading (ne_eqb (read_a2 image).code accepted other)

    pub on_image-steps : (read_a2 image).code ≡ accepted → on_image image bytes room ≡ on_record (read_a2 image).state bytes room
    on_image-steps read = read_first ∙ ap by_reading (eq-eqb (read_a2 image).code accepted read)

-- an image that reads is as long as an image A2
pub read-long : (image : List ℕ) → (read_a2 image).code ≡ accepted → length image ≡ size_a2
read-long image read =
    let own = written_a2-read image read in
    ap length (sym own.1) ∙ image_a2-length (read_a2 image).state (sound-facts (read_a2 image).state own.0).four

-- a refusal that comes before the step: nothing is written
pub call-nothing : (s : State) (image actions : List ℕ) (number : ℕ) (o : Outcome)
    → o ≡ refused number s
    → (number ≡ accepted → ⊥)
    → (◌≡◌ {A = Called} (record { code = number; count = 0 }) (called_by o))
    × (image ≡ image_after o image)
    × (actions ≡ written o.actions actions)
call-nothing s image actions number o is other = (
  sym (ap called_by is),
  sym (ap (λ x. image_after x image) is ∙ ap (λ b. cond b (image_a2 s) image) (ne_eqb number accepted other)),
  sym (ap (λ x. written x.actions actions) is ∙ written_none actions),
)

-- the step of an image that reads, as the code has it: the state that was read, what the step answered, the buffer after it
module _ (image bytes actions after : List ℕ) (s : State) (st : Stepped)
    (enough : action_room ≤ length actions)
    (read : (read_a2 image).code ≡ accepted)
    (held : s ≡ (read_a2 image).state)
    (answered : st ≡ stepped (on_record_unchecked s bytes (length actions)))
    (wrote : after ≡ written (on_record_unchecked s bytes (length actions)).actions actions) where
  o : Outcome
  o = on_image image bytes (length actions)

  is : on_record_unchecked s bytes (length actions) ≡ o
  unfolding o
  is =
      ap (λ x. on_record_unchecked x bytes (length actions)) held
      ∙ unchecked-sound (read_a2 image).state bytes (length actions) (written_a2-read image read).0
      ∙ sym (on_image-steps image bytes (length actions) enough read)

  answers : st ≡ stepped o
  answers = answered ∙ ap stepped is

  code : st.code ≡ o.code
  unfolding stepped
  code = ap (λ (r : Stepped). r.code) answers

  pub call-answer : ◌≡◌ {A = Called} (record { code = st.code; count = st.count }) (called_by (on_image image bytes (length actions)))
  unfolding stepped o
  call-answer = ap (λ (r : Stepped). record { code = r.code; count = r.count }) answers

  pub call-wrote : after ≡ written (on_image image bytes (length actions)).actions actions
  unfolding o
  call-wrote = wrote ∙ ap (λ x. written x.actions actions) is

  -- a refused one leaves the image
  pub call_kept : (st.code ≡ accepted → ⊥) → image ≡ image_after (on_image image bytes (length actions)) image
  unfolding o
  call_kept other = sym (ap (λ b. cond b (image_a2 o.state) image) (ne_eqb o.code accepted (λ h. other (code ∙ h))))

  -- an accepted one has a sound state, whose image is then written over it
  pub call-sound : sound st.state ≡ true
  unfolding stepped o
  call-sound =
      ap (λ (r : Stepped). sound r.state) answers
      ∙ ap (λ x. sound x.state) (on_image-steps image bytes (length actions) enough read)
      ∙ on_record-sound (read_a2 image).state bytes (length actions) (written_a2-read image read).0

  pub call_next : (exit : List ℕ)
      → st.code ≡ accepted
      → exit ≡ image_a2 st.state ++ drop size_a2 image
      → exit ≡ image_after (on_image image bytes (length actions)) image
  unfolding stepped o
  call_next exit ok stored =
      stored
      ∙ ap (◌++◌ (image_a2 st.state)) (drop_of_length-le image {i = size_a2} (omega (arith, read-long image read)))
      ∙ append-nil (image_a2 st.state)
      ∙ ap (λ (r : Stepped). image_a2 r.state) answers
      ∙ sym (ap (λ b. cond b (image_a2 o.state) image) (eq-eqb o.code accepted (sym code ∙ ok)))
