-- One call after another: each sees what the step of its state gives, and the sums over the calls are those over the steps.
-- Proves: on_record-room, written-length, call-number, call-image, call-actions, map-follows, over-follows, image-after,
-- done-returned, count-returned, on_image-count, on_image-fits.
use mathlib.Core.Path.{◌≡◌, refl, sym, ap, ap₂, ◌∙◌}
use mathlib.Core.Bool.{Bool, true, false, cond}
use mathlib.Core.List.{List, [], ◌∷◌, map}
use Prim.Native.Nat.{ℕ, zero, suc, ◌+◌, ◌*◌, ◌≤◌}
use native.Mathlib.Omega.{arith}
use lib.Dec.{eqb, leb}
use lib.IntN.{pos, neg_ℤ}
use lib.ListN.{length, length-append, length-drop, drop}
use borrow.Author.Tests.{eqb-false, ne_eqb, le-leb, leb-true, leb-false}
use Rattle.wire.specs.Refusals.{accepted, no_room}
use Rattle.wire.proofs.Blocks.{blocks-length}
use Rattle.wire.proofs.Tests.{and_left, and_right}
use Rattle.unit.specs.Steps.{Outcome, refused}
use Rattle.unit.specs.States.{sound}
use Rattle.unit.specs.OnRecords.{action_room, action_size, applied, on_record, trace, bytes_of, action_bytes, written}
use Rattle.unit.specs.declared.state.State.{State}
use Rattle.unit.specs.declared.answer.Action.{Action}
use Rattle.unit.proofs.Sound.{on_record-sound}
use Rattle.unit.proofs.Again.Refusals.{on_record-kept}
use Rattle.unit.specs.declared.start.Started.{Started}
use Rattle.image.specs.Images.{image_a2}
use Rattle.image.proofs.RoundTrips.{read_a2-written}
use Rattle.history.specs.Histories.{after, summed}
use Rattle.image.specs.Calls.{on_image, image_after}
use Rattle.firmware.specs.Calls.{returned, Seen, seen_after}
use Rattle.firmware.specs.Along.{Lent, lent_records, roomy, seen_along, last_image, is_accepted}
use Rattle.firmware.specs.AlongWords.{count_of, over_seen}
use Rattle.image.proofs.Calling.{on_image-no-room, on_image-steps}
use Rattle.firmware.proofs.Calling.{on_image-none, on_image-few}

-- any room of 20 bytes and more is as good as 20
pub on_record-room : (s : State) (bytes : List ℕ) (room : ℕ)
    → action_room ≤ room
    → on_record s bytes room ≡ on_record s bytes action_room
unfolding on_record
on_record-room s bytes room enough = ap (λ b. cond b (applied s bytes) (refused no_room s)) (le-leb action_room room enough)

-- what is written leaves the buffer as long as it was
pub written-length : (acts : List Action) (buffer : List ℕ)
    → action_size * length acts ≤ length buffer
    → length (written acts buffer) ≡ length buffer
unfolding written
written-length acts buffer fits =
    let long = blocks-length bytes_of action_size (λ a. refl) acts in
    let joined = length-append (action_bytes acts) (drop (action_size * length acts) buffer) in
    let rest = length-drop (action_size * length acts) buffer in
    omega arith

-- one call with the image of a sound state
module _ (s : State) (good : sound s ≡ true) (bytes buffer : List ℕ) (enough : action_room ≤ length buffer) where
  o : Outcome
  o = on_record s bytes action_room

  steps : on_image (image_a2 s) bytes (length buffer) ≡ on_record s bytes action_room
  steps =
      let read = read_a2-written s good in
      on_image-steps (image_a2 s) bytes (length buffer) enough (ap (λ (r : Started). r.code) read)
      ∙ ap (λ (r : Started). on_record r.state bytes (length buffer)) read
      ∙ on_record-room s bytes (length buffer) enough

  -- the image that it leaves is that of the next state, accepted or not
  next-image : image_after (on_record s bytes action_room) (image_a2 s) ≡ image_a2 (on_record s bytes action_room).state
  next-image = by (eqb (on_record s bytes action_room).code accepted) refl
    where
      by : (b : Bool)
          → eqb (on_record s bytes action_room).code accepted ≡ b
          → cond b (image_a2 (on_record s bytes action_room).state) (image_a2 s) ≡ image_a2 (on_record s bytes action_room).state
      by true ok = refl
      by false other =
          ap image_a2 (sym (on_record-kept s bytes action_room (eqb-false (on_record s bytes action_room).code accepted other)).0)

  pub call-number : (seen_after (image_a2 s) bytes buffer).number ≡ returned (on_record s bytes action_room)
  unfolding seen_after
  call-number = ap returned steps

  pub call-image : (seen_after (image_a2 s) bytes buffer).image ≡ image_a2 (on_record s bytes action_room).state
  unfolding seen_after
  call-image = ap (λ (x : Outcome). image_after x (image_a2 s)) steps ∙ next-image

  pub call-actions : (seen_after (image_a2 s) bytes buffer).actions ≡ written (on_record s bytes action_room).actions buffer
  unfolding seen_after
  call-actions = ap (λ (x : Outcome). written x.actions buffer) steps

-- the calls of a history
roomy-first : (x : Lent) (rest : List Lent) → roomy (x ∷ rest) ≡ true → action_room ≤ length x.actions
unfolding roomy
roomy-first x rest enough =
    leb-true action_room (length x.actions) (and_left (leb action_room (length x.actions)) (roomy rest) enough)

roomy-rest : (x : Lent) (rest : List Lent) → roomy (x ∷ rest) ≡ true → roomy rest ≡ true
unfolding roomy
roomy-rest x rest enough = and_right (leb action_room (length x.actions)) (roomy rest) enough

next-calls : (s : State) (x : Lent) (rest : List Lent)
    → sound s ≡ true
    → roomy (x ∷ rest) ≡ true
    → seen_along (image_a2 s) (x ∷ rest)
    ≡ seen_after (image_a2 s) x.bytes x.actions ∷ seen_along (image_a2 (on_record s x.bytes action_room).state) rest
unfolding seen_along
next-calls s x rest good enough =
    ap (λ image. seen_after (image_a2 s) x.bytes x.actions ∷ seen_along image rest)
    (call-image s good x.bytes x.actions (roomy-first x rest enough))

-- what holds of each call and its outcome holds along a history
pub map-follows : {A : Type 0} (f : Seen → A) (g : Outcome → A)
    → ((s : State) (bytes buffer : List ℕ)
    → sound s ≡ true
    → action_room ≤ length buffer
    → f (seen_after (image_a2 s) bytes buffer) ≡ g (on_record s bytes action_room))
    → (s : State) (history : List Lent)
    → sound s ≡ true
    → roomy history ≡ true
    → map f (seen_along (image_a2 s) history) ≡ map g (trace s (lent_records history))
unfolding seen_along trace
map-follows f g each s [] good enough = refl
map-follows f g each s (x ∷ rest) good enough =
    ap (map f) (next-calls s x rest good enough)
    ∙ ap₂ ◌∷◌ (each s x.bytes x.actions good (roomy-first x rest enough))
    (map-follows f g each (on_record s x.bytes action_room).state rest (on_record-sound s x.bytes action_room good)
    (roomy-rest x rest enough))

pub over-follows : (f : List ℕ → Seen → ℕ) (g : State → List ℕ → Outcome → ℕ)
    → ((s : State) (bytes buffer : List ℕ)
    → sound s ≡ true
    → action_room ≤ length buffer
    → f bytes (seen_after (image_a2 s) bytes buffer) ≡ g s bytes (on_record s bytes action_room))
    → (s : State) (history : List Lent)
    → sound s ≡ true
    → roomy history ≡ true
    → over_seen f (lent_records history) (seen_along (image_a2 s) history) ≡ summed g s (lent_records history)
unfolding seen_along trace over_seen summed
over-follows f g each s [] good enough = refl
over-follows f g each s (x ∷ rest) good enough =
    ap (over_seen f (lent_records (x ∷ rest))) (next-calls s x rest good enough)
    ∙ ap₂ ◌+◌ (each s x.bytes x.actions good (roomy-first x rest enough))
    (over-follows f g each (on_record s x.bytes action_room).state rest (on_record-sound s x.bytes action_room good)
    (roomy-rest x rest enough))

pub image-after : (s : State) (history : List Lent)
    → sound s ≡ true
    → roomy history ≡ true
    → last_image (image_a2 s) (seen_along (image_a2 s) history) ≡ image_a2 (after s (lent_records history))
unfolding seen_along trace last_image after
image-after s [] good enough = refl
image-after s (x ∷ rest) good enough =
    let next = (on_record s x.bytes action_room).state in
    ap (last_image (image_a2 s)) (next-calls s x rest good enough)
    ∙ ap (λ image. last_image image (seen_along (image_a2 next) rest))
    (call-image s good x.bytes x.actions (roomy-first x rest enough))
    ∙ image-after next rest (on_record-sound s x.bytes action_room good) (roomy-rest x rest enough)

-- the number says whether the call was accepted, and how many actions there are
pub done-returned : (o : Outcome) → is_accepted (returned o) ≡ eqb o.code accepted
done-returned o = by o.code
  where
    by : (k : ℕ) → is_accepted (cond (eqb k accepted) (pos (length o.actions)) (neg_ℤ (pos k))) ≡ eqb k accepted
    by zero = refl
    by (suc k) =
        let other = ne_eqb (suc k) accepted (λ h. absurd (omega arith)) in
        ap (λ t. is_accepted (cond t (pos (length o.actions)) (neg_ℤ (pos (suc k))))) other ∙ sym other

count-of : (o : Outcome)
    → ((o.code ≡ accepted → ⊥) → o.actions ≡ [])
    → count_of (returned o) ≡ length o.actions
count-of o none = by o.code refl
  where
    by : (k : ℕ)
        → o.code ≡ k
        → count_of (cond (eqb k accepted) (pos (length o.actions)) (neg_ℤ (pos k))) ≡ length o.actions
    by zero is = refl
    by (suc k) is =
        let other = ne_eqb (suc k) accepted (λ h. absurd (omega arith)) in
        ap (λ t. count_of (cond t (pos (length o.actions)) (neg_ℤ (pos (suc k))))) other
        ∙ sym (ap length (none (λ h. absurd (omega (arith, is, h)))))

pub count-returned : (s : State) (bytes : List ℕ)
    → count_of (returned (on_record s bytes action_room)) ≡ length (on_record s bytes action_room).actions
count-returned s bytes = count-of (on_record s bytes action_room) (λ other. (on_record-kept s bytes action_room other).1)

pub on_image-count : (image bytes : List ℕ) (room : ℕ)
    → count_of (returned (on_image image bytes room)) ≡ length (on_image image bytes room).actions
on_image-count image bytes room = count-of (on_image image bytes room) (on_image-none image bytes room)

-- the actions of a call have room in its buffer
pub on_image-fits : (image bytes actions : List ℕ)
    → action_size * length (on_image image bytes (length actions)).actions ≤ length actions
on_image-fits image bytes actions = by (leb action_room (length actions)) refl
  where
    by : (b : Bool)
        → leb action_room (length actions) ≡ b
        → action_size * length (on_image image bytes (length actions)).actions ≤ length actions
    by true enough =
        let room = leb-true action_room (length actions) enough in
        let few = on_image-few image bytes (length actions) in
        omega arith
    by false short =
        let is = on_image-no-room image bytes (length actions) (leb-false action_room (length actions) short) in
        let none = ap (λ (o : Outcome). length o.actions) is in
        omega arith
