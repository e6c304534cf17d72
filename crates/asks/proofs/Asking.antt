-- Requests Q-14 and Q-6: what C asks beside a step is what the step would answer.
-- Proves: small-own, told_none, told-some, applied-place, standing-unread, standing-read, reads-means, reads-step, reads-empty,
-- standing-step, standing-says, standing-silent, standing-nobody.
use mathlib.Core.Path.{◌≡◌, refl, sym, ap, subst, ◌∙◌}
use mathlib.Core.Logic.{◌↔◌, ◌⊎◌, inl, inr, ⊎_elim}
use mathlib.Core.Bool.{Bool, true, false, cond}
use mathlib.Core.List.{List, []}
use Prim.Native.Nat.{ℕ, zero, suc, ◌+◌, ◌*◌, ◌≤◌, ◌<◌}
use native.Mathlib.Omega.{arith}
use lib.Dec.{eqb}
use lib.IntN.{ℤ, pos, negsuc, neg_ℤ, nat_abs}
use lib.ListN.{length, get_or}
use mir.Syntax.{w32}
use mir.Val.{SFits, to_z}
use mir.Facts.{to_z_pos}
use borrow.Author.Tests.{eq-eqb, ne_eqb, eqb-true, eqb-false}
use Rattle.wire.specs.Refusals.{accepted}
use Rattle.wire.proofs.Tests.{true-false}
use Rattle.record.specs.Records.{reading}
use Rattle.place.specs.Places.{phase_number, held_phase, vacant}
use Rattle.place.specs.declared.phase.Phase.{Phase}
use Rattle.place.specs.declared.phase.Phase.TheVariants.{Connecting, Contacting, Open, Lost, Ending}
use Rattle.place.specs.declared.place.Place.{Place}
use Rattle.unit.specs.States.{place_count}
use Rattle.unit.specs.OnRecords.{action_room, applied, on_record}
use Rattle.unit.specs.Steps.{Outcome}
use Rattle.unit.specs.Standings.{Concern, nobody, order_to, call_of, naming, concern_of, Numbered, Stands, Says}
use Rattle.unit.specs.declared.search.Standing.{Standing}
use Rattle.unit.specs.declared.state.State.{State}
use Rattle.unit.proofs.Again.Standings.{on_record-stands, on_record-says, on_record-silent, on_record-nobody}
use Rattle.image.specs.Images.{read_a2}
use Rattle.firmware.specs.Calls.{Seen, seen_after}
use Rattle.firmware.specs.Along.{is_accepted}
use Rattle.asks.specs.Asks.{reads_returned, per_place, standing_number, standing_returned}
use Rattle.firmware.proofs.Following.{on_record-room}
use Rattle.firmware.proofs.Again.Answers.{step-unread, step-reads, seen_after-empty}

-- a number of ten bits is its own
pub small-own : (n : ℕ) → n < 1024 → (to_z w32 n ≡ pos n) × SFits w32 (pos n)
small-own n small = (to_z_pos w32 {n = n} (omega arith), record { sfits = omega arith })

-- place and phase as one number
module _ (w : Standing) where
  pub told_none : w.phase ≡ 0 → standing_number w ≡ 0
  told_none none = ap (λ b. cond b 0 (per_place * w.place + w.phase)) (eq-eqb w.phase 0 none)

  pub told-some : (w.phase ≡ 0 → ⊥) → standing_number w ≡ per_place * w.place + w.phase
  told-some some = ap (λ b. cond b 0 (per_place * w.place + w.phase)) (ne_eqb w.phase 0 some)

-- of a partner that stands somewhere, the place is one of four and the phase not 0
phase-some : (ph : Phase) → phase_number ph ≡ 0 → ⊥
phase-some (Connecting t) h = omega arith
phase-some (Contacting t) h = omega arith
phase-some Open h = omega arith
phase-some (Lost t) h = omega arith
phase-some (Ending t) h = omega arith

module _ (ps : List Place) (w : Standing) where
  stands : (c : Concern) (P : Type 0) → ((p : _) → Stands ps p w → P) → Says ps c w → P
  stands nobody P by said = absurd said
  stands (order_to p) P by said = by p said
  stands (call_of p) P by said = by p said
  stands (naming p e) P by said = by p said

  says-place : (c : Concern) → Says ps c w → w.place < place_count
  says-place c = stands c (w.place < place_count) (λ p there. there.0)

  says-phase : (c : Concern) → Says ps c w → w.phase ≡ 0 → ⊥
  says-phase c =
      let ph : Phase = held_phase (get_or ps w.place vacant) in
      stands c (w.phase ≡ 0 → ⊥) (λ p there none. phase-some ph (sym there.2 ∙ none))

-- what a step says of a record, whatever the room
module _ (s : State) (bytes : List ℕ) where
  applied-is : on_record s bytes action_room ≡ applied s bytes
  unfolding on_record
  applied-is = refl

  pub applied-place : (applied s bytes).standing.place ≤ place_count
  applied-place =
      subst (λ (o : Outcome). o.standing.place ≤ place_count) applied-is
      (by (eqb (on_record s bytes action_room).standing.place place_count) refl)
    where
      by : (b : Bool)
          → eqb (on_record s bytes action_room).standing.place place_count ≡ b
          → (on_record s bytes action_room).standing.place ≤ place_count
      by true is =
          let at = eqb-true (on_record s bytes action_room).standing.place place_count is in
          omega (arith, at)
      by false is =
          let other = eqb-false (on_record s bytes action_room).standing.place place_count is in
          let under =
          says-place s.places (on_record s bytes action_room).standing (concern_of s.last (reading bytes))
          (on_record-stands s bytes action_room other) in
          omega (arith, under)

-- what is answered, by whether the image reads
module _ (image bytes : List ℕ) where
  abbrev by_reading : Bool → ℤ
  by_reading b = cond b (pos (standing_number (applied (read_a2 image).state bytes).standing)) (reads_returned image)

  -- minus the refusal of reading
  -- promise
  pub standing-unread : ((read_a2 image).code ≡ accepted → ⊥) → standing_returned image bytes ≡ reads_returned image
  unfolding standing_returned
  standing-unread other = ap by_reading (ne_eqb (read_a2 image).code accepted other)

  pub standing-read :
      (read_a2 image).code ≡ accepted
      → standing_returned image bytes ≡ pos (standing_number (applied (read_a2 image).state bytes).standing)
  unfolding standing_returned
  standing-read read = ap by_reading (eq-eqb (read_a2 image).code accepted read)

-- minus a number, read back
minus-back : (k n : ℕ) → neg_ℤ (pos k) ≡ negsuc n → k ≡ suc n
minus-back zero n h = true-false true refl (ap is_accepted h)
minus-back (suc k) n h = ap (λ z. nat_abs z) h

minus-zero : (k : ℕ) → neg_ℤ (pos k) ≡ pos 0 → k ≡ 0
minus-zero zero h = refl
minus-zero (suc k) h = true-false true refl (sym (ap is_accepted h))

-- 0 exactly when the image reads
-- promise
pub reads-means : (image : List ℕ) → (reads_returned image ≡ pos 0) ↔ ((read_a2 image).code ≡ accepted)
reads-means image = (minus-zero (read_a2 image).code, (λ read. ap (λ k. neg_ℤ (pos k)) read))

-- what the asking says of a call of the step on the same image
module _ (image actions : List ℕ) (enough : 20 ≤ length actions) where
  -- an image that does not read gets the same number, whatever the record
  -- promise
  pub reads-step : (bytes : List ℕ)
      → (reads_returned image ≡ pos 0 → ⊥)
      → (seen_after image bytes actions).number ≡ reads_returned image
  reads-step bytes other =
      ap (λ (x : Seen). x.number) (step-unread image bytes actions enough (λ read. other ((reads-means image).1 read)))

  -- and one of 42 bytes reads exactly when an empty record gets minus 1
  -- promise
  pub reads-empty :
      length image ≡ 42
      → (reads_returned image ≡ pos 0) ↔ ((seen_after image [] actions).number ≡ negsuc 0)
  reads-empty long =
      let same = seen_after-empty image actions long enough in (
        (λ zero. same.1 ((reads-means image).0 zero)),
        (λ one. (reads-means image).1 (same.0 one)),
      )

  -- where the image reads
  module _ (bytes : List ℕ) (read : (read_a2 image).code ≡ accepted) where
    -- the step whose number the call answers
    abbrev o : Outcome
    o = on_record (read_a2 image).state bytes (length actions)

    abbrev whom : Concern
    whom = concern_of (read_a2 image).state.last (reading bytes)

    -- it says what that step says
    -- promise
    pub standing-step :
        standing_returned image bytes
        ≡ pos (standing_number (on_record (read_a2 image).state bytes (length actions)).standing)
    standing-step =
        let roomy = on_record-room (read_a2 image).state bytes (length actions) enough ∙ applied-is (read_a2 image).state bytes in
        standing-read image bytes read ∙ sym (ap (λ (x : Outcome). pos (standing_number x.standing)) roomy)

    -- a number of the call and that of the step
    number : (seen_after image bytes actions).number ≡ cond (eqb o.code 0) (pos (length o.actions)) (neg_ℤ (pos o.code))
    number = ap (λ (x : Seen). x.number) (step-reads image bytes actions enough read)

    code_of : (n : ℕ) → (seen_after image bytes actions).number ≡ negsuc n → o.code ≡ suc n
    code_of n minus = by (eqb o.code 0) (sym number ∙ minus)
      where
        by : (b : Bool) → cond b (pos (length o.actions)) (neg_ℤ (pos o.code)) ≡ negsuc n → o.code ≡ suc n
        by true h = true-false true refl (ap is_accepted h)
        by false h = minus-back o.code n h

    of_code : (n : ℕ) → o.code ≡ suc n → (seen_after image bytes actions).number ≡ negsuc n
    of_code n is =
        let other = ne_eqb o.code 0 (λ h. omega (arith, h, is)) in
        number
        ∙ ap (λ b. cond b (pos (length o.actions)) (neg_ℤ (pos o.code))) other
        ∙ ap (λ k. neg_ℤ (pos k)) is

    -- "Refusals 5 and 7 then carry place and phase": the place that holds the partner whom the record concerns, and its phase
    -- promise
    pub standing-says :
        (concern_of (read_a2 image).state.last (reading bytes) ≡ nobody → ⊥)
        → ((seen_after image bytes actions).number ≡ negsuc 4) ⊎ ((seen_after image bytes actions).number ≡ negsuc 6)
        → Says (read_a2 image).state.places (concern_of (read_a2 image).state.last (reading bytes))
        (on_record (read_a2 image).state bytes (length actions)).standing
        × (standing_returned image bytes
        ≡ pos (16 * (on_record (read_a2 image).state bytes (length actions)).standing.place
        + (on_record (read_a2 image).state bytes (length actions)).standing.phase))
    standing-says some which =
        let numbered : Numbered o.code = ⊎_elim (λ five. inl (code_of 4 five)) (λ seven. inr (code_of 6 seven)) which in
        let said = on_record-says (read_a2 image).state bytes (length actions) some numbered in
        let phase = says-phase (read_a2 image).state.places o.standing whom said in
        (said, standing-step ∙ ap pos (told-some o.standing phase))

    -- "and every other answer": 0
    -- promise
    pub standing-silent :
        ((seen_after image bytes actions).number ≡ negsuc 4 → ⊥)
        → ((seen_after image bytes actions).number ≡ negsuc 6 → ⊥)
        → standing_returned image bytes ≡ pos 0
    standing-silent five seven =
        let other = ⊎_elim (λ is. five (of_code 4 is)) (λ is. seven (of_code 6 is)) in
        let none = on_record-silent (read_a2 image).state bytes (length actions) other in
        standing-step ∙ ap (λ (w : Standing). pos (standing_number w)) none

    -- "7 for a hole": 0
    -- promise
    pub standing-nobody :
        concern_of (read_a2 image).state.last (reading bytes) ≡ nobody
        → standing_returned image bytes ≡ pos 0
    standing-nobody nobody-there =
        let none = on_record-nobody (read_a2 image).state bytes (length actions) nobody-there in
        standing-step ∙ ap (λ (w : Standing). pos (standing_number w)) none
