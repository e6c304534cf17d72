-- Cross-checks only: rules told a second time.
-- What words of the promises on a turn, on an event and on a reading mean, in the paper's numbers.
-- Proves: own_numbers-means, first_tries-means, afresh-means, on_next-means, phase_ok-means, fits_incoming-means, next_sound-means,
-- seat_of-means, reading_number-means, partner_event_ok-means, named_ok-means, event_ok-means, reading_ok-means, ranged-means,
-- taken_ok-means, not_ending-means, version_of-means.
use mathlib.Core.Path.{◌≡◌, refl, sym, ap, ◌∙◌}
use mathlib.Core.Logic.{◌↔◌, ◌⊎◌, inl, inr}
use mathlib.Core.Bool.{Bool, true, false, cond, ◌||◌, not}
use mathlib.Core.List.{List, [], ◌∷◌, map}
use Prim.Native.Nat.{ℕ, zero, suc, ◌+◌, ◌*◌, ◌%◌, ◌≤◌, ◌<◌}
use native.Mathlib.Omega.{arith}
use lib.Dec.{eqb, leb}
use lib.ListN.{length, get_or, take}
use borrow.Author.Tests.{eqb-true, eqb-false, eq-eqb, ne_eqb, leb-true, le-leb}
use Rattle.wire.proofs.Tests.{and_left, and_right, and_both, true-false}
use Rattle.record.specs.Partners.{nid_rbc, reserved, named_ok}
use Rattle.record.specs.Records.{reading}
use Rattle.record.specs.Ranges.{reading_number}
use Rattle.record.specs.Ranges.{partner_event_ok, event_ok, reading_ok, Ranged}
use Rattle.record.specs.TakeWords.{TakenOk}
use Rattle.record.specs.declared.partner.Partner.{Partner}
use Rattle.record.specs.declared.event.Cause.{Cause}
use Rattle.record.specs.declared.event.PartnerEvent.{PartnerEvent}
use Rattle.record.specs.declared.event.PartnerEvent.TheVariants.{Drop, Up, Loss, Timeout, Version, Ended}
use Rattle.record.specs.declared.event.Event.{Event}
use Rattle.record.specs.declared.event.Event.TheVariants.{Level, Mission, Mode, Hole, Order, EndAll, Call, Named}
use Rattle.record.specs.Readings.{Reading}
use Rattle.record.specs.Readings.{Meant, Refused}
use Rattle.record.specs.Takes as taking
use Rattle.record.specs.Takes.{Whole, Stopped}
use Rattle.place.specs.Places.{phase_number, tries, tries_ok, phase_ok, fits_incoming}
use Rattle.place.specs.Table.{not_ending, version_of}
use Rattle.place.specs.Turns.{own_numbers, on_next, first_tries, afresh, NextSound, SeatOf}
use Rattle.place.specs.declared.phase.Phase.{Phase}
use Rattle.place.specs.declared.phase.Phase.TheVariants.{Connecting, Contacting, Open, Lost, Ending}
use Rattle.place.specs.declared.place.Direction.{Direction}
use Rattle.place.specs.declared.place.Holding.TheVariants.{Free, Held}
use Rattle.place.specs.declared.limits.Limits.{Limits}
use Rattle.place.specs.declared.turn.Turn.TheVariants.{Stays, Released, Becomes, Sends, SendsBoth}

-- each of the numbers is 21 or 22
-- meaning
pub own_numbers-means : (ns : List ℕ)
    → (own_numbers ns ≡ true) ↔ ((i : ℕ) → i < length ns → (get_or ns i 0 ≡ 21) ⊎ (get_or ns i 0 ≡ 22))
own_numbers-means ns = (each ns, whole ns)
  where
    one : (n : ℕ) (a b : Bool) → eqb n 21 ≡ a → eqb n 22 ≡ b → (a || b) ≡ true → (n ≡ 21) ⊎ (n ≡ 22)
    one n true b is other h = inl (eqb-true n 21 is)
    one n false b other is h = inr (eqb-true n 22 (is ∙ h))

    first : (a b : Bool) → a ≡ true → (a || b) ≡ true
    first true b h = refl
    first false b h = true-false false h refl

    later : (a b : Bool) → b ≡ true → (a || b) ≡ true
    later true b h = refl
    later false b h = h

    back : (n : ℕ) → (n ≡ 21) ⊎ (n ≡ 22) → (eqb n 21 || eqb n 22) ≡ true
    back n (inl is) = first (eqb n 21) (eqb n 22) (eq-eqb n 21 is)
    back n (inr is) = later (eqb n 21) (eqb n 22) (eq-eqb n 22 is)

    each : (ns : List ℕ) → own_numbers ns ≡ true → (i : ℕ) → i < length ns → (get_or ns i 0 ≡ 21) ⊎ (get_or ns i 0 ≡ 22)
    each [] own i below = absurd (omega arith)
    each (n ∷ rest) own zero below =
        one n (eqb n 21) (eqb n 22) refl refl (and_left (eqb n 21 || eqb n 22) (own_numbers rest) own)
    each (n ∷ rest) own (suc i) below = each rest (and_right (eqb n 21 || eqb n 22) (own_numbers rest) own) i (omega arith)

    whole : (ns : List ℕ) → ((i : ℕ) → i < length ns → (get_or ns i 0 ≡ 21) ⊎ (get_or ns i 0 ≡ 22))
        → own_numbers ns ≡ true
    whole [] all = refl
    whole (n ∷ rest) all =
        and_both (eqb n 21 || eqb n 22) (own_numbers rest) (back n (all 0 (omega arith)))
        (whole rest (λ i below. all (suc i) (omega arith)))

-- a phase is entered with its first try, and Open with none
-- meaning
pub first_tries-means : (t : ℕ)
    → (first_tries (Connecting t) ≡ 1)
    × (first_tries (Contacting t) ≡ 1)
    × (first_tries Open ≡ 0)
    × (first_tries (Lost t) ≡ 1)
    × (first_tries (Ending t) ≡ 1)
first_tries-means t = (refl, refl, refl, refl, refl)

-- the same phase with one try more; or another, with 0 in Open, which is 3, and with 1 in any other
-- meaning
pub afresh-means : (ph q : Phase)
    → (afresh ph q ≡ true)
    ↔ (((phase_number ph ≡ phase_number q) × (tries q ≡ tries ph + 1))
    ⊎ ((phase_number ph ≡ phase_number q → ⊥)
    × (((phase_number q ≡ 3) × (tries q ≡ 0)) ⊎ ((phase_number q ≡ 3 → ⊥) × (tries q ≡ 1)))))
afresh-means ph q = (there (eqb (phase_number ph) (phase_number q)) refl, back)
  where
    first : (q : Phase)
        → tries q ≡ first_tries q
        → ((phase_number q ≡ 3) × (tries q ≡ 0)) ⊎ ((phase_number q ≡ 3 → ⊥) × (tries q ≡ 1))
    first (Connecting t) h = inr ((λ three. omega arith), h)
    first (Contacting t) h = inr ((λ three. omega arith), h)
    first Open h = inl (refl, refl)
    first (Lost t) h = inr ((λ three. omega arith), h)
    first (Ending t) h = inr ((λ three. omega arith), h)

    entered : (q : Phase)
        → ((phase_number q ≡ 3) × (tries q ≡ 0)) ⊎ ((phase_number q ≡ 3 → ⊥) × (tries q ≡ 1))
        → tries q ≡ first_tries q
    entered (Connecting t) (inl h) = absurd (omega (arith, h.0))
    entered (Connecting t) (inr h) = h.1
    entered (Contacting t) (inl h) = absurd (omega (arith, h.0))
    entered (Contacting t) (inr h) = h.1
    entered Open h = refl
    entered (Lost t) (inl h) = absurd (omega (arith, h.0))
    entered (Lost t) (inr h) = h.1
    entered (Ending t) (inl h) = absurd (omega (arith, h.0))
    entered (Ending t) (inr h) = h.1

    there : (b : Bool)
        → eqb (phase_number ph) (phase_number q) ≡ b
        → cond b (eqb (tries q) (tries ph + 1)) (eqb (tries q) (first_tries q)) ≡ true
        → ((phase_number ph ≡ phase_number q) × (tries q ≡ tries ph + 1))
        ⊎ ((phase_number ph ≡ phase_number q → ⊥)
        × (((phase_number q ≡ 3) × (tries q ≡ 0)) ⊎ ((phase_number q ≡ 3 → ⊥) × (tries q ≡ 1))))
    there true same h = inl (eqb-true (phase_number ph) (phase_number q) same, eqb-true (tries q) (tries ph + 1) h)
    there false other h =
        inr (eqb-false (phase_number ph) (phase_number q) other, first q (eqb-true (tries q) (first_tries q) h))

    back : ((phase_number ph ≡ phase_number q) × (tries q ≡ tries ph + 1))
        ⊎ ((phase_number ph ≡ phase_number q → ⊥)
        × (((phase_number q ≡ 3) × (tries q ≡ 0)) ⊎ ((phase_number q ≡ 3 → ⊥) × (tries q ≡ 1))))
        → afresh ph q ≡ true
    back (inl h) =
        ap (λ b. cond b (eqb (tries q) (tries ph + 1)) (eqb (tries q) (first_tries q)))
        (eq-eqb (phase_number ph) (phase_number q) h.0)
        ∙ eq-eqb (tries q) (tries ph + 1) h.1
    back (inr h) =
        ap (λ b. cond b (eqb (tries q) (tries ph + 1)) (eqb (tries q) (first_tries q)))
        (ne_eqb (phase_number ph) (phase_number q) h.0)
        ∙ eq-eqb (tries q) (first_tries q) (entered q h.1)

-- nothing is asked of a turn that stays or releases; of one that leads to a phase, what is asked of that phase
-- meaning
pub on_next-means : (k : ℕ) (q : Phase) (first second : ℕ)
    → on_next (λ r. phase_number r ≡ 6) Stays
    × on_next (λ r. phase_number r ≡ 6) Released
    × (on_next (λ r. phase_number r ≡ k) (Becomes q) ↔ (phase_number q ≡ k))
    × (on_next (λ r. phase_number r ≡ k) (Sends first q) ↔ (phase_number q ≡ k))
    × (on_next (λ r. phase_number r ≡ k) (SendsBoth first second q) ↔ (phase_number q ≡ k))
on_next-means k q first second = (tt, tt, ((λ h. h), (λ h. h)), ((λ h. h), (λ h. h)), ((λ h. h), (λ h. h)))

-- "Tries: 1 to n, but 0 in Open", which is 3
-- meaning
pub phase_ok-means : (l : Limits) (q : Phase)
    → (phase_ok l q ≡ true) ↔ ((phase_number q ≡ 3) ⊎ ((1 ≤ tries q) × (tries q ≤ l.tries)))
phase_ok-means l q = (there q, back q)
  where
    within : (t : ℕ) → tries_ok l t ≡ true → (1 ≤ t) × (t ≤ l.tries)
    within t h =
        (leb-true 1 t (and_left (leb 1 t) (leb t l.tries) h), leb-true t l.tries (and_right (leb 1 t) (leb t l.tries) h))

    passes : (t : ℕ) → (1 ≤ t) × (t ≤ l.tries) → tries_ok l t ≡ true
    passes t h = and_both (leb 1 t) (leb t l.tries) (le-leb 1 t h.0) (le-leb t l.tries h.1)

    there : (q : Phase) → phase_ok l q ≡ true → (phase_number q ≡ 3) ⊎ ((1 ≤ tries q) × (tries q ≤ l.tries))
    there (Connecting t) h = inr (within t h)
    there (Contacting t) h = inr (within t h)
    there Open h = inl refl
    there (Lost t) h = inr (within t h)
    there (Ending t) h = inr (within t h)

    back : (q : Phase) → (phase_number q ≡ 3) ⊎ ((1 ≤ tries q) × (tries q ≤ l.tries)) → phase_ok l q ≡ true
    back (Connecting t) (inl h) = absurd (omega arith)
    back (Connecting t) (inr h) = passes t h
    back (Contacting t) (inl h) = absurd (omega arith)
    back (Contacting t) (inr h) = passes t h
    back Open h = refl
    back (Lost t) (inl h) = absurd (omega arith)
    back (Lost t) (inr h) = passes t h
    back (Ending t) (inl h) = absurd (omega arith)
    back (Ending t) (inr h) = passes t h

-- an incoming place may be in the phases 3 to 5
-- meaning
pub fits_incoming-means : (ph : Phase) → (fits_incoming ph ≡ true) ↔ (3 ≤ phase_number ph)
fits_incoming-means (Connecting t) = ((λ h. true-false false h refl), (λ h. absurd (omega arith)))
fits_incoming-means (Contacting t) = ((λ h. true-false false h refl), (λ h. absurd (omega arith)))
fits_incoming-means Open = ((λ h. omega arith), (λ h. refl))
fits_incoming-means (Lost t) = ((λ h. omega arith), (λ h. refl))
fits_incoming-means (Ending t) = ((λ h. omega arith), (λ h. refl))

-- the next phase has its tries in their range, and is one that an incoming place may have where the phase was
-- meaning
pub next_sound-means : (l : Limits) (ph q : Phase) (first second : ℕ)
    → NextSound l ph Stays
    × NextSound l ph Released
    × (NextSound l ph (Becomes q) ↔ ((phase_ok l q ≡ true) × (fits_incoming ph ≡ true → fits_incoming q ≡ true)))
    × (NextSound l ph (Sends first q) ↔ ((phase_ok l q ≡ true) × (fits_incoming ph ≡ true → fits_incoming q ≡ true)))
    × (NextSound l ph (SendsBoth first second q) ↔ ((phase_ok l q ≡ true) × (fits_incoming ph ≡ true → fits_incoming q ≡ true)))
next_sound-means l ph q first second = (tt, tt, ((λ h. h), (λ h. h)), ((λ h. h), (λ h. h)), ((λ h. h), (λ h. h)))

-- a free place is anyone's, a held one has this direction and this partner, in whatever phase
-- meaning
pub seat_of-means : (d e : Direction) (ph : Phase) (p q : Partner)
    → SeatOf d p Free × (SeatOf d p (Held e ph q) ↔ ((e ≡ d) × (q ≡ p)))
seat_of-means d e ph p q = (tt, ((λ h. h), (λ h. h)))

-- 0 for an event, else the refusal
-- meaning
pub reading_number-means : (e : Event) (r : ℕ) → (reading_number (Meant e) ≡ 0) × (reading_number (Refused r) ≡ r)
reading_number-means e r = (refl, refl)

-- "Version is 0..127 for message 32"; the other events of a partner have no field
-- meaning
pub partner_event_ok-means : (v : ℕ)
    → (partner_event_ok Drop ≡ true)
    × (partner_event_ok Up ≡ true)
    × (partner_event_ok Loss ≡ true)
    × (partner_event_ok Timeout ≡ true)
    × ((partner_event_ok (Version v) ≡ true) ↔ (v ≤ 127))
    × (partner_event_ok Ended ≡ true)
partner_event_ok-means v = (refl, refl, refl, refl, (leb-true v 127, le-leb v 127), refl)

-- a partner of type 0 or 1, and no RBC whose low 14 bits are 16,383
-- meaning
pub named_ok-means : (p : Partner)
    → (named_ok p ≡ true)
    ↔ ((p.kind ≤ 1) × ((p.kind ≡ 0) × (p.middle % 64 * 256 + p.low ≡ 16_383) → ⊥))
named_ok-means p = (
  (λ h. (
    leb-true p.kind 1 (and_left (leb p.kind 1) (not (reserved p)) h),
    λ is.
        true-false (reserved p) (and_both _ _ (eq-eqb p.kind 0 is.0) (eq-eqb (nid_rbc p) 16_383 is.1))
        (fails (reserved p) (and_right (leb p.kind 1) (not (reserved p)) h)),
  )),
  (λ h. and_both (leb p.kind 1) (not (reserved p)) (le-leb p.kind 1 h.0) (passes h.1 (reserved p) refl)),
)
  where
    fails : (b : Bool) → not b ≡ true → b ≡ false
    fails true h = sym h
    fails false h = refl

    passes : ((p.kind ≡ 0) × (p.middle % 64 * 256 + p.low ≡ 16_383) → ⊥) → (b : Bool) → reserved p ≡ b → not b ≡ true
    passes none true is =
        absurd (none (
          eqb-true p.kind 0 (and_left (eqb p.kind 0) (eqb (nid_rbc p) 16_383) is),
          eqb-true (nid_rbc p) 16_383 (and_right (eqb p.kind 0) (eqb (nid_rbc p) 16_383) is),
        ))
    passes none false is = refl

-- level to 4, mission to 2, a partner's type to 1, and in a call or an event that names it not the reserved RBC
-- meaning
pub event_ok-means : (n : ℕ) (b : Bool) (p : Partner) (cause : Cause) (e : PartnerEvent)
    → ((event_ok (Level n b) ≡ true) ↔ (n ≤ 4))
    × ((event_ok (Mission n) ≡ true) ↔ (n ≤ 2))
    × (event_ok Mode ≡ true)
    × (event_ok (Hole b) ≡ true)
    × ((event_ok (Order p b cause) ≡ true) ↔ (p.kind ≤ 1))
    × (event_ok EndAll ≡ true)
    × ((event_ok (Call p) ≡ true)
    ↔ ((p.kind ≤ 1) × ((p.kind ≡ 0) × (p.middle % 64 * 256 + p.low ≡ 16_383) → ⊥)))
    × ((event_ok (Named p e) ≡ true)
    ↔ (((p.kind ≤ 1) × ((p.kind ≡ 0) × (p.middle % 64 * 256 + p.low ≡ 16_383) → ⊥)) × (partner_event_ok e ≡ true)))
event_ok-means n b p cause e = (
  (leb-true n 4, le-leb n 4),
  (leb-true n 2, le-leb n 2),
  refl,
  refl,
  (leb-true p.kind 1, le-leb p.kind 1),
  refl,
  named_ok-means p,
  (
    (λ h. (
      (named_ok-means p).0 (and_left (named_ok p) (partner_event_ok e) h),
      and_right (named_ok p) (partner_event_ok e) h,
    )),
    (λ h. and_both (named_ok p) (partner_event_ok e) ((named_ok-means p).1 h.0) h.1),
  ),
)

-- an event in its ranges, or refusal 1 to 3
-- meaning
pub reading_ok-means : (e : Event) (r : ℕ)
    → (reading_ok (Meant e) ≡ event_ok e) × ((reading_ok (Refused r) ≡ true) ↔ ((1 ≤ r) × (r ≤ 3)))
reading_ok-means e r = (
  refl,
  (
    (λ h. (leb-true 1 r (and_left (leb 1 r) (leb r 3) h), leb-true r 3 (and_right (leb 1 r) (leb r 3) h))),
    (λ h. and_both (leb 1 r) (leb r 3) (le-leb 1 r h.0) (le-leb r 3 h.1)),
  ),
)

-- what `Ranged` says: the event where the ranges hold, and refusal 3 where they do not
-- meaning
pub ranged-means : (P : Type 0) (r : Reading) (e : Event)
    → Ranged P r e ↔ ((P → r ≡ Meant e) × ((P → ⊥) → r ≡ Refused 3))
ranged-means P r e = ((λ h. h), (λ h. h))

-- a record that stands there whole, of one byte or more; stop 0, 2 or 3; refusal 12 for a log of more than 1,048,576 bytes
-- meaning
pub taken_ok-means : (log : List ℕ) (k : ℕ) (r : Reading)
    → (TakenOk log (Whole k r) ↔ ((1 ≤ k) × (k ≤ length log) × (r ≡ reading (take k log))))
    × (TakenOk log (Stopped k) ↔ ((k ≡ 0) ⊎ ((k ≡ 2) ⊎ (k ≡ 3))))
    × (TakenOk log (taking.Overlong k) ↔ ((k ≡ 12) × (1_048_576 < length log)))
taken_ok-means log k r = (((λ h. h), (λ h. h)), ((λ h. h), (λ h. h)), ((λ h. h), (λ h. h)))

-- "that is not Ending": every phase but the fifth
-- meaning
pub not_ending-means : (ph : Phase) → not_ending ph ≡ not (eqb (phase_number ph) 5)
not_ending-means (Connecting t) = refl
not_ending-means (Contacting t) = refl
not_ending-means Open = refl
not_ending-means (Lost t) = refl
not_ending-means (Ending t) = refl

-- message 32 alone has a version
-- meaning
pub version_of-means : (v : ℕ)
    → map version_of (Drop ∷ Up ∷ Loss ∷ Timeout ∷ Version v ∷ Ended ∷ []) ≡ 0 ∷ 0 ∷ 0 ∷ 0 ∷ v ∷ 0 ∷ []
version_of-means v = refl
