-- Cross-checks only: rules told a second time.
-- The table of event records in numbers: what the record of each kind means, and that it is refused with 3 where a field is out of range.
-- Proves: known-means, reading-empty, reading-unknown, reading-length, level-read, mission-read, mode-read, hole-read, causes-numbered,
-- order-read, drop-read, end-all-read, up-read, loss-read, timeout-read, version-read, call-read, ended-read, message-read.
use mathlib.Core.Path.{◌≡◌, refl, sym, ap}
use mathlib.Core.Bool.{Bool, true, false, cond, ◌&&◌, not, true≢false}
use mathlib.Core.Logic.{◌↔◌}
use mathlib.Core.List.{List, [], ◌∷◌}
use lib.ListN.{length}
use Prim.Native.Nat.{ℕ, ◌≤◌}
use native.Mathlib.Omega.{arith}
use lib.Dec.{eqb, leb, ltb}
use borrow.Author.Tests.{leb-true, leb-false, le-leb, ltb-true, lt-ltb, eqb-true, eq-eqb, ne_eqb}
use Rattle.wire.proofs.Tests.{and_left, and_right, and_both, cond-case}
use Rattle.record.specs.Partners.{partner_ok, reserved, named_ok}
use Rattle.record.specs.Records.{length_of, known, cause_of, reading}
use Rattle.record.specs.Ranges.{Ranged}
use Rattle.record.specs.declared.partner.Partner.{Partner}
use Rattle.record.specs.declared.event.Cause.TheVariants.{StartOfMission, Trackside, ModeChange, ManualLevel, HoleEnd}
use Rattle.record.specs.declared.event.PartnerEvent.TheVariants.{Drop, Up, Loss, Timeout, Version, Ended}
use Rattle.record.specs.declared.event.Event.{Event}
use Rattle.record.specs.declared.event.Event.TheVariants.{Level, Mission, Mode, Hole, Order, EndAll, Call, Named}
use Rattle.record.specs.Readings.{Meant, Refused}
use Rattle.record.proofs.ByKind.{length_none, length_some}

-- "kind unknown": the kinds are 1 to 11
-- promise
pub known-means : (kind : ℕ) → (known kind ≡ true) ↔ ((1 ≤ kind) × (kind ≤ 11))
known-means kind = (there (leb kind 11) refl, (λ h. lt-ltb 0 (length_of kind) (length_some kind (λ none. omega (arith, h.0)) h.1)))
  where
    some : known kind ≡ true → 1 ≤ kind
    some h =
        cond-case {A = ℕ} (λ n. 1 ≤ kind) (leb 1 kind) 0 0
        (λ below. leb-true 1 kind below)
        (λ none.
        let short = length_none kind (λ above. absurd (omega (arith, leb-false 1 kind none))) in
        absurd (omega (arith, ltb-true 0 (length_of kind) h)))

    there : (b : Bool) → leb kind 11 ≡ b → known kind ≡ true → (1 ≤ kind) × (kind ≤ 11)
    there true few h = (some h, leb-true kind 11 few)
    there false many h =
        let over = leb-false kind 11 many in
        let short = length_none kind (λ above. omega arith) in
        absurd (omega (arith, ltb-true 0 (length_of kind) h))

by-test : (P : Type 0) (e : Event) (b : Bool) → (b ≡ true → P) → (P → b ≡ true) → Ranged P (cond b (Meant e) (Refused 3)) e
by-test P e true shows shown = ((λ h. refl), (λ none. absurd (none (shows refl))))
by-test P e false shows shown = ((λ h. ap (λ b. cond b (Meant e) (Refused 3)) (shown h)), (λ none. refl))

-- "1 (empty), 2, 1 (length), 3": of reading a record, in this order
-- promise
pub reading-empty : reading [] ≡ Refused 1
unfolding reading
reading-empty = refl

-- promise
pub reading-unknown : (kind : ℕ) (body : List ℕ) → known kind ≡ false → reading (kind ∷ body) ≡ Refused 2
unfolding reading
reading-unknown kind body other = simp other

-- promise
pub reading-length : (kind : ℕ) (body : List ℕ)
    → known kind ≡ true
    → (length (kind ∷ body) ≡ length_of kind → ⊥)
    → reading (kind ∷ body) ≡ Refused 1
unfolding reading
reading-length kind body is_Known other = simp (is_Known, ne_eqb (length (kind ∷ body)) (length_of kind) other)

-- "1 level: level, manual 0/1"
-- promise
pub level-read : (level manual : ℕ)
    → Ranged ((level ≤ 4) × (manual ≤ 1)) (reading (1 ∷ level ∷ manual ∷ [])) (Level level (eqb manual 1))
unfolding reading
level-read level manual =
    by-test _ _ (leb level 4 && leb manual 1)
    (λ h. (leb-true level 4 (and_left _ _ h), leb-true manual 1 (and_right (leb level 4) _ h)))
    (λ h. and_both _ _ (le-leb level 4 h.0) (le-leb manual 1 h.1))

-- "2 mission: 0..2"
-- promise
pub mission-read : (mission : ℕ) → Ranged (mission ≤ 2) (reading (2 ∷ mission ∷ [])) (Mission mission)
unfolding reading
mission-read mission = by-test _ _ (leb mission 2) (leb-true mission 2) (le-leb mission 2)

-- "3 mode change: none"
-- promise
pub mode-read : reading (3 ∷ []) ≡ Meant Mode
unfolding reading
mode-read = refl

-- "4 hole: 1 entered, 0 left"
-- promise
pub hole-read : (entered : ℕ) → Ranged (entered ≤ 1) (reading (4 ∷ entered ∷ [])) (Hole (eqb entered 1))
unfolding reading
hole-read entered = by-test _ _ (leb entered 1) (leb-true entered 1) (le-leb entered 1)

-- the causes by their numbers: "0 start of mission; 1 trackside; 2 mode change; 3 manual level; 4 hole end"
-- promise
pub causes-numbered :
    (cause_of 0 ≡ StartOfMission)
    × (cause_of 1 ≡ Trackside)
    × (cause_of 2 ≡ ModeChange)
    × (cause_of 3 ≡ ManualLevel)
    × (cause_of 4 ≡ HoleEnd)
causes-numbered = (refl, refl, refl, refl, refl)

-- "7 end all: 0 desk closed, 1 error"
-- promise
pub end-all-read : (why : ℕ) → Ranged (why ≤ 1) (reading (7 ∷ why ∷ [])) EndAll
unfolding reading
end-all-read why = by-test _ _ (leb why 1) (leb-true why 1) (le-leb why 1)

module _ (p : Partner) where
  -- "5 order: partner, accepting 0/1, cause 0..4"
  -- promise
  pub order-read : (accepting cause : ℕ)
      → Ranged ((p.kind ≤ 1) × (accepting ≤ 1) × (cause ≤ 4))
      (reading (5 ∷ p.kind ∷ p.high ∷ p.middle ∷ p.low ∷ accepting ∷ cause ∷ []))
      (Order p (eqb accepting 1) (cause_of cause))
  unfolding reading
  order-read accepting cause =
      by-test _ _ (leb p.kind 1 && (leb accepting 1 && ltb cause 5))
      (λ h.
      let rest = and_right (leb p.kind 1) _ h in
      let below = ltb-true cause 5 (and_right (leb accepting 1) _ rest) in
      (leb-true p.kind 1 (and_left _ _ h), leb-true accepting 1 (and_left _ _ rest), omega arith))
      (λ h.
      let few = h.2 in
      and_both _ _ (le-leb p.kind 1 h.0) (and_both _ _ (le-leb accepting 1 h.1) (lt-ltb cause 5 (omega arith))))

  by-not : (b : Bool) → not b ≡ true → b ≡ false
  by-not true h = absurd (true≢false (sym h))
  by-not false h = refl

  -- "No RBC in a place or in another event may have that value": the partner of any other event
  named-shows : named_ok p ≡ true → (p.kind ≤ 1) × (reserved p ≡ false)
  named-shows h = (leb-true p.kind 1 (and_left _ _ h), by-not (reserved p) (and_right (partner_ok p) _ h))

  named-shown : (p.kind ≤ 1) × (reserved p ≡ false) → named_ok p ≡ true
  named-shown h = and_both _ _ (le-leb p.kind 1 h.0) (ap not h.1)

  -- "6 drop: partner"
  -- promise
  pub drop-read :
      Ranged ((p.kind ≤ 1) × (reserved p ≡ false)) (reading (6 ∷ p.kind ∷ p.high ∷ p.middle ∷ p.low ∷ []))
      (Named p Drop)
  unfolding reading
  drop-read = by-test _ _ (named_ok p) named-shows named-shown

  -- "8 connection up: partner"
  -- promise
  pub up-read :
      Ranged ((p.kind ≤ 1) × (reserved p ≡ false)) (reading (8 ∷ p.kind ∷ p.high ∷ p.middle ∷ p.low ∷ []))
      (Named p Up)
  unfolding reading
  up-read = by-test _ _ (named_ok p) named-shows named-shown

  -- "9 connection lost: partner"
  -- promise
  pub loss-read :
      Ranged ((p.kind ≤ 1) × (reserved p ≡ false)) (reading (9 ∷ p.kind ∷ p.high ∷ p.middle ∷ p.low ∷ []))
      (Named p Loss)
  unfolding reading
  loss-read = by-test _ _ (named_ok p) named-shows named-shown

  -- "10 timeout: partner"
  -- promise
  pub timeout-read :
      Ranged ((p.kind ≤ 1) × (reserved p ≡ false)) (reading (10 ∷ p.kind ∷ p.high ∷ p.middle ∷ p.low ∷ []))
      (Named p Timeout)
  unfolding reading
  timeout-read = by-test _ _ (named_ok p) named-shows named-shown

  -- "11 message: partner, number 32, 38 or 39, version"; "Version is 0..127 for message 32"
  -- promise
  pub version-read : (version : ℕ)
      → Ranged (((p.kind ≤ 1) × (reserved p ≡ false)) × (version ≤ 127))
      (reading (11 ∷ p.kind ∷ p.high ∷ p.middle ∷ p.low ∷ 32 ∷ version ∷ []))
      (Named p (Version version))
  unfolding reading
  version-read version =
      by-test _ _ (named_ok p && leb version 127)
      (λ h. (named-shows (and_left _ _ h), leb-true version 127 (and_right (named_ok p) _ h)))
      (λ h. and_both _ _ (named-shown h.0) (le-leb version 127 h.1))

  -- "and must be 0 for 38 and 39"
  -- promise
  pub call-read : (version : ℕ)
      → Ranged (((p.kind ≤ 1) × (reserved p ≡ false)) × (version ≡ 0))
      (reading (11 ∷ p.kind ∷ p.high ∷ p.middle ∷ p.low ∷ 38 ∷ version ∷ []))
      (Call p)
  unfolding reading
  call-read version =
      by-test _ _ (named_ok p && eqb version 0)
      (λ h. (named-shows (and_left _ _ h), eqb-true version 0 (and_right (named_ok p) _ h)))
      (λ h. and_both _ _ (named-shown h.0) (eq-eqb version 0 h.1))

  -- promise
  pub ended-read : (version : ℕ)
      → Ranged (((p.kind ≤ 1) × (reserved p ≡ false)) × (version ≡ 0))
      (reading (11 ∷ p.kind ∷ p.high ∷ p.middle ∷ p.low ∷ 39 ∷ version ∷ []))
      (Named p Ended)
  unfolding reading
  ended-read version =
      by-test _ _ (named_ok p && eqb version 0)
      (λ h. (named-shows (and_left _ _ h), eqb-true version 0 (and_right (named_ok p) _ h)))
      (λ h. and_both _ _ (named-shown h.0) (eq-eqb version 0 h.1))

  -- no other number is read
  -- promise
  pub message-read : (number version : ℕ)
      → (number ≡ 32 → ⊥)
      → (number ≡ 38 → ⊥)
      → (number ≡ 39 → ⊥)
      → reading (11 ∷ p.kind ∷ p.high ∷ p.middle ∷ p.low ∷ number ∷ version ∷ []) ≡ Refused 3
  unfolding reading
  message-read number version first second third =
      simp (ne_eqb number 32 first, ne_eqb number 38 second, ne_eqb number 39 third) (by (named_ok p))
    where
      by : (b : Bool) → cond (b && false) (Meant (Named p Ended)) (Refused 3) ≡ Refused 3
      by true = refl
      by false = refl
