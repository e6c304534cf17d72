-- Cross-checks only: rules told a second time.
-- When two partners are the same, and when one has the reserved number.
-- Proves: same_refl, same-eq, same_partner-means, nid-all, nid-other, reserved-means.
use mathlib.Core.Path.{◌≡◌, refl, sym, ap, ◌∙◌}
use mathlib.Core.Logic.{◌↔◌}
use mathlib.Core.Bool.{Bool, true, false, ◌&&◌}
use Prim.Native.Nat.{ℕ, ◌+◌, ◌*◌, ◌%◌, ◌<◌}
use native.Mathlib.Omega.{arith}
use lib.Dec.{eqb}
use borrow.Author.Tests.{eqb-true, eqb-false, eq-eqb, ne_eqb}
use Rattle.wire.proofs.Tests.{and_left, and_right, and_both}
use Rattle.record.specs.Partners.{rbc, same_partner, nid_rbc, reserved_number, reserved}
use Rattle.record.specs.declared.partner.Partner.{Partner}

-- a partner is the same as itself, and as no other
pub same_refl : (p : Partner) → same_partner p p ≡ true
same_refl p =
    and_both _ _ (eq-eqb p.kind p.kind refl)
    (and_both _ _ (eq-eqb p.high p.high refl)
    (and_both _ _ (eq-eqb p.middle p.middle refl) (eq-eqb p.low p.low refl)))

pub same-eq : (p q : Partner) → same_partner p q ≡ true → p ≡ q
same-eq p q h =
    let k = eqb p.kind q.kind in
    let a = eqb p.high q.high in
    let b = eqb p.middle q.middle in
    let c = eqb p.low q.low in
    let h₁ : (a && (b && c)) ≡ true = and_right k (a && (b && c)) h in
    let h₂ : (b && c) ≡ true = and_right a (b && c) h₁ in
    λ i.
    record {
      kind = eqb-true p.kind q.kind (and_left k (a && (b && c)) h) i;
      high = eqb-true p.high q.high (and_left a (b && c) h₁) i;
      middle = eqb-true p.middle q.middle (and_left b c h₂) i;
      low = eqb-true p.low q.low (and_right b c h₂) i;
    }

-- "same number with another type is another partner": two are the same exactly where type and number are
-- promise
pub same_partner-means : (p q : Partner)
    → (same_partner p q ≡ true)
    ↔ ((p.kind ≡ q.kind) × (p.high ≡ q.high) × (p.middle ≡ q.middle) × (p.low ≡ q.low))
same_partner-means p q = (
  (λ h.
      let same = same-eq p q h in (
        ap (λ (x : Partner). x.kind) same,
        ap (λ (x : Partner). x.high) same,
        ap (λ (x : Partner). x.middle) same,
        ap (λ (x : Partner). x.low) same,
      )),
  (λ h.
      and_both _ _ (eq-eqb p.kind q.kind h.0)
      (and_both _ _ (eq-eqb p.high q.high h.1)
      (and_both _ _ (eq-eqb p.middle q.middle h.2) (eq-eqb p.low q.low h.3)))),
)

-- the low byte has all its bits set: so has NID_RBC where the middle byte's six are
pub nid-all : (six low : ℕ) → low ≡ 255 → eqb six 63 ≡ eqb (six * 256 + low) reserved_number
nid-all six low all = by (eqb six 63) refl
  where
    by : (b : Bool) → eqb six 63 ≡ b → b ≡ eqb (six * 256 + low) reserved_number
    by true is =
        let same = eqb-true six 63 is in
        sym (eq-eqb (six * 256 + low) reserved_number (omega arith))
    by false other =
        let differs = eqb-false six 63 other in
        sym (ne_eqb (six * 256 + low) reserved_number (λ e. differs (omega arith)))

-- and where it has not, NID_RBC has not
pub nid-other : (rbc : Bool) (six low : ℕ)
    → low < 256
    → (low ≡ 255 → ⊥)
    → false ≡ (rbc && eqb (six * 256 + low) reserved_number)
nid-other rbc six low byte some =
    let other = ne_eqb (six * 256 + low) reserved_number (λ e. some (omega arith)) in
    by rbc ∙ sym (ap (λ b. rbc && b) other)
  where
    by : (b : Bool) → false ≡ (b && false)
    by true = refl
    by false = refl

-- Q-2: "an order of type RBC whose low 14 bits are 16,383": six bits of the middle byte and the low byte, all set
-- promise
pub reserved-means : (p : Partner)
    → p.low < 256
    → (reserved p ≡ true) ↔ ((p.kind ≡ 0) × (p.middle % 64 ≡ 63) × (p.low ≡ 255))
reserved-means p byte = (
  (λ h.
      let number = eqb-true (nid_rbc p) reserved_number (and_right (eqb p.kind rbc) _ h) in
      let all : p.middle % 64 ≡ 63 = omega arith in
      (eqb-true p.kind rbc (and_left _ _ h), all, omega arith)),
  (λ h. and_both _ _ (eq-eqb p.kind rbc h.0) (eq-eqb (nid_rbc p) reserved_number (omega (arith, h.1, h.2)))),
)
