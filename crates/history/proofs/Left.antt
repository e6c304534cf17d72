-- What is left to a partner: the most timeouts that its place can still take, and one more than the limit of tries while it is Open.
-- So a partner to whom no more than the limit is left waits, and each timeout that names it takes one away.
-- Defines: left, lefts, left_to.
-- Proves: lefts-balanced, held-left, none_left, waiting-left.
use mathlib.Core.Path.{◌≡◌, refl}
use mathlib.Core.Bool.{Bool, true, false, cond, ◌&&◌, ◌||◌}
use mathlib.Core.List.{List, [], ◌∷◌}
use Prim.Native.Nat.{ℕ, zero, suc, ◌+◌, ◌-◌, ◌*◌, ◌≤◌}
use native.Mathlib.Omega.{arith}
use lib.Dec.{leb}
use borrow.Author.Tests.{leb-true}
use Rattle.record.specs.Partners.{same_partner, named_ok}
use Rattle.record.specs.declared.partner.Partner.{Partner}
use Rattle.wire.proofs.Tests.{and_left, and_right, cond-case, true-false}
use Rattle.place.specs.Places.{seat, holds, fits}
use Rattle.place.proofs.Holdings.{holds_in}
use Rattle.place.specs.declared.phase.Phase.{Phase}
use Rattle.place.specs.declared.phase.Phase.TheVariants.{Connecting, Contacting, Open, Lost, Ending}
use Rattle.place.specs.declared.limits.Limits.{Limits}
use Rattle.place.specs.declared.place.Direction.{Direction}
use Rattle.place.specs.declared.place.Holding.{Holding}
use Rattle.place.specs.declared.place.Holding.TheVariants.{Free, Held}
use Rattle.place.specs.declared.place.Place.{Place}
use Rattle.unit.specs.Kept.{here}
use Rattle.wire.specs.Bytes.{as_bit}
use Rattle.wire.specs.Sums.{sum}
use Rattle.unit.proofs.Facts.{bad, PlacesFacts}
use Rattle.history.specs.Histories.{waiting_phase, waits_at, waits}
use Rattle.unit.proofs.Balances.{at_most}
use Rattle.unit.proofs.Scales.{Scale, Balanced, weight_in}
use Rattle.unit.proofs.StepAccounts.{total}
use Rattle.history.proofs.Falling.{Numbers, falling, fallings, falling-balanced}
use Rattle.unit.specs.States.{some}

-- what is left to a place at its last try, n being the limit of tries; what opens a session, or takes a partner in, brings more
abbrev left_numbers : ℕ → Numbers
left_numbers n =
    record {
      connecting = 1;
      contacting = 1;
      opened = n + 1;
      lost = 1;
      ending = 1;
      order = n + 1;
      call = n + 2;
      up = n;
      loss = 0;
      version = n + 1;
    }

-- and one more for each try before that
abbrev pub left : ℕ → Phase → ℕ
left n = falling n (left_numbers n)

-- every action counts
abbrev pub lefts : ℕ → Scale
lefts n = fallings n (left_numbers n)

-- what is left to one partner
abbrev pub left_to : ℕ → Partner → List Place → ℕ
left_to n p ps = total (lefts n) (same_partner p) ps

-- no turn costs more than what is left and its event brings
pub lefts-balanced : (l : Limits) → 1 ≤ l.tries → Balanced at_most l (lefts l.tries)
lefts-balanced l some-try = falling-balanced l (left_numbers l.tries) some-try (omega arith)

module _ (n : ℕ) (p : Partner) where
  -- something is left in every phase
  left-some : (ph : Phase) → 1 ≤ left n ph
  left-some (Connecting t) = omega arith
  left-some (Contacting t) = omega arith
  left-some Open = omega arith
  left-some (Lost t) = omega arith
  left-some (Ending t) = omega arith

  -- so to a partner that holds a place
  pub held-left : (ps : List Place) → sum (here (holds p)) ps ≤ left_to n p ps
  unfolding sum
  held-left [] = omega arith
  held-left (place ∷ ps) =
      let first = by place.holding in
      let rest = held-left ps in
      omega arith
    where
      by-test : (b : Bool) (v : ℕ) → 1 ≤ v → as_bit b ≤ cond b v 0
      by-test true v h = h
      by-test false v h = omega arith

      by : (k : Holding) → as_bit (holds_in p k) ≤ weight_in (lefts n) (same_partner p) k
      by Free = omega arith
      by (Held d ph q) = by-test (same_partner p q) (left n ph) (left-some ph)

  -- to one that holds none, nothing
  pub none_left : (ps : List Place) → sum (here (holds p)) ps ≡ 0 → left_to n p ps ≡ 0
  unfolding sum
  none_left [] h = refl
  none_left (place ∷ ps) h =
      let first = by place.holding (omega arith) in
      let rest = none_left ps (omega arith) in
      omega arith
    where
      by-test : (b : Bool) (v : ℕ) → as_bit b ≡ 0 → cond b v 0 ≡ 0
      by-test true v h = absurd (omega arith)
      by-test false v h = refl

      by : (k : Holding) → as_bit (holds_in p k) ≡ 0 → weight_in (lefts n) (same_partner p) k ≡ 0
      by Free h = refl
      by (Held d ph q) h = by-test (same_partner p q) (left n ph) h

module _ (l : Limits) (some-try : 1 ≤ l.tries) (p : Partner) where
  -- the limit of tries
  abbrev n : ℕ
  n = l.tries

  -- tries in their range are one at the least
  tried : (t : ℕ) (a c : Bool) → (1 + (n - t)) + 1 ≤ (n + 1) + cond (a && ((leb 1 t && leb t n) && c)) 0 1
  tried t a c =
      let within = leb 1 t && leb t n in
      cond-case (λ w. (1 + (n - t)) + 1 ≤ (n + 1) + w) (a && (within && c)) 0 1
      (λ ok.
      let some = leb-true 1 t (and_left (leb 1 t) (leb t n) (and_left within c (and_right a (within && c) ok))) in
      omega arith)
      (λ other. omega arith)

  -- so has each phase, or its place is not sound
  phase-left : (d : Direction) (ph : Phase) (q : Partner) → left n ph + as_bit (waiting_phase ph) ≤ (n + 1) + bad l (seat d ph q)
  phase-left d (Connecting t) q = tried t (named_ok q) (fits d (Connecting t) q)
  phase-left d (Contacting t) q = tried t (named_ok q) (fits d (Contacting t) q)
  phase-left d Open q = omega arith
  phase-left d (Lost t) q = tried t (named_ok q) (fits d (Lost t) q)
  phase-left d (Ending t) q = tried t (named_ok q) (fits d (Ending t) q)

  -- to a partner that waits one less is left than to one that does not
  waits-left : (ps : List Place)
      → left_to n p ps + sum (here (waits_at p)) ps
      ≤ (n + 1) * sum (here (holds p)) ps + sum (bad l) ps
  unfolding sum
  waits-left [] = omega arith
  waits-left (place ∷ ps) =
      let first = by place.holding in
      let rest = waits-left ps in
      omega arith
    where
      by-test : (b w : Bool) (v k : ℕ) → v + as_bit w ≤ (n + 1) + k → cond b v 0 + as_bit (b && w) ≤ (n + 1) * as_bit b + k
      by-test true w v k h = omega arith
      by-test false w v k h = omega arith

      by : (k : Holding)
          → weight_in (lefts n) (same_partner p) k + as_bit (waits_at p (record { holding = k }))
          ≤ (n + 1) * as_bit (holds_in p k) + bad l (record { holding = k })
      by Free = omega arith
      by (Held d ph q) = by-test (same_partner p q) (waiting_phase ph) (left n ph) (bad l (seat d ph q)) (phase-left d ph q)

  -- and it has a place that waits
  waits-some : (ps : List Place) → waits p ps ≡ true → 1 ≤ sum (here (waits_at p)) ps
  unfolding sum some
  waits-some [] h = true-false false h refl
  waits-some (place ∷ ps) h = by (waits_at p place) h (waits-some ps)
    where
      by : (b : Bool)
          → (b || waits p ps) ≡ true
          → (waits p ps ≡ true → 1 ≤ sum (here (waits_at p)) ps)
          → 1 ≤ as_bit b + sum (here (waits_at p)) ps
      by true h above = omega arith
      by false h above =
          let rest = above h in
          omega arith

  -- one place at the most, so one
  lone : (held w : ℕ) → held ≤ 1 → w + 1 ≤ (n + 1) * held → (held ≡ 1) × (w ≤ n)
  lone zero w few h = absurd (omega arith)
  lone (suc zero) w few h = (refl, omega arith)
  lone (suc (suc held)) w few h = absurd (omega arith)

  -- one that waits in a sound state has one place, and no more than the limit is left to it
  pub waiting-left : (ps : List Place)
      → PlacesFacts l ps
      → waits p ps ≡ true
      → (sum (here (holds p)) ps ≡ 1) × (left_to n p ps ≤ n)
  waiting-left ps facts h =
      let none = facts.0 in
      let some = waits-some ps h in
      let most = waits-left ps in
      lone (sum (here (holds p)) ps) (left_to n p ps) (facts.1 p) (omega arith)
