-- Demand 3, the waiting partner: one that waits and is from then on named by nothing but timeouts is released, once, after the limit
-- of tries at the latest.
-- Defines: left_in.
-- Proves: left_after, waiting, released-once, demand-waiting, demand-released-once.
use mathlib.Core.Path.{◌≡◌, refl, ap, ◌∙◌}
use mathlib.Core.Bool.{Bool, true, false, ◌&&◌, ◌||◌}
use mathlib.Core.List.{List, [], ◌∷◌}
use Prim.Native.Nat.{ℕ, zero, suc, ◌+◌, ◌-◌, ◌≤◌}
use native.Mathlib.Omega.{arith}
use Rattle.record.specs.Partners.{same_partner}
use Rattle.record.specs.declared.partner.Partner.{Partner}
use Rattle.wire.proofs.Tests.{and_left, and_right, cond-case}
use Rattle.place.specs.Places.{fleet_tries, holds}
use Rattle.place.specs.declared.place.Place.{Place}
use Rattle.unit.specs.States.{sound, some}
use Rattle.unit.specs.OnRecords.{action_room, on_record}
use Rattle.unit.specs.declared.state.State.{State}
use Rattle.unit.specs.declared.answer.Action.{Action}
use Rattle.unit.specs.Kept.{here, count}
use Rattle.wire.specs.Bytes.{as_bit}
use Rattle.wire.specs.Sums.{sum}
use Rattle.unit.proofs.Effects.{on_record-limits}
use Rattle.unit.proofs.Facts.{limits-tries, sound-facts}
use Rattle.unit.proofs.Sound.{on_record-sound}
use Rattle.history.specs.Histories.{after, timeout_for, silent, timeouts, holds_place, waits}
use Rattle.history.specs.Histories.{is_release, release_of, releases_of}
use Rattle.history.specs.PerEvent.{timeouts_to_release}
use Rattle.unit.proofs.Counts.{count_same}
use Rattle.unit.proofs.Balances.{at_most, exactly}
use Rattle.unit.proofs.Scales.{counted}
use Rattle.unit.proofs.Seats.{seats, seats-balanced, seats-weigh, own-places}
use Rattle.unit.proofs.StepAccounts.{total}
use Rattle.history.proofs.Counted.{summed_same}
use Rattle.history.proofs.Silence.{quiet, silent-step, silent-account}
use Rattle.history.proofs.Left.{lefts, left_to, lefts-balanced, held-left, waiting-left}
use Rattle.history.proofs.Timeouts.{timeout-acts}

-- one is taken away where there is one
one_less : (before acts after : ℕ) → (1 ≤ before → 1 ≤ acts) → acts + after ≤ before → after ≤ before - 1
one_less zero acts after some h = omega arith
one_less (suc before) acts after some h =
    let acted = some (omega arith) in
    omega arith

-- a sound state has a first try
some-try : (s : State) → sound s ≡ true → 1 ≤ s.limits.tries
some-try s ok = (limits-tries s.limits (sound-facts s ok).limits).0

-- what is left to a partner of a state, by its limits
abbrev pub left_in : Partner → State → ℕ
left_in p s = left_to s.limits.tries p s.places

module _ (p : Partner) where
  -- a record takes away what its timeout does, or more
  left_step : (s : State)
      → sound s ≡ true
      → left_in p s ≤ s.limits.tries
      → (bytes : List ℕ)
      → quiet p s bytes ≡ true
      → left_in p (on_record s bytes action_room).state ≤ left_in p s - as_bit (timeout_for p bytes)
  left_step s ok few bytes h =
      let n = s.limits.tries in
      let o = on_record s bytes action_room in
      let before = left_to n p s.places in
      let after = left_to n p o.state.places in
      let account = silent-step (lefts n) p refl at_most s (lefts-balanced s.limits (some-try s ok)) bytes h in
      let same = ap (λ l. left_to l.tries p o.state.places) (on_record-limits s bytes action_room) in
      let less =
      cond-case (λ w. after ≤ before - w) (timeout_for p bytes) 1 0
      (λ timed. one_less before _ after (λ some. timeout-acts p s some few ok bytes timed) account)
      (λ other. omega arith) in
      omega arith

  -- each timeout takes one away, until nothing is left
  pub left_after : (s : State)
      → sound s ≡ true
      → left_in p s ≤ s.limits.tries
      → (history : List (List ℕ))
      → silent p s history ≡ true
      → left_in p (after s history) ≤ left_in p s - timeouts p history
  unfolding after silent timeouts
  left_after s ok few [] h = omega arith
  left_after s ok few (bytes ∷ history) h =
      let o = on_record s bytes action_room in
      let first = left_step s ok few bytes (and_left (quiet p s bytes) (silent p o.state history) h) in
      let same = ap (λ l. l.tries) (on_record-limits s bytes action_room) in
      let later = and_right (quiet p s bytes) (silent p o.state history) h in
      let rest = left_after o.state (on_record-sound s bytes action_room ok) (omega arith) history later in
      omega arith

-- a partner that holds none of the places has none
absent : (p : Partner) (ps : List Place) → sum (here (holds p)) ps ≡ 0 → holds_place p ps ≡ false
unfolding sum some
absent p [] h = refl
absent p (place ∷ ps) h = by (holds p place) (omega arith) (absent p ps (omega arith))
  where
    by : (b : Bool) → as_bit b ≡ 0 → holds_place p ps ≡ false → (b || holds_place p ps) ≡ false
    by true one above = absurd (omega arith)
    by false one above = above

-- the places of one partner weighed are those that hold it
seats-held : (p : Partner) (ps : List Place) → total seats (same_partner p) ps ≡ sum (here (holds p)) ps
seats-held p ps = seats-weigh (same_partner p) ps ∙ own-places p ps

-- a release for the partner is one of its releases
release-of : (p : Partner) (a : Action) → counted seats (same_partner p) a ≡ release_of p a
release-of p a = by (same_partner p a.partner) (is_release a)
  where
    by : (b c : Bool) → (b && c) ≡ (c && b)
    by true true = refl
    by true false = refl
    by false true = refl
    by false false = refl

module _
    (s : State)
    (ok : sound s ≡ true)
    (p : Partner)
    (waiting-now : waits p s.places ≡ true)
    (history : List (List ℕ))
    (quiet-on : silent p s history ≡ true)
    (enough : timeouts_to_release s.limits.tries ≤ timeouts p history)
  where
    -- after so many timeouts nothing is left, so no place is held
    none-held : sum (here (holds p)) (after s history).places ≡ 0
    none-held =
        let few = (waiting-left s.limits (some-try s ok) p s.places (sound-facts s ok).places waiting-now).1 in
        let most = left_after p s ok few history quiet-on in
        let held = held-left (after s history).limits.tries p (after s history).places in
        omega arith

    -- it holds no place after its n-th timeout
    -- promise
    pub waiting : holds_place p (after s history).places ≡ false
    waiting = absent p (after s history).places none-held

    -- it was released, by one action 22 to that very partner
    -- promise
    pub released-once : releases_of p s history ≡ 1
    released-once =
        let held = (waiting-left s.limits (some-try s ok) p s.places (sound-facts s ok).places waiting-now).0 in
        let account = silent-account seats p refl exactly s (seats-balanced s.limits) history quiet-on in
        let before = seats-held p s.places in
        let then = seats-held p (after s history).places in
        let none = none-held in
        let own =
        summed_same (λ s bytes o. count (counted seats (same_partner p)) o.actions) (λ s bytes o. count (release_of p) o.actions)
        (λ s bytes. count_same (counted seats (same_partner p)) (release_of p) (release-of p) (on_record s bytes action_room).actions)
        s history in
        omega arith

-- with the three tries of document 01
-- promise
pub demand-waiting : (s : State)
    → s.limits.tries ≡ fleet_tries
    → sound s ≡ true
    → (p : Partner)
    → waits p s.places ≡ true
    → (history : List (List ℕ))
    → silent p s history ≡ true
    → 3 ≤ timeouts p history
    → holds_place p (after s history).places ≡ false
demand-waiting s three ok p now history quiet-on enough = waiting s ok p now history quiet-on (omega arith)

-- promise
pub demand-released-once : (s : State)
    → s.limits.tries ≡ fleet_tries
    → sound s ≡ true
    → (p : Partner)
    → waits p s.places ≡ true
    → (history : List (List ℕ))
    → silent p s history ≡ true
    → 3 ≤ timeouts p history
    → releases_of p s history ≡ 1
demand-released-once s three ok p now history quiet-on enough = released-once s ok p now history quiet-on (omega arith)
