-- A partner that is named by nothing but timeouts is brought nothing: its account only goes down.
-- Defines: quiet.
-- Proves: received_none, silent-none, silent-step, silent-account.
use mathlib.Core.Path.{◌≡◌, refl}
use mathlib.Core.Bool.{Bool, true, false, cond, ◌&&◌, ◌||◌, not}
use mathlib.Core.List.{List, [], ◌∷◌}
use Prim.Native.Nat.{ℕ, ◌+◌}
use native.Mathlib.Omega.{arith}
use lib.Dec.{eqb}
use Rattle.record.specs.Partners.{same_partner}
use Rattle.record.specs.Records.{reading}
use Rattle.wire.specs.Refusals.{accepted}
use Rattle.record.specs.declared.partner.Partner.{Partner}
use Rattle.record.specs.declared.event.PartnerEvent.{PartnerEvent}
use Rattle.record.specs.declared.event.PartnerEvent.TheVariants.{Drop, Up, Loss, Timeout, Version, Ended}
use Rattle.record.specs.declared.event.Event.{Event}
use Rattle.record.specs.declared.event.Event.TheVariants.{Level, Mission, Mode, Hole, Order, EndAll, Call, Named}
use Rattle.record.specs.Readings.{Reading}
use Rattle.record.specs.Readings.{Meant, Refused}
use Rattle.wire.proofs.Tests.{and_left, and_right, true-false}
use Rattle.unit.specs.Steps.{Outcome}
use Rattle.unit.specs.OnRecords.{action_room, on_record}
use Rattle.unit.specs.Lasts.{meant}
use Rattle.unit.specs.declared.state.State.{State}
use Rattle.unit.specs.Kept.{count}
use Rattle.history.specs.Histories.{after, summed, names, is_timeout, timeout_for, silent}
use Rattle.history.proofs.Concerned.{named_by, timeout_by}
use Rattle.unit.proofs.Counts.{nothing}
use Rattle.unit.proofs.Balances.{Sense, Balance, moved}
use Rattle.unit.proofs.Scales.{Scale, Balanced, brings, counted}
use Rattle.unit.proofs.StepAccounts.{total, brought}
use Rattle.history.proofs.Accounts.{of_meant, received, record-account, history-account}

-- the record names the partner by a timeout, or not at all
abbrev pub quiet : Partner → State → List ℕ → Bool
quiet p s bytes = not (names p s bytes) || timeout_for p bytes

module _ (σ : Scale) (p : Partner) (free : brings σ Timeout ≡ 0) where
  -- an event that does not name the partner brings it nothing
  unnamed : (b : Bool) (v : ℕ) → (not b || false) ≡ true → cond b v 0 ≡ 0
  unnamed true v h = true-false false h refl
  unnamed false v h = refl

  -- nor does a timeout
  only-timeout : (e : PartnerEvent) → is_timeout e ≡ true → brings σ e ≡ 0
  only-timeout Drop h = true-false false h refl
  only-timeout Up h = true-false false h refl
  only-timeout Loss h = true-false false h refl
  only-timeout Timeout h = free
  only-timeout (Version v) h = true-false false h refl
  only-timeout Ended h = true-false false h refl

  timed-out : (b : Bool) (e : PartnerEvent) → (not b || (b && is_timeout e)) ≡ true → cond b (brings σ e) 0 ≡ 0
  timed-out true e h = only-timeout e h
  timed-out false e h = refl

  -- so no event and no record that is quiet brings anything
  event-brings : (s : State) (e : Event)
      → (not (named_by p s.last (Meant e)) || timeout_by p (Meant e)) ≡ true
      → brought σ (same_partner p) s e ≡ 0
  event-brings s (Level level manual) h = refl
  event-brings s (Mission mission) h = refl
  event-brings s Mode h = refl
  event-brings s (Hole entered) h = refl
  event-brings s (Order q accepting cause) h = unnamed (same_partner p (meant s.last q)) σ.order h
  event-brings s EndAll h = refl
  event-brings s (Call q) h = unnamed (same_partner p q) σ.call h
  event-brings s (Named q e) h = timed-out (same_partner p q) e h

  record-brings : (s : State) (bytes : List ℕ)
      → quiet p s bytes ≡ true
      → of_meant (brought σ (same_partner p) s) (reading bytes) ≡ 0
  record-brings s bytes = by (reading bytes)
    where
      by : (r : Reading)
          → (not (named_by p s.last r) || timeout_by p r) ≡ true
          → of_meant (brought σ (same_partner p) s) r ≡ 0
      by (Meant e) h = event-brings s e h
      by (Refused r) h = refl

  pub received_none : (s : State) (bytes : List ℕ)
      → quiet p s bytes ≡ true
      → (o : Outcome)
      → received σ (same_partner p) s bytes o ≡ 0
  received_none s bytes h o = rw (record-brings s bytes h) (nothing (eqb o.code accepted))

  -- nor a history of them
  pub silent-none : (s : State) (history : List (List ℕ))
      → silent p s history ≡ true
      → summed (received σ (same_partner p)) s history ≡ 0
  unfolding silent summed
  silent-none s [] h = refl
  silent-none s (bytes ∷ history) h =
      let o = on_record s bytes action_room in
      let first = received_none s bytes (and_left (quiet p s bytes) (silent p o.state history) h) o in
      let rest = silent-none o.state history (and_right (quiet p s bytes) (silent p o.state history) h) in
      omega arith

  module _ (m : Sense) (s : State) (balanced : Balanced m s.limits σ) where
    -- the step on such a record
    pub silent-step : (bytes : List ℕ)
        → quiet p s bytes ≡ true
        → Balance m
        (count (counted σ (same_partner p)) (on_record s bytes action_room).actions
        + total σ (same_partner p) (on_record s bytes action_room).state.places)
        (total σ (same_partner p) s.places)
    silent-step bytes h =
        let none = received_none s bytes h (on_record s bytes action_room) in
        moved m _ _ _ _ refl (omega arith) (record-account m s.limits σ balanced (same_partner p) s refl bytes)

    -- and a history of them
    pub silent-account : (history : List (List ℕ))
        → silent p s history ≡ true
        → Balance m
        (summed (λ s bytes o. count (counted σ (same_partner p)) o.actions) s history
        + total σ (same_partner p) (after s history).places)
        (total σ (same_partner p) s.places)
    silent-account history h =
        let none = silent-none s history h in
        moved m _ _ _ _ refl (omega arith) (history-account m s.limits σ balanced (same_partner p) s refl history)
