-- A timeout that names a partner that waits has an action for it: the next try, or its release.
-- Proves: timeout-acts.
use mathlib.Core.Path.{◌≡◌, refl, sym, subst}
use mathlib.Core.Bool.{true, false, cond}
use mathlib.Core.List.{List, [], ◌∷◌}
use Prim.Native.Nat.{ℕ, ◌≤◌}
use native.Mathlib.Omega.{arith}
use lib.Dec.{ltb}
use lib.ListN.{get_or}
use Rattle.record.specs.Partners.{same_partner}
use Rattle.record.specs.Records.{reading}
use Rattle.record.specs.declared.partner.Partner.{Partner}
use Rattle.record.specs.declared.event.PartnerEvent.{PartnerEvent}
use Rattle.record.specs.declared.event.PartnerEvent.TheVariants.{Drop, Up, Loss, Timeout, Version, Ended}
use Rattle.record.specs.declared.event.Event.{Event}
use Rattle.record.specs.declared.event.Event.TheVariants.{Level, Mission, Mode, Hole, Order, EndAll, Call, Named}
use Rattle.record.specs.Readings.{Reading}
use Rattle.record.specs.Readings.{Meant, Refused}
use Rattle.wire.proofs.Tests.{and_left, and_right, cond-holds, true-false}
use Rattle.record.proofs.Partners.{same_refl, same-eq}
use Rattle.place.specs.Places.{vacant, tries}
use Rattle.place.proofs.Holdings.{holds_in, phase_held}
use Rattle.place.specs.Table.{release, again, one_more, turn}
use Rattle.place.specs.declared.phase.Phase.{Phase}
use Rattle.place.specs.declared.phase.Phase.TheVariants.{Connecting, Contacting, Open, Lost, Ending}
use Rattle.place.specs.declared.place.Holding.{Holding}
use Rattle.place.specs.declared.place.Holding.TheVariants.{Free, Held}
use Rattle.place.specs.declared.turn.Turn.TheVariants.{Released, Sends}
use Rattle.unit.specs.States.{seek, sound}
use Rattle.unit.specs.Steps.{Outcome, act, step}
use Rattle.unit.specs.Searching.{turned, named_at}
use Rattle.unit.specs.OnRecords.{action_room, on_reading, on_record}
use Rattle.unit.specs.declared.state.State.{State}
use Rattle.unit.specs.declared.search.Found.{Found}
use Rattle.unit.specs.declared.search.Found.TheVariants.{At, Vacant, Full}
use Rattle.unit.specs.declared.answer.Action.{Action}
use Rattle.unit.proofs.Weights.{weigh-at}
use Rattle.unit.proofs.Searches.{FoundOk, seek_ok}
use Rattle.unit.proofs.ByFound.{named-found}
use Rattle.unit.specs.Kept.{count}
use Rattle.history.specs.Histories.{is_timeout, timeout_for}
use Rattle.history.proofs.Concerned.{timeout_by}
use Rattle.unit.proofs.Scales.{weight_in, weight_of, counted}
use Rattle.history.proofs.Left.{left, lefts, left_to, none_left}

-- something is left to a partner of a state, and no more than the limit
module _ (p : Partner) (s : State)
    (some : 1 ≤ left_to s.limits.tries p s.places)
    (few : left_to s.limits.tries p s.places ≤ s.limits.tries) where
  -- the limit of tries
  abbrev n : ℕ
  n = s.limits.tries

  -- the actions for this partner
  own : List Action → ℕ
  own acts = count (counted (lefts n) (same_partner p)) acts

  -- an action for it is one of them
  own-action : (number : ℕ) → 1 ≤ own (act p number ∷ [])
  unfolding own count
  own-action number = rw (same_refl p) (omega arith)

  -- its place is not Open, and every other phase has an action for a timeout
  place-acts : (i : ℕ) (ph : Phase) (k : Holding)
      → holds_in p k ≡ true
      → phase_held k ≡ ph
      → weight_in (lefts n) (same_partner p) k ≤ n
      → 1 ≤ own (turned s i ph p (turn s.limits ph Timeout)).actions
  unfolding turn
  place-acts i ph Free h is w = true-false false h refl
  place-acts i ph (Held d held q) h is w = by ph (rw (← is) (subst (λ b. cond b (left n held) 0 ≤ n) h w))
    where
      retried : (number : ℕ) (ph : Phase) → 1 ≤ own (turned s i ph p (again s.limits number ph)).actions
      retried number ph =
          cond-holds (λ t. 1 ≤ own (turned s i ph p t).actions) (ltb (tries ph) n) (Sends number (one_more ph)) Released
          (own-action number)
          (own-action release)

      by : (ph : Phase) → left n ph ≤ n → 1 ≤ own (turned s i ph p (turn s.limits ph Timeout)).actions
      by (Connecting t) w = retried 21 (Connecting t)
      by (Contacting t) w = retried 155 (Contacting t)
      by Open w = absurd (omega arith)
      by (Lost t) w = retried 21 (Lost t)
      by (Ending t) w = retried 156 (Ending t)

  -- it has a place
  named-acts : (found : Found) → FoundOk p s.places found → 1 ≤ own (named_at s p Timeout found).actions
  named-acts (At i ph) at =
      let place = get_or s.places i vacant in
      let less = weigh-at (weight_of (lefts n) (same_partner p)) s.places i at.0 in
      place-acts i ph place.holding at.1 at.2 (omega arith)
  named-acts (Vacant i) at =
      let none = none_left n p s.places at.2 in
      absurd (omega arith)
  named-acts Full at =
      let none = none_left n p s.places at.1 in
      absurd (omega arith)

  -- the event is a timeout that names it
  event-acts : (e : Event) → timeout_by p (Meant e) ≡ true → 1 ≤ own (step s e).actions
  event-acts (Level level manual) h = true-false false h refl
  event-acts (Mission mission) h = true-false false h refl
  event-acts Mode h = true-false false h refl
  event-acts (Hole entered) h = true-false false h refl
  event-acts (Order q accepting cause) h = true-false false h refl
  event-acts EndAll h = true-false false h refl
  event-acts (Call q) h = true-false false h refl
  event-acts (Named q e) h =
      subst (λ (o : Outcome). 1 ≤ own o.actions) (sym (named-found s q e))
      (by e (and_right (same_partner p q) (is_timeout e) h) (same-eq p q (and_left (same_partner p q) (is_timeout e) h)))
    where
      by : (e : PartnerEvent)
          → is_timeout e ≡ true
          → p ≡ q
          → 1 ≤ own (named_at s q e (seek q s.places)).actions
      by Drop h same = true-false false h refl
      by Up h same = true-false false h refl
      by Loss h same = true-false false h refl
      by Timeout h same = rw (← same) (named-acts (seek p s.places) (seek_ok p s.places))
      by (Version v) h same = true-false false h refl
      by Ended h same = true-false false h refl

  -- the record reads as such an event
  pub timeout-acts :
      sound s ≡ true
      → (bytes : List ℕ)
      → timeout_for p bytes ≡ true
      → 1 ≤ count (counted (lefts n) (same_partner p)) (on_record s bytes action_room).actions
  unfolding on_record own
  timeout-acts ok bytes h = rw ok (by (reading bytes) h)
    where
      by : (r : Reading) → timeout_by p r ≡ true → 1 ≤ own (on_reading s r).actions
      by (Meant e) h = event-acts e h
      by (Refused r) h = true-false false h refl
