-- What a history brings, counted: so much for each accepted order, so much for each accepted call, so much for each accepted loss.
-- Defines: rated, among, Whose.
-- Proves: summed_same, summed-rates, whose-any, whose-one, and-true, rated-account.
use mathlib.Core.Path.{◌≡◌, refl, sym, ◌∙◌}
use mathlib.Core.Bool.{Bool, true, false, cond, ◌&&◌}
use mathlib.Core.List.{List, [], ◌∷◌}
use Prim.Native.Nat.{ℕ, ◌+◌, ◌*◌}
use native.Mathlib.Omega.{arith}
use lib.Dec.{eqb}
use Rattle.record.specs.Partners.{same_partner}
use Rattle.record.specs.Records.{reading}
use Rattle.wire.specs.Refusals.{accepted}
use Rattle.record.specs.declared.partner.Partner.{Partner}
use Rattle.record.specs.declared.event.PartnerEvent.{PartnerEvent}
use Rattle.record.specs.declared.event.PartnerEvent.TheVariants.{Drop, Up, Loss, Timeout, Version, Ended}
use Rattle.record.specs.declared.event.Event.{Event}
use Rattle.record.specs.declared.event.Event.TheVariants.{Level, Mission, Mode, Hole, Order, EndAll, Call, Named}
use Rattle.record.specs.Readings.{Reading}
use Rattle.record.specs.Readings.{Meant, Refused}
use Rattle.place.specs.declared.phase.Phase.{Phase}
use Rattle.unit.specs.Steps.{Outcome}
use Rattle.unit.specs.OnRecords.{action_room, on_record}
use Rattle.place.specs.declared.limits.Limits.{Limits}
use Rattle.unit.specs.Lasts.{meant}
use Rattle.unit.specs.declared.last.Last.{Last}
use Rattle.unit.specs.declared.state.State.{State}
use Rattle.unit.specs.declared.answer.Action.{Action}
use Rattle.unit.specs.Kept.{count}
use Rattle.history.specs.Histories.{after, summed, is_order, is_call, is_loss, accepted_as}
use Rattle.history.proofs.Concerned.{named_by}
use Rattle.wire.specs.Bytes.{as_bit}
use Rattle.unit.proofs.Counts.{nothing, count_same}
use Rattle.unit.proofs.Balances.{Sense, Balance}
use Rattle.unit.proofs.Scales.{Scale, Balanced, brings, counted}
use Rattle.unit.proofs.StepAccounts.{total, brought}
use Rattle.history.proofs.Accounts.{of_meant, received, history-account}
use Rattle.history.proofs.Bytes.{is_order_event, is_call_event, is_lost, is_loss_event, Tells, reading-tells, Unread, unread}

-- a sum over a history whose every part is the same as another's
pub summed_same : (f g : State → List ℕ → Outcome → ℕ)
    → ((s : State) (bytes : List ℕ) → f s bytes (on_record s bytes action_room) ≡ g s bytes (on_record s bytes action_room))
    → (s : State) (history : List (List ℕ))
    → summed f s history ≡ summed g s history
unfolding summed
summed_same f g same s [] = refl
summed_same f g same s (bytes ∷ history) =
    let o = on_record s bytes action_room in
    let first = same s bytes in
    let rest = summed_same f g same o.state history in
    omega arith

-- a sum at three rates is the three sums at their rates
pub summed-rates : (x y z : ℕ) (f g h : State → List ℕ → Outcome → ℕ) (s : State) (history : List (List ℕ))
    → summed (λ s bytes o. x * f s bytes o + (y * g s bytes o + z * h s bytes o)) s history
    ≡ x * summed f s history + (y * summed g s history + z * summed h s history)
unfolding summed
summed-rates x y z f g h s [] = omega arith
summed-rates x y z f g h s (bytes ∷ history) =
    let rest = summed-rates x y z f g h (on_record s bytes action_room).state history in
    omega arith

-- a scale that an order, a call and a loss bring something to, and nothing else
abbrev pub rated : (Phase → ℕ) → (ℕ → Bool) → ℕ → ℕ → ℕ → Scale
rated weight counts order call loss =
    record { weight = weight; counts = counts; order = order; call = call; columns = 0 ∷ 0 ∷ loss ∷ 0 ∷ 0 ∷ 0 ∷ [] }

-- the accepted records that pass a test, among those of some partners
abbrev pub among : (State → List ℕ → Bool) → (List ℕ → Bool) → State → List ℕ → Outcome → ℕ
among who test = accepted_as (λ s bytes. who s bytes && test bytes)

-- a record's event names, or means, a partner that is looked at: asked of the events that bring something
abbrev pub Whose : (Partner → Bool) → Last → Bool → Reading → Type 0
Whose mine last b (Refused r) = Unit
Whose mine last b (Meant (Level level manual)) = Unit
Whose mine last b (Meant (Mission mission)) = Unit
Whose mine last b (Meant Mode) = Unit
Whose mine last b (Meant (Hole entered)) = Unit
Whose mine last b (Meant (Order p accepting cause)) = b ≡ mine (meant last p)
Whose mine last b (Meant EndAll) = Unit
Whose mine last b (Meant (Call p)) = b ≡ mine p
Whose mine last b (Meant (Named p e)) = b ≡ mine p

-- all records, where all partners are looked at
pub whose-any : (last : Last) (r : Reading) → Whose (λ p. true) last true r
whose-any last (Refused r) = tt
whose-any last (Meant (Level level manual)) = tt
whose-any last (Meant (Mission mission)) = tt
whose-any last (Meant Mode) = tt
whose-any last (Meant (Hole entered)) = tt
whose-any last (Meant (Order p accepting cause)) = refl
whose-any last (Meant EndAll) = tt
whose-any last (Meant (Call p)) = refl
whose-any last (Meant (Named p e)) = refl

-- those that name it, where one partner is
pub whose-one : (p : Partner) (last : Last) (r : Reading) → Whose (same_partner p) last (named_by p last r) r
whose-one p last (Refused r) = tt
whose-one p last (Meant (Level level manual)) = tt
whose-one p last (Meant (Mission mission)) = tt
whose-one p last (Meant Mode) = tt
whose-one p last (Meant (Hole entered)) = tt
whose-one p last (Meant (Order q accepting cause)) = refl
whose-one p last (Meant EndAll) = tt
whose-one p last (Meant (Call q)) = refl
whose-one p last (Meant (Named q e)) = refl

-- a test joined with one that passes, and with one that fails
pub and-true : (b : Bool) → (b && true) ≡ b
and-true true = refl
and-true false = refl

and-false : (b : Bool) → (b && false) ≡ false
and-false true = refl
and-false false = refl

module _ (weight : Phase → ℕ) (counts : ℕ → Bool) (order call loss : ℕ) where
  abbrev σ : Scale
  σ = rated weight counts order call loss

  -- what a record has at the three rates
  abbrev shares : Bool → Bool → Bool → ℕ
  shares a b c = order * as_bit a + (call * as_bit b + loss * as_bit c)

  -- nothing for a record that is refused
  refused-shares : (a b c ok : Bool) → ok ≡ false → shares (a && ok) (b && ok) (c && ok) ≡ 0
  refused-shares a b c ok h = rw (h, and-false a, and-false b, and-false c) (omega arith)

  -- one rate for a record that is accepted, if its partner is looked at
  shared : (b ok x y z : Bool) (v : ℕ)
      → v ≡ shares x y z
      → cond ok (cond b v 0) 0 ≡ shares ((b && x) && ok) ((b && y) && ok) ((b && z) && ok)
  shared true true x y z v h = rw (and-true x, and-true y, and-true z) h
  shared true false x y z v h = sym (refused-shares x y z false refl)
  shared false ok x y z v h = nothing ok ∙ omega arith

  -- none for one of no rate
  unshared : (b ok : Bool) → cond ok 0 0 ≡ shares ((b && false) && ok) ((b && false) && ok) ((b && false) && ok)
  unshared b ok = nothing ok ∙ rw (and-false b) (omega arith)

  -- what an event brings is its share
  event-share : (mine : Partner → Bool) (s : State) (b ok : Bool) (e : Event)
      → Whose mine s.last b (Meant e)
      → cond ok (brought σ mine s e) 0
      ≡ shares ((b && is_order_event e) && ok) ((b && is_call_event e) && ok) ((b && is_loss_event e) && ok)
  event-share mine s b ok (Level level manual) whose = unshared b ok
  event-share mine s b ok (Mission mission) whose = unshared b ok
  event-share mine s b ok Mode whose = unshared b ok
  event-share mine s b ok (Hole entered) whose = unshared b ok
  event-share mine s b ok (Order p accepting cause) whose = rw (← whose) (shared b ok true false false order (omega arith))
  event-share mine s b ok EndAll whose = unshared b ok
  event-share mine s b ok (Call p) whose = rw (← whose) (shared b ok false true false call (omega arith))
  event-share mine s b ok (Named p e) whose = rw (← whose) (shared b ok false false (is_lost e) (brings σ e) (by e))
    where
      by : (e : PartnerEvent) → brings σ e ≡ shares false false (is_lost e)
      by Drop = omega arith
      by Up = omega arith
      by Loss = omega arith
      by Timeout = omega arith
      by (Version v) = omega arith
      by Ended = omega arith

  module _ (mine : Partner → Bool) (who : State → List ℕ → Bool)
      (whose : (s : State) (bytes : List ℕ) → Whose mine s.last (who s bytes) (reading bytes)) where
    -- so is what a record brings
    received-share : (s : State) (bytes : List ℕ)
        → received σ mine s bytes (on_record s bytes action_room)
        ≡ order * among who is_order s bytes (on_record s bytes action_room)
        + (call * among who is_call s bytes (on_record s bytes action_room)
        + loss * among who is_loss s bytes (on_record s bytes action_room))
    received-share s bytes = by (reading bytes) (reading-tells bytes) (unread s bytes) (whose s bytes)
      where
        o : Outcome
        o = on_record s bytes action_room

        b : Bool
        b = who s bytes

        ok : Bool
        ok = eqb o.code accepted

        by : (r : Reading)
            → Tells bytes r
            → Unread o r
            → Whose mine s.last b r
            → cond ok (of_meant (brought σ mine s) r) 0
            ≡ shares ((b && is_order bytes) && ok) ((b && is_call bytes) && ok) ((b && is_loss bytes) && ok)
        by (Meant e) tells read w = rw (tells.0, tells.1, tells.2) (event-share mine s b ok e w)
        by (Refused r) tells code w =
            nothing ok
            ∙ sym (refused-shares (b && is_order bytes) (b && is_call bytes) (b && is_loss bytes) ok code)

    -- and what a history brings
    received-counted : (s : State) (history : List (List ℕ))
        → summed (received σ mine) s history
        ≡ order * summed (among who is_order) s history
        + (call * summed (among who is_call) s history + loss * summed (among who is_loss) s history)
    received-counted s history =
        summed_same (received σ mine) _ received-share s history
        ∙ summed-rates order call loss (among who is_order) (among who is_call) (among who is_loss) s history

    -- the account of a history, counted
    pub rated-account : (m : Sense) (l : Limits)
        → Balanced m l σ
        → (test : Action → Bool)
        → ((a : Action) → counted σ mine a ≡ test a)
        → (s : State)
        → s.limits ≡ l
        → (history : List (List ℕ))
        → Balance m
        (summed (λ s bytes o. count test o.actions) s history + total σ mine (after s history).places)
        (total σ mine s.places
        + (order * summed (among who is_order) s history
        + (call * summed (among who is_call) s history + loss * summed (among who is_loss) s history)))
    rated-account m l balanced test same s own history =
        rw (
          ← summed_same (λ s bytes o. count (counted σ mine) o.actions) (λ s bytes o. count test o.actions)
              (λ s bytes. count_same (counted σ mine) test same (on_record s bytes action_room).actions) s history,
          ← received-counted s history,
        )
        (history-account m l σ balanced mine s own history)
