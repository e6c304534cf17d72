-- Cross-checks only: rules told a second time.
-- Request Q-2: whom an order means, and which states hold the reserved number.
-- Proves: meant-known, meant-none, meant_itself, to_rbc-means, order-meant, sound-places, sound-last, on_record-eleven.
use mathlib.Core.Path.{◌≡◌, refl, sym, ap, ◌∙◌}
use mathlib.Core.Logic.{◌↔◌}
use mathlib.Core.Bool.{Bool, true, false, cond, ◌&&◌, not}
use mathlib.Core.List.{List}
use Prim.Native.Nat.{ℕ, ◌≤◌, ◌<◌}
use native.Mathlib.Omega.{arith}
use lib.Dec.{eqb}
use lib.ListN.{get_or}
use borrow.Author.Tests.{le-leb, eqb-true, eq-eqb}
use Rattle.record.specs.Partners.{partner_ok, reserved}
use Rattle.record.specs.declared.partner.Partner.{Partner}
use Rattle.record.specs.declared.event.Cause.{Cause}
use Rattle.record.specs.declared.event.Event.TheVariants.{Order}
use Rattle.wire.proofs.Tests.{and_left, and_right, and_both, true-false}
use Rattle.place.specs.Places.{vacant, partner_of, phase_ok, fits}
use Rattle.place.proofs.Holdings.{holding_ok}
use Rattle.place.specs.declared.place.Holding.{Holding}
use Rattle.place.specs.declared.place.Holding.TheVariants.{Free, Held}
use Rattle.place.specs.declared.limits.Limits.{Limits}
use Rattle.unit.specs.Lasts.{rbc_of, last_ok, known_or, meant, to_rbc}
use Rattle.unit.specs.States.{place_count, sound}
use Rattle.unit.specs.Steps.{ordered, step}
use Rattle.unit.specs.OnRecords.{action_room, on_record}
use Rattle.unit.specs.declared.answer.Action.{Action}
use Rattle.unit.specs.declared.last.Last.{Last}
use Rattle.unit.specs.declared.last.Last.TheVariants.{Unknown, Known}
use Rattle.unit.specs.declared.state.State.{State}
use Rattle.unit.proofs.Facts.{sound-facts, place_at}

-- "whose low 14 bits are 16,383 means the RBC": of type RBC, with all three bytes of its number
-- promise
pub meant-known : (high middle low : ℕ) (p : Partner)
    → reserved p ≡ true
    → meant (Known high middle low) p ≡ record { kind = 0; high = high; middle = middle; low = low }
meant-known high middle low p is = ap (λ b. cond b (rbc_of high middle low) p) is

-- where none is known, the reserved number stands for itself, and the order gets 15
-- promise
pub meant-none : (p : Partner) → meant Unknown p ≡ p
meant-none p = by (reserved p)
  where
    by : (b : Bool) → cond b p p ≡ p
    by true = refl
    by false = refl

-- "the most recent 159 sent to an RBC"
-- promise
pub to_rbc-means : (a : Action) → (to_rbc a ≡ true) ↔ ((a.number ≡ 159) × (a.partner.kind ≡ 0))
to_rbc-means a = (
  (λ h. (eqb-true a.number 159 (and_left _ _ h), eqb-true a.partner.kind 0 (and_right (eqb a.number 159) _ h))),
  (λ h. and_both _ _ (eq-eqb a.number 159 h.0) (eq-eqb a.partner.kind 0 h.1)),
)

-- any other partner means itself
-- promise
pub meant_itself : (last : Last) (p : Partner) → reserved p ≡ false → meant last p ≡ p
meant_itself last p other = ap (λ b. cond b (known_or p last) p) other

-- who is meant, means itself
meant-twice : (last : Last) (p : Partner) → meant last p ≡ meant last (meant last p)
meant-twice last p = by last (reserved p) refl
  where
    same : (b : Bool) (q : Partner) → q ≡ cond b q q
    same true q = refl
    same false q = refl

    by : (last : Last) (b : Bool) → reserved p ≡ b → cond b (known_or p last) p ≡ meant last (cond b (known_or p last) p)
    by Unknown true is = same (reserved p) p
    by (Known high middle low) true is = same (reserved (rbc_of high middle low)) (rbc_of high middle low)
    by last false is = ap (λ b. cond b (known_or p last) p) (sym is)

-- "Demands 2 and 3 read with the meant partner": an order to the reserved number is the order to the partner that it means
-- promise
pub order-meant : (s : State) (p : Partner) (accepting : Bool) (cause : Cause)
    → step s (Order p accepting cause) ≡ step s (Order (meant s.last p) accepting cause)
unfolding step
order-meant s p accepting cause = ap (λ q. ordered s q accepting cause) (meant-twice s.last p)

by-not : (b : Bool) → not b ≡ true → b ≡ false
by-not true h = true-false false h refl
by-not false h = refl

place-unreserved : (l : Limits) (k : Holding) → holding_ok l k ≡ true → reserved (partner_of (record { holding = k })) ≡ false
place-unreserved l Free ok = refl
place-unreserved l (Held d ph p) ok =
    by-not (reserved p)
    (and_right (partner_ok p) (not (reserved p)) (and_left (partner_ok p && not (reserved p)) (phase_ok l ph && fits d ph p) ok))

module _ (s : State) (ok : sound s ≡ true) where
  -- "11 for a state that holds it": a sound state holds it in no place
  -- promise
  pub sound-places : (i : ℕ) → i < place_count → reserved (partner_of (get_or s.places i vacant)) ≡ false
  sound-places i below =
      let facts = sound-facts s ok in
      let four = facts.four in
      place-unreserved s.limits (get_or s.places i vacant).holding (place_at s.limits s.places i facts.places (omega arith))

  -- nor as the last known
  -- promise
  pub sound-last : (high middle low : ℕ)
      → s.last ≡ Known high middle low
      → reserved (record { kind = 0; high = high; middle = middle; low = low }) ≡ false
  sound-last high middle low known =
      by-not (reserved (rbc_of high middle low)) (ap last_ok (sym known) ∙ (sound-facts s ok).last)

-- and a state that is not sound is refused with 11, whatever the record
-- promise
pub on_record-eleven : (s : State) (bytes : List ℕ) (room : ℕ)
    → 20 ≤ room
    → sound s ≡ false
    → (on_record s bytes room).code ≡ 11
unfolding on_record
on_record-eleven s bytes room enough bad = simp (le-leb action_room room enough, bad)
