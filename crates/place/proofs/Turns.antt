-- What every turn of a place keeps to, whatever the phase and the event.
-- Proves: closing-sound, turn-sound, turn-few, sessions-rbc, event-sound, closed_by-sound, place_after-seat, after_holds.
use mathlib.Core.Path.{◌≡◌, refl}
use mathlib.Core.Bool.{true, false, ◌&&◌}
use Prim.Native.Nat.{ℕ, ◌+◌, ◌≤◌, ◌<◌}
use native.Mathlib.Omega.{arith}
use lib.Dec.{leb, ltb}
use lib.ListN.{length}
use borrow.Author.Tests.{ltb-true, le-leb}
use Rattle.record.specs.Partners.{is_rbc, named_ok}
use Rattle.record.specs.declared.partner.Partner.{Partner}
use Rattle.record.specs.declared.event.PartnerEvent.{PartnerEvent}
use Rattle.wire.proofs.Tests.{and_left, and_right, and_both, true-false, cond-case, cond-holds, All}
use Rattle.place.specs.Places.{tries, phase_ok, fits_incoming, fits, place_ok, seat, holds}
use Rattle.place.proofs.Holdings.{holding_ok, holds_in, holding_turn, holding_closed_by}
use Rattle.place.specs.Table.{table, closing, judged, one_more, again, turn, numbers, place_after, closes, in_session}
use Rattle.place.specs.declared.phase.Phase.{Phase}
use Rattle.place.specs.declared.phase.Phase.TheVariants.{Connecting, Contacting, Open, Lost, Ending}
use Rattle.place.specs.declared.place.Direction.{Direction}
use Rattle.place.specs.declared.place.Direction.TheVariants.{Outgoing, Incoming}
use Rattle.place.specs.declared.place.Holding.{Holding}
use Rattle.place.specs.declared.place.Holding.TheVariants.{Free, Held}
use Rattle.place.specs.declared.place.Place.{Place}
use Rattle.place.specs.declared.limits.Limits.{Limits}
use Rattle.place.specs.declared.turn.Turn.{Turn}
use Rattle.place.specs.declared.turn.Turn.TheVariants.{Stays, Released, Becomes, Sends, SendsBoth}
use Rattle.place.specs.declared.turn.Closing.{Closing}
use Rattle.place.specs.declared.turn.Closing.TheVariants.{Sessions}
use Rattle.place.proofs.ByRow.{by_row, judged-case}
use Rattle.place.specs.Turns.{NextSound, SeatOf}

more-ok : (l : Limits) (ph : Phase) → ltb (tries ph) l.tries ≡ true → phase_ok l (one_more ph) ≡ true
more-ok l ph lt = by ph (ltb-true (tries ph) l.tries lt)
  where
    within : (t : ℕ) → t + 1 ≤ l.tries → (leb 1 (t + 1) && leb (t + 1) l.tries) ≡ true
    within t h =
        and_both (leb 1 (t + 1)) (leb (t + 1) l.tries) (le-leb 1 (t + 1) (omega arith)) (le-leb (t + 1) l.tries h)

    by : (q : Phase) → tries q < l.tries → phase_ok l (one_more q) ≡ true
    by (Connecting t) h = within t (omega arith)
    by (Contacting t) h = within t (omega arith)
    by Open h = refl
    by (Lost t) h = within t (omega arith)
    by (Ending t) h = within t (omega arith)

more-incoming : (ph : Phase) → fits_incoming ph ≡ true → fits_incoming (one_more ph) ≡ true
more-incoming (Connecting t) h = h
more-incoming (Contacting t) h = h
more-incoming Open h = h
more-incoming (Lost t) h = h
more-incoming (Ending t) h = h

module _ (l : Limits) (some-try : 1 ≤ l.tries) where
  first-ok : leb 1 l.tries ≡ true
  first-ok = le-leb 1 l.tries some-try

  again-sound : (number : ℕ) (ph : Phase) → NextSound l ph (again l number ph)
  again-sound number ph =
      cond-case (NextSound l ph) (ltb (tries ph) l.tries) (Sends number (one_more ph)) Released
      (λ lt. (more-ok l ph lt, more-incoming ph))
      (λ ge. tt)

  pub closing-sound : (ph : Phase) → NextSound l ph (closing ph)
  closing-sound (Connecting t) = tt
  closing-sound (Contacting t) = tt
  closing-sound Open = (first-ok, λ i. refl)
  closing-sound (Lost t) = tt
  closing-sound (Ending t) = tt

  judged-sound : (ph : Phase) (v : ℕ) → NextSound l ph (judged l v)
  judged-sound ph v = judged-case (NextSound l ph) l v (refl, λ i. refl) (first-ok, λ i. refl)

  row-sound : (ph : Phase) (v : ℕ) → All (NextSound l ph) (table l v ph)
  row-sound (Connecting t) v =
      (tt, ((first-ok, λ i. true-false false i refl), (tt, (again-sound 21 (Connecting t), (tt, (tt, tt))))))
  row-sound (Contacting t) v =
      (tt, (tt, (tt, (again-sound 155 (Contacting t), (judged-sound (Contacting t) v, (tt, tt))))))
  row-sound Open v = (closing-sound Open, (tt, ((first-ok, λ i. refl), (tt, (tt, (tt, tt))))))
  row-sound (Lost t) v = (tt, ((refl, λ i. refl), (tt, (again-sound 21 (Lost t), (tt, (tt, tt))))))
  row-sound (Ending t) v = (tt, (tt, (tt, (again-sound 156 (Ending t), (tt, (tt, tt))))))

  -- a turn leads to a sound phase, and keeps "Connecting and Contacting are outgoing"
  -- promise
  pub turn-sound : (ph : Phase) (e : PartnerEvent) → NextSound l ph (turn l ph e)
  turn-sound = by_row (NextSound l) l row-sound (λ ph. tt)

-- a turn has at most two actions
pub turn-few : (t : Turn) → length (numbers t) ≤ 2
turn-few Stays = omega arith
turn-few Released = omega arith
turn-few (Becomes q) = omega arith
turn-few (Sends number q) = omega arith
turn-few (SendsBoth first second q) = omega arith

-- an RBC's order ends sessions with RBCs only
-- promise
pub sessions-rbc : (ph : Phase) (p : Partner)
    → closes Sessions ph p ≡ true
    → is_rbc p ≡ true
sessions-rbc ph p h = and_left (is_rbc p) (in_session ph) h

-- a direction that fits a phase fits the next one
direction-next : (d : Direction) (ph q : Phase) (p : Partner)
    → fits d ph p ≡ true
    → (fits_incoming ph ≡ true → fits_incoming q ≡ true)
    → fits d q p ≡ true
direction-next Outgoing ph q p ok keeps = refl
direction-next Incoming ph q p ok keeps =
    and_both (is_rbc p) (fits_incoming q) (and_left (is_rbc p) (fits_incoming ph) ok) (keeps (and_right (is_rbc p) (fits_incoming ph) ok))

-- a sound place after a turn that keeps to the phases is sound
after-sound : (l : Limits) (d : Direction) (ph : Phase) (p : Partner) (t : Turn)
    → place_ok l (seat d ph p) ≡ true
    → NextSound l ph t
    → place_ok l (place_after (seat d ph p) t) ≡ true
after-sound l d ph p t ok = by t
  where
    partner : named_ok p ≡ true
    partner = and_left (named_ok p) (phase_ok l ph && fits d ph p) ok

    direction : fits d ph p ≡ true
    direction = and_right (phase_ok l ph) (fits d ph p) (and_right (named_ok p) (phase_ok l ph && fits d ph p) ok)

    next : (q : Phase)
        → (phase_ok l q ≡ true) × (fits_incoming ph ≡ true → fits_incoming q ≡ true)
        → place_ok l (seat d q p) ≡ true
    next q sound =
        and_both (named_ok p) (phase_ok l q && fits d q p) partner
        (and_both (phase_ok l q) (fits d q p) sound.0 (direction-next d ph q p direction sound.1))

    by : (t : Turn) → NextSound l ph t → place_ok l (place_after (seat d ph p) t) ≡ true
    by Stays sound = ok
    by Released sound = refl
    by (Becomes q) sound = next q sound
    by (Sends number q) sound = next q sound
    by (SendsBoth first second q) sound = next q sound

-- a sound place stays sound after an event that names its partner
pub event-sound : (l : Limits)
    → 1 ≤ l.tries
    → (k : Holding) (e : PartnerEvent)
    → holding_ok l k ≡ true
    → place_ok l (place_after (record { holding = k }) (holding_turn l k e)) ≡ true
event-sound l some-try Free e ok = refl
event-sound l some-try (Held d ph p) e ok = after-sound l d ph p (turn l ph e) ok (turn-sound l some-try ph e)

-- and after a closing
pub closed_by-sound : (l : Limits)
    → 1 ≤ l.tries
    → (which : Closing) (k : Holding)
    → holding_ok l k ≡ true
    → place_ok l (place_after (record { holding = k }) (holding_closed_by which k)) ≡ true
closed_by-sound l some-try which Free ok = refl
closed_by-sound l some-try which (Held d ph p) ok =
    cond-holds (λ t. place_ok l (place_after (seat d ph p) t) ≡ true) (closes which ph p) (closing ph) Stays
    (after-sound l d ph p (closing ph) ok (closing-sound l some-try ph))
    ok

-- "Direction never changes while the place is held", nor does the partner
-- promise
pub place_after-seat : (d : Direction) (ph : Phase) (p : Partner) (t : Turn) → SeatOf d p (place_after (seat d ph p) t).holding
place_after-seat d ph p Stays = (refl, refl)
place_after-seat d ph p Released = tt
place_after-seat d ph p (Becomes q) = (refl, refl)
place_after-seat d ph p (Sends number q) = (refl, refl)
place_after-seat d ph p (SendsBoth first second q) = (refl, refl)

-- a place holds after a turn whom it held before, or nobody
pub after_holds : (q : Partner) (place : Place) (t : Turn) → holds q (place_after place t) ≡ true → holds q place ≡ true
after_holds q place t = by t place.holding
  where
    by : (t : Turn) (k : Holding) → holds q (place_after (record { holding = k }) t) ≡ true → holds_in q k ≡ true
    by Stays k h = h
    by Released k h = true-false false h refl
    by (Becomes next) Free h = h
    by (Becomes next) (Held d ph p) h = h
    by (Sends number next) Free h = h
    by (Sends number next) (Held d ph p) h = h
    by (SendsBoth first second next) Free h = h
    by (SendsBoth first second next) (Held d ph p) h = h
