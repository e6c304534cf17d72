-- What a step does to the places, and what number it gives, for crates that stand on it without its definition.
-- Defines: Effect, Newcomer, Turning, Places.
-- Proves: turning-each, step-places, on_record-places, step-limits, on_record-limits, step-number, on_record-number, on_record-step.
-- Beside it: what a step sends is in Sent and Quiet, what a search found is `found_ok` and `seek-lowest` (Searches), soundness as facts is
-- `sound-facts` and `facts-sound` (Facts), kept by `on_record-sound` (Sound), the cold start is `cold-sound` and `cold-vacant` (Starts).
use mathlib.Core.Path.{◌≡◌, refl}
use mathlib.Core.Bool.{true, false, ◌&&◌}
use mathlib.Core.Logic.{◌⊎◌, inl, inr, ⊎_elim}
use mathlib.Core.List.{List}
use Prim.Native.Nat.{ℕ, ◌≤◌, ◌<◌}
use native.Mathlib.Omega.{arith}
use lib.Dec.{eqb, ltb}
use lib.ListN.{length, get_or, set}
use lib.Seq.{get_or-set_same, get_or-set_other}
use borrow.Author.Tests.{eqb-true, eqb-false}
use Rattle.record.specs.Partners.{same_partner}
use Rattle.record.specs.Records.{reading}
use Rattle.wire.specs.Refusals as refusal
use Rattle.record.specs.declared.partner.Partner.{Partner}
use Rattle.record.specs.declared.event.PartnerEvent.{PartnerEvent}
use Rattle.record.specs.declared.event.PartnerEvent.TheVariants.{Drop, Up, Loss, Timeout, Version, Ended}
use Rattle.record.specs.declared.event.Event.{Event}
use Rattle.record.specs.Readings.{Meant}
use Rattle.wire.proofs.Tests.{and_both, cond-case, cond-holds, true-false}
use Rattle.record.proofs.Partners.{same_refl, same-eq}
use Rattle.place.specs.Places.{vacant, seat, is_free, holds}
use Rattle.place.proofs.Holdings.{holds_in, holding_turn, holding_closed_by}
use Rattle.place.specs.Table.{request, first_try, closing, closes, turn, one_more, place_after}
use Rattle.place.specs.declared.phase.Phase.{Phase}
use Rattle.place.specs.declared.phase.Phase.TheVariants.{Connecting, Contacting, Open, Lost, Ending}
use Rattle.place.specs.declared.place.Direction.{Direction}
use Rattle.place.specs.declared.place.Direction.TheVariants.{Outgoing, Incoming}
use Rattle.place.specs.declared.place.Holding.{Holding}
use Rattle.place.specs.declared.place.Holding.TheVariants.{Free, Held}
use Rattle.place.specs.declared.place.Place.{Place}
use Rattle.place.specs.declared.limits.Limits.{Limits}
use Rattle.place.specs.declared.turn.Turn.{Turn}
use Rattle.place.specs.declared.turn.Turn.TheVariants.{Stays, Released, Becomes, Sends, SendsBoth}
use Rattle.place.specs.declared.turn.Closing.{Closing}
use Rattle.place.specs.declared.turn.Closing.TheVariants.{Every}
use Rattle.place.specs.Turns.{on_next}
use Rattle.unit.specs.States.{seek, sound}
use Rattle.unit.specs.Steps.{Outcome, closed, step}
use Rattle.unit.specs.Concerns.{stirring, stirs, is_connecting}
use Rattle.unit.specs.Standings.{Concern, nobody, order_to, call_of, naming, concern, concern_of}
use Rattle.unit.specs.OnRecords.{action_room, on_record}
use Rattle.unit.specs.declared.state.State.{State}
use Rattle.unit.specs.declared.search.Found.TheVariants.{At, Vacant}
use Rattle.unit.proofs.Shapes.{StepRefusal, RecordRefusal, Shape, refuses, notes, closes_every, orders, calls, turns}
use Rattle.unit.proofs.Shapes.{shape, on-record, by-concern, step-numbered}
use Rattle.unit.proofs.Weights.{length-closed, closed_at}
use Rattle.unit.specs.Kept.{here}
use Rattle.wire.specs.Sums.{sum}
use Rattle.unit.proofs.Searches.{found_ok}
use Rattle.unit.proofs.OnBytes.{on-reading}

-- what an accepted step may do to a place that nobody takes, by whom its event concerns
pub data Effect (c : Concern) (before after : Place) : Type 0 where
  -- it stays as it was
  stays : after ≡ before → Effect c before after
  -- it is left vacant
  leaves : after ≡ vacant → Effect c before after
  -- it moves to another phase or number of tries; a Connecting one where an up, lost or timeout names its partner
  moves : (d : Direction) (ph next : Phase) (p : Partner)
      → before ≡ seat d ph p
      → after ≡ seat d next p
      → (is_connecting ph ≡ true → stirs (same_partner p) c ≡ true)
      → Effect c before after

-- what it does to the places where it takes a partner in: the lowest free one is taken, the partner had none before
pub record Newcomer (c : Concern) (p : Partner) (newcomer : Place) (before after : List Place) : Type 0 where
  pub at : ℕ
  pub found : seek p before ≡ Vacant at
  pub below : at < length before
  pub free : is_free (get_or before at vacant) ≡ true
  pub absent : sum (here (holds p)) before ≡ 0
  pub seated : get_or after at vacant ≡ newcomer
  pub others : (i : ℕ) → (i ≡ at → ⊥) → Effect c (get_or before i vacant) (get_or after i vacant)

-- and where it turns the place that a partner has
pub record Turning (c : Concern) (p : Partner) (before after : List Place) : Type 0 where
  pub at : ℕ
  pub phase : Phase
  pub found : seek p before ≡ At at phase
  pub turned : Effect c (get_or before at vacant) (get_or after at vacant)
  pub others : (i : ℕ) → (i ≡ at → ⊥) → get_or after i vacant ≡ get_or before i vacant

-- what an accepted step does to the places, by whom its event concerns
abbrev pub Places : Concern → List Place → List Place → Type 0
Places nobody before after = (i : ℕ) → Effect nobody (get_or before i vacant) (get_or after i vacant)
Places (order_to p) before after = Newcomer (order_to p) p (seat Outgoing (Connecting first_try) p) before after
Places (call_of p) before after = Newcomer (call_of p) p (seat Incoming Open p) before after
Places (naming p e) before after = Turning (naming p e) p before after

-- a turn of one place is an effect on every place
pub turning-each : {c : Concern} {p : Partner} {before after : List Place}
    → Turning c p before after
    → (i : ℕ)
    → Effect c (get_or before i vacant) (get_or after i vacant)
turning-each {c} {p} {before} {after} turning i =
    cond-case {A = ℕ} (λ k. Effect c (get_or before i vacant) (get_or after i vacant)) (eqb i turning.at) 0 0
    (λ is. rw (eqb-true i turning.at is) turning.turned)
    (λ other. stays (turning.others i (eqb-false i turning.at other)))

-- a turn that moves a Connecting place only where its partner is stirred
after-effect : (c : Concern) (d : Direction) (ph : Phase) (p : Partner) (t : Turn)
    → (is_connecting ph ≡ true → on_next (λ q. stirs (same_partner p) c ≡ true) t)
    → Effect c (seat d ph p) (place_after (seat d ph p) t)
after-effect c d ph p Stays stirred = stays refl
after-effect c d ph p Released stirred = leaves refl
after-effect c d ph p (Becomes q) stirred = moves d ph q p refl refl stirred
after-effect c d ph p (Sends number q) stirred = moves d ph q p refl refl stirred
after-effect c d ph p (SendsBoth first second q) stirred = moves d ph q p refl refl stirred

-- a closing moves no Connecting place
closed_by-effect : (c : Concern) (which : Closing) (k : Holding)
    → Effect c (record { holding = k }) (place_after (record { holding = k }) (holding_closed_by which k))
closed_by-effect c which Free = stays refl
closed_by-effect c which (Held d ph p) =
    cond-holds (λ t. Effect c (seat d ph p) (place_after (seat d ph p) t)) (closes which ph p) (closing ph) Stays
    (after-effect c d ph p (closing ph) (by ph))
    (stays refl)
  where
    by : (ph : Phase) → is_connecting ph ≡ true → on_next (λ q. stirs (same_partner p) c ≡ true) (closing ph)
    by (Connecting t) is = tt
    by (Contacting t) is = tt
    by Open is = true-false false is refl
    by (Lost t) is = tt
    by (Ending t) is = tt

-- an event moves one where it stirs
turn-effect : (l : Limits) (p : Partner) (e : PartnerEvent) (k : Holding)
    → holds_in p k ≡ true
    → Effect (naming p e) (record { holding = k }) (place_after (record { holding = k }) (holding_turn l k e))
unfolding turn
turn-effect l p e Free held = true-false false held refl
turn-effect l p e (Held d ph q) held = after-effect (naming p e) d ph q (turn l ph e) (by ph e)
  where
    same : (same_partner q p && true) ≡ true
    same = and_both (same_partner q p) true (rw (same-eq p q held) (same_refl q)) refl

    by : (ph : Phase) (e : PartnerEvent)
        → is_connecting ph ≡ true
        → on_next (λ next. (same_partner q p && stirring e) ≡ true) (turn l ph e)
    by (Connecting t) Drop is = tt
    by (Connecting t) Up is = same
    by (Connecting t) Loss is = tt
    by (Connecting t) Timeout is =
        cond-holds (on_next (λ next. (same_partner q p && true) ≡ true)) (ltb t l.tries)
        (Sends request (one_more (Connecting t)))
        Released
        same
        tt
    by (Connecting t) (Version v) is = tt
    by (Connecting t) Ended is = tt
    by (Contacting t) e is = true-false false is refl
    by Open e is = true-false false is refl
    by (Lost t) e is = true-false false is refl
    by (Ending t) e is = true-false false is refl

module _ (s : State) where
  -- every place of a closing
  closed_by-effects : (c : Concern) (which : Closing) (i : ℕ)
      → Effect c (get_or s.places i vacant) (get_or (closed which s.places) i vacant)
  closed_by-effects c which i = rw (closed_at which s.places i) (closed_by-effect c which (get_or s.places i vacant).holding)

  -- a partner that has no place seated among places that are as they were, or closed
  newcomer : (c : Concern) (p : Partner) (i : ℕ) (x : Place) (ps : List Place)
      → seek p s.places ≡ Vacant i
      → length ps ≡ length s.places
      → ((j : ℕ) → Effect c (get_or s.places j vacant) (get_or ps j vacant))
      → Newcomer c p x s.places (set ps i x)
  newcomer c p i x ps found same effects =
      let free = found_ok p s.places (Vacant i) found in
      let below = free.0 in
      record {
        at = i;
        found = found;
        below = below;
        free = free.1;
        absent = free.2;
        seated = get_or-set_same ps i x vacant (omega arith);
        others = λ j other. rw (get_or-set_other ps i j x vacant other) (effects j);
      }

  places : {e : Event} {c : Concern} {o : Outcome}
      → Shape s e c o
      → o.code ≡ refusal.accepted
      → Places c s.places o.state.places
  places (refuses r may said) accepted = absurd (step-numbered r may accepted)
  places (notes t m within) accepted = λ i. stays refl
  places (closes_every t within) accepted = closed_by-effects nobody Every
  places (orders p which m i within ok found) accepted =
      newcomer (order_to p) p i (seat Outgoing (Connecting first_try) p) (closed which s.places) found (length-closed which s.places)
      (closed_by-effects (order_to p) which)
  places (calls p i ok rbc found) accepted =
      newcomer (call_of p) p i (seat Incoming Open p) s.places found refl (λ j. stays refl)
  places (turns p event i {ph = ph} ok found taken) accepted =
      let at = found_ok p s.places _ found in
      let place = get_or s.places i vacant in
      let next = place_after place (holding_turn s.limits place.holding event) in
      record {
        at = i;
        phase = ph;
        found = found;
        turned =
            rw (get_or-set_same s.places i next vacant at.0) (turn-effect s.limits p event place.holding at.1);
        others = λ j other. get_or-set_other s.places i j next vacant other;
      }

  -- what an accepted step does to each place
  pub step-places : (e : Event)
      → (step s e).code ≡ refusal.accepted
      → Places (concern s.last e) s.places (step s e).state.places
  step-places e = places (shape s e)

  -- and the step on a record
  pub on_record-places : (bytes : List ℕ) (room : ℕ)
      → (on_record s bytes room).code ≡ refusal.accepted
      → Places (concern_of s.last (reading bytes)) s.places (on_record s bytes room).state.places
  on_record-places bytes room =
      by-concern s (λ c o. o.code ≡ refusal.accepted → Places c s.places o.state.places) bytes room
      (λ c r may accepted. absurd (omega arith))
      step-places

  -- no step changes the limits
  -- promise
  pub step-limits : (e : Event) → (step s e).state.limits ≡ s.limits
  step-limits e = by (shape s e)
    where
      by : {c : Concern} {o : Outcome} → Shape s e c o → o.state.limits ≡ s.limits
      by (refuses r may said) = refl
      by (notes t m within) = refl
      by (closes_every t within) = refl
      by (orders p which m i within ok found) = refl
      by (calls p i ok rbc found) = refl
      by (turns p event i ok found taken) = refl

  pub on_record-limits : (bytes : List ℕ) (room : ℕ) → (on_record s bytes room).state.limits ≡ s.limits
  on_record-limits bytes room =
      on-record s (λ o. o.state.limits ≡ s.limits) bytes room (λ r may. refl) (λ e is good ok. step-limits e)

  -- the numbers that a step may give
  pub step-number : (e : Event) → ((step s e).code ≡ refusal.accepted) ⊎ StepRefusal (step s e).code
  step-number e = by (shape s e)
    where
      by : {c : Concern} {o : Outcome} → Shape s e c o → (o.code ≡ refusal.accepted) ⊎ StepRefusal o.code
      by (refuses r may said) = inr may
      by (notes t m within) = inl refl
      by (closes_every t within) = inl refl
      by (orders p which m i within ok found) = inl refl
      by (calls p i ok rbc found) = inl refl
      by (turns p event i ok found taken) = inl refl

  -- those that the step on a record may give
  pub on_record-number : (bytes : List ℕ) (room : ℕ)
      → ((on_record s bytes room).code ≡ refusal.accepted)
      ⊎ (RecordRefusal (on_record s bytes room).code ⊎ StepRefusal (on_record s bytes room).code)
  on_record-number bytes room =
      on-record s (λ o. (o.code ≡ refusal.accepted) ⊎ (RecordRefusal o.code ⊎ StepRefusal o.code)) bytes room
      (λ r may. inr (inl may))
      (λ e is good ok. ⊎_elim inl (λ may. inr (inr may)) (step-number e))

  -- from a sound state and with room, the step on a record is the step on its reading
  pub on_record-step : (bytes : List ℕ) (room : ℕ) (e : Event)
      → action_room ≤ room
      → sound s ≡ true
      → reading bytes ≡ Meant e
      → on_record s bytes room ≡ step s e
  on_record-step bytes room e enough good means = on-reading s bytes room enough (Meant e) good means
