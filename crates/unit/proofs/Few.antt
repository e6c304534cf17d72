-- A step has at most four actions, so that the code's array of four holds them all.
-- Defines: busy.
-- Proves: closing-few, closed_by-few, closing_actions-few, once-few, room-free, step-few, on_record-few.
use mathlib.Core.Path.{◌≡◌, ap}
use mathlib.Core.Bool.{Bool, true, false, not}
use mathlib.Core.List.{List, [], ◌∷◌, map}
use Prim.Native.Nat.{ℕ, ◌+◌, ◌≤◌, ◌<◌}
use native.Mathlib.Omega.{arith}
use lib.ListN.{length, get_or, set, length-append, length-map, length-set}
use Rattle.record.specs.declared.event.Event.{Event}
use Rattle.wire.proofs.Tests.{cond-holds}
use Rattle.place.specs.Places.{vacant, seat, is_free}
use Rattle.place.proofs.Holdings.{is_free_holding, holding_turn, holding_closed_by}
use Rattle.place.specs.Table.{closing, closes, first_try, numbers, request}
use Rattle.place.specs.declared.phase.Phase.{Phase}
use Rattle.place.specs.declared.phase.Phase.TheVariants.{Connecting, Contacting, Open, Lost, Ending}
use Rattle.place.specs.declared.place.Direction.TheVariants.{Outgoing}
use Rattle.place.specs.declared.place.Holding.{Holding}
use Rattle.place.specs.declared.place.Holding.TheVariants.{Free, Held}
use Rattle.place.specs.declared.place.Place.{Place}
use Rattle.place.specs.declared.turn.Turn.TheVariants.{Stays}
use Rattle.place.specs.declared.turn.Closing.{Closing}
use Rattle.place.specs.declared.turn.Closing.TheVariants.{Every}
use Rattle.place.proofs.Turns.{turn-few}
use Rattle.unit.specs.States.{place_count}
use Rattle.unit.specs.Steps.{Outcome, act, actions_in, closing_actions, step}
use Rattle.unit.specs.Standings.{Concern}
use Rattle.unit.specs.OnRecords.{on_record}
use Rattle.unit.specs.Forms.{most_actions}
use Rattle.unit.specs.declared.state.State.{State}
use Rattle.unit.specs.declared.search.Found.TheVariants.{Vacant}
use Rattle.unit.proofs.Shapes.{Shape, refuses, notes, closes_every, orders, calls, turns, shape, on-record}
use Rattle.unit.proofs.Weights.{weigh-set, weigh-few}
use Rattle.unit.specs.Kept.{here}
use Rattle.wire.specs.Bytes.{as_bit}
use Rattle.wire.specs.Sums.{sum}
use Rattle.unit.proofs.Counts.{count-all, closing_actions-most}
use Rattle.unit.proofs.Searches.{found_ok}
use Rattle.unit.proofs.Facts.{sound-facts}

-- a place that is not free
abbrev pub busy : Place → Bool
busy p = not (is_free p)

-- a closing has at most one action
pub closing-few : (ph : Phase) → length (numbers (closing ph)) ≤ 1
closing-few (Connecting t) = omega arith
closing-few (Contacting t) = omega arith
closing-few Open = omega arith
closing-few (Lost t) = omega arith
closing-few (Ending t) = omega arith

pub closed_by-few : (which : Closing) (k : Holding)
    → length (actions_in k (holding_closed_by which k)) ≤ as_bit (not (is_free_holding k))
closed_by-few which Free = omega arith
closed_by-few which (Held d ph p) =
    cond-holds (λ t. length (map (act p) (numbers t)) ≤ 1) (closes which ph p) (closing ph) Stays
    (let few = closing-few ph in
    simp length-map few)
    (omega arith)

-- a closing has at most one action for each place that is held
pub closing_actions-few : (which : Closing) (ps : List Place) → length (closing_actions which ps) ≤ sum (here busy) ps
closing_actions-few which ps =
    let all = count-all (closing_actions which ps) in
    let most = closing_actions-most (λ a. true) (here busy) which (λ p. rw count-all (closed_by-few which p.holding)) ps in
    omega arith

pub once-few : (b : Bool) → as_bit b ≤ 1
once-few true = omega arith
once-few false = omega arith

-- where a place is free, one more action than those held fits into one for each place
pub room-free : (ps : List Place) (i : ℕ)
    → i < length ps
    → is_free (get_or ps i vacant) ≡ true
    → sum (here busy) ps + 1 ≤ length ps
room-free ps i below free =
    let held = seat Outgoing (Connecting first_try) (record { kind = 0; high = 0; middle = 0; low = 0 }) in
    let account = weigh-set (here busy) ps i held below in
    let old : here busy (get_or ps i vacant) ≡ 0 = ap (λ b. as_bit (not b)) free in
    let most = weigh-few (here busy) (set ps i held) (λ p. once-few (busy p)) in
    let same = length-set ps i held in
    omega arith

-- at most four actions a step
abbrev Few : Outcome → Type 0
Few o = length o.actions ≤ most_actions

module _ (s : State) (four : length s.places ≡ place_count) where
  few : {e : Event} {c : Concern} {o : Outcome} → Shape s e c o → Few o
  few (refuses r may said) = omega arith
  few (notes t m within) = omega arith
  few (closes_every t within) =
      let closings = closing_actions-few Every s.places in
      let most = weigh-few (here busy) s.places (λ p. once-few (busy p)) in
      omega arith
  few (orders p which m i within ok found) =
      let closings = closing_actions-few which s.places in
      let free = found_ok p s.places (Vacant i) found in
      let room = room-free s.places i free.0 free.1 in
      let joined = length-append (closing_actions which s.places) (act p request ∷ []) in
      omega arith
  few (calls p i ok rbc found) = omega arith
  few (turns p event i ok found taken) =
      let most = turn-few (holding_turn s.limits (get_or s.places i vacant).holding event) in
      simp length-map (omega arith)

  -- promise
  pub step-few : (e : Event) → length (step s e).actions ≤ most_actions
  step-few e = few (shape s e)

-- promise
pub on_record-few : (s : State) (bytes : List ℕ) (room : ℕ) → length (on_record s bytes room).actions ≤ most_actions
on_record-few s bytes room =
    on-record s Few bytes room (λ r some. omega arith) (λ e is good ok. step-few s (sound-facts s good).four e)
