-- What a step remembers of its actions, and whom they name, for crates that stand on it without its definition.
-- Proves: recalled-append, recalled-none, step-last, on_record-last, step-named, on_record-named.
use mathlib.Core.Path.{◌≡◌, refl, sym, ap, ◌∙◌}
use mathlib.Core.Bool.{Bool, true, false, cond, ◌&&◌, not}
use mathlib.Core.List.{List, [], ◌∷◌, ◌++◌, map}
use Prim.Native.Nat.{ℕ, ◌≤◌}
use native.Mathlib.Omega.{arith}
use lib.ListN.{length, get_or}
use Rattle.record.specs.Partners.{partner_ok, reserved, named_ok}
use Rattle.record.specs.Ranges.{event_ok}
use Rattle.record.specs.declared.partner.Partner.{Partner}
use Rattle.record.specs.declared.event.Event.{Event}
use Rattle.wire.proofs.Tests.{and_right, cond-holds, true-false}
use Rattle.place.specs.Places.{vacant, phase_ok, fits}
use Rattle.place.specs.Table.{request, established, closing, closes, closed_by, numbers}
use Rattle.place.proofs.Holdings.{holding_turn, holding_closed_by}
use Rattle.place.specs.declared.phase.Phase.{Phase}
use Rattle.place.specs.declared.phase.Phase.TheVariants.{Connecting, Contacting, Open, Lost, Ending}
use Rattle.place.specs.declared.place.Holding.{Holding}
use Rattle.place.specs.declared.place.Holding.TheVariants.{Free, Held}
use Rattle.place.specs.declared.place.Place.{Place}
use Rattle.place.specs.declared.limits.Limits.{Limits}
use Rattle.place.specs.declared.turn.Closing.{Closing}
use Rattle.place.specs.declared.turn.Closing.TheVariants.{Every}
use Rattle.place.specs.declared.turn.Turn.TheVariants.{Stays}
use Rattle.unit.specs.Lasts.{to_rbc, recalled_by, recalled}
use Rattle.unit.specs.States.{sound}
use Rattle.unit.specs.Steps.{Outcome, act, actions_in, closing_actions, step}
use Rattle.unit.specs.OnRecords.{on_record}
use Rattle.unit.specs.Concerns.{action_for, held_by, place_of}
use Rattle.unit.specs.Kept.{here, count}
use Rattle.wire.specs.Bytes.{as_bit}
use Rattle.unit.specs.Standings.{Concern}
use Rattle.unit.specs.declared.last.Last.{Last}
use Rattle.unit.specs.declared.last.Last.TheVariants.{Known}
use Rattle.unit.specs.declared.state.State.{State}
use Rattle.unit.specs.declared.answer.Action.{Action}
use Rattle.unit.proofs.Counts.{count-append, count-one}
use Rattle.unit.proofs.Weights.{weigh-less}
use Rattle.unit.proofs.Facts.{bad, sound-facts}
use Rattle.unit.proofs.Sent.{closing_actions-for}
use Rattle.unit.proofs.Shapes.{Shape, refuses, notes, closes_every, orders, calls, turns, shape, on-record}

-- actions after others
pub recalled-append : (last : Last) (xs ys : List Action) → recalled last (xs ++ ys) ≡ recalled (recalled last xs) ys
unfolding recalled
recalled-append last [] ys = refl
recalled-append last (a ∷ xs) ys = recalled-append (recalled_by last a) xs ys

-- actions with no 159 to an RBC leave what is known
pub recalled-none : (last : Last) (acts : List Action) → count to_rbc acts ≡ 0 → recalled last acts ≡ last
unfolding recalled count
recalled-none last [] none = refl
recalled-none last (a ∷ acts) none = by (to_rbc a) (omega arith) (recalled-none last acts (omega arith))
  where
    own : Last
    own = Known a.partner.high a.partner.middle a.partner.low

    by : (b : Bool) → as_bit b ≡ 0 → recalled last acts ≡ last → recalled (cond b own last) acts ≡ last
    by true none rest = absurd (omega arith)
    by false none rest = rest

-- a closing sends no 159
closing-recalled : (which : Closing) (k : Holding) (last : Last) → recalled last (actions_in k (holding_closed_by which k)) ≡ last
unfolding recalled
closing-recalled which Free last = refl
closing-recalled which (Held d ph p) last =
    cond-holds (λ t. recalled last (map (act p) (numbers t)) ≡ last) (closes which ph p) (closing ph) Stays (by ph) refl
  where
    by : (ph : Phase) → recalled last (map (act p) (numbers (closing ph))) ≡ last
    by (Connecting t) = refl
    by (Contacting t) = refl
    by Open = refl
    by (Lost t) = refl
    by (Ending t) = refl

closings-recalled : (which : Closing) (ps : List Place) (last : Last) → recalled last (closing_actions which ps) ≡ last
unfolding recalled closing_actions
closings-recalled which [] last = refl
closings-recalled which (p ∷ ps) last =
    let own = actions_in p.holding (closed_by which p) in
    recalled-append last own (closing_actions which ps)
    ∙ ap (λ l. recalled l (closing_actions which ps)) (closing-recalled which p.holding last)
    ∙ closings-recalled which ps last

module _ (s : State) where
  recalls : {e : Event} {c : Concern} {o : Outcome} → Shape s e c o → o.state.last ≡ recalled s.last o.actions
  unfolding recalled
  recalls (refuses r may said) = refl
  recalls (notes t m within) = refl
  recalls (closes_every t within) = sym (closings-recalled Every s.places s.last)
  recalls (orders p which m i within ok found) =
      sym
      (recalled-append s.last (closing_actions which s.places) (act p request ∷ [])
      ∙ ap (λ l. recalled l (act p request ∷ [])) (closings-recalled which s.places s.last))
  recalls (calls p i ok rbc found) = refl
  recalls (turns p event i ok found taken) = refl

  -- the last known RBC after a step is the one of its actions, or the one known before
  -- promise
  pub step-last : (e : Event) → (step s e).state.last ≡ recalled s.last (step s e).actions
  step-last e = recalls (shape s e)

  pub on_record-last : (bytes : List ℕ) (room : ℕ)
      → (on_record s bytes room).state.last ≡ recalled s.last (on_record s bytes room).actions
  unfolding recalled
  on_record-last bytes room =
      on-record s (λ o. o.state.last ≡ recalled s.last o.actions) bytes room (λ r may. refl) (λ e is good ok. step-last e)

-- a partner that may have a place has not the reserved number
unreserved : (p : Partner) → named_ok p ≡ true → reserved p ≡ false
unreserved p ok = by (reserved p) (and_right (partner_ok p) (not (reserved p)) ok)
  where
    by : (b : Bool) → not b ≡ true → b ≡ false
    by true h = true-false false h refl
    by false h = refl

-- a place of such a partner is not sound
reserved-bad : (l : Limits) (place : Place) → here (place_of reserved) place ≤ bad l place
reserved-bad l place = by place.holding
  where
    by-test : (a b c : Bool) → as_bit b ≤ cond ((a && not b) && c) 0 1
    by-test true true c = omega arith
    by-test true false c = cond-holds (λ w. 0 ≤ w) c 0 1 (omega arith) (omega arith)
    by-test false true c = omega arith
    by-test false false c = omega arith

    by : (k : Holding) → as_bit (held_by reserved k) ≤ bad l (record { holding = k })
    by Free = omega arith
    by (Held d ph p) = by-test (partner_ok p) (reserved p) (phase_ok l ph && fits d ph p)

module _ (s : State) (good : sound s ≡ true) where
  -- so no closing names one
  closings-named : (which : Closing) → count (action_for reserved) (closing_actions which s.places) ≡ 0
  closings-named which =
      let few = closing_actions-for s reserved which in
      let less = weigh-less (here (place_of reserved)) (bad s.limits) (reserved-bad s.limits) s.places in
      let none = (sound-facts s good).places.0 in
      omega arith

  own-named : (p : Partner) (sent : List ℕ) → named_ok p ≡ true → count (action_for reserved) (map (act p) sent) ≡ 0
  own-named p sent ok = count-one reserved p sent ∙ ap (λ b. cond b (length sent) 0) (unreserved p ok)

  named : {e : Event} {c : Concern} {o : Outcome} → Shape s e c o → event_ok e ≡ true → count (action_for reserved) o.actions ≡ 0
  unfolding count
  named (refuses r may said) event = refl
  named (notes t m within) event = refl
  named (closes_every t within) event = closings-named Every
  named (orders p which m i within ok found) event =
      let joined = count-append (action_for reserved) (closing_actions which s.places) (act p request ∷ []) in
      let closings = closings-named which in
      let own = own-named p (request ∷ []) (ok event) in
      omega arith
  named (calls p i ok rbc found) event = own-named p (established ∷ []) (ok event)
  named (turns p event i ok found taken) fine =
      own-named p (numbers (holding_turn s.limits (get_or s.places i vacant).holding event)) (ok fine)

  -- no action of a step from a sound state names it
  pub step-named : (e : Event) → event_ok e ≡ true → count (action_for reserved) (step s e).actions ≡ 0
  step-named e = named (shape s e)

  pub on_record-named : (bytes : List ℕ) (room : ℕ) → count (action_for reserved) (on_record s bytes room).actions ≡ 0
  unfolding count
  on_record-named bytes room =
      on-record s (λ o. count (action_for reserved) o.actions ≡ 0) bytes room (λ r may. refl) (λ e is fine ok. step-named e ok)
