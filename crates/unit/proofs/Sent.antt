-- What a step sends to any choice of partners, `mine`, for crates that stand on it without its definition.
-- Defines: Conserved, most_for, Ordered, Ends.
-- Proves: step-releases, on_record-releases, step-most, on_record-most, step-ends, on_record-ends.
use mathlib.Core.Path.{◌≡◌, refl, ap, ◌∙◌}
use mathlib.Core.Bool.{Bool, true, false, cond, ◌&&◌}
use mathlib.Core.List.{List, [], ◌∷◌, ◌++◌, map}
use Prim.Native.Nat.{ℕ, ◌+◌, ◌≤◌}
use native.Mathlib.Omega.{arith}
use lib.Dec.{eqb}
use lib.ListN.{length, get_or}
use Rattle.record.specs.Partners.{same_partner}
use Rattle.record.specs.Records.{reading}
use Rattle.wire.specs.Refusals as refusal
use Rattle.record.specs.declared.partner.Partner.{Partner}
use Rattle.record.specs.declared.event.Event.{Event}
use Rattle.wire.proofs.Tests.{cond-holds}
use Rattle.place.specs.Places.{vacant}
use Rattle.place.specs.Table.{request, closing, closes, numbers}
use Rattle.place.proofs.Holdings.{holding_turn, holding_closed_by}
use Rattle.place.specs.declared.place.Holding.{Holding}
use Rattle.place.specs.declared.place.Holding.TheVariants.{Free, Held}
use Rattle.place.specs.declared.place.Place.{Place}
use Rattle.place.specs.declared.turn.Turn.TheVariants.{Stays}
use Rattle.place.specs.declared.turn.Closing.{Closing}
use Rattle.place.specs.declared.turn.Closing.TheVariants.{Every}
use Rattle.place.proofs.Turns.{turn-few}
use Rattle.unit.specs.States.{nowhere}
use Rattle.unit.specs.Steps.{Outcome, refused_at, refused, act, actions_in, closing_actions, step}
use Rattle.unit.specs.Concerns.{takes_in, action_for, release_for, held_by, place_of}
use Rattle.unit.specs.Standings.{Concern, nobody, order_to, call_of, naming, concern, concern_of}
use Rattle.unit.specs.Kept.{count, here}
use Rattle.wire.specs.Bytes.{as_bit}
use Rattle.wire.specs.Sums.{sum}
use Rattle.unit.specs.OnRecords.{on_record}
use Rattle.unit.specs.declared.state.State.{State}
use Rattle.unit.specs.declared.search.Found.TheVariants.{Vacant}
use Rattle.unit.specs.declared.search.Standing.{Standing}
use Rattle.unit.specs.declared.answer.Action.{Action}
use Rattle.unit.proofs.Shapes.{Shape, refuses, notes, closes_every, orders, calls, turns, shape, by-concern, step-numbered}
use Rattle.unit.proofs.Counts.{count-append, count-one, closing_actions-most}
use Rattle.unit.proofs.Searches.{found_ok}
use Rattle.unit.proofs.Few.{closing-few}
use Rattle.unit.proofs.Balances.{exactly}
use Rattle.unit.proofs.StepAccounts.{brought_to, Account, refused-account, step-account}
use Rattle.unit.proofs.Seats.{seats, seats-balanced, seats-weigh, seats-brought, own-places}

-- the releases of these partners and the places that they have are the places that they had, and one more where one is taken in
abbrev pub Conserved : (Partner → Bool) → State → Concern → Outcome → Type 0
Conserved mine s c o =
    count (release_for mine) o.actions + sum (here (place_of mine)) o.state.places
    ≡ sum (here (place_of mine)) s.places + as_bit (eqb o.code refusal.accepted && takes_in mine c)

-- the most actions for these partners in a step: one for each place of theirs that may be closed, the order's own; the call's own; two
abbrev pub most_for : (Partner → Bool) → List Place → Concern → ℕ
most_for mine ps nobody = sum (here (place_of mine)) ps
most_for mine ps (order_to p) = sum (here (place_of mine)) ps + as_bit (mine p)
most_for mine ps (call_of p) = as_bit (mine p)
most_for mine ps (naming p e) = cond (mine p) 2 0

-- less of one partner's actions is less where that partner is looked at
cond-most : (b : Bool) (k m : ℕ) → k ≤ m → cond b k 0 ≤ cond b m 0
cond-most true k m h = h
cond-most false k m h = omega arith

module _ (s : State) (mine : Partner → Bool) where
  conserved : (c : Concern) (o : Outcome) → Account exactly seats mine s (brought_to seats mine c) o → Conserved mine s c o
  conserved c o account =
      let ok = eqb o.code refusal.accepted in
      let before = seats-weigh mine s.places in
      let after = seats-weigh mine o.state.places in
      let brought = ap (λ b. cond ok b 0) (seats-brought mine c) ∙ by ok (takes_in mine c) in
      omega arith
    where
      by : (a b : Bool) → cond a (as_bit b) 0 ≡ as_bit (a && b)
      by true b = refl
      by false b = refl

  -- the account of releases
  pub step-releases : (e : Event) → Conserved mine s (concern s.last e) (step s e)
  step-releases e = conserved (concern s.last e) (step s e) (step-account exactly seats mine s (seats-balanced s.limits) e)

  pub on_record-releases : (bytes : List ℕ) (room : ℕ) → Conserved mine s (concern_of s.last (reading bytes)) (on_record s bytes room)
  on_record-releases bytes room =
      by-concern s (Conserved mine s) bytes room
      (λ c r may. conserved c (refused r s) (refused-account exactly seats mine s (seats-balanced s.limits) _ r (λ none. omega arith)))
      step-releases

  -- a closing has at most one action for each place of theirs
  closed_by-for : (which : Closing) (k : Holding)
      → count (action_for mine) (actions_in k (holding_closed_by which k)) ≤ as_bit (held_by mine k)
  unfolding count
  closed_by-for which Free = omega arith
  closed_by-for which (Held d ph p) =
      cond-holds (λ t. count (action_for mine) (map (act p) (numbers t)) ≤ as_bit (mine p)) (closes which ph p) (closing ph) Stays
      (rw (count-one mine p (numbers (closing ph))) (cond-most (mine p) (length (numbers (closing ph))) 1 (closing-few ph)))
      (omega arith)

  pub closing_actions-for : (which : Closing)
      → count (action_for mine) (closing_actions which s.places) ≤ sum (here (place_of mine)) s.places
  closing_actions-for which =
      closing_actions-most (action_for mine) (here (place_of mine)) which (λ place. closed_by-for which place.holding) s.places

  most : {e : Event} {c : Concern} {o : Outcome} → Shape s e c o → count (action_for mine) o.actions ≤ most_for mine s.places c
  unfolding count
  most (refuses r may said) = omega arith
  most (notes t m within) = omega arith
  most (closes_every t within) = closing_actions-for Every
  most (orders p which m i within ok found) =
      let closings = closing_actions-for which in
      let joined = count-append (action_for mine) (closing_actions which s.places) (act p request ∷ []) in
      omega arith
  most (calls p i ok rbc found) = omega arith
  most (turns p event i ok found taken) =
      let t = holding_turn s.limits (get_or s.places i vacant).holding event in
      rw (count-one mine p (numbers t)) (cond-most (mine p) (length (numbers t)) 2 (turn-few t))

  -- how many actions a step has for them
  pub step-most : (e : Event) → count (action_for mine) (step s e).actions ≤ most_for mine s.places (concern s.last e)
  step-most e = most (shape s e)

  pub on_record-most : (bytes : List ℕ) (room : ℕ)
      → count (action_for mine) (on_record s bytes room).actions ≤ most_for mine s.places (concern_of s.last (reading bytes))
  unfolding count
  on_record-most bytes room =
      by-concern s (λ c o. count (action_for mine) o.actions ≤ most_for mine s.places c) bytes room
      (λ c r may. omega arith)
      step-most

-- the actions of an accepted order: its 21 for the partner last, and none for that partner before
pub record Ordered (p : Partner) (acts : List Action) : Type 0 where
  pub closings : List Action
  pub last : acts ≡ closings ++ (act p request ∷ [])
  pub others : count (action_for (same_partner p)) closings ≡ 0

-- an order that is accepted has such actions
abbrev pub Ends : Concern → Outcome → Type 0
Ends nobody o = Unit
Ends (order_to p) o = o.code ≡ refusal.accepted → Ordered p o.actions
Ends (call_of p) o = Unit
Ends (naming p e) o = Unit

module _ (s : State) where
  refused-ends : (c : Concern) (r : ℕ) (w : Standing) → (r ≡ refusal.accepted → ⊥) → Ends c (refused_at r w s)
  refused-ends nobody r w some = tt
  refused-ends (order_to p) r w some = λ accepted. absurd (some accepted)
  refused-ends (call_of p) r w some = tt
  refused-ends (naming p e) r w some = tt

  ends : {e : Event} {c : Concern} {o : Outcome} → Shape s e c o → Ends c o
  ends (refuses {c = c} {w = w} r may said) = refused-ends c r w (step-numbered r may)
  ends (notes t m within) = tt
  ends (closes_every t within) = tt
  ends (orders p which m i within ok found) =
      let absent = (found_ok p s.places (Vacant i) found).2 in
      let own = own-places p s.places in
      let few = closing_actions-for s (same_partner p) which in
      λ accepted. record { closings = closing_actions which s.places; last = refl; others = omega arith }
  ends (calls p i ok rbc found) = tt
  ends (turns p event i ok found taken) = tt

  -- how an accepted order ends
  pub step-ends : (e : Event) → Ends (concern s.last e) (step s e)
  step-ends e = ends (shape s e)

  pub on_record-ends : (bytes : List ℕ) (room : ℕ) → Ends (concern_of s.last (reading bytes)) (on_record s bytes room)
  on_record-ends bytes room = by-concern s Ends bytes room (λ c r may. refused-ends c r nowhere (λ none. omega arith)) step-ends
