-- The account of a balanced scale: the actions of a step that count, and the places after it, against the places before it and
-- what the event brings. It holds from every state, sound or not.
-- Defines: total, brought_to, brought, Account.
-- Proves: refused-account, step-account.
use mathlib.Core.Path.{◌≡◌, refl, ap}
use mathlib.Core.Bool.{Bool, true, false, cond, ◌&&◌}
use mathlib.Core.List.{List, [], ◌∷◌}
use Prim.Native.Nat.{ℕ, ◌+◌, ◌<◌}
use native.Mathlib.Omega.{arith}
use lib.Dec.{eqb}
use lib.ListN.{length, get_or, set}
use borrow.Author.Tests.{ne_eqb}
use Rattle.wire.specs.Refusals as refusal
use Rattle.record.specs.declared.partner.Partner.{Partner}
use Rattle.record.specs.declared.event.Event.{Event}
use Rattle.wire.proofs.Tests.{true-false}
use Rattle.place.specs.Places.{vacant, seat, is_free}
use Rattle.place.proofs.Holdings.{is_free_holding, holding_closed_by}
use Rattle.place.specs.Table.{request, established, first_try, place_after}
use Rattle.place.specs.declared.phase.Phase.{Phase}
use Rattle.place.specs.declared.phase.Phase.TheVariants.{Connecting, Open}
use Rattle.place.specs.declared.place.Direction.{Direction}
use Rattle.place.specs.declared.place.Direction.TheVariants.{Outgoing, Incoming}
use Rattle.place.specs.declared.place.Holding.{Holding}
use Rattle.place.specs.declared.place.Holding.TheVariants.{Free, Held}
use Rattle.place.specs.declared.place.Place.{Place}
use Rattle.place.specs.declared.turn.Closing.{Closing}
use Rattle.place.specs.declared.turn.Closing.TheVariants.{Every}
use Rattle.unit.specs.Steps.{Outcome, refused, act, closed, closing_actions, step}
use Rattle.unit.specs.Standings.{Concern, nobody, order_to, call_of, naming, concern}
use Rattle.unit.specs.Kept.{count}
use Rattle.wire.specs.Bytes.{as_bit}
use Rattle.wire.specs.Sums.{sum}
use Rattle.unit.specs.declared.state.State.{State}
use Rattle.unit.specs.declared.search.Found.TheVariants.{Vacant}
use Rattle.unit.proofs.Shapes.{Shape, refuses, notes, closes_every, orders, calls, turns, shape, step-numbered}
use Rattle.unit.proofs.Weights.{weigh-set, length-closed, closed_at}
use Rattle.unit.proofs.Searches.{found_ok}
use Rattle.unit.proofs.Counts.{count-append}
use Rattle.unit.proofs.Balances.{Sense, Balance, level, stored, followed, opened, moved}
use Rattle.unit.proofs.Scales.{Scale, Balanced, brings, weight_in, weight_of, counted, held-account, closed_by-account}

-- all places weighed
abbrev pub total : Scale → (Partner → Bool) → List Place → ℕ
total σ mine ps = sum (weight_of σ mine) ps

-- what an event brings where it is accepted, by whom it concerns
abbrev pub brought_to : Scale → (Partner → Bool) → Concern → ℕ
brought_to σ mine nobody = 0
brought_to σ mine (order_to p) = cond (mine p) σ.order 0
brought_to σ mine (call_of p) = cond (mine p) σ.call 0
brought_to σ mine (naming p e) = cond (mine p) (brings σ e) 0

abbrev pub brought : Scale → (Partner → Bool) → State → Event → ℕ
brought σ mine s e = brought_to σ mine (concern s.last e)

-- the account of a step
abbrev pub Account : Sense → Scale → (Partner → Bool) → State → ℕ → Outcome → Type 0
Account m σ mine s b o =
    Balance m (count (counted σ mine) o.actions + total σ mine o.state.places)
    (total σ mine s.places + cond (eqb o.code refusal.accepted) b 0)

-- a place that is free stays free when others are closed, and weighs nothing
free-closed : (which : Closing) (ps : List Place) (i : ℕ)
    → is_free (get_or ps i vacant) ≡ true
    → is_free (get_or (closed which ps) i vacant) ≡ true
free-closed which ps i h = rw (closed_at which ps i) (by (get_or ps i vacant).holding h)
  where
    by : (k : Holding) → is_free_holding k ≡ true
        → is_free (place_after (record { holding = k }) (holding_closed_by which k)) ≡ true
    by Free h = refl
    by (Held d ph p) h = true-false false h refl

free-light : (σ : Scale) (mine : Partner → Bool) (k : Holding) → is_free_holding k ≡ true → weight_in σ mine k ≡ 0
free-light σ mine Free h = refl
free-light σ mine (Held d ph p) h = true-false false h refl

module _ (m : Sense) (σ : Scale) (mine : Partner → Bool) where
  -- a partner taken in at a free place
  taken-account : (ps : List Place) (i k b : ℕ) (d : Direction) (ph : Phase) (p : Partner)
      → i < length ps
      → is_free (get_or ps i vacant) ≡ true
      → Balance m (as_bit (σ.counts k) + σ.weight ph) b
      → Balance m (count (counted σ mine) (act p k ∷ []) + total σ mine (set ps i (seat d ph p)))
      (total σ mine ps + cond (mine p) b 0)
  unfolding count
  taken-account ps i k b d ph p below free h =
      let x = seat d ph p in
      stored m _ (weight_of σ mine x) (weight_of σ mine (get_or ps i vacant)) _ _ _ (weigh-set (weight_of σ mine) ps i x below)
      (opened m _ _ _ (free-light σ mine (get_or ps i vacant).holding free) (by (mine p)))
    where
      by : (x : Bool) → Balance m ((as_bit (x && σ.counts k) + 0) + cond x (σ.weight ph) 0) (cond x b 0)
      by true = moved m (as_bit (σ.counts k) + σ.weight ph) b _ _ (omega arith) refl h
      by false = level m ((0 + 0) + 0) 0 refl

  module _ (s : State) (balanced : Balanced m s.limits σ) where
    -- a refusal does nothing and is brought nothing
    pub refused-account : (b r : ℕ) → (r ≡ refusal.accepted → ⊥) → Account m σ mine s b (refused r s)
    unfolding count
    refused-account b r some =
        let none = ap (λ ok. cond ok b 0) (ne_eqb r refusal.accepted some) in
        level m _ _ (omega arith)

    account : {e : Event} {c : Concern} {o : Outcome} → Shape s e c o → Account m σ mine s (brought_to σ mine c) o
    unfolding count
    account (refuses {c = c} r may said) = refused-account (brought_to σ mine c) r (step-numbered r may)
    account (notes t marks within) = level m _ _ (omega arith)
    account (closes_every t within) = closed_by-account m σ mine s.limits balanced Every s.places
    account (orders p which marks i within ok found) =
        let ps = closed which s.places in
        let same = length-closed which s.places in
        let free = found_ok p s.places (Vacant i) found in
        rw (count-append (counted σ mine) (closing_actions which s.places) (act p request ∷ []))
        (moved m _ _ _ _ refl (omega arith)
        (followed m _ _ _ _ _ 0 _ (closed_by-account m σ mine s.limits balanced which s.places)
        (taken-account ps i request σ.order Outgoing (Connecting first_try) p (omega arith) (free-closed which s.places i free.1)
        balanced.ordered)))
    account (calls p i ok rbc found) =
        let free = found_ok p s.places (Vacant i) found in
        taken-account s.places i established σ.call Incoming Open p free.0 free.1 balanced.called
    account (turns p event i ok found taken) =
        let place = get_or s.places i vacant in
        let at = found_ok p s.places _ found in
        stored m _ _ _ _ _ _ (weigh-set (weight_of σ mine) s.places i _ at.0)
        (held-account m σ mine s.limits balanced p event place.holding at.1)

    pub step-account : (e : Event) → Account m σ mine s (brought σ mine s e) (step s e)
    step-account e = account (shape s e)
