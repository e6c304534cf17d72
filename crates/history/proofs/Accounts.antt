-- The account of a balanced scale along a history: the actions that count, and the places after it, against the places before it and
-- what its records bring. It holds from every state with the limits of the scale, sound or not.
-- Defines: of_meant, received.
-- Proves: record-account, history-account.
use mathlib.Core.Path.{◌≡◌, sym, subst, ◌∙◌}
use mathlib.Core.Bool.{Bool, cond}
use mathlib.Core.List.{List, [], ◌∷◌}
use Prim.Native.Nat.{ℕ, ◌+◌}
use native.Mathlib.Omega.{arith}
use lib.Dec.{eqb}
use Rattle.record.specs.Records.{reading}
use Rattle.wire.specs.Refusals as refusal
use Rattle.record.specs.declared.partner.Partner.{Partner}
use Rattle.record.specs.declared.event.Event.{Event}
use Rattle.record.specs.Readings.{Reading}
use Rattle.record.specs.Readings.{Meant, Refused}
use Rattle.unit.specs.Steps.{Outcome}
use Rattle.unit.specs.OnRecords.{action_room, on_record}
use Rattle.unit.specs.declared.state.State.{State}
use Rattle.place.specs.declared.limits.Limits.{Limits}
use Rattle.unit.proofs.Effects.{on_record-limits}
use Rattle.unit.proofs.Shapes.{on-record}
use Rattle.unit.specs.Kept.{count}
use Rattle.history.specs.Histories.{after, summed}
use Rattle.unit.proofs.Balances.{Sense, Balance, level, followed}
use Rattle.unit.proofs.StepAccounts.{total, brought, Account, refused-account, step-account}
use Rattle.unit.proofs.Scales.{Scale, Balanced, counted}

-- what a record brings: what its event does, where it reads as one and is accepted
abbrev pub of_meant : (Event → ℕ) → Reading → ℕ
of_meant f (Meant e) = f e
of_meant f (Refused r) = 0

abbrev pub received : Scale → (Partner → Bool) → State → List ℕ → Outcome → ℕ
received σ mine s bytes o = cond (eqb o.code refusal.accepted) (of_meant (brought σ mine s) (reading bytes)) 0

module _ (m : Sense) (l : Limits) (σ : Scale) (balanced : Balanced m l σ) (mine : Partner → Bool) where
  -- the step on a record
  pub record-account : (s : State)
      → s.limits ≡ l
      → (bytes : List ℕ)
      → Account m σ mine s (of_meant (brought σ mine s) (reading bytes)) (on_record s bytes action_room)
  record-account s same bytes =
      let b = of_meant (brought σ mine s) (reading bytes) in
      let own = subst (λ x. Balanced m x σ) (sym same) balanced in
      on-record s (Account m σ mine s b) bytes action_room (λ r may. refused-account m σ mine s own b r (λ none. omega arith))
      (λ e is good ok. rw is (step-account m σ mine s own e))

  -- and a whole history
  pub history-account : (s : State)
      → s.limits ≡ l
      → (history : List (List ℕ))
      → Balance m
      (summed (λ s bytes o. count (counted σ mine) o.actions) s history + total σ mine (after s history).places)
      (total σ mine s.places + summed (received σ mine) s history)
  unfolding after summed
  history-account s same [] = level m _ _ (omega arith)
  history-account s same (bytes ∷ history) =
      let o = on_record s bytes action_room in
      let rest = history-account o.state (on_record-limits s bytes action_room ∙ same) history in
      followed m _ _ _ _ _ _ _ (record-account s same bytes) rest
