-- A refused step hands the state back as it was, with no actions.
-- Proves: step_kept, on_record-kept.
use mathlib.Core.Path.{refl}
use mathlib.Core.List.{List}
use Prim.Native.Nat.{ℕ}
use Rattle.record.specs.declared.event.Event.{Event}
use Rattle.unit.specs.Steps.{Outcome, step}
use Rattle.unit.specs.Standings.{Concern}
use Rattle.unit.specs.OnRecords.{on_record}
use Rattle.unit.specs.declared.state.State.{State}
use Rattle.unit.proofs.Shapes.{Shape, refuses, notes, closes_every, orders, calls, turns, shape, on-record}
use Rattle.unit.specs.StepWords.{Kept}

module _ (s : State) where
  kept : {e : Event} {c : Concern} {o : Outcome} → Shape s e c o → Kept s o
  kept (refuses r may said) = λ other. (refl, refl)
  kept (notes t m within) = λ other. absurd (other refl)
  kept (closes_every t within) = λ other. absurd (other refl)
  kept (orders p which m i within ok found) = λ other. absurd (other refl)
  kept (calls p i ok rbc found) = λ other. absurd (other refl)
  kept (turns p event i ok found taken) = λ other. absurd (other refl)

  -- promise
  pub step_kept : (e : Event) → Kept s (step s e)
  step_kept e = kept (shape s e)

  -- promise
  pub on_record-kept : (bytes : List ℕ) (room : ℕ) → Kept s (on_record s bytes room)
  on_record-kept bytes room =
      on-record s (Kept s) bytes room (λ r some other. (refl, refl)) (λ e is good ok. step_kept e)
