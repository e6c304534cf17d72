-- An answer is 0 or 14, and 14 leaves the state.
-- Proves: step-code, step_stays, refused-fourteen.
use mathlib.Core.Path.{◌≡◌, refl}
use mathlib.Core.Logic.{◌⊎◌, inl, inr}
use native.Mathlib.Omega.{arith}
use Rattle.onsight.specs.Numbers.{accepted, not_taken_here}
use Rattle.onsight.specs.Procedures.{cell, refused, step}
use Rattle.onsight.specs.declared.event.Event.{Event}
use Rattle.onsight.specs.declared.procedure.State.{State}
use Rattle.onsight.proofs.WholeTable.{by-cell}

-- promise
pub step-code : (s : State) (e : Event) → ((step s e).code ≡ accepted) ⊎ ((step s e).code ≡ not_taken_here)
step-code s e =
    by-cell (λ a. (a.code ≡ accepted) ⊎ (a.code ≡ not_taken_here)) s (cell s e) (λ is. inr refl) (λ next gives. inl refl)

-- "the state stays"
-- promise
pub step_stays : (s : State) (e : Event)
    → (step s e).code ≡ not_taken_here
    → (step s e).state ≡ s
step_stays s e =
    by-cell (λ a. a.code ≡ not_taken_here → a.state ≡ s) s (cell s e) (λ is h. refl) (λ next gives h. absurd (omega arith))

-- "Refusals: 14, event not taken here"
-- promise
pub refused-fourteen : (s : State) → (refused s).code ≡ 14
refused-fourteen s = refl
