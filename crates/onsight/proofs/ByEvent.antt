-- Where each event is taken, and what holds after the start.
-- Proves: profile-idle, start-in-force, acknowledgement-asked, expiry-late.
use mathlib.Core.Path.{◌≡◌, refl, sym}
use mathlib.Core.Bool.{true, false}
use native.Mathlib.Omega.{arith}
use lib.Dec.{eqb}
use Rattle.onsight.specs.Numbers.{accepted}
use Rattle.onsight.specs.Procedures.{cell, step, os_in_force}
use Rattle.onsight.specs.HistoryWords.{is_idle, is_late, is_profile, asks_for_acknowledgement}
use Rattle.onsight.specs.declared.event.Event.{Event}
use Rattle.onsight.specs.declared.event.Event.TheVariants.{Start, Acknowledgement, Expiry}
use Rattle.onsight.specs.declared.procedure.State.{State}
use Rattle.onsight.proofs.Again.Each.{never, by_state}
use Rattle.onsight.proofs.WholeTable.{taken-rule, by-cell}

-- "Idle takes only this": what is taken is a profile in Idle, and nowhere else
-- promise
pub profile-idle : (s : State) (e : Event)
    → (step s e).code ≡ accepted
    → is_profile e ≡ is_idle s
profile-idle s e =
    by-cell (λ a. a.code ≡ accepted → is_profile e ≡ is_idle s) s (cell s e)
    (λ is h. absurd (omega arith))
    (λ next gives h. taken-rule (λ s e next. is_profile e) (λ s e. is_idle s) refl s e next gives)

-- "the safe front passing the start gives Late": where it is told, in every state but Idle, OS is in force after it, taken or refused
-- promise
pub start-in-force : (s : State)
    → is_idle s ≡ false
    → os_in_force (step s Start).state ≡ true
start-in-force =
    by_state (λ s. is_idle s ≡ false → os_in_force (step s Start).state ≡ true)
    (λ h. never (sym h)) (λ h. refl) (λ h. refl) (λ h. refl) (λ h. refl) (λ h. refl)

-- "Asked, Late and Braking: driver acknowledgement": accepted there and nowhere else
-- promise
pub acknowledgement-asked : (s : State) → eqb (step s Acknowledgement).code accepted ≡ asks_for_acknowledgement s
acknowledgement-asked =
    by_state (λ s. eqb (step s Acknowledgement).code accepted ≡ asks_for_acknowledgement s) refl refl refl refl refl refl

-- "Late: timer expiry": accepted there and nowhere else
-- promise
pub expiry-late : (s : State) → eqb (step s Expiry).code accepted ≡ is_late s
expiry-late = by_state (λ s. eqb (step s Expiry).code accepted ≡ is_late s) refl refl refl refl refl refl
