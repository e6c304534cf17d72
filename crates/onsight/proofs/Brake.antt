-- The service brake is on exactly when the last event that was accepted was an expiry in Late.
-- Proves: brake-last.
use mathlib.Core.Path.{◌≡◌, refl, ap, ◌∙◌}
use mathlib.Core.Bool.{false, cond, ◌&&◌}
use mathlib.Core.List.{List, [], ◌∷◌}
use lib.Dec.{eqb}
use Rattle.std.specs.Prelude.{Some}
use Rattle.onsight.specs.Numbers.{accepted}
use Rattle.onsight.specs.Procedures.{cell, fresh, service_brake}
use Rattle.onsight.specs.Histories.{after}
use Rattle.onsight.specs.HistoryWords.{met, accepted_of, accepted_in, last_is, is_late, is_expiry, expiry_in_late}
use Rattle.onsight.specs.declared.event.Event.{Event}
use Rattle.onsight.specs.declared.procedure.State.{State}
use Rattle.onsight.proofs.WholeTable.{taken-rule, by-cell}

-- an event that is taken leads to the brake exactly where it is an expiry in Late
brake-next : (s : State) (e : Event) (next : State)
    → cell s e ≡ Some next
    → service_brake next ≡ (is_late s && is_expiry e)
brake-next = taken-rule (λ s e next. service_brake next) (λ s e. is_late s && is_expiry e) refl

brake-from : (s : State) (es : List Event) → service_brake (after s es) ≡ last_is expiry_in_late (service_brake s) (accepted_in s es)
unfolding after met accepted_of last_is
brake-from s [] = refl
brake-from s (e ∷ es) =
    by-cell
    (λ a. service_brake (after a.state es)
    ≡ last_is expiry_in_late (service_brake s)
    (cond (eqb a.code accepted)
    (record { state = s; event = e; answer = a } ∷ accepted_in a.state es)
    (accepted_in a.state es)))
    s
    (cell s e)
    (λ is. brake-from s es)
    (λ next gives. brake-from next es ∙ ap (λ b. last_is expiry_in_late b (accepted_in next es)) (brake-next s e next gives))

-- promise
pub brake-last : (es : List Event) → service_brake (after fresh es) ≡ last_is expiry_in_late false (accepted_in fresh es)
brake-last es = brake-from fresh es
