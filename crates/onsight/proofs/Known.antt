-- The cell of a state and an event, one of which a test made known.
-- Proves: in-state, told, opened.
use mathlib.Core.Path.{◌≡◌, sym, ap, ap₂, ◌∙◌}
use Rattle.std.specs.Prelude.{Option, Some}
use Rattle.onsight.specs.Procedures.{cell}
use Rattle.onsight.specs.declared.event.Area.{Area}
use Rattle.onsight.specs.declared.event.Mode.{Mode}
use Rattle.onsight.specs.declared.event.Event.{Event}
use Rattle.onsight.specs.declared.event.Event.TheVariants.{Profile}
use Rattle.onsight.specs.declared.procedure.State.{State}
use Rattle.onsight.specs.declared.procedure.State.TheVariants.{Idle}

-- the state is known
pub in-state : (e : Event) {s known : State} {c : Option State} → s ≡ known → c ≡ cell known e → c ≡ cell s e
in-state e is gives = gives ∙ sym (ap (λ t. cell t e) is)

-- the event is known
pub told : (s : State) {e known : Event} {c : Option State} → e ≡ known → c ≡ cell s known → c ≡ cell s e
told s is gives = gives ∙ sym (ap (cell s) is)

-- area and mode of a profile are known
pub opened : (next : State) {a area : Area} {m mode : Mode}
    → a ≡ area
    → m ≡ mode
    → Some next ≡ cell Idle (Profile area mode)
    → Some next ≡ cell Idle (Profile a m)
opened next lies is gives = told Idle (ap₂ Profile lies is) gives
