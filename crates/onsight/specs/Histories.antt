-- What the promises of request Q-1 speak of: histories, rows of events of any length, refused ones among them.
-- Defines: after.
use Rattle.std.specs.Prelude.{List, [], ◌∷◌}
use Rattle.onsight.specs.Procedures.{step}
use Rattle.onsight.specs.declared.event.Event.{Event}
use Rattle.onsight.specs.declared.procedure.State.{State}

-- the state after a history
unfoldable pub after : State → List Event → State
after s [] = s
after s (e ∷ es) = after (step s e).state es
