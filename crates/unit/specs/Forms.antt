-- The answer of a step as the code holds it, its actions in an array of four.
-- Defines: most_actions, no_action, listed, packed, stepped.
use Rattle.std.specs.Prelude.{ℕ, List, ◌++◌, length, take, replicate}
use Rattle.unit.specs.Steps.{Outcome}
use Rattle.unit.specs.declared.answer.Action.{Action}
use Rattle.unit.specs.declared.answer.Actions.{Actions}
use Rattle.unit.specs.declared.answer.Answer.{Answer}
use Rattle.unit.specs.declared.answer.Stepped.{Stepped}

-- the most actions of one step
abbrev pub most_actions : ℕ
most_actions = 4

-- no action: what stands in the array after the last one
abbrev pub no_action : Action
no_action = record { number = 0; partner = record { kind = 0; high = 0; middle = 0; low = 0 } }

-- the actions as the code holds them
unfoldable pub listed : List Action → Actions
listed acts = record { items = take most_actions (acts ++ replicate most_actions no_action); count = length acts }

-- an outcome as the code holds it
unfoldable pub packed : Outcome → Answer
packed o = record { code = o.code; state = o.state; actions = listed o.actions; standing = o.standing }

-- what a step on bytes answers beside the buffer: how many actions it wrote, and the rest
unfoldable pub stepped : Outcome → Stepped
stepped o = record { code = o.code; state = o.state; count = length o.actions; standing = o.standing }
