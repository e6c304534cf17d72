-- Cross-checks only: nobody has to believe what stands here.
-- What a history leaves, counts and sends, read from the row of its outcomes.
-- Defines: end_of, sum_over, sent_by.
use Rattle.std.specs.Prelude.{ℕ, ◌+◌, List, [], ◌∷◌, ◌++◌}
use Rattle.unit.specs.Steps.{Outcome}
use Rattle.unit.specs.declared.state.State.{State}
use Rattle.unit.specs.declared.answer.Action.{Action}

-- the state that a row of outcomes ends in
unfoldable pub end_of : State → List Outcome → State
end_of s [] = s
end_of s (o ∷ os) = end_of o.state os

-- the sum of what each record counts for, by the state that it meets and its outcome
unfoldable pub sum_over : (State → List ℕ → Outcome → ℕ) → State → List (List ℕ) → List Outcome → ℕ
sum_over f s [] os = 0
sum_over f s (bytes ∷ history) [] = 0
sum_over f s (bytes ∷ history) (o ∷ os) = f s bytes o + sum_over f o.state history os

-- the actions of a row of outcomes, in their order
unfoldable pub sent_by : List Outcome → List Action
sent_by [] = []
sent_by (o ∷ os) = o.actions ++ sent_by os
