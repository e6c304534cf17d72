-- Document 01: "First that applies, in these orders".
-- Defines: first_that_applies.
use Rattle.std.specs.Prelude.{ℕ, Bool, cond, List, [], ◌∷◌}

-- "First that applies, in these orders", told by needs: (need, number) reads "this is needed, else this number", a refusal or in a log a
-- stop. The first need that is not met is the one that applies; where all are met, this is the answer.
abbrev pub first_that_applies : {A : Type 0} → (ℕ → A) → List (Bool × ℕ) → A → A
first_that_applies refused [] answer = answer
first_that_applies refused (need ∷ rest) answer = cond need.0 (first_that_applies refused rest answer) (refused need.1)
