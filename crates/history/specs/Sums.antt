-- Document 01, "Worth of each promise": what demand 3 counts in a history from a cold start with X 1 to 2 and n tries.
-- Defines: started, Sums, counts, sums_of.
use Rattle.std.specs.Prelude.{ℕ, List}
use Rattle.unit.specs.States.{cold_start, one_to_two}
use Rattle.unit.specs.declared.state.State.{State}
use Rattle.history.specs.Histories.{orders, calls, losses, actions}

-- the state of the cold start
abbrev pub started : ℕ → State
started n = (cold_start (one_to_two n)).state

-- what demand 3 counts in a history
pub record Sums : Type 0 where
  pub orders : ℕ
  pub calls : ℕ
  pub losses : ℕ
  pub actions : ℕ

-- a orders, b calls, c losses and k actions
abbrev pub counts : ℕ → ℕ → ℕ → ℕ → Sums
counts a b c k = record { orders = a; calls = b; losses = c; actions = k }

unfoldable pub sums_of : ℕ → List (List ℕ) → Sums
sums_of n history =
    let s : State = started n in
    counts (orders s history) (calls s history) (losses s history) (actions s history)
