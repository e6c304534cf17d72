-- What a machine answers to a record.
-- Defines: Applying.
use Rattle.std.specs.Prelude.{ℕ, List}
use Rattle.unit.specs.declared.answer.Action.{Action}

-- 0 or the number of the refusal, the machine then, and the actions that go out
pub record Applying (M : Type 0) : Type 0 where
  pub code : ℕ
  pub state : M
  pub actions : List Action
