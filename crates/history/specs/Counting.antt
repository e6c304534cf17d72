-- Cross-checks only: nobody has to believe what stands here.
-- How a count goes on with one record more.
-- Defines: OneMore.
use Rattle.std.specs.Prelude.{ℕ, ◌+◌, ◌≡◌}

-- a count is one more where this holds, and the same where it does not
abbrev pub OneMore : Type 0 → ℕ → ℕ → Type 0
OneMore P before now = (P → now ≡ before + 1) × ((P → ⊥) → now ≡ before)
