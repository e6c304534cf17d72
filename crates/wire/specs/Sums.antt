-- Sums over a list, by which steps, actions and places are counted.
-- Defines: sum.
use Rattle.std.specs.Prelude.{ℕ, ◌+◌, List, [], ◌∷◌}

-- what each thing of a list counts for, added up
unfoldable pub sum : {A : Type 0} → (A → ℕ) → List A → ℕ
sum weight [] = 0
sum weight (a ∷ rest) = weight a + sum weight rest
