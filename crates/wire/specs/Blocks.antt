-- Bytes of things that stand one after the other, as a step's actions and an image's places do.
-- Defines: blocks.
use Rattle.std.specs.Prelude.{ℕ, List, [], ◌∷◌, ◌++◌}

-- the bytes of each thing, one after the other
unfoldable pub blocks : {A : Type 0} → (A → List ℕ) → List A → List ℕ
blocks bytes_of [] = []
blocks bytes_of (a ∷ rest) = bytes_of a ++ blocks bytes_of rest
