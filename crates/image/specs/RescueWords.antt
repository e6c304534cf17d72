-- Cross-checks only: nobody has to believe what stands here.
-- Further words of laws on a rescue: what is in a list, and that it ascends.
-- Defines: is_in, ascends.
use Rattle.std.specs.Prelude.{ℕ, suc, Bool, true, false, ◌&&◌, ◌||◌, List, [], ◌∷◌, eqb, leb}

-- a number is in a list, and a list ascends from a number on
unfoldable pub is_in : ℕ → List ℕ → Bool
is_in n [] = false
is_in n (m ∷ rest) = eqb n m || is_in n rest

unfoldable pub ascends : ℕ → List ℕ → Bool
ascends from [] = true
ascends from (n ∷ rest) = leb from n && ascends (suc n) rest
