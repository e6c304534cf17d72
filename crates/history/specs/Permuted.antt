-- Cross-checks only: nobody has to believe what stands here.
-- Request Q-11 for a row with one event of each partner, in any order.
-- Defines: DifferAll, Different, Permuted.
use Rattle.std.specs.Prelude.{List, [], ◌∷◌}
use Rattle.history.specs.EitherOrder.{Delivered, Differ}

-- pairwise different ones of a row
unfoldable pub DifferAll : Delivered → List Delivered → Type 0
DifferAll x [] = Unit
DifferAll x (y ∷ ys) = Differ x y × DifferAll x ys

unfoldable pub Different : List Delivered → Type 0
Different [] = Unit
Different (x ∷ xs) = DifferAll x xs × Different xs

-- one row in another order
pub data Permuted : List Delivered → List Delivered → Type 0 where
  empty : Permuted [] []
  keeps : (x : Delivered) {xs ys : List Delivered} → Permuted xs ys → Permuted (x ∷ xs) (x ∷ ys)
  swaps : (x y : Delivered) (xs : List Delivered) → Permuted (x ∷ y ∷ xs) (y ∷ x ∷ xs)
  joins : {xs ys zs : List Delivered} → Permuted xs ys → Permuted ys zs → Permuted xs zs
