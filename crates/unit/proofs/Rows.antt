-- A law of every row of a table is one law at every number.
-- Defines: Numbered, Beside.
-- Proves: _▹_, numbered-at, beside_at.
use mathlib.Core.Path.{subst}
use mathlib.Core.List.{List, [], ◌∷◌}
use Prim.Native.Nat.{ℕ, zero, suc, ◌+◌}
use native.Mathlib.Omega.{arith}
use lib.ListN.{get_or}

-- the rows written one under the other
infixr 4 ◌▹◌
pub ◌▹◌ : {A B : Type 0} → A → B → A × B
◌▹◌ a b = (a, b)

-- a law of each row and its number, from a first number on
abbrev pub Numbered {ℓ} : {A : Type ℓ} → (ℕ → A → Type 0) → ℕ → List A → Type 0
Numbered P first [] = Unit
Numbered P first (x ∷ xs) = P first x × Numbered P (suc first) xs

pub numbered-at {ℓ} : {A : Type ℓ} (P : ℕ → A → Type 0) (first : ℕ) (xs : List A) (d : A)
    → Numbered P first xs
    → ((i : ℕ) → P i d)
    → (i : ℕ)
    → P (first + i) (get_or xs i d)
numbered-at P first [] d h outside i = outside (first + i)
numbered-at P first (x ∷ xs) d h outside zero = subst (λ k. P k x) (omega arith) h.0
numbered-at P first (x ∷ xs) d h outside (suc i) =
    subst (λ k. P k (get_or xs i d)) (omega arith) (numbered-at P (suc first) xs d h.1 outside i)

-- a law of each row beside the number that a second column, as long, gives it
abbrev pub Beside {ℓ} : {A : Type ℓ} → (A → ℕ → Type 0) → List A → List ℕ → Type 0
Beside P [] [] = Unit
Beside P [] (b ∷ bs) = ⊥
Beside P (x ∷ xs) [] = ⊥
Beside P (x ∷ xs) (b ∷ bs) = P x b × Beside P xs bs

pub beside_at {ℓ} : {A : Type ℓ} (P : A → ℕ → Type 0) (xs : List A) (bs : List ℕ) (d : A)
    → Beside P xs bs
    → P d 0
    → (i : ℕ)
    → P (get_or xs i d) (get_or bs i 0)
beside_at P [] [] d h outside i = outside
beside_at P [] (b ∷ bs) d h outside i = absurd h
beside_at P (x ∷ xs) [] d h outside i = absurd h
beside_at P (x ∷ xs) (b ∷ bs) d h outside zero = h.0
beside_at P (x ∷ xs) (b ∷ bs) d h outside (suc i) = beside_at P xs bs d h.1 outside i
