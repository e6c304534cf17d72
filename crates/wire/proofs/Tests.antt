-- Tests that pass, joined by `&&` and chosen by `cond`.
-- Defines: All.
-- Proves: and_left, and_right, and_both, true-false, cond-case, cond-holds, get_or-all, get_or-map.
use mathlib.Core.Path.{◌≡◌, refl}
use mathlib.Core.Bool.{Bool, true, false, cond, ◌&&◌}
use mathlib.Core.List.{List, [], ◌∷◌, map}
use Prim.Native.Nat.{ℕ, zero, suc}
use native.Mathlib.Omega.{arith}
use lib.ListN.{get_or}

pub and_left : (a b : Bool) → (a && b) ≡ true → a ≡ true
and_left true b h = refl
and_left false b h = h

pub and_right : (a b : Bool) → (a && b) ≡ true → b ≡ true
and_right true b h = h
and_right false b h = absurd (let z : ◌≡◌ {A = ℕ} 0 1 = cc in omega arith)

pub and_both : (a b : Bool) → a ≡ true → b ≡ true → (a && b) ≡ true
and_both true b h g = g
and_both false b h g = h

-- true is not false
pub true-false : {A : Type 0} (b : Bool) → b ≡ true → b ≡ false → A
true-false b h g = absurd (let z : ◌≡◌ {A = ℕ} 0 1 = cc in omega arith)

-- what holds of both choices, each where its test says so, holds of the chosen one
pub cond-case {ℓ κ} : {A : Type ℓ} (P : A → Type κ) (b : Bool) (x y : A)
    → (b ≡ true → P x)
    → (b ≡ false → P y)
    → P (cond b x y)
cond-case P true x y f g = f refl
cond-case P false x y f g = g refl

pub cond-holds {ℓ κ} : {A : Type ℓ} (P : A → Type κ) (b : Bool) (x y : A) → P x → P y → P (cond b x y)
cond-holds P true x y f g = f
cond-holds P false x y f g = g

-- what holds of each entry of a table, and of what stands outside it, holds at every place
abbrev pub All {ℓ κ} : {A : Type ℓ} (P : A → Type κ) → List A → Type κ
All P [] = Unit
All P (x ∷ xs) = P x × All P xs

pub get_or-all {ℓ κ} : {A : Type ℓ} (P : A → Type κ) (l : List A) (d : A) → All P l → P d → (i : ℕ) → P (get_or l i d)
get_or-all P [] d h g i = g
get_or-all P (x ∷ xs) d h g zero = h.0
get_or-all P (x ∷ xs) d h g (suc i) = get_or-all P xs d h.1 g i

-- an entry of a table that is made of another one
pub get_or-map : {A B : Type 0} (f : A → B) (xs : List A) (i : ℕ) (d : A) → get_or (map f xs) i (f d) ≡ f (get_or xs i d)
get_or-map f [] i d = refl
get_or-map f (x ∷ xs) zero d = refl
get_or-map f (x ∷ xs) (suc i) d = get_or-map f xs i d
