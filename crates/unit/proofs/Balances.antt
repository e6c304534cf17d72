-- An account either holds to the last action or bounds from above: one law of accounts serves both.
-- Defines: Sense, Balance.
-- Proves: level, stored, joined, followed, opened, moved.
use mathlib.Core.Path.{◌≡◌}
use Prim.Native.Nat.{ℕ, ◌+◌, ◌≤◌}
use native.Mathlib.Omega.{arith}

-- which of the two
pub data Sense : Type 0 where
  at_most : Sense
  exactly : Sense

-- what was given out against what came in
abbrev pub Balance : Sense → ℕ → ℕ → Type 0
Balance at_most out came = out ≤ came
Balance exactly out came = out ≡ came

-- what is equal is balanced
pub level : (m : Sense) (a b : ℕ) → a ≡ b → Balance m a b
level at_most a b h = omega arith
level exactly a b h = h

-- a place that gives out k and turns from old to new, among all the places
pub stored : (m : Sense) (k new old b before after : ℕ)
    → after + old ≡ before + new
    → Balance m (k + new) (old + b)
    → Balance m (k + after) (before + b)
stored at_most k new old b before after store h = omega arith
stored exactly k new old b before after store h = omega arith

-- two accounts side by side
pub joined : (m : Sense) (j k x y v w b c : ℕ)
    → Balance m (j + x) (v + b)
    → Balance m (k + y) (w + c)
    → Balance m ((j + k) + (x + y)) ((v + w) + (b + c))
joined at_most j k x y v w b c h g = omega arith
joined exactly j k x y v w b c h g = omega arith

-- one account after the other
pub followed : (m : Sense) (j k x y z b c : ℕ)
    → Balance m (j + y) (x + b)
    → Balance m (k + z) (y + c)
    → Balance m ((j + k) + z) (x + (b + c))
followed at_most j k x y z b c h g = omega arith
followed exactly j k x y z b c h g = omega arith

-- a place that weighed nothing adds nothing
pub opened : (m : Sense) (out came old : ℕ) → old ≡ 0 → Balance m out came → Balance m out (old + came)
opened at_most out came old none h = omega arith
opened exactly out came old none h = omega arith

-- the same account, its sums written another way
pub moved : (m : Sense) (out came out' came' : ℕ)
    → out' ≡ out
    → came' ≡ came
    → Balance m out came
    → Balance m out' came'
moved at_most out came out' came' e f h = omega arith
moved exactly out came out' came' e f h = omega arith
