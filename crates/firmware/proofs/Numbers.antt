-- The numbers that a call answers, in 32 bits with a sign.
-- Proves: minus-fits, minus-own, count_fits, count-own, back.
use mathlib.Core.Path.{◌≡◌, ap, ◌∙◌}
use Prim.Native.Nat.{ℕ, zero, suc, ◌≤◌, ◌<◌}
use native.Mathlib.Omega.{arith}
use lib.IntN.{ℤ, pos, neg_ℤ, ◌-ℤ◌, +ℤ_idl}
use mir.Syntax.{w32}
use mir.Val.{SFits, to_z, of_z}
use mir.Facts.{to_z-of_z, to_z_pos}

-- minus a byte fits
pub minus-fits : (n : ℕ) → n < 256 → SFits w32 (neg_ℤ (pos n))
minus-fits zero small = record { sfits = omega arith }
minus-fits (suc n) small = record { sfits = omega arith }

-- and is 0 less the byte
pub minus-own : (n : ℕ) → n < 256 → (pos 0 -ℤ to_z w32 n) ≡ neg_ℤ (pos n)
minus-own n small = ap (λ (z : ℤ). pos 0 -ℤ z) (to_z_pos w32 {n = n} (omega arith)) ∙ +ℤ_idl (neg_ℤ (pos n))

-- a number of actions
pub count_fits : (n : ℕ) → n ≤ 4 → SFits w32 (pos n)
count_fits n few = record { sfits = omega arith }

pub count-own : (n : ℕ) → n ≤ 4 → to_z w32 n ≡ pos n
count-own n few = to_z_pos w32 {n = n} (omega arith)

-- what fits comes back from its bits
pub back : (z y : ℤ) → (z ≡ y) × SFits w32 y → to_z w32 (of_z w32 z) ≡ y
back z y is = ap (λ (x : ℤ). to_z w32 (of_z w32 x)) is.0 ∙ to_z-of_z is.1
