-- Tests joined by `||` or with a known one: which of two passes, and what is left.
-- Proves: or-either, or-first, or-second, no-first, no_second, or-none, and_none, not-less, fails-then.
use mathlib.Core.Path.{◌≡◌, refl, ap}
use mathlib.Core.Bool.{Bool, true, false, ◌&&◌, ◌||◌, not}
use mathlib.Core.Logic.{◌⊎◌, inl, inr}
use Rattle.wire.proofs.Tests.{true-false}

-- one of two tests passes
pub or-either : (a b : Bool) → (a || b) ≡ true → (a ≡ true) ⊎ (b ≡ true)
or-either true b h = inl refl
or-either false b h = inr h

-- where the first passes, one does
pub or-first : (a b : Bool) → a ≡ true → (a || b) ≡ true
or-first true b h = refl
or-first false b h = true-false false h refl

-- where the second passes, one does
pub or-second : (a b : Bool) → b ≡ true → (a || b) ≡ true
or-second true b h = refl
or-second false b h = h

-- where none passes, the first fails
pub no-first : (a b : Bool) → (a || b) ≡ false → a ≡ false
no-first true b h = h
no-first false b h = refl

-- where none passes, the second fails
pub no_second : (a b : Bool) → (a || b) ≡ false → b ≡ false
no_second true b h = true-false true refl h
no_second false b h = h

-- a test, or one that fails, is the test
pub or-none : (b : Bool) → (b || false) ≡ b
or-none true = refl
or-none false = refl

-- a test, and one that fails, fails
pub and_none : (b : Bool) → (b && false) ≡ false
and_none true = refl
and_none false = refl

-- where a test fails, one that implies it fails
pub not-less : (a b : Bool) → (b ≡ true → a ≡ true) → not a ≡ true → not b ≡ true
not-less a true less fails = true-false (not a) fails (ap not (less refl))
not-less a false less fails = refl

-- a test that fails where it passes fails
pub fails-then : (b : Bool) → (b ≡ true → b ≡ false) → b ≡ false
fails-then true then = then refl
fails-then false then = refl
