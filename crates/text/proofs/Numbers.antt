-- Decimal digits: how many a number has, and the last one apart from the others.
-- Proves: decimal-one, decimal-more, decimal-long, digits-few.
use mathlib.Core.Path.{◌≡◌, refl, sym, ap, ◌∙◌}
use mathlib.Core.Bool.{Bool, true, false, cond}
use mathlib.Core.List.{List, [], ◌∷◌, ◌++◌}
use Prim.Native.Nat.{ℕ, zero, suc, ◌+◌, ◌*◌, ◌/◌, ◌%◌, ◌^◌, ◌≤◌, ◌<◌}
use native.Mathlib.Nat.{pow-suc}
use native.Mathlib.Omega.{arith}
use lib.Dec.{ltb}
use lib.ListN.{length, length-append}
use borrow.Author.Tests.{lt-ltb, le-ltb}
use Rattle.std.proofs.Math.Nat.{one-le-pow}
use Rattle.wire.proofs.Tests.{cond-holds}
use Rattle.text.specs.Texts.{digit_zero, digits, decimal}

cond-other : (b : Bool) (x y z : List ℕ) → (b ≡ false → y ≡ z) → cond b x y ≡ cond b x z
cond-other true x y z same = refl
cond-other false x y z same = same refl

-- one digit more than a number has may be asked
digits-enough : (k n : ℕ) → n < 10 ^ suc k → digits (suc (suc k)) n ≡ digits (suc k) n
unfolding digits
digits-enough zero n small = simp (lt-ltb n 10 small)
digits-enough (suc k) n small =
    let power : 10 ^ suc (suc k) ≡ 10 ^ suc k * 10 = pow-suc 10 (suc k) in
    let rest = digits-enough k (n / 10) (omega arith) in
    cond-other (ltb n 10) ((digit_zero + n) ∷ []) (digits (suc (suc k)) (n / 10) ++ ((digit_zero + n % 10) ∷ []))
    (digits (suc k) (n / 10) ++ ((digit_zero + n % 10) ∷ []))
    (λ more. ap (λ l. l ++ ((digit_zero + n % 10) ∷ [])) rest)

pub decimal-one : (n : ℕ) → n < 10 → decimal n ≡ (digit_zero + n) ∷ []
unfolding digits
decimal-one n small = simp (lt-ltb n 10 small)

pub decimal-more : (n : ℕ) → 10 ≤ n → n < 10_000_000_000 → decimal n ≡ decimal (n / 10) ++ ((digit_zero + n % 10) ∷ [])
unfolding digits
decimal-more n large small =
    let all : digits 10 (n / 10) ≡ digits 9 (n / 10) = digits-enough 8 (n / 10) (omega arith) in
    ap (λ b. cond b ((digit_zero + n) ∷ []) (digits 9 (n / 10) ++ ((digit_zero + n % 10) ∷ []))) (le-ltb n 10 large)
    ∙ ap (λ l. l ++ ((digit_zero + n % 10) ∷ [])) (sym all)

-- from a power of ten to the next
pub decimal-long : (k n : ℕ)
    → 10 ^ k ≤ n
    → n < 10 * 10 ^ k
    → n < 10_000_000_000
    → length (decimal n) ≡ k + 1
decimal-long zero n least most small = ap length (decimal-one n (omega arith))
decimal-long (suc k) n least most small =
    let power : 10 ^ suc k ≡ 10 ^ k * 10 = pow-suc 10 k in
    let some : 1 ≤ 10 ^ k = one-le-pow k 10 (omega arith) in
    let rest = decimal-long k (n / 10) (omega arith) (omega arith) (omega arith) in
    ap length (decimal-more n (omega arith) small) ∙ length-append (decimal (n / 10)) _ ∙ omega arith

-- a number has at most as many digits as asked
pub digits-few : (k n : ℕ) → length (digits k n) ≤ k
unfolding digits
digits-few zero n = omega arith
digits-few (suc k) n =
    let rest = digits-few k (n / 10) in
    let more = digits k (n / 10) ++ ((digit_zero + n % 10) ∷ []) in
    cond-holds (λ l. length l ≤ suc k) (ltb n 10) ((digit_zero + n) ∷ []) more (omega arith) (simp length-append (omega arith))
