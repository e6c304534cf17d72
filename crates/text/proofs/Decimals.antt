-- "numbers are decimal": a number of a sheet reads back as itself, and is told in one way only.
-- Proves: all_append, all-at, digits-all, decimal-reads, decimal-digits, decimal-some, decimal-zero, decimal-leads.
use mathlib.Core.Path.{◌≡◌, refl, ap, ◌∙◌}
use mathlib.Core.List.{List, [], ◌∷◌, ◌++◌}
use Prim.Native.Nat.{ℕ, zero, suc, ◌+◌, ◌*◌, ◌-◌, ◌/◌, ◌%◌, ◌^◌, ◌≤◌, ◌<◌}
use native.Mathlib.Nat.{pow-suc, mul_assoc}
use native.Mathlib.Omega.{arith}
use lib.Dec.{ltb}
use lib.ListN.{length, length-append}
use borrow.Author.Tests.{ltb-true, ltb-false}
use Rattle.wire.specs.Bytes.{byte}
use Rattle.wire.proofs.Tests.{All, cond-case, cond-holds}
use Rattle.text.specs.Texts.{digit_zero, digits, decimal}
use Rattle.text.specs.Lines.{number_of}

-- one more digit at the end
number_more : (cs : List ℕ) (d : ℕ) → number_of (cs ++ (d ∷ [])) ≡ number_of cs * 10 + (d - 48)
unfolding number_of
number_more [] d = omega arith
number_more (c ∷ cs) d =
    let rest = number_more cs d in
    let long : length (cs ++ (d ∷ [])) ≡ suc (length cs) = simp length-append (omega arith) in
    let power = ap (λ n. (c - 48) * 10 ^ n) long ∙ ap (◌*◌ (c - 48)) (pow-suc 10 (length cs)) in
    let grouped = mul_assoc (c - 48) (10 ^ length cs) 10 in
    omega arith

digits-read : (k n : ℕ) → n < 10 ^ k → number_of (digits k n) ≡ n
unfolding digits number_of
digits-read zero n small = omega arith
digits-read (suc k) n small =
    let power = pow-suc 10 k in
    let rest : n / 10 < 10 ^ k = omega arith in
    let last = digit_zero + n % 10 in
    let read = digits-read k (n / 10) rest in
    cond-case (λ l. number_of l ≡ n) (ltb n 10) ((digit_zero + n) ∷ []) (digits k (n / 10) ++ (last ∷ []))
    (λ one. omega arith)
    (λ more. number_more (digits k (n / 10)) last ∙ omega arith)

-- promise
pub decimal-reads : (n : ℕ) → n < 10_000_000_000 → number_of (decimal n) ≡ n
decimal-reads n small = digits-read 10 n small

-- what holds of each of two rows holds of both, and at each place
module _ (P : ℕ → Type 0) where
  pub all_append : (xs ys : List ℕ) → All P xs → All P ys → All P (xs ++ ys)
  all_append [] ys h g = g
  all_append (x ∷ xs) ys h g = (h.0, all_append xs ys h.1 g)

  pub all-at : (xs : List ℕ) → All P xs → (i : ℕ) → i < length xs → P (byte xs i)
  all-at [] h i below = absurd (omega arith)
  all-at (x ∷ xs) h zero below = h.0
  all-at (x ∷ xs) h (suc i) below = all-at xs h.1 i (omega arith)

-- the characters of digits
pub digits-all : (P : ℕ → Type 0) → ((c : ℕ) → (48 ≤ c) × (c ≤ 57) → P c) → (k n : ℕ) → All P (digits k n)
unfolding digits
digits-all P each zero n = tt
digits-all P each (suc k) n =
    let last = digit_zero + n % 10 in
    let least : n % 10 ≤ 9 = omega arith in
    cond-case (All P) (ltb n 10) ((digit_zero + n) ∷ []) (digits k (n / 10) ++ (last ∷ []))
    (λ one.
    let small = ltb-true n 10 one in
    (each (digit_zero + n) (omega arith, omega arith), tt))
    (λ more. all_append P (digits k (n / 10)) (last ∷ []) (digits-all P each k (n / 10)) (each last (omega arith, omega arith), tt))

-- promise
pub decimal-digits : (n i : ℕ) → i < length (decimal n) → (48 ≤ byte (decimal n) i) × (byte (decimal n) i ≤ 57)
decimal-digits n i below =
    let Digit : ℕ → Type 0 = λ c. (48 ≤ c) × (c ≤ 57) in
    all-at Digit (decimal n) (digits-all Digit (λ c h. h) 10 n) i below

-- promise
pub decimal-some : (n : ℕ) → 1 ≤ length (decimal n)
unfolding digits
decimal-some n =
    let more = digits 9 (n / 10) ++ ((digit_zero + n % 10) ∷ []) in
    cond-holds (λ l. 1 ≤ length l) (ltb n 10) ((digit_zero + n) ∷ []) more (omega arith) (simp length-append (omega arith))

-- promise
pub decimal-zero : decimal 0 ≡ 48 ∷ []
unfolding digits
decimal-zero = refl

-- what the first of two rows begins with
leads-append : (xs ys : List ℕ) → 48 < byte xs 0 → 48 < byte (xs ++ ys) 0
leads-append [] ys h = absurd (omega arith)
leads-append (x ∷ xs) ys h = h

digits-lead : (k n : ℕ) → 1 ≤ n → n < 10 ^ k → 48 < byte (digits k n) 0
unfolding digits
digits-lead zero n some small = absurd (omega arith)
digits-lead (suc k) n some small =
    let power = pow-suc 10 k in
    let last = digit_zero + n % 10 in
    cond-case (λ l. 48 < byte l 0) (ltb n 10) ((digit_zero + n) ∷ []) (digits k (n / 10) ++ (last ∷ []))
    (λ one. omega arith)
    (λ more.
    let large = ltb-false n 10 more in
    leads-append (digits k (n / 10)) (last ∷ []) (digits-lead k (n / 10) (omega arith) (omega arith)))

-- no zero leads: the first digit of a number from 1 on is 1 to 9
-- promise
pub decimal-leads : (n : ℕ) → 1 ≤ n → n < 10_000_000_000 → 48 < byte (decimal n) 0
decimal-leads n some small = digits-lead 10 n some small
