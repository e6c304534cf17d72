-- Rows of place numbers: who is among them, all of them, each once; and sums over the numbers below n.
-- Proves: among-append, among-kept, kept-among, among-every, every-each, every_drop, distinct-kept, distinct_append, distinct-drop,
-- sum_to-same, sum_to-plus, sum_to-first, sum_to-none, sum_to-row, among-take, among-drop, distinct-take.
use mathlib.Core.Path.{◌≡◌, refl, sym, ap, ap₂, ◌∙◌}
use mathlib.Core.Bool.{Bool, true, false, cond, ◌||◌, not, or_assoc}
use mathlib.Core.Logic.{◌⊎◌, inl, inr}
use mathlib.Core.List.{List, [], ◌∷◌, ◌++◌}
use Prim.Native.Nat.{ℕ, zero, suc, ◌+◌, ◌<◌}
use native.Mathlib.Omega.{arith}
use lib.Dec.{eqb}
use lib.ListN.{length, take, drop}
use borrow.Author.Tests.{not-true, eqb-true, eqb-false, eq-eqb, ne_eqb}
use Rattle.wire.proofs.Tests.{and_left, and_right, and_both, true-false}
use Rattle.wire.specs.Bytes.{as_bit}
use Rattle.shunter.specs.Queues.{among, every, distinct, sum_to}
use Rattle.shunter.specs.Shunting.{kept}
use Rattle.shunter.proofs.TwoTests.{or-either, or-first, or-second, no-first, no_second, not-less}

-- among two rows
pub among-append : (i : ℕ) (is js : List ℕ) → among i (is ++ js) ≡ (among i is || among i js)
unfolding among
among-append i [] js = refl
among-append i (k ∷ is) js =
    ap (◌||◌ (eqb i k)) (among-append i is js) ∙ sym (or_assoc (eqb i k) (among i is) (among i js))

module _ (test : ℕ → Bool) where
  -- one of those that pass is one of them all, and passes
  pub among-kept : (i : ℕ) (is : List ℕ) → among i (kept test is) ≡ true → (among i is ≡ true) × (test i ≡ true)
  unfolding among kept
  among-kept i [] h = true-false false h refl
  among-kept i (k ∷ is) h = by (test k) refl (among-kept i is) h
    where
      either : test k ≡ true
          → (among i (kept test is) ≡ true → (among i is ≡ true) × (test i ≡ true))
          → (eqb i k ≡ true) ⊎ (among i (kept test is) ≡ true)
          → ((eqb i k || among i is) ≡ true) × (test i ≡ true)
      either passes rest (inl same) = (or-first (eqb i k) (among i is) same, ap test (eqb-true i k same) ∙ passes)
      either passes rest (inr more) = (or-second (eqb i k) (among i is) (rest more).0, (rest more).1)

      by : (b : Bool)
          → test k ≡ b
          → (among i (kept test is) ≡ true → (among i is ≡ true) × (test i ≡ true))
          → among i (cond b (k ∷ kept test is) (kept test is)) ≡ true
          → ((eqb i k || among i is) ≡ true) × (test i ≡ true)
      by true passes rest h = either passes rest (or-either (eqb i k) (among i (kept test is)) h)
      by false fails rest h = (or-second (eqb i k) (among i is) (rest h).0, (rest h).1)

  -- and the other way
  pub kept-among : (i : ℕ) (is : List ℕ) → among i is ≡ true → test i ≡ true → among i (kept test is) ≡ true
  unfolding among kept
  kept-among i [] h passes = h
  kept-among i (k ∷ is) h passes = either (λ rest. kept-among i is rest passes) (or-either (eqb i k) (among i is) h)
    where
      by : (b : Bool) → among i (kept test is) ≡ true → among i (cond b (k ∷ kept test is) (kept test is)) ≡ true
      by true more = or-second (eqb i k) (among i (kept test is)) more
      by false more = more

      either : (among i is ≡ true → among i (kept test is) ≡ true)
          → (eqb i k ≡ true) ⊎ (among i is ≡ true)
          → among i (cond (test k) (k ∷ kept test is) (kept test is)) ≡ true
      either rest (inl same) =
          let own : test k ≡ true = ap test (sym (eqb-true i k same)) ∙ passes in
          ap (λ b. among i (cond b (k ∷ kept test is) (kept test is))) own ∙ or-first (eqb i k) (among i (kept test is)) same
      either rest (inr more) = by (test k) (rest more)

  -- one of a row of which all pass
  pub among-every : (i : ℕ) (is : List ℕ) → every test is ≡ true → among i is ≡ true → test i ≡ true
  unfolding among every
  among-every i [] all h = true-false false h refl
  among-every i (k ∷ is) all h =
      either (among-every i is (and_right (test k) (every test is) all)) (or-either (eqb i k) (among i is) h)
    where
      either : (among i is ≡ true → test i ≡ true) → (eqb i k ≡ true) ⊎ (among i is ≡ true) → test i ≡ true
      either rest (inl same) = ap test (eqb-true i k same) ∙ and_left (test k) (every test is) all
      either rest (inr more) = rest more

  -- all pass where each does
  pub every-each : (is : List ℕ) → ((i : ℕ) → among i is ≡ true → test i ≡ true) → every test is ≡ true
  unfolding among every
  every-each [] each = refl
  every-each (k ∷ is) each =
      and_both (test k) (every test is) (each k (or-first (eqb k k) (among k is) (eq-eqb k k refl)))
      (every-each is (λ i h. each i (or-second (eqb i k) (among i is) h)))

  -- without the first n
  pub every_drop : (n : ℕ) (is : List ℕ) → every test is ≡ true → every test (drop n is) ≡ true
  unfolding every
  every_drop zero is all = all
  every_drop (suc n) [] all = refl
  every_drop (suc n) (k ∷ is) all = every_drop n is (and_right (test k) (every test is) all)

  -- those that pass stand once where all do
  pub distinct-kept : (is : List ℕ) → distinct is ≡ true → distinct (kept test is) ≡ true
  unfolding distinct kept
  distinct-kept [] apart = refl
  distinct-kept (k ∷ is) apart = by (test k) (distinct-kept is (and_right (not (among k is)) (distinct is) apart))
    where
      by : (b : Bool) → distinct (kept test is) ≡ true → distinct (cond b (k ∷ kept test is) (kept test is)) ≡ true
      by true rest =
          and_both (not (among k (kept test is))) (distinct (kept test is))
          (not-less (among k is) (among k (kept test is)) (λ h. (among-kept k is h).0)
          (and_left (not (among k is)) (distinct is) apart))
          rest
      by false rest = rest

-- one more number that is not among them
pub distinct_append : (is : List ℕ) (j : ℕ) → distinct is ≡ true → among j is ≡ false → distinct (is ++ (j ∷ [])) ≡ true
unfolding distinct among
distinct_append [] j apart other = refl
distinct_append (k ∷ is) j apart other =
    and_both (not (among k (is ++ (j ∷ [])))) (distinct (is ++ (j ∷ [])))
    (ap not (among-append k is (j ∷ []) ∙ joined))
    (distinct_append is j (and_right (not (among k is)) (distinct is) apart) (no_second (eqb j k) (among j is) other))
  where
    joined : (among k is || (eqb k j || false)) ≡ false
    joined =
        ap₂ (λ a b. a || (b || false)) (not-true (among k is) (and_left (not (among k is)) (distinct is) apart))
        (ne_eqb k j (λ same. eqb-false j k (no-first (eqb j k) (among j is) other) (sym same)))

-- without the first n
pub distinct-drop : (n : ℕ) (is : List ℕ) → distinct is ≡ true → distinct (drop n is) ≡ true
unfolding distinct
distinct-drop zero is apart = apart
distinct-drop (suc n) [] apart = refl
distinct-drop (suc n) (k ∷ is) apart = distinct-drop n is (and_right (not (among k is)) (distinct is) apart)

-- sums that agree below n
pub sum_to-same : (f g : ℕ → ℕ) (n : ℕ) → ((i : ℕ) → i < n → f i ≡ g i) → sum_to n f ≡ sum_to n g
unfolding sum_to
sum_to-same f g zero same = refl
sum_to-same f g (suc n) same =
    let last = same n (omega arith) in
    let rest = sum_to-same f g n (λ i below. same i (omega arith)) in
    omega arith

-- two sums in one
pub sum_to-plus : (f g : ℕ → ℕ) (n : ℕ) → sum_to n (λ i. f i + g i) ≡ sum_to n f + sum_to n g
unfolding sum_to
sum_to-plus f g zero = refl
sum_to-plus f g (suc n) =
    let rest = sum_to-plus f g n in
    omega arith

-- the first number apart
pub sum_to-first : (f : ℕ → ℕ) (n : ℕ) → sum_to (suc n) f ≡ f 0 + sum_to n (λ i. f (suc i))
unfolding sum_to
sum_to-first f zero = omega arith
sum_to-first f (suc n) =
    let rest = sum_to-first f n in
    omega arith

-- nothing summed
pub sum_to-none : (f : ℕ → ℕ) (n : ℕ) → ((i : ℕ) → i < n → f i ≡ 0) → sum_to n f ≡ 0
unfolding sum_to
sum_to-none f zero none = refl
sum_to-none f (suc n) none =
    let last = none n (omega arith) in
    let rest = sum_to-none f n (λ i below. none i (omega arith)) in
    omega arith

-- one number counts one
sum_to-one : (k n : ℕ) → k < n → sum_to n (λ i. as_bit (eqb i k)) ≡ 1
unfolding sum_to
sum_to-one k zero below = absurd (omega arith)
sum_to-one k (suc n) below = by (eqb n k) refl (sum_to-one k n)
  where
    by : (b : Bool)
        → eqb n k ≡ b
        → (k < n → sum_to n (λ i. as_bit (eqb i k)) ≡ 1)
        → sum_to n (λ i. as_bit (eqb i k)) + as_bit b ≡ 1
    by true is rest =
        let same = eqb-true n k is in
        let none = sum_to-none (λ i. as_bit (eqb i k)) n (λ i less. ap as_bit (ne_eqb i k (λ h. omega arith))) in
        omega arith
    by false is rest =
        let other = eqb-false n k is in
        let one = rest (omega arith) in
        omega arith

-- a row of numbers below n in which none stands twice has as many as the sum counts
pub sum_to-row : (n : ℕ) (is : List ℕ)
    → distinct is ≡ true
    → ((i : ℕ) → among i is ≡ true → i < n)
    → sum_to n (λ i. as_bit (among i is)) ≡ length is
unfolding distinct among
sum_to-row n [] apart below = sum_to-none (λ i. 0) n (λ i less. refl)
sum_to-row n (k ∷ is) apart below =
    let own = sum_to-one k n (below k (or-first (eqb k k) (among k is) (eq-eqb k k refl))) in
    let rest =
    sum_to-row n is (and_right (not (among k is)) (distinct is) apart) (λ i h. below i (or-second (eqb i k) (among i is) h)) in
    let both = sum_to-plus (λ i. as_bit (eqb i k)) (λ i. as_bit (among i is)) n in
    let split =
    sum_to-same (λ i. as_bit (eqb i k || among i is)) (λ i. as_bit (eqb i k) + as_bit (among i is)) n
    (λ i less. by i (eqb i k) (among i is) refl refl) in
    omega arith
  where
    by : (i : ℕ) (a b : Bool) → eqb i k ≡ a → among i is ≡ b → as_bit (a || b) ≡ as_bit a + as_bit b
    by i true true same more =
        true-false (not (among k is)) (and_left (not (among k is)) (distinct is) apart)
        (ap (λ j. not (among j is)) (sym (eqb-true i k same)) ∙ ap not more)
    by i true false same more = refl
    by i false b same more = omega arith

-- one of the first n is one of them all
pub among-take : (n i : ℕ) (is : List ℕ) → among i (take n is) ≡ true → among i is ≡ true
unfolding among
among-take zero i is one = true-false false one refl
among-take (suc n) i [] one = one
among-take (suc n) i (k ∷ is) one = by (eqb i k) one (among-take n i is)
  where
    by : (b : Bool)
        → (b || among i (take n is)) ≡ true
        → (among i (take n is) ≡ true → among i is ≡ true)
        → (b || among i is) ≡ true
    by true one rest = refl
    by false one rest = rest one

-- one of those behind the first n is one of them all
pub among-drop : (n i : ℕ) (is : List ℕ) → among i (drop n is) ≡ true → among i is ≡ true
unfolding among
among-drop zero i is one = one
among-drop (suc n) i [] one = one
among-drop (suc n) i (k ∷ is) one = or-second (eqb i k) (among i is) (among-drop n i is one)

-- the first n stand once
pub distinct-take : (n : ℕ) (is : List ℕ) → distinct is ≡ true → distinct (take n is) ≡ true
unfolding distinct
distinct-take zero is apart = refl
distinct-take (suc n) [] apart = refl
distinct-take (suc n) (k ∷ is) apart =
    and_both (not (among k (take n is))) (distinct (take n is))
    (not-less (among k is) (among k (take n is)) (among-take n k is) (and_left (not (among k is)) (distinct is) apart))
    (distinct-take n is (and_right (not (among k is)) (distinct is) apart))
