-- Cross-checks only: rules told a second time.
-- Request Q-13: what the words of the promises on a rescue's list mean.
-- Proves: is_in-means, ascends-means.
use mathlib.Core.Path.{◌≡◌, refl, sym}
use mathlib.Core.Logic.{◌↔◌}
use mathlib.Core.Bool.{Bool, true, false, ◌||◌}
use mathlib.Core.List.{List, [], ◌∷◌}
use Prim.Native.Nat.{ℕ, zero, suc, ◌≤◌, ◌<◌}
use native.Mathlib.Omega.{arith}
use lib.Dec.{eqb, leb}
use lib.ListN.{length, get_or}
use borrow.Author.Tests.{eqb-true, eq-eqb, leb-true, le-leb}
use Rattle.wire.proofs.Tests.{and_left, and_right, and_both, true-false}
use Rattle.image.specs.RescueWords.{is_in, ascends}

-- a number is in a list exactly when it stands at some place of it
-- meaning
pub is_in-means : (n : ℕ) (ns : List ℕ) → (is_in n ns ≡ true) ↔ ((i : ℕ) × (i < length ns) × (get_or ns i 0 ≡ n))
unfolding is_in
is_in-means n ns = (found ns, (λ h. back ns h.0 h.1 h.2))
  where
    by : (m : ℕ) (rest : List ℕ) (b : Bool)
        → eqb n m ≡ b
        → (is_in n rest ≡ true → (i : ℕ) × (i < length rest) × (get_or rest i 0 ≡ n))
        → (b || is_in n rest) ≡ true
        → (i : ℕ) × (i < length (m ∷ rest)) × (get_or (m ∷ rest) i 0 ≡ n)
    by m rest true is later h = (0, omega arith, sym (eqb-true n m is))
    by m rest false other later h =
        let below = (later h).1 in
        (suc (later h).0, omega arith, (later h).2)

    found : (ns : List ℕ) → is_in n ns ≡ true → (i : ℕ) × (i < length ns) × (get_or ns i 0 ≡ n)
    found [] h = true-false false h refl
    found (m ∷ rest) h = by m rest (eqb n m) refl (found rest) h

    first : (a b : Bool) → a ≡ true → (a || b) ≡ true
    first true b h = refl
    first false b h = true-false false h refl

    after : (a b : Bool) → b ≡ true → (a || b) ≡ true
    after true b h = refl
    after false b h = h

    back : (ns : List ℕ) (i : ℕ) → i < length ns → get_or ns i 0 ≡ n → is_in n ns ≡ true
    back [] i below is = absurd (omega arith)
    back (m ∷ rest) zero below is = first (eqb n m) (is_in n rest) (eq-eqb n m (sym is))
    back (m ∷ rest) (suc i) below is = after (eqb n m) (is_in n rest) (back rest i (omega arith) is)

-- a list ascends from a number on exactly when its first is that or larger, and each other one larger than the one before it
-- meaning
pub ascends-means : (from : ℕ) (ns : List ℕ)
    → (ascends from ns ≡ true)
    ↔ ((0 < length ns → from ≤ get_or ns 0 0) × ((i : ℕ) → suc i < length ns → get_or ns i 0 < get_or ns (suc i) 0))
unfolding ascends
ascends-means from ns = ((λ h. (first from ns h, next from ns h)), (λ h. whole from ns h.0 h.1))
  where
    first : (from : ℕ) (ns : List ℕ) → ascends from ns ≡ true → 0 < length ns → from ≤ get_or ns 0 0
    first from [] h below = absurd (omega arith)
    first from (n ∷ rest) h below = leb-true from n (and_left (leb from n) (ascends (suc n) rest) h)

    next : (from : ℕ) (ns : List ℕ) → ascends from ns ≡ true → (i : ℕ) → suc i < length ns
        → get_or ns i 0 < get_or ns (suc i) 0
    next from [] h i below = absurd (omega arith)
    next from (n ∷ rest) h zero below =
        let above = first (suc n) rest (and_right (leb from n) (ascends (suc n) rest) h) (omega arith) in
        omega arith
    next from (n ∷ rest) h (suc i) below = next (suc n) rest (and_right (leb from n) (ascends (suc n) rest) h) i (omega arith)

    whole : (from : ℕ) (ns : List ℕ)
        → (0 < length ns → from ≤ get_or ns 0 0)
        → ((i : ℕ) → suc i < length ns → get_or ns i 0 < get_or ns (suc i) 0)
        → ascends from ns ≡ true
    whole from [] start up = refl
    whole from (n ∷ rest) start up =
        and_both (leb from n) (ascends (suc n) rest) (le-leb from n (start (omega arith)))
        (whole (suc n) rest (λ some. let above = up 0 (omega arith) in omega arith) (λ i below. up (suc i) (omega arith)))
