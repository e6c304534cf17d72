-- The tables of causes and kinds outside their entries, and reading by the first byte.
-- Defines: NoneTo.
-- Proves: cause-first, past, row-none, length_none, length_at, length_some, fields_at, long-at, read-empty, read-unknown, read_length,
-- read-fields.
use mathlib.Core.Path.{◌≡◌, refl, sym, ap, subst, ◌∙◌}
use mathlib.Core.Bool.{cond}
use mathlib.Core.List.{List, [], ◌∷◌, map}
use Prim.Native.Nat.{ℕ, zero, suc, ◌≤◌, ◌<◌}
use native.Mathlib.Omega.{arith}
use lib.Dec.{eqb}
use lib.ListN.{length, get_or, drop, get_or-eq_default}
use borrow.Author.Rules.{rules}
use borrow.Author.Tests.{le-ltb, lt-ltb, eq-eqb, ne_eqb}
use Rattle.record.specs.Records.{cause_of, known, length_of, kind_message, reading}
use Rattle.record.specs.Records.{KindRow, kinds, no_row, row_of}
use Rattle.record.specs.Rows.{fields}
use Rattle.wire.proofs.Tests.{All, get_or-map}
use Rattle.wire.specs.Bytes.{byte}
use Rattle.wire.specs.Refusals.{wrong_length, unknown_kind}
use Rattle.record.specs.declared.event.Cause.TheVariants.{StartOfMission}
use Rattle.record.specs.Readings.{Reading}
use Rattle.record.specs.Readings.{Refused}

-- a byte that is no cause of 1 to 4 stands for the first
pub cause-first : (b : ℕ)
    → (b ≡ 1 → ⊥)
    → (b ≡ 2 → ⊥)
    → (b ≡ 3 → ⊥)
    → (b ≡ 4 → ⊥)
    → cause_of b ≡ StartOfMission
cause-first zero n₁ n₂ n₃ n₄ = refl
cause-first (suc zero) n₁ n₂ n₃ n₄ = absurd (n₁ refl)
cause-first (suc (suc zero)) n₁ n₂ n₃ n₄ = absurd (n₂ refl)
cause-first (suc (suc (suc zero))) n₁ n₂ n₃ n₄ = absurd (n₃ refl)
cause-first (suc (suc (suc (suc zero)))) n₁ n₂ n₃ n₄ = absurd (n₄ refl)
cause-first (suc (suc (suc (suc (suc b))))) n₁ n₂ n₃ n₄ = refl

-- a number is none of 1 to n, as the last arm of a `match` leaves it
abbrev pub NoneTo : ℕ → ℕ → Type 0
NoneTo zero k = Unit
NoneTo (suc n) k = NoneTo n k × (k ≡ suc n → ⊥)

-- so it is 0, or above n
pub past : (n : ℕ) {k : ℕ} → NoneTo n k → 1 ≤ k → suc n ≤ k
past zero none some = some
past (suc n) none some = omega (arith, past n none.0 some, none.1)

-- no kind below 1 or above 11
pub row-none : (kind : ℕ) → (1 ≤ kind → length kinds ≤ kind) → row_of kind ≡ no_row
row-none zero above = refl
row-none (suc kind) above = get_or-eq_default kinds no_row (above (omega arith))

-- so it has no length
pub length_none : (kind : ℕ) → (1 ≤ kind → length kinds ≤ kind) → length_of kind ≡ 0
length_none kind above = ap (λ r. r.size) (row-none kind above)

-- the column of lengths, read at a kind
pub length_at : (lengths : List ℕ) (kind : ℕ) → map (λ r. r.size) kinds ≡ lengths → get_or lengths kind 0 ≡ length_of kind
length_at lengths kind same = ap (λ l. get_or l kind 0) (sym same) ∙ get_or-map (λ r. r.size) kinds kind no_row

-- and each of 1 to 11 has one
pub length_some : (kind : ℕ) → (kind ≡ 0 → ⊥) → kind ≤ kind_message → 1 ≤ length_of kind
length_some zero other below = absurd (other refl)
length_some (suc kind) other below = by (drop 1 kinds) (search rules) kind (omega arith)
  where
    by : (l : List KindRow) → All (λ r. 1 ≤ r.size) l → (i : ℕ) → i < length l → 1 ≤ (get_or l i no_row).size
    by [] h i inside = absurd (omega arith)
    by (x ∷ xs) h zero inside = h.0
    by (x ∷ xs) h (suc i) inside = by xs h.1 i (omega arith)

-- what the fields of a record of a known kind mean
pub fields_at : (s : List ℕ) (kind i : ℕ) (r : Reading) → kind ≡ i → r ≡ fields (row_of i) s → r ≡ fields (row_of kind) s
fields_at s kind i r e h = h ∙ ap (λ k. fields (row_of k) s) (sym e)

-- and how long it is at least
pub long-at : (s : List ℕ) {kind : ℕ} (i : ℕ) → kind ≡ i → length_of kind ≤ length s → length_of i ≤ length s
long-at s i e h = subst (λ k. length_of k ≤ length s) e h

-- what `reading` is, by the length that the first byte's kind has
module _ (s : List ℕ) where
  pub read-empty : length s ≡ 0 → Refused wrong_length ≡ reading s
  unfolding reading
  read-empty = by s
    where
      by : (s : List ℕ) → length s ≡ 0 → Refused wrong_length ≡ reading s
      by [] h = refl
      by (kind ∷ body) h = absurd (omega arith)

  abbrev kind : ℕ
  kind = byte s 0

  by_kind :
      (length s ≡ 0 → ⊥)
      → reading s
      ≡ cond (known kind) (cond (eqb (length s) (length_of kind)) (fields (row_of kind) s) (Refused wrong_length)) (Refused unknown_kind)
  unfolding reading
  by_kind = by s
    where
      by : (s : List ℕ)
          → (length s ≡ 0 → ⊥)
          → reading s
          ≡ cond (known (byte s 0))
          (cond (eqb (length s) (length_of (byte s 0))) (fields (row_of (byte s 0)) s) (Refused wrong_length))
          (Refused unknown_kind)
      by [] h = absurd (h refl)
      by (kind ∷ body) h = refl

  module _ (some : length s ≡ 0 → ⊥) where
    pub read-unknown : (1 ≤ byte s 0 → length kinds ≤ byte s 0) → Refused unknown_kind ≡ reading s
    read-unknown none = sym (by_kind some ∙ simp (le-ltb 0 (length_of kind) (omega (arith, length_none kind none))))

    module _ (l : ℕ) (of-kind : l ≡ length_of (byte s 0)) (has : 1 ≤ length_of (byte s 0)) where
      pub read_length : (length s ≡ l → ⊥) → Refused wrong_length ≡ reading s
      read_length other =
          let differs = ne_eqb (length s) (length_of kind) (λ e. other (e ∙ sym of-kind)) in
          sym (by_kind some ∙ simp (lt-ltb 0 (length_of kind) has, differs))

      pub read-fields : length s ≡ l → fields (row_of (byte s 0)) s ≡ reading s
      read-fields same =
          sym (by_kind some ∙ simp (lt-ltb 0 (length_of kind) has, eq-eqb (length s) (length_of kind) (same ∙ of-kind)))
