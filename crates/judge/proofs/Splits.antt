-- Bytes that begin with other bytes, and what stands where a record other than an event is due.
-- Proves: same-front, some_bytes, starts_with-front, starts_with-split, right-starts, compared-front.
use mathlib.Core.Path.{◌≡◌, refl, sym, ap, ap₂, ◌∙◌}
use mathlib.Core.Bool.{Bool, true, false, cond, ◌&&◌}
use mathlib.Core.List.{List, [], ◌∷◌, ◌++◌}
use Prim.Native.Nat.{ℕ, ◌≤◌}
use native.Mathlib.Omega.{arith}
use lib.Dec.{eqb, ltb}
use lib.ListN.{length, take, drop}
use lib.Seq.{take-append_seam, drop-append_seam, take_at, drop_at}
use borrow.Author.Tests.{eqb-true, eq-eqb}
use Rattle.wire.specs.Bytes.{byte}
use Rattle.wire.proofs.Tests.{and_left, and_right, and_both, true-false}
use Rattle.judge.specs.declared.due.Finding.TheVariants.{Right, Wrong, Short}
use Rattle.judge.specs.Judging.{starts_with, compared, is_right}

-- the same bytes, cut at the same length
pub same-front : (a b x y : List ℕ) → length a ≡ length b → a ++ x ≡ b ++ y → (a ≡ b) × (x ≡ y)
same-front a b x y long e = (
  sym (take-append_seam a x) ∙ ap (take (length a)) e ∙ take_at b y (length a) (sym long),
  sym (drop-append_seam a x) ∙ ap (drop (length a)) e ∙ drop_at b y (length a) (sym long),
)

-- no bytes do not begin with some
pub some_bytes : {A : Type 0} (a x : List ℕ) → 1 ≤ length a → a ++ x ≡ [] → A
some_bytes [] x some e = absurd (omega arith)
some_bytes (b ∷ a) x some e = absurd (let z : ◌≡◌ {A = ℕ} 0 1 = cc in omega arith)

pub starts_with-front : (due more : List ℕ) → starts_with due (due ++ more) ≡ true
unfolding starts_with
starts_with-front [] more = refl
starts_with-front (b ∷ due) more =
    and_both (eqb b b) (starts_with due (due ++ more)) (eq-eqb b b refl) (starts_with-front due more)

pub starts_with-split : (due rest : List ℕ) → starts_with due rest ≡ true → rest ≡ due ++ drop (length due) rest
unfolding starts_with
starts_with-split [] rest starts = refl
starts_with-split (b ∷ due) [] starts = true-false false starts refl
starts_with-split (b ∷ due) (c ∷ rest) starts =
    ap₂ ◌∷◌ (sym (eqb-true b c (and_left (eqb b c) (starts_with due rest) starts)))
    (starts_with-split due rest (and_right (eqb b c) (starts_with due rest) starts))

-- what is right begins with what is due
pub right-starts : (due rest : List ℕ) → is_right (compared due rest) ≡ true → starts_with due rest ≡ true
right-starts due [] right = true-false false right refl
right-starts due (kind ∷ rest) right =
    by (starts_with due (kind ∷ rest)) (eqb kind (byte due 0) && ltb (length (kind ∷ rest)) (length due)) right
  where
    by : (a b : Bool) → is_right (cond a Right (cond b Short Wrong)) ≡ true → a ≡ true
    by true b h = refl
    by false true h = h
    by false false h = h

-- and the other way round
pub compared-front : (due more : List ℕ) → 1 ≤ length due → compared due (due ++ more) ≡ Right
compared-front [] more some = absurd (omega arith)
compared-front (b ∷ due) more some = simp (starts_with-front (b ∷ due) more)
