-- What stands where bytes are due, by what the code's tests showed.
-- Proves: starts-fits, starts-library, compared-right, compared-part, right-fits.
use mathlib.Core.Path.{◌≡◌, refl, sym, ap, ◌∙◌}
use mathlib.Core.Bool.{Bool, true, false, cond, ◌&&◌}
use mathlib.Core.List.{List, [], ◌∷◌}
use Prim.Native.Nat.{ℕ, ◌-◌, ◌≤◌, ◌<◌}
use native.Mathlib.Omega.{arith}
use lib.Dec.{eqb, ltb}
use lib.ListN.{length, take, drop, length-drop}
use lib.Seq.{take_all}
use lib.Pointwise.{pointwise}
use Rattle.wire.specs.Bytes.{byte}
use Rattle.wire.proofs.Tests.{and_right, cond-case, true-false}
use Rattle.judge.specs.Judging.{starts_with, compared, is_right}
use Rattle.judge.specs.declared.due.Finding.TheVariants.{Right, Wrong, Short}

-- bytes that begin with these are as many
pub starts-fits : (due rest : List ℕ) → starts_with due rest ≡ true → length due ≤ length rest
unfolding starts_with
starts-fits [] rest starts = omega arith
starts-fits (b ∷ due) [] starts = true-false false starts refl
starts-fits (b ∷ due) (c ∷ rest) starts =
    let fits = starts-fits due rest (and_right (eqb b c) (starts_with due rest) starts) in
    omega arith

-- the library's test is the definition's
pub starts-library : (due rest : List ℕ) → starts_with due rest ≡ pointwise eqb due (take (length due) rest)
unfolding starts_with
starts-library [] rest = refl
starts-library (b ∷ due) [] = refl
starts-library (b ∷ due) (c ∷ rest) = ap (◌&&◌ (eqb b c)) (starts-library due rest)

-- where something is left: the bytes that are due, and others
compared-some : (due rest : List ℕ)
    → 1 ≤ length rest
    → cond (starts_with due rest) Right (cond (eqb (byte rest 0) (byte due 0) && ltb (length rest) (length due)) Short Wrong)
    ≡ compared due rest
compared-some due [] some = absurd (omega arith)
compared-some due (kind ∷ rest) some = refl

module _ (due sheet : List ℕ) (at : ℕ) (below : at < length sheet) (starts : Bool)
    (told : starts ≡ pointwise eqb due (take (length due) (take (length sheet - at) (drop at sheet)))) where
  abbrev rest : List ℕ
  rest = take (length sheet - at) (drop at sheet)

  lent : rest ≡ drop at sheet
  lent = take_all (length sheet - at) (drop at sheet) (omega (arith, length-drop at sheet))

  tested : cond starts Right (cond (eqb (byte rest 0) (byte due 0) && ltb (length rest) (length due)) Short Wrong)
      ≡ compared due (drop at sheet)
  tested =
      ap (λ b. cond b Right (cond (eqb (byte rest 0) (byte due 0) && ltb (length rest) (length due)) Short Wrong))
      (told ∙ sym (starts-library due rest))
      ∙ ap (λ l. cond (starts_with due l) Right (cond (eqb (byte l 0) (byte due 0) && ltb (length l) (length due)) Short Wrong)) lent
      ∙ compared-some due (drop at sheet) (omega (arith, length-drop at sheet))

  pub compared-right : starts ≡ true → Right ≡ compared due (drop at sheet)
  compared-right is =
      sym (ap (λ b. cond b Right (cond (eqb (byte rest 0) (byte due 0) && ltb (length rest) (length due)) Short Wrong)) is)
      ∙ tested

  module _ (other : starts ≡ false) where
    pub compared-part : (part : Bool)
        → part ≡ (eqb (byte rest 0) (byte due 0) && ltb (length rest) (length due))
        → cond part Short Wrong ≡ compared due (drop at sheet)
    compared-part part is =
        ap (λ b. cond b Short Wrong) is
        ∙ sym (ap (λ b. cond b Right (cond (eqb (byte rest 0) (byte due 0) && ltb (length rest) (length due)) Short Wrong)) other)
        ∙ tested

-- where the due bytes stand, they fit
pub right-fits : (due rest : List ℕ) → is_right (compared due rest) ≡ true → length due ≤ length rest
right-fits due [] right = true-false false right refl
right-fits due (kind ∷ rest) right =
    cond-case (λ s. is_right s ≡ true → length due ≤ length (kind ∷ rest)) (starts_with due (kind ∷ rest)) Right
    (cond (eqb kind (byte due 0) && ltb (length (kind ∷ rest)) (length due)) Short Wrong)
    (λ starts on. starts-fits due (kind ∷ rest) starts)
    (λ other.
    cond-case (λ s. is_right s ≡ true → length due ≤ length (kind ∷ rest))
    (eqb kind (byte due 0) && ltb (length (kind ∷ rest)) (length due)) Short Wrong
    (λ short on. true-false false on refl)
    (λ wrong on. true-false false on refl))
    right
