-- Cross-checks only: rules told a second time.
-- Request Q-11: what a partner's own row, its answers and a mixture of rows mean; a row with one event of each partner is a case of them.
-- Proves: of_partner-one, of_partner-append, answers_to-one, answers_to-append, interleaved-sums, interleaved-swaps, versions-own-means,
-- permuted-interleaved.
use mathlib.Core.Path.{◌≡◌, refl, sym, ap, subst, ◌∙◌}
use mathlib.Core.Logic.{◌↔◌}
use mathlib.Core.Bool.{Bool, true, false, cond}
use mathlib.Core.List.{List, [], ◌∷◌, ◌++◌, map, foldr, append_assoc}
use Prim.Native.Nat.{ℕ, zero, suc, ◌+◌, ◌<◌}
use native.Mathlib.Omega.{arith}
use lib.ListN.{length, get_or}
use Rattle.wire.specs.Bytes.{byte}
use Rattle.wire.specs.Sums.{sum}
use Rattle.wire.proofs.Tests.{true-false}
use Rattle.record.specs.Partners.{same_partner}
use Rattle.record.specs.declared.partner.Partner.{Partner}
use Rattle.record.proofs.Partners.{same-eq, same_partner-means}
use Rattle.unit.specs.Kept.{is_version}
use Rattle.wire.specs.Bytes.{as_bit}
use Rattle.unit.specs.OnRecords.{trace}
use Rattle.unit.specs.declared.state.State.{State}
use Rattle.history.specs.Histories.{after}
use Rattle.history.specs.EitherOrder.{Delivered, Differ, versions, answer_of, next, alone}
use Rattle.history.specs.Interleaved.{records_of}
use Rattle.history.specs.Permuted.{DifferAll, Different}
use Rattle.history.specs.Permuted.{Permuted, empty, keeps, swaps, joins}
use Rattle.history.specs.Interleaved.{of_partner, Interleaved, answers_to}
use Rattle.history.proofs.EitherOrder.{different-permuted}
use Rattle.history.proofs.Interleaved.{First, at, past, none_left, interleaved-first, versions-own}
use Rattle.history.proofs.EitherMeans.{delivered-partner}

-- the record has these type and number bytes
abbrev Names : Partner → Delivered → Type 0
Names p x =
    (p.kind ≡ byte x.bytes 1)
    × (p.high ≡ byte x.bytes 2)
    × (p.middle ≡ byte x.bytes 3)
    × (p.low ≡ byte x.bytes 4)

-- what depends on whether the record names the partner, by its bytes
by_names : {A : Type 0} (p : Partner) (x : Delivered) (here elsewhere : A)
    → (Names p x → cond (same_partner p x.partner) here elsewhere ≡ here)
    × ((Names p x → ⊥) → cond (same_partner p x.partner) here elsewhere ≡ elsewhere)
by_names {A} p x here elsewhere = by (same_partner p x.partner) refl
  where
    mine : Names x.partner x
    mine = delivered-partner x

    by : (b : Bool)
        → same_partner p x.partner ≡ b
        → (Names p x → cond b here elsewhere ≡ here) × ((Names p x → ⊥) → cond b here elsewhere ≡ elsewhere)
    by true is =
        let same = (same_partner-means p x.partner).0 is in (
          (λ h. refl),
          (λ other. absurd (other (same.0 ∙ mine.0, same.1 ∙ mine.1, same.2 ∙ mine.2, same.3 ∙ mine.3))),
        )
    by false is = (
      (λ h.
          true-false (same_partner p x.partner)
          ((same_partner-means p x.partner).1
          (h.0 ∙ sym mine.0, h.1 ∙ sym mine.1, h.2 ∙ sym mine.2, h.3 ∙ sym mine.3))
          is),
      (λ other. refl),
    )

module _ (p : Partner) where
  -- a partner's own row: the records that have its type and number bytes
  -- meaning
  pub of_partner-one : (x : Delivered)
      → ((p.kind ≡ byte x.bytes 1)
      × (p.high ≡ byte x.bytes 2)
      × (p.middle ≡ byte x.bytes 3)
      × (p.low ≡ byte x.bytes 4)
      → of_partner p (x ∷ []) ≡ x ∷ [])
      × (((p.kind ≡ byte x.bytes 1)
      × (p.high ≡ byte x.bytes 2)
      × (p.middle ≡ byte x.bytes 3)
      × (p.low ≡ byte x.bytes 4)
      → ⊥)
      → of_partner p (x ∷ []) ≡ [])
  unfolding of_partner
  of_partner-one x =
      let found = by_names p x (x ∷ []) [] in
      ((λ h. ap (λ row. row ++ []) (found.0 h)), (λ other. ap (λ row. row ++ []) (found.1 other)))

  -- in their order
  -- meaning
  pub of_partner-append : (xs ys : List Delivered) → of_partner p (xs ++ ys) ≡ of_partner p xs ++ of_partner p ys
  unfolding of_partner
  of_partner-append [] ys = refl
  of_partner-append (x ∷ xs) ys =
      let own = cond (same_partner p x.partner) (x ∷ []) [] in
      ap (◌++◌ own) (of_partner-append xs ys) ∙ sym (append_assoc own (of_partner p xs) (of_partner p ys))

  -- what a record gets is the partner's where the record has its type and number bytes
  -- meaning
  pub answers_to-one : (s : State) (x : Delivered)
      → ((p.kind ≡ byte x.bytes 1)
      × (p.high ≡ byte x.bytes 2)
      × (p.middle ≡ byte x.bytes 3)
      × (p.low ≡ byte x.bytes 4)
      → answers_to p s (x ∷ []) ≡ map answer_of (trace s (x.bytes ∷ [])))
      × (((p.kind ≡ byte x.bytes 1)
      × (p.high ≡ byte x.bytes 2)
      × (p.middle ≡ byte x.bytes 3)
      × (p.low ≡ byte x.bytes 4)
      → ⊥)
      → answers_to p s (x ∷ []) ≡ [])
  unfolding answers_to trace
  answers_to-one s x =
      let found = by_names p x (alone s x ∷ []) [] in
      ((λ h. ap (λ row. row ++ []) (found.0 h)), (λ other. ap (λ row. row ++ []) (found.1 other)))

  -- in their order, each record met by the state after all records before it, whoever they name
  -- meaning
  pub answers_to-append : (s : State) (xs ys : List Delivered)
      → answers_to p s (xs ++ ys) ≡ answers_to p s xs ++ answers_to p (after s (records_of xs)) ys
  unfolding answers_to after
  answers_to-append s [] ys = refl
  answers_to-append s (x ∷ xs) ys =
      let own = cond (same_partner p x.partner) (alone s x ∷ []) [] in
      ap (◌++◌ own) (answers_to-append (next s x) xs ys)
      ∙ sym (append_assoc own (answers_to p (next s x) xs) (answers_to p (after (next s x) (records_of xs)) ys))

first-sums : (f : List ℕ → ℕ) {x : Delivered} {ys zs : List Delivered}
    → First x ys zs
    → foldr (λ bytes n. f bytes + n) 0 (records_of (x ∷ zs)) ≡ foldr (λ bytes n. f bytes + n) 0 (records_of ys)
first-sums f (at y ys same) = ap (λ bytes. f bytes + foldr (λ bytes n. f bytes + n) 0 (records_of ys)) same
first-sums f (past y other first) =
    let later = first-sums f first in
    omega arith

-- mixtures of the same rows have the same records, each as often, whatever is counted or added up
-- meaning
pub interleaved-sums : (xs ys : List Delivered)
    → Interleaved xs ys
    → (f : List ℕ → ℕ)
    → foldr (λ bytes n. f bytes + n) 0 (records_of xs) ≡ foldr (λ bytes n. f bytes + n) 0 (records_of ys)
interleaved-sums [] [] same f = refl
interleaved-sums [] (y ∷ ys) same f = none_left y ys same
interleaved-sums (x ∷ xs) ys same f =
    let (zs, first, later) = interleaved-first x xs ys same in
    ap (◌+◌ (f x.bytes)) (interleaved-sums xs zs later f) ∙ first-sums f first

-- two of different partners may stand in either order
swap-own : (p : Partner) (x y : Delivered) (xs : List Delivered)
    → Differ x y
    → of_partner p (x ∷ y ∷ xs) ≡ of_partner p (y ∷ x ∷ xs)
unfolding of_partner
swap-own p x y xs other = by (same_partner p x.partner) (same_partner p y.partner) refl refl
  where
    by : (b c : Bool)
        → same_partner p x.partner ≡ b
        → same_partner p y.partner ≡ c
        → cond b (x ∷ []) [] ++ (cond c (y ∷ []) [] ++ of_partner p xs)
        ≡ cond c (y ∷ []) [] ++ (cond b (x ∷ []) [] ++ of_partner p xs)
    by true true here there =
        true-false (same_partner x.partner y.partner)
        (subst (λ q. same_partner q y.partner ≡ true) (same-eq p x.partner here) there)
        other
    by true false here there = refl
    by false true here there = refl
    by false false here there = refl

-- so a mixture stays one where two neighbours of different partners change places
-- meaning
pub interleaved-swaps : (x y : Delivered) (xs ys : List Delivered)
    → Differ x y
    → Interleaved (xs ++ (x ∷ y ∷ ys)) (xs ++ (y ∷ x ∷ ys))
interleaved-swaps x y xs ys other p =
    ap records_of
    (of_partner-append p xs (x ∷ y ∷ ys)
    ∙ ap (◌++◌ (of_partner p xs)) (swap-own p x y ys other)
    ∙ sym (of_partner-append p xs (y ∷ x ∷ ys)))

-- "if both are message 32": where a partner's own row has all that the row has, each message 32 of the row is its own
-- meaning
pub versions-own-means : (p : Partner) (xs : List Delivered) (d : Delivered)
    → (versions (of_partner p xs) ≡ versions xs)
    ↔ ((i : ℕ) → i < length xs → is_version (get_or xs i d).event ≡ true → same_partner p (get_or xs i d).partner ≡ true)
unfolding sum of_partner
versions-own-means p xs d = (to xs, from xs)
  where
    to : (xs : List Delivered)
        → versions (of_partner p xs) ≡ versions xs
        → (i : ℕ)
        → i < length xs
        → is_version (get_or xs i d).event ≡ true
        → same_partner p (get_or xs i d).partner ≡ true
    to [] all i below = absurd (omega arith)
    to (x ∷ xs) all zero below = (versions-own p x xs all).0
    to (x ∷ xs) all (suc i) below = to xs (versions-own p x xs all).1 i (omega arith)

    from : (xs : List Delivered)
        → ((i : ℕ) → i < length xs → is_version (get_or xs i d).event ≡ true → same_partner p (get_or xs i d).partner ≡ true)
        → versions (of_partner p xs) ≡ versions xs
    from [] each = refl
    from (x ∷ xs) each =
        by (same_partner p x.partner) (is_version x.event) refl (each 0 (omega arith))
        (from xs (λ i below. each (suc i) (omega arith)))
      where
        by : (b c : Bool)
            → is_version x.event ≡ c
            → (c ≡ true → b ≡ true)
            → versions (of_partner p xs) ≡ versions xs
            → versions (cond b (x ∷ []) [] ++ of_partner p xs) ≡ as_bit (is_version x.event) + versions xs
        by true c is own later = omega arith
        by false true is own later = true-false false (own refl) refl
        by false false is own later = let other = ap as_bit is in omega arith

-- a row with one event of each partner, in any order, is a mixture of rows of one: `row-alike` and `row_same` are of that case
-- promise
pub permuted-interleaved : {xs ys : List Delivered} → Permuted xs ys → Different xs → Interleaved xs ys
unfolding of_partner Different DifferAll
permuted-interleaved empty different p = refl
permuted-interleaved (keeps x {xs} {ys} q) different p =
    by (same_partner p x.partner) (permuted-interleaved q different.1 p)
  where
    by : (b : Bool)
        → records_of (of_partner p xs) ≡ records_of (of_partner p ys)
        → records_of (cond b (x ∷ []) [] ++ of_partner p xs) ≡ records_of (cond b (x ∷ []) [] ++ of_partner p ys)
    by true later = ap (◌∷◌ x.bytes) later
    by false later = later
permuted-interleaved (swaps x y xs) different p = ap records_of (swap-own p x y xs different.0.0)
permuted-interleaved (joins q r) different p =
    permuted-interleaved q different p ∙ permuted-interleaved r (different-permuted q different) p
