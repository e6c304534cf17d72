-- Cross-checks only: rules told a second time.
-- One record off the front of a log.
-- Proves: part-is, take-end, by_kind, take-unknown, take_short, part-reads, take_whole, taken-short, taken-long,
-- taken-ok, taken-twelve, taken-nothing, taken-unknown, taken-cut, taken-whole.
use mathlib.Core.Path.{◌≡◌, refl, sym, ap, ap₂, subst, ◌∙◌}
use mathlib.Core.Bool.{true, false, cond}
use mathlib.Core.Logic.{inl, inr}
use mathlib.Core.List.{List, [], ◌∷◌}
use Prim.Native.Nat.{ℕ, suc, ◌+◌, ◌-◌, ◌≤◌, ◌<◌}
use native.Mathlib.Omega.{arith}
use native.Mathlib.Nat.{add-zero}
use lib.Dec.{leb}
use lib.ListN.{length, get_or, take, drop, length-drop, drop_of_length-le}
use lib.Seq.{drop-cons, get_or-take, get_or-drop, length-take-le}
use borrow.Author.Tests.{le-ltb, lt-ltb, le-leb, lt-leb, ltb-true, leb-true, leb-false}
use Rattle.wire.proofs.Tests.{cond-case}
use Rattle.wire.specs.Refusals.{log_too_long}
use Rattle.record.specs.Records.{known, length_of, reading}
use Rattle.record.specs.Records.{kinds, row_of}
use Rattle.record.specs.Rows.{fields}
use Rattle.record.specs.Takes.{nothing_left, record_short, kind_unknown, longest_log, take_one, taken}
use Rattle.record.specs.TakeWords.{TakenOk}
use Rattle.record.specs.Readings.{Reading}
use Rattle.record.specs.Takes.{Whole, Stopped, Overlong}
use Rattle.record.proofs.ByKind.{length_none, read-fields}

-- the part of the log that is lent
pub part-is : (log : List ℕ) (at k : ℕ) → take (at + k - at) (drop at log) ≡ take k (drop at log)
part-is log at k =
    let same : at + k - at ≡ k = omega arith in
    ap (λ m. take m (drop at log)) same

module _ (log : List ℕ) (at : ℕ) where
  pub take-end : length log ≤ at → Stopped nothing_left ≡ take_one (drop at log)
  unfolding take_one
  take-end above = sym (ap take_one (drop_of_length-le log above))

  module _ (below : at < length log) where
    pub by_kind : take_one (drop at log)
        ≡ cond (known (get_or log at 0))
        (cond (leb (length_of (get_or log at 0)) (length log - at))
        (Whole (length_of (get_or log at 0)) (reading (take (length_of (get_or log at 0)) (drop at log))))
        (Stopped record_short))
        (Stopped kind_unknown)
    unfolding take_one
    by_kind =
        let kind = get_or log at 0 in
        let cut = drop-cons log at 0 below in
        let left : length (kind ∷ drop (suc at) log) ≡ length log - at = sym (ap length cut) ∙ length-drop at log in
        let long = length_of kind in
        ap take_one cut
        ∙ ap₂ (λ n l.
        cond (known kind) (cond (leb long n) (Whole long (reading (take long l))) (Stopped record_short)) (Stopped kind_unknown))
        left (sym cut)

    pub take-unknown : (1 ≤ get_or log at 0 → length kinds ≤ get_or log at 0) → Stopped kind_unknown ≡ take_one (drop at log)
    take-unknown none = sym (by_kind ∙ simp (le-ltb 0 (length_of (get_or log at 0)) (omega (arith, length_none (get_or log at 0) none))))

    module _ (l : ℕ) (of-kind : l ≡ length_of (get_or log at 0)) (has : 1 ≤ length_of (get_or log at 0)) where
      pub take_short : length log - at < l → Stopped record_short ≡ take_one (drop at log)
      take_short short =
          let long = length_of (get_or log at 0) in
          sym (by_kind ∙ simp (lt-ltb 0 long has, lt-leb long (length log - at) (omega arith)))

      module _ (fits : l ≤ length log - at) where
        -- a whole record that is lent reads as its fields
        pub part-reads : (part : List ℕ) → part ≡ take l (drop at log) → fields (row_of (get_or log at 0)) part ≡ reading part
        part-reads part lent =
            let long : length part ≡ l = ap length lent ∙ length-take-le l (drop at log) (simp length-drop (omega arith)) in
            let kind : get_or part 0 0 ≡ get_or log at 0 =
            ap (λ x. get_or x 0 0) lent
            ∙ get_or-take l (drop at log) 0 0 (omega arith)
            ∙ get_or-drop at log 0 0
            ∙ ap (λ i. get_or log i 0) (add-zero at) in
            let same : length_of (get_or log at 0) ≡ length_of (get_or part 0 0) = ap length_of (sym kind) in
            ap (λ k. fields (row_of k) part) (sym kind)
            ∙ read-fields part (λ h. omega (arith, long)) l (of-kind ∙ same) (subst (λ n. 1 ≤ n) same has) long

        pub take_whole : (r : Reading) → r ≡ reading (take l (drop at log)) → Whole l r ≡ take_one (drop at log)
        take_whole r means =
            let long = length_of (get_or log at 0) in
            ap₂ Whole of-kind (means ∙ ap (λ k. reading (take k (drop at log))) of-kind)
            ∙ sym (by_kind ∙ simp (lt-ltb 0 long has, le-leb long (length log - at) (omega arith)))

-- what is handed over is not too long
pub taken-short : (log : List ℕ) → length log ≤ longest_log → taken log ≡ take_one log
unfolding taken
taken-short log short = simp (le-leb (length log) longest_log short)

pub taken-long : (log : List ℕ) → longest_log < length log → taken log ≡ Overlong log_too_long
unfolding taken
taken-long log long = simp (lt-leb (length log) longest_log long)

one_ok : (log : List ℕ) → TakenOk log (take_one log)
unfolding take_one
one_ok [] = inl refl
one_ok (kind ∷ rest) =
    cond-case (TakenOk (kind ∷ rest)) (known kind) _ _
    (λ is_Known.
    cond-case (TakenOk (kind ∷ rest)) (leb (length_of kind) (length (kind ∷ rest))) _ _
    (λ fits. (ltb-true 0 (length_of kind) is_Known, leb-true (length_of kind) (length (kind ∷ rest)) fits, refl))
    (λ short. inr (inl refl)))
    (λ unknown. inr (inr refl))

-- "answering the record or stop 0, 2 or 3"; "12 for taking, by the length of what is handed over"
-- promise
pub taken-ok : (log : List ℕ) → TakenOk log (taken log)
unfolding taken
taken-ok log =
    cond-case (TakenOk log) (leb (length log) longest_log) (take_one log) (Overlong log_too_long)
    (λ fits. one_ok log)
    (λ long. (refl, leb-false (length log) longest_log long))

-- Q-8: "12 for taking, by the length of what is handed over"
-- promise
pub taken-twelve : (log : List ℕ) → 1_048_576 < length log → taken log ≡ Overlong 12
taken-twelve = taken-long

-- "nothing left, stop 0"
-- promise
pub taken-nothing : taken [] ≡ Stopped 0
unfolding taken take_one
taken-nothing = refl

module _ (kind : ℕ) (rest : List ℕ) (short : length (kind ∷ rest) ≤ 1_048_576) where
  -- "kind unknown, stop 3"
  -- promise
  pub taken-unknown : known kind ≡ false → taken (kind ∷ rest) ≡ Stopped 3
  unfolding take_one
  taken-unknown other = taken-short (kind ∷ rest) short ∙ simp other

  module _ (is_Known : known kind ≡ true) where
    -- "fewer bytes than the kind's length, stop 2"
    -- promise
    pub taken-cut : length (kind ∷ rest) < length_of kind → taken (kind ∷ rest) ≡ Stopped 2
    unfolding take_one
    taken-cut few = taken-short (kind ∷ rest) short ∙ simp (is_Known, lt-leb (length_of kind) (length (kind ∷ rest)) few)

    -- "take one record off the front of the log, answering the record"
    -- promise
    pub taken-whole : length_of kind ≤ length (kind ∷ rest)
        → taken (kind ∷ rest) ≡ Whole (length_of kind) (reading (take (length_of kind) (kind ∷ rest)))
    unfolding take_one
    taken-whole enough = taken-short (kind ∷ rest) short ∙ simp (is_Known, le-leb (length_of kind) (length (kind ∷ rest)) enough)
