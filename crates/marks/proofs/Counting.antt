-- The loop that counts records: what is counted and what is still to come stay the whole.
-- Defines: Counting.
-- Proves: counting-end, counting-unknown, counting-short, counting-next.
use mathlib.Core.Path.{◌≡◌, refl, sym, ap, ◌∙◌}
use mathlib.Core.List.{List, [], ◌∷◌}
use Prim.Native.Nat.{ℕ, zero, suc, ◌+◌, ◌-◌, ◌≤◌, ◌<◌}
use native.Mathlib.Omega.{arith}
use lib.Dec.{leb}
use lib.ListN.{length, get_or, take, drop, length-drop}
use lib.Seq.{drop-drop}
use borrow.Author.Tests.{ltb-true, le-ltb}
use Rattle.wire.proofs.Tests.{cond-case, cond-holds}
use Rattle.record.specs.Records.{known, length_of, reading}
use Rattle.record.specs.Takes.{nothing_left, record_short, kind_unknown, take_one, on_taken}
use Rattle.record.specs.Takes.{Taken}
use Rattle.record.specs.Takes.{Stopped}
use Rattle.record.proofs.Takes.{take-end, by_kind, take_short, take_whole}
use Rattle.marks.specs.Marks.{records_in, whole_records}

-- the records of a log, by what stands at its front
abbrev counts : ℕ → List ℕ → Taken → ℕ
counts most log front = on_taken front (λ stop. 0) (λ k. suc (records_in most (drop k log)))

-- a bound of at least as many records as there are bytes is not reached: a larger one makes no difference
records-enough : (m n : ℕ) (log : List ℕ) → length log ≤ m → length log ≤ n → records_in m log ≡ records_in n log
unfolding records_in take_one
records-enough zero zero log in-m in-n = refl
records-enough zero (suc n) [] in-m in-n = refl
records-enough zero (suc n) (kind ∷ rest) in-m in-n = absurd (omega arith)
records-enough (suc m) zero [] in-m in-n = refl
records-enough (suc m) zero (kind ∷ rest) in-m in-n = absurd (omega arith)
records-enough (suc m) (suc n) [] in-m in-n = refl
records-enough (suc m) (suc n) (kind ∷ rest) in-m in-n =
    cond-case Same (known kind) _ (Stopped kind_unknown)
    (λ is_Known.
    let some = ltb-true 0 (length_of kind) is_Known in
    let left = length-drop (length_of kind) (kind ∷ rest) in
    cond-holds Same (leb (length_of kind) (length (kind ∷ rest))) _ (Stopped record_short)
    (ap suc (records-enough m n (drop (length_of kind) (kind ∷ rest)) (omega arith) (omega arith)))
    refl)
    (λ unknown. refl)
  where
    Same : Taken → Type 0
    Same front = counts m (kind ∷ rest) front ≡ counts n (kind ∷ rest) front

-- the records by what stands at the front
by_front : (rest : List ℕ) → whole_records rest ≡ counts (length rest) rest (take_one rest)
unfolding records_in
by_front rest = records-enough (length rest) (suc (length rest)) rest (omega arith) (omega arith)

-- so many records are counted up to here, and with those still to come they are all
abbrev pub Counting : List ℕ → ℕ → ℕ → ℕ → Type 0
Counting log from at records = (records ≤ at) × (whole_records (drop from log) ≡ records + whole_records (drop at log))

module _ (log : List ℕ) (from at records : ℕ) (so_far : Counting log from at records) where
  -- at a stop all are counted
  stops : (stop : ℕ) → Stopped stop ≡ take_one (drop at log) → records ≡ whole_records (drop from log)
  stops stop e =
      let none = by_front (drop at log) ∙ ap (counts (length (drop at log)) (drop at log)) (sym e) in
      omega (arith, so_far.1)

  pub counting-end : length log ≤ at → records ≡ whole_records (drop from log)
  counting-end above = stops nothing_left (take-end log at above)

  module _ (below : at < length log) (k : ℕ) (of-kind : k ≡ length_of (get_or log at 0)) where
    pub counting-unknown : k ≡ 0 → records ≡ whole_records (drop from log)
    counting-unknown none =
        stops kind_unknown (sym (by_kind log at below ∙ simp (le-ltb 0 (length_of (get_or log at 0)) (omega arith))))

    module _ (some : k ≡ 0 → ⊥) where
      has : 1 ≤ length_of (get_or log at 0)
      has = omega arith

      pub counting-short : length log - at < k → records ≡ whole_records (drop from log)
      counting-short short = stops record_short (take_short log at below k of-kind has short)

      -- a whole record is counted, and the count goes on behind it
      pub counting-next : k ≤ length log - at → Counting log from (at + k) (records + 1)
      counting-next fits =
          let rest = drop at log in
          let left = length-drop k rest in
          let front = take_whole log at below k of-kind has fits (reading (take k rest)) refl in
          let one =
          by_front rest
          ∙ ap (counts (length rest) rest) (sym front)
          ∙ ap suc
          (records-enough (length rest) (length (drop k rest)) (drop k rest) (omega arith) (omega arith)
          ∙ ap whole_records (drop-drop k at log)) in
          (omega (arith, so_far.0, has), omega (arith, so_far.1, one))
