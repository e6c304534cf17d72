-- The whole records that a log begins with, counted by their lengths.
-- Proves: front-whole, front-longer, records-next, records-stop, records-min, whole-few, whole-grow.
use mathlib.Core.Path.{◌≡◌, refl, sym, ap, subst, ◌∙◌}
use mathlib.Core.Logic.{◌⊎◌, inl, inr}
use mathlib.Core.List.{List, [], ◌∷◌, ◌++◌}
use Prim.Native.Nat.{ℕ, zero, suc, ◌+◌, ◌≤◌, min}
use native.Mathlib.Omega.{arith}
use lib.ListN.{length, drop, length-append, length-drop}
use lib.Seq.{take-append-le, drop-append-le}
use Rattle.record.specs.Records.{reading}
use Rattle.record.specs.Takes.{take_one, on_taken}
use Rattle.record.specs.Readings.{Reading}
use Rattle.record.specs.Takes.{Taken}
use Rattle.record.specs.Takes.{Whole, Stopped, Overlong}
use Rattle.record.proofs.Takes.{take_whole}
use Rattle.unit.proofs.Runs.Going.{whole-ok}
use Rattle.marks.specs.Marks.{records_in, whole_records}

-- a whole record at the front has at least one byte, and all of it stands there
pub front-whole : (log : List ℕ) (k : ℕ) (r : Reading) → take_one log ≡ Whole k r → (1 ≤ k) × (k ≤ length log)
unfolding take_one
front-whole [] k r e = absurd (let z : ◌≡◌ {A = ℕ} 0 1 = cc in omega arith)
front-whole (kind ∷ rest) k r e =
    let ok = whole-ok (kind ∷ rest) 0 k r (omega arith) e in
    (ok.1, omega (arith, ok.2))

-- and it stands there whatever is appended
pub front-longer : (log more : List ℕ) (k : ℕ) (r : Reading) → take_one log ≡ Whole k r → take_one (log ++ more) ≡ Whole k r
unfolding take_one
front-longer [] more k r e = absurd (let z : ◌≡◌ {A = ℕ} 0 1 = cc in omega arith)
front-longer (kind ∷ rest) more k r e =
    let log = kind ∷ rest in
    let ok = whole-ok log 0 k r (omega arith) e in
    let size = length-append log more in
    let same = take-append-le k log more (omega (arith, ok.2)) in
    sym
    (take_whole (log ++ more) 0 (omega arith) k ok.0 (subst (λ n. 1 ≤ n) ok.0 ok.1) (omega (arith, ok.2)) r
    (ok.3 ∙ ap reading (sym same)))

-- one record more is counted where a whole one stands at the front, and none where the run stops there
module _ (b : ℕ) (log : List ℕ) where
  pub records-next : (k : ℕ) (r : Reading) → take_one log ≡ Whole k r → records_in (suc b) log ≡ suc (records_in b (drop k log))
  unfolding records_in
  records-next k r e = ap (λ t. on_taken t (λ stop. 0) (λ k. suc (records_in b (drop k log)))) e

  pub records-stop : (stop : ℕ) → (take_one log ≡ Stopped stop) ⊎ (take_one log ≡ Overlong stop) → records_in (suc b) log ≡ 0
  unfolding records_in
  records-stop stop (inl e) = ap (λ t. on_taken t (λ stop. 0) (λ k. suc (records_in b (drop k log)))) e
  records-stop stop (inr e) = ap (λ t. on_taken t (λ stop. 0) (λ k. suc (records_in b (drop k log)))) e

-- what a count has by what stands at the front
records-case : (P : ℕ → Type 0) (b : ℕ) (log : List ℕ)
    → P 0
    → ((k : ℕ) (r : Reading) → take_one log ≡ Whole k r → P (suc (records_in b (drop k log))))
    → P (records_in (suc b) log)
records-case P b log none next = by (take_one log) refl
  where
    by : (front : Taken) → take_one log ≡ front → P (records_in (suc b) log)
    by (Whole k r) e = subst P (sym (records-next b log k r e)) (next k r e)
    by (Stopped stop) e = subst P (sym (records-stop b log stop (inl e))) none
    by (Overlong r) e = subst P (sym (records-stop b log r (inr e))) none

-- each counted record has a byte of its own
records-few : (b : ℕ) (log : List ℕ) → records_in b log ≤ length log
unfolding records_in
records-few zero log = omega arith
records-few (suc b) log =
    records-case (λ n. n ≤ length log) b log (omega arith)
    (λ k r e.
    let ok = front-whole log k r e in
    let left = length-drop k log in
    omega (arith, records-few b (drop k log), ok.0, ok.1))

-- of at most b records as many are counted as there are, and no more than b
records-most : (b c : ℕ) (log : List ℕ) → b ≤ c → records_in b log ≡ min b (records_in c log)
unfolding records_in
records-most zero c log less = omega arith
records-most (suc b) zero log less = absurd (omega arith)
records-most (suc b) (suc c) log less = by (take_one log) refl (λ k. records-most b c (drop k log) (omega arith))
  where
    by : (front : Taken)
        → take_one log ≡ front
        → ((k : ℕ) → records_in b (drop k log) ≡ min b (records_in c (drop k log)))
        → records_in (suc b) log ≡ min (suc b) (records_in (suc c) log)
    by (Whole k r) e later = omega (arith, records-next b log k r e, records-next c log k r e, later k)
    by (Stopped stop) e later = omega (arith, records-stop b log stop (inl e), records-stop c log stop (inl e))
    by (Overlong r) e later = omega (arith, records-stop b log r (inr e), records-stop c log r (inr e))

pub records-min : (b : ℕ) (log : List ℕ) → records_in b log ≡ min b (whole_records log)
records-min b log =
    let most = b + length log in
    let here = records-most b most log (omega arith) in
    let whole = records-most (length log) most log (omega arith) in
    omega (arith, records-few most log)

-- no more whole records than bytes
pub whole-few : (log : List ℕ) → whole_records log ≤ length log
whole-few log = records-few (length log) log

-- no record is lost by what is appended
records-grow : (b c : ℕ) (log more : List ℕ) → b ≤ c → records_in b log ≤ records_in c (log ++ more)
unfolding records_in
records-grow zero c log more less = omega arith
records-grow (suc b) zero log more less = absurd (omega arith)
records-grow (suc b) (suc c) log more less =
    records-case (λ n. n ≤ records_in (suc c) (log ++ more)) b log (omega arith)
    (λ k r e.
    let later = records-grow b c (drop k log) more (omega arith) in
    let same = ap (records_in c) (drop-append-le k log more (front-whole log k r e).1) in
    let next = records-next c (log ++ more) k r (front-longer log more k r e) in
    omega arith)

pub whole-grow : (log more : List ℕ) → whole_records log ≤ whole_records (log ++ more)
whole-grow log more =
    let size = length-append log more in
    records-grow (length log) (length (log ++ more)) log more (omega arith)
