-- A whole record at the front of a log, and the run that goes on after it.
-- Proves: whole-fits, go-end, go-budget, go-stop, go-refused, go_step.
use mathlib.Core.Path.{◌≡◌, refl, sym, ap, ap₂, ◌∙◌}
use mathlib.Core.Bool.{Bool, true, false, cond}
use mathlib.Core.List.{List, [], ◌∷◌}
use Prim.Native.Nat.{ℕ, zero, suc, ◌-◌, ◌≤◌, ◌<◌}
use native.Mathlib.Omega.{arith}
use lib.Dec.{leb}
use lib.ListN.{length, take, drop}
use lib.Seq.{length-take-le}
use borrow.Author.Tests.{leb-true}
use Rattle.wire.specs.Refusals.{log_too_long}
use Rattle.record.specs.Records.{known, length_of, reading}
use Rattle.record.specs.Takes.{nothing_left, budget_used, record_short, kind_unknown, longest_log, take_one, taken}
use Rattle.record.specs.Readings.{Reading}
use Rattle.record.specs.Takes.{Taken}
use Rattle.record.specs.Takes.{Whole, Stopped, Overlong}
use Rattle.unit.specs.OnRecords.{action_room, on_record}
use Rattle.unit.specs.Runs.{course, counted, ended, tallied, go}
use Rattle.unit.specs.declared.run.Tally.{Tally}

-- a whole record stands there whole
one-fits : (rest : List ℕ) (k : ℕ) (r : Reading) → take_one rest ≡ Whole k r → k ≤ length rest
unfolding take_one
one-fits [] k r = λ e. absurd (let z : ◌≡◌ {A = ℕ} 0 1 = cc in omega arith)
one-fits (kind ∷ rest) k r = by (known kind) (leb (length_of kind) (length (kind ∷ rest))) refl
  where
    whole : Taken
    whole = Whole (length_of kind) (reading (take (length_of kind) (kind ∷ rest)))

    by : (a b : Bool)
        → leb (length_of kind) (length (kind ∷ rest)) ≡ b
        → cond a (cond b whole (Stopped record_short)) (Stopped kind_unknown) ≡ Whole k r
        → k ≤ length (kind ∷ rest)
    by true true fits e =
        let same : length_of kind ≡ k = cc in
        let below = leb-true (length_of kind) (length (kind ∷ rest)) fits in
        omega arith
    by true false fits e = absurd (let z : ◌≡◌ {A = ℕ} 0 1 = cc in omega arith)
    by false b fits e = absurd (let z : ◌≡◌ {A = ℕ} 0 1 = cc in omega arith)

pub whole-fits : (rest : List ℕ) (k : ℕ) (r : Reading) → taken rest ≡ Whole k r → k ≤ length rest
unfolding taken
whole-fits rest k r = by (leb (length rest) longest_log)
  where
    by : (b : Bool) → cond b (take_one rest) (Overlong log_too_long) ≡ Whole k r → k ≤ length rest
    by true e = one-fits rest k r e
    by false e = absurd (let z : ◌≡◌ {A = ℕ} 0 1 = cc in omega arith)

-- a run with nothing left stops there, whatever its budget
go-nil : (t : Tally) (budget : ℕ) → ended t nothing_left ≡ go budget t []
unfolding course tallied taken take_one
go-nil t zero = refl
go-nil t (suc budget) = refl

-- the rest of a run, by what stands at the front
module _ (t : Tally) where
  pub go-end : (budget : ℕ) (rest : List ℕ) → rest ≡ [] → ended t nothing_left ≡ go budget t rest
  go-end budget rest none = go-nil t budget ∙ ap (λ l. go budget t l) (sym none)

  pub go-budget : (rest : List ℕ) → 0 < length rest → ended t budget_used ≡ go 0 t rest
  unfolding course tallied
  go-budget [] some = absurd (omega arith)
  go-budget (x ∷ rest) some = refl

  pub go-stop : (budget : ℕ)
      → (budget ≡ 0 → ⊥)
      → (rest : List ℕ) (stop : ℕ)
      → taken rest ≡ Stopped stop
      → ended t stop ≡ go budget t rest
  unfolding course tallied
  go-stop zero some rest stop e = absurd (some refl)
  go-stop (suc budget) some rest stop e = rw e refl

  pub go-refused : (budget : ℕ)
      → (budget ≡ 0 → ⊥)
      → (rest : List ℕ) (r : ℕ)
      → taken rest ≡ Overlong r
      → ended t r ≡ go budget t rest
  unfolding course tallied
  go-refused zero some rest r e = absurd (some refl)
  go-refused (suc budget) some rest r e = rw e refl

  pub go_step : (budget : ℕ) → (budget ≡ 0 → ⊥) → (rest : List ℕ) (k : ℕ) (r : Reading)
      → taken rest ≡ Whole k r
      → go budget t rest ≡ go (budget - 1) (counted t k (on_record t.state (take k rest) action_room)) (drop k rest)
  unfolding course tallied counted
  go_step zero some rest k r e = absurd (some refl)
  go_step (suc budget) some rest k r e =
      let long : length (take k rest) ≡ k = length-take-le k rest (whole-fits rest k r e) in
      let same : budget ≡ suc budget - 1 = omega arith in
      let o = on_record t.state (take k rest) action_room in
      rw e (ap₂ (λ m b. tallied (counted t m o) (course b o.state (drop k rest))) long same)
