-- What a run meets next: it stops there, or a whole record stands there.
-- Proves: front-end, front-used, front-left, front-stops, front-next.
use mathlib.Core.Path.{◌≡◌, refl, sym, ap, ◌∙◌}
use mathlib.Core.Bool.{Bool, true, false, cond, not}
use mathlib.Core.List.{List, [], ◌∷◌}
use Prim.Native.Nat.{ℕ, ◌-◌, ◌≤◌, ◌<◌}
use native.Mathlib.Omega.{arith}
use lib.Dec.{eqb}
use lib.ListN.{length, drop, drop_of_length-le}
use lib.Seq.{drop-cons}
use borrow.Author.Tests.{eq-eqb, ne_eqb, eqb-true, eqb-false}
use Rattle.record.specs.Takes.{nothing_left, budget_used, longest_log, Taken, Whole, Stopped, Overlong, take_one}
use Rattle.record.specs.Readings.{Reading}
use Rattle.record.proofs.Takes.{taken-short}
use Rattle.unit.specs.Runs.{ended, go}
use Rattle.unit.specs.Counting.{front_within}
use Rattle.unit.specs.declared.run.Tally.{Tally}
use Rattle.unit.proofs.Runs.Takes.{go-end, go-budget, go-stop}

-- what the code's tests showed
module _ (read budget : ℕ) (log : List ℕ) (at : ℕ) where
  pub front-end : length log ≤ at → Stopped nothing_left ≡ front_within read budget (drop at log)
  front-end above = sym (ap (front_within read budget) (drop_of_length-le log above))

  module _ (below : at < length log) where
    some : front_within read budget (drop at log) ≡ cond (not (eqb read budget)) (take_one (drop at log)) (Stopped budget_used)
    some =
        let cut = drop-cons log at 0 below in
        ap (front_within read budget) cut
        ∙ ap (λ l. cond (not (eqb read budget)) (take_one l) (Stopped budget_used)) (sym cut)

    pub front-used : read ≡ budget → Stopped budget_used ≡ front_within read budget (drop at log)
    front-used used = sym (some ∙ simp (eq-eqb read budget used))

    pub front-left : (read ≡ budget → ⊥) → take_one (drop at log) ≡ front_within read budget (drop at log)
    front-left more = sym (some ∙ simp (ne_eqb read budget more))

-- the number of a stop
abbrev number : Taken → ℕ
number (Whole k r) = 0
number (Stopped stop) = stop
number (Overlong r) = r

-- a record or none
abbrev is_next : Taken → ℕ
is_next (Whole k r) = 1
is_next (Stopped stop) = 0
is_next (Overlong r) = 0

-- where it stops, the run ends with that stop
pub front-stops : (t : Tally) (budget : ℕ) (log : List ℕ) (stop : ℕ)
    → length log ≤ longest_log
    → t.read ≤ budget
    → front_within t.read budget log ≡ Stopped stop
    → ended t stop ≡ go (budget - t.read) t log
front-stops t budget [] stop short within is = ap (ended t) (sym (ap number is)) ∙ go-end t (budget - t.read) [] refl
front-stops t budget (kind ∷ rest) stop short within is = by (eqb t.read budget) refl is
  where
    by : (b : Bool)
        → eqb t.read budget ≡ b
        → cond (not b) (take_one (kind ∷ rest)) (Stopped budget_used) ≡ Stopped stop
        → ended t stop ≡ go (budget - t.read) t (kind ∷ rest)
    by true used is =
        let none : 0 ≡ budget - t.read = omega (arith, eqb-true t.read budget used) in
        ap (ended t) (sym (ap number is)) ∙ go-budget t (kind ∷ rest) (omega arith) ∙ ap (λ b. go b t (kind ∷ rest)) none
    by false more is =
        let left : budget - t.read ≡ 0 → ⊥ = λ none. eqb-false t.read budget more (omega (arith, within, none)) in
        go-stop t (budget - t.read) left (kind ∷ rest) stop
        (taken-short (kind ∷ rest) short ∙ is)

-- where a record stands, some of the log and of the budget is left, and that is what taking answers
pub front-next : (read budget : ℕ) (log : List ℕ) (k : ℕ) (r : Reading)
    → front_within read budget log ≡ Whole k r
    → (0 < length log) × (read ≡ budget → ⊥) × (take_one log ≡ Whole k r)
front-next read budget [] k r is = absurd (let z : 0 ≡ 1 = ap is_next is in omega (arith, z))
front-next read budget (kind ∷ rest) k r is = by (eqb read budget) refl is
  where
    by : (b : Bool)
        → eqb read budget ≡ b
        → cond (not b) (take_one (kind ∷ rest)) (Stopped budget_used) ≡ Whole k r
        → (0 < length (kind ∷ rest)) × (read ≡ budget → ⊥) × (take_one (kind ∷ rest) ≡ Whole k r)
    by true used is = absurd (let z : 0 ≡ 1 = ap is_next is in omega (arith, z))
    by false more is = (omega arith, eqb-false read budget more, is)
