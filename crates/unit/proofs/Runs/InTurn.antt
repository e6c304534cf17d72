-- Request Q-8: the run is taking and applying in turn, so it can be broken off and taken up again.
-- Proves: course-next, tallied-offset, ended-code, counted-offset, counted-read, run-facts, some, go-suc, run-goes, go-next, go-ends,
-- go-split, run-split, run-again.
use mathlib.Core.Path.{◌≡◌, refl, sym, ap, ap₂, ◌∙◌}
use mathlib.Core.Bool.{Bool, true, false, cond}
use mathlib.Core.List.{List, [], ◌∷◌}
use Prim.Native.Nat.{ℕ, zero, suc, ◌+◌, ◌-◌, ◌≤◌}
use native.Mathlib.Omega.{arith}
use lib.Dec.{leb}
use lib.ListN.{length, take, drop, length-drop}
use lib.Seq.{drop-drop}
use borrow.Author.Tests.{leb-true}
use Rattle.wire.proofs.Tests.{cond-case}
use Rattle.wire.specs.Refusals as refusal
use Rattle.unit.specs.States.{sound}
use Rattle.unit.specs.Steps.{Outcome}
use Rattle.unit.specs.OnRecords.{action_room, on_record}
use Rattle.record.specs.Takes.{longest_log, taken}
use Rattle.unit.specs.Runs.{Course, stops, applies, course, no_totals, counted, fresh, tallied, go, run_refused, run}
use Rattle.unit.specs.RunWords.{taken_up}
use Rattle.unit.specs.declared.state.State.{State}
use Rattle.unit.specs.declared.run.Tally.{Tally}
use Rattle.unit.specs.declared.run.Report.{Report}
use Rattle.record.specs.Readings.{Reading}
use Rattle.record.specs.Takes.{Taken}
use Rattle.record.specs.Takes.{Whole, Stopped, Overlong}
use Rattle.unit.proofs.Runs.Takes.{go-stop, go-refused, go_step}
use Rattle.unit.proofs.Sound.{on_record-sound}
use Rattle.unit.proofs.Runs.Starting.{run_sound}
use Rattle.unit.proofs.Runs.Steps.{tallied-sum, is-go}

-- a record that is taken is applied, and the next is taken where it ends
-- promise
pub course-next : (budget : ℕ) (s : State) (log : List ℕ) (k : ℕ) (r : Reading)
    → taken log ≡ Whole k r
    → course (suc budget) s log
    ≡ applies (take k log) (on_record s (take k log) action_room)
    (course budget (on_record s (take k log) action_room).state (drop k log))
unfolding course
course-next budget s log k r e = rw e refl

-- the offset of a run never falls
pub tallied-offset : (t : Tally) (c : Course) → t.offset ≤ (tallied t c).tally.offset
unfolding tallied counted
tallied-offset t (stops stop) = omega arith
tallied-offset t (applies bytes o rest) =
    let later = tallied-offset (counted t (length bytes) o) rest in
    omega arith

-- whether a run is refused does not hang on its budget
pub ended-code : (t : Tally) (c : Course) → (tallied t c).code ≡ refusal.accepted
unfolding tallied
ended-code t (stops stop) = refl
ended-code t (applies bytes o rest) = ended-code (counted t (length bytes) o) rest

run-code : (s : State) (log : List ℕ) (a b : ℕ) → (run s log a).code ≡ refusal.accepted → (run s log b).code ≡ refusal.accepted
unfolding run
run-code s log a b =
    by (leb (length log) longest_log) (sound s)
  where
    ran : Bool → Bool → ℕ → Report
    ran fits good budget =
        cond fits (cond good (go budget (fresh s) log) (run_refused refusal.not_sound s)) (run_refused refusal.log_too_long s)

    by : (fits good : Bool) → (ran fits good a).code ≡ refusal.accepted → (ran fits good b).code ≡ refusal.accepted
    by true true h = ended-code (fresh s) (course b s log)
    by true false h = h
    by false good h = h

-- where a run is after a record
pub counted-offset : (t : Tally) (k : ℕ) (o : Outcome) → (counted t k o).offset ≡ t.offset + k
unfolding counted
counted-offset t k o = refl

counted-state : (t : Tally) (k : ℕ) (o : Outcome) → (counted t k o).state ≡ o.state
unfolding counted
counted-state t k o = refl

pub counted-read : (t : Tally) (k : ℕ) (o : Outcome) → (counted t k o).read ≡ t.read + 1
unfolding counted
counted-read t k o = refl

-- a run that is not refused has a log of the right length and a sound state
pub run-facts : (s : State) (log : List ℕ) (b : ℕ)
    → (run s log b).code ≡ refusal.accepted
    → (length log ≤ longest_log) × (sound s ≡ true)
unfolding run
run-facts s log b =
    cond-case Facts (leb (length log) longest_log) (cond (sound s) ran (run_refused refusal.not_sound s))
    (run_refused refusal.log_too_long s)
    (λ fits.
    cond-case Facts (sound s) ran (run_refused refusal.not_sound s)
    (λ good h. (leb-true (length log) longest_log fits, good))
    (λ bad h. absurd (omega arith)))
    (λ long h. absurd (omega arith))
  where
    ran : Report
    ran = go b (fresh s) log

    Facts : Report → Type 0
    Facts r = r.code ≡ refusal.accepted → (length log ≤ longest_log) × (sound s ≡ true)

-- no budget, no record
go-none : (t : Tally) (log : List ℕ) → (go 0 t log).tally ≡ t
unfolding course tallied
go-none t [] = refl
go-none t (x ∷ log) = refl

pub some : (b : ℕ) → suc b ≡ 0 → ⊥
some b e = omega arith

pub go-suc : (b : ℕ) (t : Tally) (log : List ℕ) (k : ℕ) (r : Reading)
    → taken log ≡ Whole k r
    → go (suc b) t log ≡ go b (counted t k (on_record t.state (take k log) action_room)) (drop k log)
go-suc b t log k r e =
    let u = counted t k (on_record t.state (take k log) action_room) in
    let less : suc b - 1 ≡ b = omega arith in
    go_step t (suc b) (some b) log k r e ∙ ap (λ j. go j u (drop k log)) less

-- a run that is not refused goes from the state as given, with nothing counted yet
-- promise
pub run-goes : (s : State) (log : List ℕ) (budget : ℕ)
    → (run s log budget).code ≡ refusal.accepted
    → (run s log budget ≡ go budget (fresh s) log)
    × ((fresh s).state ≡ s)
    × ((fresh s).offset ≡ 0)
    × ((fresh s).read ≡ 0)
    × ((fresh s).refused ≡ 0)
    × ((fresh s).totals ≡ no_totals)
run-goes s log budget accepted = (is-go s log budget accepted, refl, refl, refl, refl, refl)

-- where it stops, state, offset and counts are those reached
-- promise
pub go-ends : (t : Tally) (log : List ℕ)
    → ((go 0 t log).tally ≡ t)
    × ((b stop : ℕ) → taken log ≡ Stopped stop → ((go (suc b) t log).tally ≡ t) × ((go (suc b) t log).stop ≡ stop))
go-ends t log = (
  go-none t log,
  (λ b stop e.
      let stopped = sym (go-stop t (suc b) (some b) log stop e) in
      (ap (λ r. r.tally) stopped, ap (λ r. r.stop) stopped)),
)

-- "The answer holds the last state, .. the offset reached, records read": after each record the state is that of its step, and the run is
-- its length further
-- promise
pub go-next : (b : ℕ) (t : Tally) (log : List ℕ) (k : ℕ) (r : Reading)
    → taken log ≡ Whole k r
    → (go (suc b) t log ≡ go b (counted t k (on_record t.state (take k log) action_room)) (drop k log))
    × ((counted t k (on_record t.state (take k log) action_room)).state ≡ (on_record t.state (take k log) action_room).state)
    × ((counted t k (on_record t.state (take k log) action_room)).offset ≡ t.offset + k)
    × ((counted t k (on_record t.state (take k log) action_room)).read ≡ t.read + 1)
go-next b t log k r e =
    let o = on_record t.state (take k log) action_room in
    (go-suc b t log k r e, counted-state t k o, counted-offset t k o, counted-read t k o)

-- a run that has taken no record goes on from where it began
from-here : (b : ℕ) (t u : Tally) (log : List ℕ)
    → u ≡ t
    → go (suc b) t log ≡ go (suc b) u (drop (u.offset - t.offset) log)
from-here b t u log same =
    let here : t.offset - t.offset ≡ 0 = omega arith in
    ap₂ (λ v k. go (suc b) v (drop k log)) (sym same) (sym (ap (λ v. v.offset - t.offset) same ∙ here))

-- the rest of a run of m and more records is the rest of a run of m, then of the others
pub go-split : (m b : ℕ) (t : Tally) (log : List ℕ)
    → go (m + suc b) t log ≡ go (suc b) (go m t log).tally (drop ((go m t log).tally.offset - t.offset) log)
go-split zero b t log =
    let plus : 0 + suc b ≡ suc b = omega arith in
    ap (λ j. go j t log) plus ∙ from-here b t (go 0 t log).tally log (go-none t log)
go-split (suc m) b t log =
    let plus : suc m + suc b ≡ suc (m + suc b) = omega arith in
    ap (λ j. go j t log) plus ∙ by (taken log) refl (go-split m b)
  where
    Rest : Tally → Type 0
    Rest u = go (suc (m + suc b)) t log ≡ go (suc b) u (drop (u.offset - t.offset) log)

    by : (front : Taken)
        → taken log ≡ front
        → ((u : Tally) (l : List ℕ)
        → go (m + suc b) u l ≡ go (suc b) (go m u l).tally (drop ((go m u l).tally.offset - u.offset) l))
        → Rest (go (suc m) t log).tally
    by (Stopped stop) e later =
        let end = ap (λ r. r.tally) (sym (go-stop t (suc m) (some m) log stop e)) in
        sym (go-stop t (suc (m + suc b)) (some (m + suc b)) log stop e)
        ∙ go-stop t (suc b) (some b) log stop e
        ∙ from-here b t (go (suc m) t log).tally log end
    by (Overlong r) e later =
        let end = ap (λ x. x.tally) (sym (go-refused t (suc m) (some m) log r e)) in
        sym (go-refused t (suc (m + suc b)) (some (m + suc b)) log r e)
        ∙ go-refused t (suc b) (some b) log r e
        ∙ from-here b t (go (suc m) t log).tally log end
    by (Whole k r) e later =
        let o = on_record t.state (take k log) action_room in
        let u = counted t k o in
        let end = (go m u (drop k log)).tally in
        let first : (go (suc m) t log).tally ≡ end = ap (λ r. r.tally) (go-suc m t log k r e) in
        let grown = tallied-offset u (course m u.state (drop k log)) in
        let on : k + (end.offset - u.offset) ≡ end.offset - t.offset = omega (arith, grown, counted-offset t k o) in
        go-suc (m + suc b) t log k r e
        ∙ later u (drop k log)
        ∙ ap (λ l. go (suc b) end l) (drop-drop (end.offset - u.offset) k log ∙ ap (λ j. drop j log) on)
        ∙ ap (λ v. go (suc b) v (drop (v.offset - t.offset) log)) (sym first)

-- the run of m + b records is the run of m, then of b from there (b at least 1: a run of no record stops by its budget)
-- promise
pub run-split : (s : State) (log : List ℕ) (m b : ℕ)
    → (run s log m).code ≡ refusal.accepted
    → run s log (m + suc b) ≡ go (suc b) (run s log m).tally (drop (run s log m).tally.offset log)
run-split s log m b taken =
    let here = is-go s log m taken in
    let there = is-go s log (m + suc b) (run-code s log m (m + suc b) taken) in
    let none : (go m (fresh s) log).tally.offset - 0 ≡ (go m (fresh s) log).tally.offset = omega arith in
    there
    ∙ go-split m b (fresh s) log
    ∙ ap (λ k. go (suc b) (go m (fresh s) log).tally (drop k log)) none
    ∙ ap (λ r. go (suc b) r.tally (drop r.tally.offset log)) (sym here)

-- the state and the stop of a course do not hang on what was counted before it
tallied-alike : (t u : Tally) (c : Course)
    → t.state ≡ u.state
    → ((tallied t c).stop ≡ (tallied u c).stop) × ((tallied t c).tally.state ≡ (tallied u c).tally.state)
unfolding tallied counted
tallied-alike t u (stops stop) same = (refl, same)
tallied-alike t u (applies bytes o rest) same = tallied-alike (counted t (length bytes) o) (counted u (length bytes) o) rest refl

-- soundness is kept along a run
go-sound : (b : ℕ) (t : Tally) (log : List ℕ) → sound t.state ≡ true → sound (go b t log).tally.state ≡ true
go-sound zero t log good = ap (λ u. sound u.state) (go-none t log) ∙ good
go-sound (suc b) t log good = by (taken log) refl (go-sound b)
  where
    by : (front : Taken)
        → taken log ≡ front
        → ((u : Tally) (l : List ℕ) → sound u.state ≡ true → sound (go b u l).tally.state ≡ true)
        → sound (go (suc b) t log).tally.state ≡ true
    by (Stopped stop) e later = ap (λ r. sound r.tally.state) (sym (go-stop t (suc b) (some b) log stop e)) ∙ good
    by (Overlong r) e later = ap (λ x. sound x.tally.state) (sym (go-refused t (suc b) (some b) log r e)) ∙ good
    by (Whole k r) e later =
        let o = on_record t.state (take k log) action_room in
        let kept = on_record-sound t.state (take k log) action_room good in
        let state : (counted t k o).state ≡ o.state = counted-state t k o in
        ap (λ x. sound x.tally.state) (go-suc b t log k r e)
        ∙ later (counted t k o) (drop k log) (ap (sound) state ∙ kept)

-- a run that is broken off after m records and taken up there ends as the whole run does, and the records read are those of both
-- promise
pub run-again : (s : State) (log : List ℕ) (m b : ℕ)
    → (run s log m).code ≡ refusal.accepted
    → ((taken_up s log m (suc b)).code ≡ refusal.accepted)
    × ((taken_up s log m (suc b)).stop ≡ (run s log (m + suc b)).stop)
    × ((taken_up s log m (suc b)).tally.state ≡ (run s log (m + suc b)).tally.state)
    × ((run s log m).tally.read + (taken_up s log m (suc b)).tally.read ≡ (run s log (m + suc b)).tally.read)
run-again s log m b accepted =
    let first = run s log m in
    let rest = drop first.tally.offset log in
    let facts = run-facts s log m accepted in
    let state = ap (λ r. sound r.tally.state) (is-go s log m accepted) ∙ go-sound m (fresh s) log facts.1 in
    let short : length rest ≤ longest_log = simp length-drop (omega (arith, facts.0)) in
    let up = sym (run_sound first.tally.state rest (suc b) short state) in
    let whole = run-split s log m b accepted in
    let later = course (suc b) first.tally.state rest in
    let alike = tallied-alike (fresh first.tally.state) first.tally later refl in
    let fresh-read = tallied-sum (λ t. t.read) (λ o. 1) counted-read (fresh first.tally.state) later in
    let read = tallied-sum (λ t. t.read) (λ o. 1) counted-read first.tally later in (
      ap (λ r. r.code) up ∙ ended-code (fresh first.tally.state) later,
      ap (λ r. r.stop) up ∙ alike.0 ∙ sym (ap (λ r. r.stop) whole),
      ap (λ r. r.tally.state) up ∙ alike.1 ∙ sym (ap (λ r. r.tally.state) whole),
      omega (arith, ap (λ r. r.tally.read) up, ap (λ r. r.tally.read) whole, fresh-read, read),
    )
