-- When a run stops, and with what; and what a refused run leaves.
-- Proves: run-stops, run-twelve, run-eleven, run-taken, run-kept.
use mathlib.Core.Path.{◌≡◌, refl, sym, ap, subst, ◌∙◌}
use mathlib.Core.Logic.{inl, inr}
use mathlib.Core.Bool.{Bool, true, false, cond}
use mathlib.Core.List.{List, [], ◌∷◌}
use Prim.Native.Nat.{ℕ, zero, suc, ◌+◌, ◌-◌, ◌≤◌, ◌<◌}
use native.Mathlib.Omega.{arith}
use lib.Dec.{leb}
use lib.ListN.{length, take, drop, length-drop}
use lib.Seq.{drop-drop}
use borrow.Author.Tests.{leb-false, le-leb, lt-leb}
use Rattle.wire.specs.Refusals as refusal
use Rattle.wire.proofs.Tests.{cond-case}
use Rattle.record.specs.Records.{known, length_of, reading}
use Rattle.record.specs.Takes.{record_short, kind_unknown, longest_log, take_one, taken}
use Rattle.record.specs.Takes.{Taken}
use Rattle.record.specs.Takes.{Whole, Stopped, Overlong}
use Rattle.record.proofs.Takes.{taken-short}
use Rattle.unit.specs.States.{sound}
use Rattle.unit.specs.OnRecords.{action_room, on_record}
use Rattle.unit.specs.Runs.{course, counted, no_totals, fresh, tallied, go, run_refused, run}
use Rattle.unit.specs.RunWords.{StopsBy}
use Rattle.unit.specs.declared.state.State.{State}
use Rattle.unit.specs.declared.run.Tally.{Tally}
use Rattle.unit.specs.declared.run.Report.{Report}
use Rattle.unit.proofs.Runs.Takes.{go-stop}
use Rattle.unit.proofs.Runs.Steps.{is-go}
use Rattle.unit.proofs.Runs.InTurn.{tallied-offset, ended-code, counted-offset, counted-read, run-facts, some, go-suc}

-- a record that cannot be taken: why
stopped_by : (budget read stop : ℕ) (log : List ℕ) → read < budget → take_one log ≡ Stopped stop → StopsBy budget read stop log
unfolding take_one
stopped_by budget read stop [] left e =
    let same : 0 ≡ stop = cc in
    sym same
stopped_by budget read stop (kind ∷ rest) left e =
    by (known kind) refl (leb (length_of kind) (length (kind ∷ rest))) refl e
  where
    whole : Taken
    whole = Whole (length_of kind) (reading (take (length_of kind) (kind ∷ rest)))

    by : (a : Bool)
        → known kind ≡ a
        → (b : Bool)
        → leb (length_of kind) (length (kind ∷ rest)) ≡ b
        → cond a (cond b whole (Stopped record_short)) (Stopped kind_unknown) ≡ Stopped stop
        → StopsBy budget read stop (kind ∷ rest)
    by true is true fits e = absurd (let z : ◌≡◌ {A = ℕ} 0 1 = cc in omega arith)
    by true is false short e =
        let same : 2 ≡ stop = cc in
        inr (left, inr (sym same, is, leb-false (length_of kind) (length (kind ∷ rest)) short))
    by false is b fits e =
        let same : 3 ≡ stop = cc in
        inr (left, inl (sym same, is))

-- a log that is short enough is not refused
not-refused : (log : List ℕ) (r : ℕ) → take_one log ≡ Overlong r → ⊥
unfolding take_one
not-refused [] r e = absurd (let z : ◌≡◌ {A = ℕ} 0 1 = cc in omega arith)
not-refused (kind ∷ rest) r e = by (known kind) (leb (length_of kind) (length (kind ∷ rest))) e
  where
    whole : Taken
    whole = Whole (length_of kind) (reading (take (length_of kind) (kind ∷ rest)))

    by : (a b : Bool) → cond a (cond b whole (Stopped record_short)) (Stopped kind_unknown) ≡ Overlong r → ⊥
    by true true e = absurd (let z : ◌≡◌ {A = ℕ} 0 1 = cc in omega arith)
    by true false e = absurd (let z : ◌≡◌ {A = ℕ} 0 1 = cc in omega arith)
    by false b e = absurd (let z : ◌≡◌ {A = ℕ} 0 1 = cc in omega arith)

-- where a run stands when it stopped, its budget counted from before what it had read
abbrev Stands : ℕ → Tally → List ℕ → Report → Type 0
Stands budget t log r = StopsBy (t.read + budget) r.tally.read r.stop (drop (r.tally.offset - t.offset) log)

-- nothing is passed by a run that takes no record
here : (t : Tally) (log : List ℕ) → drop (t.offset - t.offset) log ≡ log
here t log =
    let none : t.offset - t.offset ≡ 0 = omega arith in
    ap (λ k. drop k log) none

go-stops : (budget : ℕ) (t : Tally) (log : List ℕ) → length log ≤ longest_log → Stands budget t log (go budget t log)
unfolding course tallied
go-stops zero t [] small = subst (StopsBy (t.read + 0) t.read 0) (sym (here t [])) refl
go-stops zero t (kind ∷ rest) small =
    subst (StopsBy (t.read + 0) t.read 1) (sym (here t (kind ∷ rest))) (inl (refl, omega arith))
go-stops (suc budget) t log small = by (taken log) refl (go-stops budget)
  where
    by : (front : Taken)
        → taken log ≡ front
        → ((u : Tally) (l : List ℕ) → length l ≤ longest_log → Stands budget u l (go budget u l))
        → Stands (suc budget) t log (go (suc budget) t log)
    by (Stopped stop) e later =
        subst (Stands (suc budget) t log) (go-stop t (suc budget) (some budget) log stop e)
        (subst (StopsBy (t.read + suc budget) t.read stop) (sym (here t log))
        (stopped_by (t.read + suc budget) t.read stop log (omega arith) (sym (taken-short log small) ∙ e)))
    by (Overlong r) e later = absurd (not-refused log r (sym (taken-short log small) ∙ e))
    by (Whole k r) e later =
        let o = on_record t.state (take k log) action_room in
        let u = counted t k o in
        let end = go budget u (drop k log) in
        let grown = tallied-offset u (course budget u.state (drop k log)) in
        let on : k + (end.tally.offset - u.offset) ≡ end.tally.offset - t.offset = omega (arith, grown, counted-offset t k o) in
        let passed = drop-drop (end.tally.offset - u.offset) k log ∙ ap (λ j. drop j log) on in
        let spent : u.read + budget ≡ t.read + suc budget = omega (arith, counted-read t k o) in
        subst (Stands (suc budget) t log) (sym (go-suc budget t log k r e))
        (subst (λ n. StopsBy n end.tally.read end.stop (drop (end.tally.offset - t.offset) log)) spent
        (subst (StopsBy (u.read + budget) end.tally.read end.stop) passed (later u (drop k log) (simp length-drop (omega arith)))))

-- "Before each record, in order: nothing left, stop 0; budget used up, stop 1; kind unknown, stop 3; fewer bytes than the kind's length,
-- stop 2": of the rest of the log from the offset reported
-- promise
pub run-stops : (s : State) (log : List ℕ) (budget : ℕ)
    → (run s log budget).code ≡ refusal.accepted
    → StopsBy budget (run s log budget).tally.read (run s log budget).stop (drop (run s log budget).tally.offset log)
run-stops s log budget accepted =
    let none : 0 + budget ≡ budget = omega arith in
    let stands = go-stops budget (fresh s) log (run-facts s log budget accepted).0 in
    let all : (go budget (fresh s) log).tally.offset - 0 ≡ (go budget (fresh s) log).tally.offset = omega arith in
    let end = go budget (fresh s) log in
    subst (λ r. StopsBy budget r.tally.read r.stop (drop r.tally.offset log)) (sym (is-go s log budget accepted))
    (subst (λ n. StopsBy n end.tally.read end.stop (drop end.tally.offset log)) none
    (subst (λ k. StopsBy (0 + budget) end.tally.read end.stop (drop k log)) all stands))

-- "Run: 12, 11"
module _ (s : State) (log : List ℕ) (budget : ℕ) where
  -- promise
  pub run-twelve : 1_048_576 < length log → (run s log budget).code ≡ 12
  unfolding run
  run-twelve long = simp (lt-leb (length log) longest_log long)

  module _ (short : length log ≤ 1_048_576) where
    -- promise
    pub run-eleven : sound s ≡ false → (run s log budget).code ≡ 11
    unfolding run
    run-eleven bad = simp (le-leb (length log) longest_log short, bad)

    -- promise
    pub run-taken : sound s ≡ true → (run s log budget).code ≡ 0
    unfolding run
    run-taken good = simp (le-leb (length log) longest_log short, good) (ended-code (fresh s) (course budget s log))

-- "A refused .. run .. returns its number, the state as given, counts 0 (a run's stop and offset too)"
-- promise
pub run-kept : (s : State) (log : List ℕ) (budget : ℕ)
    → ((run s log budget).code ≡ refusal.accepted → ⊥)
    → ((run s log budget).stop ≡ 0)
    × ((run s log budget).tally.state ≡ s)
    × ((run s log budget).tally.offset ≡ 0)
    × ((run s log budget).tally.read ≡ 0)
    × ((run s log budget).tally.refused ≡ 0)
    × ((run s log budget).tally.totals ≡ no_totals)
unfolding run
run-kept s log budget =
    cond-case Left (leb (length log) longest_log) (cond (sound s) ran (run_refused refusal.not_sound s))
    (run_refused refusal.log_too_long s)
    (λ fits.
    cond-case Left (sound s) ran (run_refused refusal.not_sound s)
    (λ good refused. absurd (refused (ended-code (fresh s) (course budget s log))))
    (λ bad refused. (refl, refl, refl, refl, refl, refl)))
    (λ long refused. (refl, refl, refl, refl, refl, refl))
  where
    ran : Report
    ran = go budget (fresh s) log

    Left : Report → Type 0
    Left r =
        (r.code ≡ refusal.accepted → ⊥)
        → (r.stop ≡ 0)
        × (r.tally.state ≡ s)
        × (r.tally.offset ≡ 0)
        × (r.tally.read ≡ 0)
        × (r.tally.refused ≡ 0)
        × (r.tally.totals ≡ no_totals)
