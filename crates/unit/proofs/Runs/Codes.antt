-- In a run no record is refused with 1, 2, 10 or 11: each step's number is 0, 3 to 9, or 15.
-- Proves: step-code, steps-codes, run-codes.
use mathlib.Core.Path.{◌≡◌, refl, sym, ap, ◌∙◌}
use mathlib.Core.Logic.{inl, inr}
use mathlib.Core.Bool.{Bool, true, false, cond, ◌&&◌, ◌||◌}
use mathlib.Core.List.{List, [], ◌∷◌}
use Prim.Native.Nat.{ℕ, zero, suc, ◌≤◌, ◌<◌}
use native.Mathlib.Omega.{arith}
use lib.Dec.{eqb, leb}
use lib.ListN.{length, take, drop, length-drop}
use borrow.Author.Tests.{leb-true, le-leb}
use Rattle.record.specs.Records.{row_of}
use Rattle.record.specs.Rows.{fields}
use Rattle.wire.specs.Refusals as refusal
use Rattle.record.specs.declared.event.Event.{Event}
use Rattle.record.specs.Readings.{Meant, Refused}
use Rattle.wire.proofs.Tests.{and_both, cond-case, cond-holds}
use Rattle.unit.specs.States.{sound}
use Rattle.unit.specs.Steps.{Outcome, step}
use Rattle.unit.specs.Standings.{Concern}
use Rattle.unit.specs.OnRecords.{action_room, on_reading, on_record}
use Rattle.unit.specs.declared.state.State.{State}
use Rattle.unit.proofs.Shapes.{StepRefusal, Shape, refuses, notes, closes_every, orders, calls, turns, shape}
use Rattle.unit.proofs.Sound.{on_record-sound}
use Rattle.record.specs.Takes.{longest_log, take_one, taken, on_taken}
use Rattle.unit.specs.Runs.{Course, stops, applies, course, fresh, go, run_refused, run}
use Rattle.unit.specs.RunWords.{steps_of, steps}
use Rattle.unit.specs.RunWords.{run_code, all_codes}
use Rattle.unit.specs.declared.run.Report.{Report}
use Rattle.record.specs.Takes.{Taken}
use Rattle.record.specs.Takes as front
use Rattle.unit.proofs.Runs.Applied.{applied-reading}
use Rattle.unit.proofs.Runs.Going.{whole-ok}
use Rattle.record.proofs.Takes.{part-reads, taken-short}

abbrev Fine : Outcome → Type 0
Fine o = run_code o.code ≡ true

-- the numbers with which a step is refused are among those of a run
refused-fine : (r : ℕ) → StepRefusal r → run_code r ≡ true
refused-fine r (inl range) = by (eqb r refusal.accepted)
  where
    within : (leb refusal.out_of_range r && leb r refusal.call_from_riu) ≡ true
    within = and_both _ _ (le-leb refusal.out_of_range r (omega arith)) (le-leb r refusal.call_from_riu range.1)

    by : (b : Bool) → (b || ((leb refusal.out_of_range r && leb r refusal.call_from_riu) || eqb r refusal.none_known)) ≡ true
    by true = refl
    by false = ap (λ b. b || eqb r refusal.none_known) within
refused-fine r (inr is) = ap run_code is

module _ (s : State) where
  code : {e : Event} {c : Concern} {o : Outcome} → Shape s e c o → Fine o
  code (refuses r may said) = refused-fine r may
  code (notes t m within) = refl
  code (closes_every t within) = refl
  code (orders p which m i within ok found) = refl
  code (calls p i ok rbc found) = refl
  code (turns p event i ok found taken) = refl

  -- the number of a step on an event
  pub step-code : (e : Event) → run_code (step s e).code ≡ true
  step-code e = code (shape s e)

  fields-code : (kind : ℕ) (bytes : List ℕ) → Fine (on_reading s (fields (row_of kind) bytes))
  fields-code kind bytes =
      cond-holds (λ r. Fine (on_reading s r)) ((row_of kind).ranges bytes) (Meant ((row_of kind).means bytes))
      (Refused refusal.out_of_range)
      (step-code ((row_of kind).means bytes))
      refl

-- the steps of a run
pub steps-codes : (budget : ℕ) (s : State) (log : List ℕ)
    → sound s ≡ true
    → length log ≤ longest_log
    → all_codes (steps budget s log) ≡ true
unfolding course steps_of all_codes taken take_one
steps-codes zero s [] good small = refl
steps-codes zero s (x ∷ log) good small = refl
steps-codes (suc budget) s [] good small = refl
steps-codes (suc budget) s (x ∷ log) good small =
    by (taken (x ∷ log)) refl
    (λ k.
    steps-codes budget (on_record s (take k (x ∷ log)) action_room).state (drop k (x ∷ log))
    (on_record-sound s (take k (x ∷ log)) action_room good)
    (simp length-drop (omega arith)))
  where
    next : ℕ → Outcome
    next k = on_record s (take k (x ∷ log)) action_room

    on : ℕ → Course
    on k = applies (take k (x ∷ log)) (next k) (course budget (next k).state (drop k (x ∷ log)))

    by : (found : Taken)
        → taken (x ∷ log) ≡ found
        → ((k : ℕ) → all_codes (steps budget (next k).state (drop k (x ∷ log))) ≡ true)
        → all_codes (steps_of (on_taken found stops on)) ≡ true
    by (front.Stopped stop) e rest = refl
    by (front.Overlong r) e rest = refl
    by (front.Whole k r) e rest =
        let bytes = take k (x ∷ log) in
        let below : 0 < length (x ∷ log) = omega arith in
        let ok = whole-ok (x ∷ log) 0 k r below (sym (taken-short (x ∷ log) small) ∙ e) in
        let reads = part-reads (x ∷ log) 0 below k ok.0 (omega (arith, ok.0, ok.1)) ok.2 bytes refl in
        and_both (run_code (next k).code) (all_codes (steps budget (next k).state (drop k (x ∷ log))))
        (ap (λ o. run_code o.code) (applied-reading s bytes good (fields (row_of x) bytes) reads) ∙ fields-code s x bytes)
        (rest k)

-- "In every run that is not itself refused": from any state, whatever the log and the budget
-- promise
pub run-codes : (s : State) (log : List ℕ) (budget : ℕ)
    → (run s log budget).code ≡ refusal.accepted
    → all_codes (steps budget s log) ≡ true
unfolding run
run-codes s log budget =
    let goes = go budget (fresh s) log in
    let unsound = run_refused refusal.not_sound s in
    let Known : Report → Type 0 = λ r. r.code ≡ refusal.accepted → all_codes (steps budget s log) ≡ true in
    cond-case Known (leb (length log) longest_log) (cond (sound s) goes unsound) (run_refused refusal.log_too_long s)
    (λ fits.
    cond-case Known (sound s) goes unsound
    (λ good h. steps-codes budget s log good (leb-true (length log) longest_log fits))
    (λ bad h. absurd (omega arith)))
    (λ long h. absurd (omega arith))
