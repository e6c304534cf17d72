-- The run of so many records over a log that is not too long, from a sound state: how far it comes, and that its state is sound.
-- Proves: run-many, many-within, many-sound.
use mathlib.Core.Path.{◌≡◌, refl, sym, ap, ◌∙◌}
use mathlib.Core.Bool.{true}
use mathlib.Core.List.{List}
use Prim.Native.Nat.{ℕ, zero, suc, ◌+◌, ◌-◌, ◌≤◌}
use native.Mathlib.Omega.{arith}
use lib.ListN.{length, take, drop, length-drop}
use lib.Seq.{take_all}
use Rattle.record.specs.Takes.{longest_log, taken}
use Rattle.record.specs.Takes.{Taken}
use Rattle.record.specs.Takes.{Whole, Stopped, Overlong}
use Rattle.unit.specs.States.{sound}
use Rattle.unit.specs.OnRecords.{action_room, on_record}
use Rattle.unit.specs.Runs.{counted, fresh, go, run}
use Rattle.unit.specs.declared.state.State.{State}
use Rattle.unit.specs.declared.run.Tally.{Tally}
use Rattle.unit.specs.declared.run.Report.{Report}
use Rattle.unit.proofs.Runs.Takes.{whole-fits, go-refused}
use Rattle.unit.proofs.Runs.Starting.{run_sound}
use Rattle.unit.proofs.Runs.InTurn.{counted-offset, run-facts, some, go-suc, go-ends, run-again}
use Rattle.unit.proofs.Runs.Stops.{run-taken}
use Rattle.marks.specs.Marks.{after_many}

-- a run does not come past the end of what is left of its log
go-within : (budget : ℕ) (t : Tally) (log : List ℕ) → (go budget t log).tally.offset ≤ t.offset + length log
go-within zero t log = omega (arith, ap (λ (u : Tally). u.offset) (go-ends t log).0)
go-within (suc budget) t log = by (taken log) refl (go-within budget)
  where
    by : (front : Taken)
        → taken log ≡ front
        → ((u : Tally) (l : List ℕ) → (go budget u l).tally.offset ≤ u.offset + length l)
        → (go (suc budget) t log).tally.offset ≤ t.offset + length log
    by (Stopped stop) e later = omega (arith, ap (λ (u : Tally). u.offset) ((go-ends t log).1 budget stop e).0)
    by (Overlong r) e later =
        omega (arith, ap (λ (x : Report). x.tally.offset) (go-refused t (suc budget) (some budget) log r e))
    by (Whole k r) e later =
        let o = on_record t.state (take k log) action_room in
        let end = ap (λ (x : Report). x.tally.offset) (go-suc budget t log k r e) in
        let rest = later (counted t k o) (drop k log) in
        omega (arith, counted-offset t k o, whole-fits log k r e, length-drop k log)

module _ (s : State) (log : List ℕ) (at budget : ℕ) (good : sound s ≡ true) (short : length log ≤ longest_log) where
  rest-short : length (drop at log) ≤ longest_log
  rest-short = simp length-drop (omega arith)

  -- the run that the code makes, over the part of the log that it is lent
  pub run-many : (r : Report)
      → r ≡ run s (take (length log - at) (drop at log)) budget
      → r.tally ≡ after_many s (drop at log) budget
  run-many r ran =
      let left = length-drop at log in
      ap (λ (x : Report). x.tally)
      (ran
      ∙ ap (λ l. run s l budget) (take_all (length log - at) (drop at log) (omega arith))
      ∙ sym (run_sound s (drop at log) budget rest-short good))

  pub many-sound : sound (after_many s (drop at log) budget).state ≡ true
  many-sound =
      let first = run s (drop at log) budget in
      let again = (run-again s (drop at log) budget 0 (run-taken s (drop at log) budget rest-short good)).0 in
      ap (λ (r : Report). sound r.tally.state) (run_sound s (drop at log) budget rest-short good)
      ∙ (run-facts first.tally.state (drop first.tally.offset (drop at log)) 1 again).1

  pub many-within : at ≤ length log → at + (after_many s (drop at log) budget).offset ≤ length log
  many-within inside = omega (arith, go-within budget (fresh s) (drop at log), length-drop at log)
