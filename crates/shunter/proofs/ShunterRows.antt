-- The run of the shunter is its history over the records that it takes: the state, the counts, and the totals of what went out.
-- Defines: Followed.
-- Proves: run-twelve, run-eleven, run-after, run-counts, run-totals, run-stop.
use mathlib.Core.Path.{◌≡◌, refl, sym, ap, ◌∙◌}
use mathlib.Core.Bool.{true, false}
use mathlib.Core.List.{List, [], ◌∷◌}
use Prim.Native.Nat.{ℕ, zero, suc, ◌+◌, ◌≤◌, ◌<◌}
use native.Mathlib.Omega.{arith}
use lib.ListN.{length, take, drop}
use lib.Seq.{length-take-le}
use borrow.Author.Tests.{le-leb, lt-leb}
use Rattle.record.specs.Takes.{longest_log, taken, on_taken}
use Rattle.record.specs.TakeWords.{TakenOk}
use Rattle.record.proofs.Takes.{taken-ok}
use Rattle.record.specs.Takes.{Taken}
use Rattle.record.specs.Takes.{Whole, Stopped, Overlong}
use Rattle.unit.specs.OnRecords.{action_room, on_record}
use Rattle.unit.specs.States.{sound}
use Rattle.unit.specs.Steps.{Outcome}
use Rattle.unit.specs.declared.state.State.{State}
use Rattle.unit.specs.declared.run.Tally.{Tally}
use Rattle.unit.specs.declared.run.Report.{Report}
use Rattle.unit.specs.Runs.{no_totals, totalled, stops, applies, course, fresh, counted, tallied, go, run}
use Rattle.unit.proofs.Runs.Tallies.{totalled_none, totalled-append}
use Rattle.shunter.specs.Queues.{ready}
use Rattle.shunter.specs.Shunting.{shunt}
use Rattle.runs.specs.MachineRuns.{machine_fresh, machine_counted, machine_ended, machine_go, machine_run}
use Rattle.shunter.specs.ShunterRuns.{shunter_gives, shunter_run}
use Rattle.shunter.specs.ShunterGoings.{shunter_go, shunter_refused}
use Rattle.shunter.specs.ShunterSums.{rows_in, shunter_sent, refusals}
use Rattle.shunter.specs.ShunterHistories.{shunter_after, shunter_sum}
use Rattle.shunter.specs.declared.state.Shunter.{Shunter}
use Rattle.runs.specs.declared.run.MachineReport.{MachineReport}
use Rattle.runs.specs.declared.run.MachineTally.{MachineTally}

-- a run so far, and the history of the records that it goes on to take
pub record Followed (t : MachineTally Shunter) (rows : List (List ℕ)) (r : MachineReport Shunter) : Type 0 where
  pub shunter : r.tally.state ≡ shunter_after t.state rows
  pub read : r.tally.read ≡ t.read + length rows
  pub refused : r.tally.refused ≡ t.refused + refusals t.state rows
  pub totals : r.tally.totals ≡ totalled t.totals (shunter_sent t.state rows)

followed-none : (t : MachineTally Shunter) (stop : ℕ) → Followed t [] (machine_ended t stop)
unfolding shunter_after shunter_sum shunter_sent
followed-none t stop =
    record { shunter = refl; read = omega arith; refused = omega arith; totals = sym (totalled_none t.totals) }

followed : (budget : ℕ) (t : MachineTally Shunter) (log : List ℕ) → Followed t (rows_in budget log) (shunter_go budget t log)
unfolding machine_go rows_in machine_counted shunter_after shunter_sum shunter_sent
followed zero t [] = followed-none t _
followed zero t (kind ∷ rest) = followed-none t _
followed (suc budget) t log =
    by (taken log) (λ k. followed budget (machine_counted t k (shunter_gives t.state (take k log))) (drop k log))
  where
    by : (x : Taken)
        → ((k : ℕ)
        → Followed (machine_counted t k (shunter_gives t.state (take k log))) (rows_in budget (drop k log))
        (shunter_go budget (machine_counted t k (shunter_gives t.state (take k log))) (drop k log)))
        → Followed t (on_taken x (λ stop. []) (λ k. take k log ∷ rows_in budget (drop k log)))
        (on_taken x (machine_ended t)
        (λ k. shunter_go budget (machine_counted t k (shunter_gives t.state (take k log))) (drop k log)))
    by (Whole k r) rest =
        let x = shunt t.state (take k log) action_room in
        let f = rest k in
        let read = f.read in
        let refused = f.refused in
        record {
          shunter = f.shunter;
          read = omega arith;
          refused = omega arith;
          totals = f.totals ∙ sym (totalled-append t.totals x.actions (shunter_sent x.shunter (rows_in budget (drop k log))));
        }
    by (Stopped stop) rest = followed-none t stop
    by (Overlong r) rest = followed-none t r

module _ (h : Shunter) (log : List ℕ) (budget : ℕ) where
  -- "Run: 12, 11": a refused run has stop, offset and counts 0 and the state as given
  -- promise
  pub run-twelve : 1_048_576 < length log → shunter_run h log budget ≡ shunter_refused 12 h
  unfolding machine_run
  run-twelve long = simp (lt-leb (length log) longest_log long)

  module _ (fits : length log ≤ 1_048_576) where
    -- a shunter that is not sound is refused
    -- promise
    pub run-eleven : ready h ≡ false → shunter_run h log budget ≡ shunter_refused 11 h
    unfolding machine_run
    run-eleven bad = simp (le-leb (length log) longest_log fits, bad)

    module _ (good : ready h ≡ true) where
      ran : shunter_run h log budget ≡ shunter_go budget (machine_fresh h) log
      unfolding machine_run
      ran = simp (le-leb (length log) longest_log fits, good)

      -- the shunter after a run is the one after its records
      -- promise
      pub run-after : (shunter_run h log budget).tally.state ≡ shunter_after h (rows_in budget log)
      run-after = ap (λ (r : MachineReport Shunter). r.tally.state) ran ∙ (followed budget (machine_fresh h) log).shunter

      -- "17 and 18 .. count as refused in a run": records read and refused are those of its steps
      -- promise
      pub run-counts : ((shunter_run h log budget).tally.read ≡ length (rows_in budget log))
          × ((shunter_run h log budget).tally.refused ≡ refusals h (rows_in budget log))
      run-counts =
          let f = followed budget (machine_fresh h) log in
          let read = f.read in
          let refused = f.refused in (
            ap (λ (r : MachineReport Shunter). r.tally.read) ran ∙ omega arith,
            ap (λ (r : MachineReport Shunter). r.tally.refused) ran ∙ omega arith,
          )

      -- "the run's totals are of what went out"
      -- promise
      pub run-totals : (shunter_run h log budget).tally.totals ≡ totalled no_totals (shunter_sent h (rows_in budget log))
      run-totals = ap (λ (r : MachineReport Shunter). r.tally.totals) ran ∙ (followed budget (machine_fresh h) log).totals

-- a run stops where the core's run over the same log stops, whatever the two answer to the records
stops_same : (budget : ℕ) (t : MachineTally Shunter) (u : Tally) (log : List ℕ)
    → t.offset ≡ u.offset
    → ((shunter_go budget t log).stop ≡ (go budget u log).stop)
    × ((shunter_go budget t log).tally.offset ≡ (go budget u log).tally.offset)
unfolding machine_go machine_counted course tallied counted
stops_same zero t u [] same = (refl, same)
stops_same zero t u (kind ∷ rest) same = (refl, same)
stops_same (suc budget) t u log same =
    by (taken log) (taken-ok log)
    (λ k whole.
    stops_same budget (machine_counted t k (shunter_gives t.state (take k log)))
    (counted u (length (take k log)) (on_record u.state (take k log) action_room)) (drop k log)
    (ap (λ n. n + k) same ∙ ap (λ n. u.offset + n) (sym (length-take-le k log whole))))
  where
    next : ℕ → MachineTally Shunter
    next k = machine_counted t k (shunter_gives t.state (take k log))

    other : ℕ → Outcome
    other k = on_record u.state (take k log) action_room

    by : (x : Taken)
        → TakenOk log x
        → ((k : ℕ)
        → k ≤ length log
        → ((shunter_go budget (next k) (drop k log)).stop
        ≡ (go budget (counted u (length (take k log)) (other k)) (drop k log)).stop)
        × ((shunter_go budget (next k) (drop k log)).tally.offset
        ≡ (go budget (counted u (length (take k log)) (other k)) (drop k log)).tally.offset))
        → ((on_taken x (machine_ended t) (λ k. shunter_go budget (next k) (drop k log))).stop
        ≡ (tallied u (on_taken x stops (λ k. applies (take k log) (other k) (course budget (other k).state (drop k log))))).stop)
        × ((on_taken x (machine_ended t) (λ k. shunter_go budget (next k) (drop k log))).tally.offset
        ≡ (tallied u (on_taken x stops (λ k. applies (take k log) (other k) (course budget (other k).state (drop k log))))).tally.offset)
    by (Whole k r) ok rest = rest k ok.1
    by (Stopped stop) ok rest = (refl, same)
    by (Overlong r) ok rest = (refl, same)

-- the stop and the offset of a run are those of the core's run over the same log, from any box
-- promise
pub run-stop : (h : Shunter) (s : State) (log : List ℕ) (budget : ℕ)
    → length log ≤ 1_048_576
    → ready h ≡ true
    → sound s ≡ true
    → ((shunter_run h log budget).stop ≡ (run s log budget).stop)
    × ((shunter_run h log budget).tally.offset ≡ (run s log budget).tally.offset)
unfolding run
run-stop h s log budget fits good ok =
    let same = stops_same budget (machine_fresh h) (fresh s) log refl in
    let mine = ran h log budget fits good in
    let theirs : run s log budget ≡ go budget (fresh s) log = simp (le-leb (length log) longest_log fits, ok) in (
      ap (λ (r : MachineReport Shunter). r.stop) mine ∙ same.0 ∙ sym (ap (λ (r : Report). r.stop) theirs),
      ap (λ (r : MachineReport Shunter). r.tally.offset) mine ∙ same.1 ∙ sym (ap (λ (r : Report). r.tally.offset) theirs),
    )
