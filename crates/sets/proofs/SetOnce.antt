-- Of a sound state: no partner stands twice, in one set or in two; and a run keeps soundness.
-- Proves: stands-once, sets-run-ready.
use mathlib.Core.Path.{◌≡◌}
use mathlib.Core.Bool.{true}
use mathlib.Core.List.{List, [], ◌∷◌}
use Prim.Native.Nat.{ℕ, zero, suc, ◌≤◌}
use native.Mathlib.Omega.{arith}
use lib.Dec.{leb}
use lib.ListN.{length, take, drop}
use Rattle.wire.proofs.Tests.{cond-case}
use Rattle.record.specs.Takes.{longest_log, taken, on_taken}
use Rattle.record.specs.declared.partner.Partner.{Partner}
use Rattle.record.specs.Takes.{Taken}
use Rattle.record.specs.Takes.{Whole, Stopped, Overlong}
use Rattle.unit.specs.OnRecords.{action_room}
use Rattle.unit.proofs.Facts.{sound-facts}
use Rattle.sets.specs.Members.{is_for}
use Rattle.sets.specs.SixSets.{everyone, six_in, unpacked, set_ready}
use Rattle.runs.specs.MachineRuns.{machine_fresh, machine_counted, machine_ended, machine_go, machine_run}
use Rattle.sets.specs.SetRuns.{set_gives, set_run}
use Rattle.sets.specs.SetGoings.{set_go}
use Rattle.sets.specs.SameSets.{count_in, state_of}
use Rattle.runs.specs.declared.run.MachineReport.{MachineReport}
use Rattle.runs.specs.declared.run.MachineTally.{MachineTally}
use Rattle.sets.specs.declared.state.SetState.{SetState}
use Rattle.sets.proofs.Counting.{many-everyone}
use Rattle.sets.proofs.SameAnswers.{some-state, on_sets-ready}

-- "Prove the sets disjoint": of everyone in the six sets, a partner is one at most
-- promise
pub stands-once : (b : SetState) → set_ready b ≡ true → (p : Partner) → count_in (is_for p) (everyone (six_in b)) ≤ 1
unfolding unpacked
stands-once b ready p =
    let both = some-state b ready in
    let one = (sound-facts (state_of (unpacked b)) both.0).places.1 p in
    let held = both.1.members (λ w. is_for p) in
    let all = many-everyone (is_for p) (six_in b) in
    omega arith

-- the state of a run so far stays sound
go-ready : (budget : ℕ) (t : MachineTally SetState) (log : List ℕ)
    → set_ready t.state ≡ true
    → set_ready (set_go budget t log).tally.state ≡ true
unfolding machine_go machine_counted
go-ready zero t [] ready = ready
go-ready zero t (kind ∷ rest) ready = ready
go-ready (suc budget) t log ready =
    by (taken log)
    (λ k.
    go-ready budget (machine_counted t k (set_gives t.state (take k log))) (drop k log)
    (on_sets-ready t.state (take k log) action_room ready))
  where
    by : (x : Taken)
        → ((k : ℕ)
        → set_ready (set_go budget (machine_counted t k (set_gives t.state (take k log))) (drop k log)).tally.state ≡ true)
        → set_ready
        (on_taken x (machine_ended t)
        (λ k. set_go budget (machine_counted t k (set_gives t.state (take k log))) (drop k log))).tally.state
        ≡ true
    by (Whole k r) rest = rest k
    by (Stopped stop) rest = ready
    by (Overlong r) rest = ready

-- a run from a sound state ends in one
-- promise
pub sets-run-ready : (b : SetState) (log : List ℕ) (budget : ℕ)
    → set_ready b ≡ true
    → set_ready (set_run b log budget).tally.state ≡ true
unfolding machine_run
sets-run-ready b log budget ready =
    cond-case (λ (r : MachineReport SetState). set_ready r.tally.state ≡ true) (leb (length log) longest_log) _ _
    (λ short.
    cond-case (λ (r : MachineReport SetState). set_ready r.tally.state ≡ true) (set_ready b) _ _
    (λ good. go-ready budget (machine_fresh b) log ready)
    (λ bad. ready))
    (λ long. ready)
