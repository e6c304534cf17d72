-- The run of a machine over a log, as document 01 has it for the box.
-- Defines: machine_fresh, machine_counted, machine_ended, machine_go, machine_refused, machine_run.
use Rattle.std.specs.Prelude.{ℕ, zero, suc, ◌+◌, Bool, cond, List, [], ◌∷◌, eqb, leb, length, take, drop}
use Rattle.wire.specs.Refusals.{accepted, not_sound, log_too_long}
use Rattle.record.specs.Takes.{nothing_left, budget_used, longest_log, taken, on_taken}
use Rattle.unit.specs.Runs.{no_totals, totalled}
use Rattle.runs.specs.Machines.{Applying}
use Rattle.runs.specs.declared.run.MachineTally.{MachineTally}
use Rattle.runs.specs.declared.run.MachineReport.{MachineReport}

-- a run before its first record
abbrev pub machine_fresh : {M : Type 0} → M → MachineTally M
machine_fresh m = record { state = m; offset = 0; read = 0; refused = 0; totals = no_totals }

-- a run with one record more: read, refused where its number is not 0; what went out counted
unfoldable pub machine_counted : {M : Type 0} → MachineTally M → ℕ → Applying M → MachineTally M
machine_counted t k o =
    record {
      state = o.state;
      offset = t.offset + k;
      read = t.read + 1;
      refused = t.refused + cond (eqb o.code accepted) 0 1;
      totals = totalled t.totals o.actions;
    }

-- a run that stopped
abbrev pub machine_ended : {M : Type 0} → MachineTally M → ℕ → MachineReport M
machine_ended t stop = record { code = accepted; stop = stop; tally = t }

-- "Before each record, in order: nothing left ..; budget used up ..; kind unknown ..; fewer bytes": a record is taken and applied
unfoldable pub machine_go : {M : Type 0} → (M → List ℕ → Applying M) → ℕ → MachineTally M → List ℕ → MachineReport M
machine_go gives zero t [] = machine_ended t nothing_left
machine_go gives zero t (kind ∷ rest) = machine_ended t budget_used
machine_go gives (suc budget) t log =
    on_taken (taken log) (machine_ended t)
    (λ k. machine_go gives budget (machine_counted t k (gives t.state (take k log))) (drop k log))

-- "A refused .. run .. returns its number, the state as given, counts 0 (a run's stop and offset too)"
abbrev pub machine_refused : {M : Type 0} → ℕ → M → MachineReport M
machine_refused r m = record { code = r; stop = 0; tally = machine_fresh m }

-- "Run: 12, 11"
unfoldable pub machine_run : {M : Type 0}
    → (M → Bool)
    → (M → List ℕ → Applying M)
    → M
    → List ℕ
    → ℕ
    → MachineReport M
machine_run ready gives m log budget =
    cond (leb (length log) longest_log) (cond (ready m) (machine_go gives budget (machine_fresh m) log) (machine_refused not_sound m))
    (machine_refused log_too_long m)
