-- Cross-checks only: nobody has to believe what stands here.
-- The parts of a run that the laws speak of, of this machine.
-- Defines: set_go, set_run_refused.
use Rattle.std.specs.Prelude.{ℕ, List}
use Rattle.runs.specs.MachineRuns.{machine_go, machine_refused}
use Rattle.runs.specs.declared.run.MachineReport.{MachineReport}
use Rattle.runs.specs.declared.run.MachineTally.{MachineTally}
use Rattle.sets.specs.SetRuns.{set_gives}
use Rattle.sets.specs.declared.state.SetState.{SetState}

-- the rest of a run, with what is left of the budget and of the log
abbrev pub set_go : ℕ → MachineTally SetState → List ℕ → MachineReport SetState
set_go = machine_go set_gives

abbrev pub set_run_refused : ℕ → SetState → MachineReport SetState
set_run_refused = machine_refused
