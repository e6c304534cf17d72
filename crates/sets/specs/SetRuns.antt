-- Request Q-7: the run of the engine of sets over a log, as document 01 has it for the box: that of a machine with the engine's step.
-- Defines: set_given, set_gives, set_run.
use Rattle.std.specs.Prelude.{ℕ, List}
use Rattle.runs.specs.MachineRuns.{machine_run}
use Rattle.runs.specs.Machines.{Applying}
use Rattle.runs.specs.declared.run.MachineReport.{MachineReport}
use Rattle.unit.specs.OnRecords.{action_room}
use Rattle.sets.specs.SixSets.{set_ready}
use Rattle.sets.specs.SetSteps.{SetOutcome}
use Rattle.sets.specs.OnSets.{on_sets}
use Rattle.sets.specs.declared.state.SetState.{SetState}

-- what a run takes of a step
abbrev pub set_given : SetOutcome SetState → Applying SetState
set_given o = record { code = o.code; state = o.state; actions = o.actions }

-- a record of a log is given 20 bytes for its actions
abbrev pub set_gives : SetState → List ℕ → Applying SetState
set_gives b bytes = set_given (on_sets b bytes action_room)

-- "Run: 12, 11"
abbrev pub set_run : SetState → List ℕ → ℕ → MachineReport SetState
set_run = machine_run set_ready set_gives
