-- Request Q-10: the run of the shunter over a log, as document 01 has it for the box: that of a machine with the shunter's step.
-- Defines: shunter_given, shunter_gives, shunter_run.
use Rattle.std.specs.Prelude.{ℕ, List}
use Rattle.runs.specs.MachineRuns.{machine_run}
use Rattle.runs.specs.Machines.{Applying}
use Rattle.runs.specs.declared.run.MachineReport.{MachineReport}
use Rattle.unit.specs.OnRecords.{action_room}
use Rattle.shunter.specs.Queues.{ready}
use Rattle.shunter.specs.Shunting.{Shunting, shunt}
use Rattle.shunter.specs.declared.state.Shunter.{Shunter}

-- what a run counts of a step: 17 and 18 as refusals too, and of the actions those that went out
abbrev pub shunter_given : Shunting → Applying Shunter
shunter_given o = record { code = o.code; state = o.shunter; actions = o.actions }

-- a record of a log is given 20 bytes for its actions
abbrev pub shunter_gives : Shunter → List ℕ → Applying Shunter
shunter_gives h bytes = shunter_given (shunt h bytes action_room)

-- "Run: 12, 11"
abbrev pub shunter_run : Shunter → List ℕ → ℕ → MachineReport Shunter
shunter_run = machine_run ready shunter_gives
