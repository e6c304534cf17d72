-- Cross-checks only: nobody has to believe what stands here.
-- The parts of a run that the laws speak of, of this machine.
-- Defines: shunter_go, shunter_refused.
use Rattle.std.specs.Prelude.{ℕ, List}
use Rattle.runs.specs.MachineRuns.{machine_go, machine_refused}
use Rattle.runs.specs.declared.run.MachineReport.{MachineReport}
use Rattle.runs.specs.declared.run.MachineTally.{MachineTally}
use Rattle.shunter.specs.ShunterRuns.{shunter_gives}
use Rattle.shunter.specs.declared.state.Shunter.{Shunter}

-- the rest of a run, with what is left of the budget and of the log
abbrev pub shunter_go : ℕ → MachineTally Shunter → List ℕ → MachineReport Shunter
shunter_go = machine_go shunter_gives

abbrev pub shunter_refused : ℕ → Shunter → MachineReport Shunter
shunter_refused = machine_refused
