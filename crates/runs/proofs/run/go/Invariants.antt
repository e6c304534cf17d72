-- The records passed are the run so far.
use Rattle.std.proofs.Common.{◌-◌}
use Rattle.runs.specs.MachineRuns.{machine_fresh, machine_go}
use Rattle.runs.proofs.Going.{Going}
use Rattle.runs.proofs.run.go.Given as goal

abbrev pub invariant-loop-tally : goal.invariant-loop-tally
invariant-loop-tally g l =
    let gives = g.M.Machine.gives in
    Going gives l.log l.budget (machine_go gives l.budget (machine_fresh l.fn.start) l.log) l.tally

abbrev pub decreases-loop-tally : goal.decreases-loop-tally
decreases-loop-tally g l = l.budget - l.tally.read
