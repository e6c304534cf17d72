-- The records passed are the run so far.
use Rattle.std.proofs.Common.{◌≡◌, ◌-◌, ◌≤◌, true, length, drop}
use Rattle.unit.specs.States.{sound}
use Rattle.unit.specs.Runs.{go}
use Rattle.unit.specs.Counting.{Bounded, tally_of}
use Rattle.unit.proofs.run.go.Given as goal

abbrev pub invariant-loop-stop : goal.invariant-loop-stop
invariant-loop-stop l =
    (l.rest.offset ≤ length l.log)
    × Bounded (tally_of l.rest l.places)
    × (sound (tally_of l.rest l.places).state ≡ true)
    × (l.rest.read ≤ l.budget)
    × (go l.budget (tally_of l.initial.rest l.initial.places) l.log
    ≡ go (l.budget - l.rest.read) (tally_of l.rest l.places) (drop l.rest.offset l.log))

abbrev pub decreases-loop-stop : goal.decreases-loop-stop
decreases-loop-stop l = l.budget - l.rest.read
