-- Cross-checks only: nobody has to believe what stands here.
-- Further words of laws on marks: how far a run came.
-- Defines: ran_to.
use Rattle.std.specs.Prelude.{ℕ, List}
use Rattle.place.specs.declared.limits.Limits.{Limits}
use Rattle.unit.specs.States.{cold}
use Rattle.unit.specs.Runs.{run}
use Rattle.unit.specs.declared.run.Tally.{Tally}

-- the run of n records from the cold start
abbrev pub ran_to : Limits → List ℕ → ℕ → Tally
ran_to l log n = (run (cold l) log n).tally
