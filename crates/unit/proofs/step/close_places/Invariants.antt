-- The places passed are closed where they were due, and their numbers stand beside them.
use Rattle.std.proofs.Common.{◌≡◌, ◌≤◌, ◌++◌, map, take, drop}
use lib.Seq.{paste}
use Rattle.unit.specs.Steps.{closed}
use Rattle.unit.specs.Changes.{closing_number}
use Rattle.unit.proofs.step.close_places.Given as goal

abbrev pub invariant-loop-i : goal.invariant-loop-i
invariant-loop-i l =
    (l.i ≤ 4)
    × (l.places ≡ closed l.which (take l.i l.fn.before) ++ drop l.i l.fn.before)
    × (l.numbers ≡ paste l.initial.numbers 0 (map (closing_number l.which) l.fn.before) l.i)
