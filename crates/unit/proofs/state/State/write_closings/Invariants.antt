-- The places passed are closed where they were due, and their actions stand in the buffer.
use Rattle.std.proofs.Common.{◌≡◌, ◌≤◌, List, ◌++◌, map, length, take, drop, ℕ}
use Rattle.place.specs.declared.place.Place.{Place}
use Rattle.place.specs.declared.turn.Closing.{Closing}
use Rattle.unit.specs.Steps.{closed}
use Rattle.unit.specs.OnRecords.{written}
use Rattle.unit.specs.Changes.{closing_number, sent_for}
use Rattle.unit.proofs.state.State.write_closings.Given as goal

-- the numbers of the closings
abbrev pub all : Closing → List Place → List ℕ
all which = map (closing_number which)

abbrev pub invariant-loop-i : goal.invariant-loop-i
invariant-loop-i l =
    let ps : List Place = l.fn.self.places in
    (l.i ≤ 4)
    × (l.places ≡ closed l.which (take l.i ps) ++ drop l.i ps)
    × (l.count ≡ length (sent_for (take l.i ps) (take l.i (all l.which ps))))
    × (l.s ≡ written (sent_for (take l.i ps) (take l.i (all l.which ps))) l.fn.s)
