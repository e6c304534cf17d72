-- The numbers passed are counted.
use Rattle.std.proofs.Common.{◌≡◌, ◌+◌, ◌≤◌, List, length, take}
use Rattle.place.specs.declared.place.Place.{Place}
use Rattle.unit.specs.States.{place_count}
use Rattle.unit.specs.Changes.{sent_for}
use Rattle.unit.specs.Runs.{totalled}
use Rattle.unit.specs.Counting.{most_total, Below}
use Rattle.unit.proofs.run.Totals.add_all.Given as goal

abbrev pub invariant-loop-i : goal.invariant-loop-i
invariant-loop-i l =
    (l.i ≤ 4)
    × ((ps : List Place)
    → length ps ≡ place_count
    → l.totals ≡ totalled l.fn.self (sent_for (take l.i ps) (take l.i l.numbers)))
    × (Below most_total l.fn.self → Below (most_total + l.i) l.totals)
