-- The actions passed are counted.
use Rattle.std.proofs.Common.{◌≡◌, ◌+◌, ◌≤◌, take}
use Rattle.unit.specs.Runs.{totalled}
use Rattle.unit.specs.Counting.{most_total, Below}
use Rattle.runs.proofs.run.add_all.Given as goal

abbrev pub invariant-loop-action : goal.invariant-loop-action
invariant-loop-action l =
    (l.action-index ≤ l.fn.actions.count)
    × Below (most_total + l.action-index) l.totals
    × (l.totals ≡ totalled l.fn.counted (take l.action-index l.fn.actions.items))
