-- The actions passed are written.
use Rattle.std.proofs.Common.{◌≡◌, ◌≤◌, length, take}
use Rattle.unit.specs.OnRecords.{written}
use Rattle.shunter.proofs.bytes.write.Given as goal

abbrev pub invariant-loop-i : goal.invariant-loop-i
invariant-loop-i l =
    (l.i ≤ l.fn.actions.count)
    × (length l.s ≡ length l.fn.s)
    × (l.s ≡ written (take l.i l.fn.actions.items) l.fn.s)
