-- The actions passed are written.
use Rattle.std.proofs.Common.{◌≡◌, take}
use Rattle.unit.specs.OnRecords.{written}
use Rattle.sets.proofs.bytes.write.Given as goal

abbrev pub invariant-loop-i : goal.invariant-loop-i
invariant-loop-i l = l.s ≡ written (take l.i l.action-items) l.fn.s
