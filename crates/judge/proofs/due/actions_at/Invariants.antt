-- The actions passed stand right.
use Rattle.std.proofs.Common.{◌/◌, length}
use Rattle.unit.specs.OnRecords.{action_size}
use Rattle.judge.proofs.Dues.{Passed}
use Rattle.judge.proofs.due.actions_at.Given as goal

abbrev pub invariant-loop-i : goal.invariant-loop-i
invariant-loop-i l = Passed l.sheet l.from l.sent (length l.sent / action_size) l.i l.at
