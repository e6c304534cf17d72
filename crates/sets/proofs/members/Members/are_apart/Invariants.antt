-- The partners passed stand no second time.
use Rattle.std.proofs.Common.{◌≡◌, drop}
use Rattle.sets.specs.Members.{apart}
use Rattle.sets.proofs.members.Members.are_apart.Given as goal

abbrev pub invariant-loop-i : goal.invariant-loop-i
invariant-loop-i l = apart l.members ≡ apart (drop l.i l.members)
