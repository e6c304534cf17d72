-- The union of the sets passed.
use Rattle.std.proofs.Common.{◌≡◌}
use Rattle.sets.specs.Members.{set_of}
use Rattle.sets.proofs.SixByName.{union_to}
use Rattle.sets.proofs.six.SixSets.everyone.Given as goal

abbrev pub invariant-loop-members : goal.invariant-loop-members
invariant-loop-members l = l.all ≡ set_of (union_to l.fn.self l.members-index)
