-- The members passed stand after those of the set.
use Rattle.std.proofs.Common.{◌≡◌, ◌++◌, take}
use Rattle.sets.specs.Members.{members_of, set_of}
use Rattle.sets.proofs.members.Members.joined.Given as goal

abbrev pub invariant-loop-member : goal.invariant-loop-member
invariant-loop-member l = l.all ≡ set_of (members_of l.initial.all ++ take l.member-index l.member-items)
