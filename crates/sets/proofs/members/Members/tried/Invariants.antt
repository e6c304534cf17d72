-- The members passed, each with so many tries.
use Rattle.std.proofs.Common.{◌≡◌, map, take}
use Rattle.sets.specs.Members.{set_of}
use Rattle.sets.specs.SetSteps.{tried}
use Rattle.sets.proofs.members.Members.tried.Given as goal

abbrev pub invariant-loop-member : goal.invariant-loop-member
invariant-loop-member l = l.all ≡ set_of (map (tried l.tries) (take l.member-index l.member-items))
