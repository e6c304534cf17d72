-- There is room after the last one.
use Rattle.sets.proofs.MemberLoops.{with-last}
use Rattle.sets.proofs.members.Members.with.Goals as goal

pub returns : goal.returns
returns c = with-last c.args.self c.args.member c.requires.0 c.requires.1
