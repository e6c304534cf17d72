-- The members passed are sent their actions.
use Rattle.std.proofs.Common.{◌≡◌, ◌++◌, take}
use Rattle.unit.specs.Forms.{listed}
use Rattle.sets.specs.SetSteps.{sent_all}
use Rattle.sets.specs.Holding.{sent_so_far}
use Rattle.sets.proofs.answer.send_all.Given as goal

abbrev pub invariant-loop-member : goal.invariant-loop-member
invariant-loop-member l =
    l.sent ≡ listed (sent_so_far l.initial.sent ++ sent_all l.number (take l.member-index l.member-items))
