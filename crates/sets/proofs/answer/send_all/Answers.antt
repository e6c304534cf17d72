-- The members passed are sent their actions.
use Rattle.std.proofs.Common.{length, ap, arith}
use Rattle.sets.proofs.MemberLoops.{held-few}
use Rattle.sets.proofs.SentLaws.{SentStep, sent-step}
use Rattle.sets.proofs.answer.send_all.Goals.{In-loop-member}
use Rattle.sets.proofs.answer.send_all.Goals as goal

-- a member that is still to be sent its action
module _ (c : In-loop-member) where
  step : SentStep c.args.actions c.loop-member.sent c.args.number c.loop-member.member-index c.held-member-items.result.now
  step =
      let items = c.held-member-items.result.now in
      let few = ap length c.held-member-items.ensures in
      sent-step c.args.actions c.loop-member.sent c.args.number c.loop-member.member-index items c.requires.0
      (omega (arith, few, held-few c.args.members)) c.loop-member-test.true c.loop-member.invariant

pub send-sent-requires : goal.send-sent-requires
send-sent-requires c = (step (goal.at.send-sent-requires c).In-loop-member).0

pub loop-member-preserved : goal.loop-member-preserved
loop-member-preserved c =
    (step (goal.at.loop-member-preserved c).In-loop-member).1 c.send-sent.result c.send-sent.ensures
