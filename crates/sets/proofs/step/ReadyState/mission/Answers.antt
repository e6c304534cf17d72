-- Mission 0 also ends all.
use Rattle.std.proofs.Common.{ap, ◌∙◌, true, false}
use borrow.Author.Tests.{eq-eqb, ne_eqb}
use Rattle.sets.proofs.StepLaws.{answering, mission-is}
use Rattle.sets.proofs.step.ReadyState.mission.Goals as goal

pub returns-then-mission-eq-MISSION_ENDED : goal.returns-then-mission-eq-MISSION_ENDED
returns-then-mission-eq-MISSION_ENDED c =
    c.close_all.ensures
    ∙ ap answering (mission-is c.args.self.state c.args.mission true (eq-eqb _ _ c.if-mission-eq-MISSION_ENDED.true))

pub returns-else-mission-eq-MISSION_ENDED : goal.returns-else-mission-eq-MISSION_ENDED
returns-else-mission-eq-MISSION_ENDED c =
    c.note.ensures
    ∙ ap answering (mission-is c.args.self.state c.args.mission false (ne_eqb _ _ c.if-mission-eq-MISSION_ENDED.false))
