-- Mission 0 also ends all.
use Rattle.std.proofs.Common.{sym, ◌∙◌, true, false}
use borrow.Author.Tests.{eq-eqb, ne_eqb}
use Rattle.unit.proofs.Rules.{mission-is}
use Rattle.unit.proofs.state.State.mission.Goals as goal

pub returns-then-mission-eq-MISSION_ENDED : goal.returns-then-mission-eq-MISSION_ENDED
returns-then-mission-eq-MISSION_ENDED c =
    c.close_all.ensures
    ∙ sym (mission-is c.args.self c.args.mission true (eq-eqb _ _ c.if-mission-eq-MISSION_ENDED.true))

pub returns-else-mission-eq-MISSION_ENDED : goal.returns-else-mission-eq-MISSION_ENDED
returns-else-mission-eq-MISSION_ENDED c =
    c.note.ensures
    ∙ sym (mission-is c.args.self c.args.mission false (ne_eqb _ _ c.if-mission-eq-MISSION_ENDED.false))
