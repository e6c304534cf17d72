-- 0 is no action.
use borrow.Author.Tests.{eq-eqb, ne_eqb}
use Rattle.unit.specs.Changes.{push_all, given}
use Rattle.unit.proofs.answer.Actions.send_number.Goals as goal

pub returns-then-number-eq-NO_ACTION : goal.returns-then-number-eq-NO_ACTION
unfolding push_all given
returns-then-number-eq-NO_ACTION c = simp (eq-eqb _ _ c.if-number-eq-NO_ACTION.true)

pub returns-else-number-eq-NO_ACTION : goal.returns-else-number-eq-NO_ACTION
unfolding push_all given
returns-else-number-eq-NO_ACTION c = simp (ne_eqb _ _ c.if-number-eq-NO_ACTION.false, c.push.ensures)
