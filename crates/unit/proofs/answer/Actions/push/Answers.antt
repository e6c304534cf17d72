-- There is room while fewer than four stand.
use borrow.Author.Tests.{lt-ltb, le-ltb}
use Rattle.unit.specs.Changes.{pushed}
use Rattle.unit.proofs.answer.Actions.push.Goals as goal

pub returns-then-count-lt-MOST_ACTIONS : goal.returns-then-count-lt-MOST_ACTIONS
unfolding pushed
returns-then-count-lt-MOST_ACTIONS c = simp (lt-ltb _ _ c.if-count-lt-MOST_ACTIONS.true)

pub returns-else-count-lt-MOST_ACTIONS : goal.returns-else-count-lt-MOST_ACTIONS
unfolding pushed
returns-else-count-lt-MOST_ACTIONS c = simp (le-ltb _ _ c.if-count-lt-MOST_ACTIONS.false)
