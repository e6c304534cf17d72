-- There is room while fewer than four stand.
use Rattle.std.proofs.Common.{arith}
use Rattle.shunter.proofs.Gathered.{gathered-more, gathered-count}
use Rattle.shunter.proofs.answer.with_action.Goals as goal

pub returns-then-count-lt-MOST_ACTIONS : goal.returns-then-count-lt-MOST_ACTIONS
returns-then-count-lt-MOST_ACTIONS c acts few is = gathered-more acts c.args.action c.args.actions few is

pub returns-else-count-lt-MOST_ACTIONS : goal.returns-else-count-lt-MOST_ACTIONS
returns-else-count-lt-MOST_ACTIONS c acts few is =
    absurd (omega (arith, gathered-count acts c.args.actions is, c.if-count-lt-MOST_ACTIONS.false))
