-- Nobody, the first or the second.
use Rattle.shunter.proofs.Queued.{joined-none, joined-first, joined-second}
use Rattle.shunter.proofs.queue.Queue.joined.Goals as goal

pub returns-then-place-eq-NO_PLACE : goal.returns-then-place-eq-NO_PLACE
returns-then-place-eq-NO_PLACE c ordered few = joined-none c.args.self c.args.place ordered c.if-place-eq-NO_PLACE.true

pub returns-then-self-eq-NO_PLACE : goal.returns-then-self-eq-NO_PLACE
returns-then-self-eq-NO_PLACE c ordered few =
    joined-first c.args.self c.args.place ordered c.if-place-eq-NO_PLACE.false c.if-self-eq-NO_PLACE.true

pub returns : goal.returns
returns c ordered few =
    joined-second c.args.self c.args.place ordered c.if-place-eq-NO_PLACE.false c.if-self-eq-NO_PLACE.false few
