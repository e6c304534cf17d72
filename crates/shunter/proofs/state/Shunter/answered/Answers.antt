-- The core accepts or refuses.
use Rattle.shunter.proofs.Answers.{answered-sent, answered-refused}
use Rattle.shunter.proofs.state.Shunter.answered.Goals as goal

pub returns-then-answer-eq-ACCEPTED : goal.returns-then-answer-eq-ACCEPTED
returns-then-answer-eq-ACCEPTED c whom o is quiet free own joins good =
    let args = c.args in
    answered-sent args.self whom o quiet args.answer is c.send.result args.count args.joiner free own joins good
    c.if-answer-eq-ACCEPTED.true c.send.ensures

pub returns-else-answer-eq-ACCEPTED : goal.returns-else-answer-eq-ACCEPTED
returns-else-answer-eq-ACCEPTED c whom o is quiet free own joins good =
    let args = c.args in
    answered-refused args.self whom o quiet args.answer is c.refused.result c.if-answer-eq-ACCEPTED.false c.refused.ensures
