-- By the modems that are free and by who waits.
use Rattle.std.proofs.Common.{⊎_elim}
use Rattle.shunter.proofs.CodeLines.{serve-none, serve-nobody, serve-one, serve-first, serve-both}
use Rattle.shunter.proofs.step.serve.Goals as goal

pub returns-then-free-eq0 : goal.returns-then-free-eq0
returns-then-free-eq0 c acts ordered is few =
    let args = c.args in
    ⊎_elim (serve-none args.next.places acts args.out is args.line args.free ordered)
    (λ empty. serve-nobody args.next.places acts args.out is args.line args.free ordered empty.1)
    c.then-free-eq0.either

pub returns-then-second-eq-NO_PLACE : goal.returns-then-second-eq-NO_PLACE
returns-then-second-eq-NO_PLACE c acts ordered is few =
    serve-one c.args.next.places acts c.args.out is c.args.line c.args.free few c.if-free-eq0.false c.if-first-eq-NO_PLACE.false
    c.first_request.result c.with_action-once.result c.first_request.ensures
    c.with_action-once.ensures c.none.result c.if-second-eq-NO_PLACE.true c.none.ensures

pub returns-then-free-eq1 : goal.returns-then-free-eq1
returns-then-free-eq1 c acts ordered is few =
    serve-first c.args.next.places acts c.args.out is c.args.line c.args.free few c.if-free-eq0.false c.if-first-eq-NO_PLACE.false
    c.first_request.result c.with_action-once.result c.first_request.ensures
    c.with_action-once.ensures c.if-second-eq-NO_PLACE.false c.if-free-eq1.true

pub returns : goal.returns
returns c acts ordered is few =
    serve-both c.args.next.places acts c.args.out is c.args.line c.args.free few c.if-free-eq0.false c.if-first-eq-NO_PLACE.false
    c.first_request.result c.with_action-once.result c.first_request.ensures
    c.with_action-once.ensures c.if-second-eq-NO_PLACE.false c.first_request-2.result c.with_action.result
    c.none-2.result c.if-free-eq1.false c.first_request-2.ensures c.with_action.ensures
    c.none-2.ensures
