-- The refusals in their order, then the answer to the core's.
use Rattle.std.proofs.Common.{sym, ap, ap₂, ◌∙◌}
use Rattle.record.specs.Readings.{Meant, Refused, told_reading}
use Rattle.wire.specs.Refusals.{number}
use Rattle.shunter.specs.Shunting.{shunt_refused_at, shunted}
use Rattle.shunter.proofs.Applies.{applied-unruled, applied-eleven, applied-on}
use Rattle.shunter.proofs.state.Shunter.apply.Goals as goal

pub returns-then-not-rules_hold : goal.returns-then-not-rules_hold
returns-then-not-rules_hold c =
    let self = c.args.self in
    let bad = sym c.rules_hold.ensures ∙ c.if-not-rules_hold.true in
    c.refused.ensures
    ∙ ap₂ (λ k w. shunted (shunt_refused_at k w self)) c.number.ensures c.nowhere.ensures
    ∙ ap shunted (sym (applied-unruled self c.args.bytes.now bad))

pub returns-then-answer-number : goal.returns-then-answer-number
returns-then-answer-number c =
    let self = c.args.self in
    let core = c.apply-answer in
    let eleven = applied-eleven self c.args.bytes.now core.result core.ensures (c.if-answer-number.true ∙ c.number-2.ensures) in
    c.refused-then-answer-number.ensures
    ∙ ap₂ (λ k w. shunted (shunt_refused_at k w self)) (c.if-answer-number.true ∙ c.number-2.ensures)
    c.nowhere-then-answer-number.ensures
    ∙ ap shunted (sym eleven)

pub returns-in-Ok : goal.returns-in-Ok
returns-in-Ok c =
    applied-on c.args.self c.args.bytes.now c.apply-answer.result c.apply-answer.ensures (Meant c.in-Ok.event)
    c.on_event.result
    (sym c.rules_hold.ensures ∙ c.if-not-rules_hold.false)
    (λ e. c.if-answer-number.false (e ∙ sym c.number-2.ensures))
    (sym c.read.ensures ∙ ap told_reading c.in-Ok.is)
    c.on_event.ensures

pub returns-in-Err : goal.returns-in-Err
returns-in-Err c =
    applied-on c.args.self c.args.bytes.now c.apply-answer.result c.apply-answer.ensures (Refused (number c.in-Err.field-0))
    c.noted.result
    (sym c.rules_hold.ensures ∙ c.if-not-rules_hold.false)
    (λ e. c.if-answer-number.false (e ∙ sym c.number-2.ensures))
    (sym c.read.ensures ∙ ap told_reading c.in-Err.is)
    c.noted.ensures
