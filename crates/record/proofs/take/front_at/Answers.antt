-- The stops in their order.
use Rattle.std.proofs.Common.{◌∙◌, ap, arith}
use Rattle.record.specs.Records.{reading}
use Rattle.record.proofs.ByKind.{length_some}
use Rattle.record.proofs.Takes.{take-end, take-unknown, take_short, take_whole, part-is, part-reads}
use Rattle.record.proofs.take.front_at.Goals as goal

pub returns-then-at-log : goal.returns-then-at-log
returns-then-at-log c = take-end c.args.log.now c.args.at c.if-at-log.true

pub returns-then-kind-eq-NO_KIND : goal.returns-then-kind-eq-NO_KIND
returns-then-kind-eq-NO_KIND c = take-unknown c.args.log.now c.args.at c.if-at-log.false (λ above. omega arith)

pub returns-then-kind-gt-KIND_MESSAGE : goal.returns-then-kind-gt-KIND_MESSAGE
returns-then-kind-gt-KIND_MESSAGE c = take-unknown c.args.log.now c.args.at c.if-at-log.false (λ above. omega arith)

pub returns-then-log-at : goal.returns-then-log-at
returns-then-log-at c =
    let has = length_some _ c.if-kind-eq-NO_KIND.false c.if-kind-gt-KIND_MESSAGE.false in
    take_short c.args.log.now c.args.at c.if-at-log.false _ c.length_of-length.ensures has c.if-log-at.true

pub returns : goal.returns
returns c =
    let has = length_some _ c.if-kind-eq-NO_KIND.false c.if-kind-gt-KIND_MESSAGE.false in
    let below = c.if-at-log.false in
    let lent = part-is c.args.log.now c.args.at c.length_of-length.result in
    take_whole c.args.log.now c.args.at below _ c.length_of-length.ensures has c.if-log-at.false _
    (c.fields_of.ensures
    ∙ part-reads c.args.log.now c.args.at below _ c.length_of-length.ensures has c.if-log-at.false _ lent
    ∙ ap reading lent)
