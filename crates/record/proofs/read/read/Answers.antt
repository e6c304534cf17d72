-- The refusals in their order, then the fields.
use Rattle.std.proofs.Common.{◌∙◌, arith}
use Rattle.record.proofs.ByKind.{read-empty, read-unknown, read_length, read-fields, length_some}
use Rattle.record.proofs.read.read.Goals as goal

pub returns-then-s-eq0 : goal.returns-then-s-eq0
returns-then-s-eq0 c = read-empty c.args.s.now c.if-s-eq0.true

pub returns-then-kind-eq-NO_KIND : goal.returns-then-kind-eq-NO_KIND
returns-then-kind-eq-NO_KIND c = read-unknown c.args.s.now c.if-s-eq0.false (λ above. omega arith)

pub returns-then-kind-gt-KIND_MESSAGE : goal.returns-then-kind-gt-KIND_MESSAGE
returns-then-kind-gt-KIND_MESSAGE c = read-unknown c.args.s.now c.if-s-eq0.false (λ above. omega arith)

pub returns-then-s-length : goal.returns-then-s-length
returns-then-s-length c =
    let has = length_some _ c.if-kind-eq-NO_KIND.false c.if-kind-gt-KIND_MESSAGE.false in
    read_length c.args.s.now c.if-s-eq0.false _ c.length_of-length.ensures has c.if-s-length.true

pub returns : goal.returns
returns c =
    let has = length_some _ c.if-kind-eq-NO_KIND.false c.if-kind-gt-KIND_MESSAGE.false in
    c.fields_of.ensures ∙ read-fields c.args.s.now c.if-s-eq0.false _ c.length_of-length.ensures has c.if-s-length.false
