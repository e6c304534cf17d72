-- The refusals in their order, then the body.
use Rattle.std.proofs.Common.{ap, ◌∙◌}
use Rattle.image.specs.Bodies.{read_body}
use Rattle.image.proofs.Taking.{read-a2-empty, read-a2-unknown, read-a2-wrong, read-a2-whole, part-all}
use Rattle.image.proofs.read.read_a2.Goals as goal

pub returns-then-bytes-eq0 : goal.returns-then-bytes-eq0
returns-then-bytes-eq0 c = c.refused.ensures ∙ read-a2-empty c.args.bytes.now c.if-bytes-eq0.true

pub returns-then-bytes : goal.returns-then-bytes
returns-then-bytes c =
    c.refused-then-bytes.ensures ∙ read-a2-unknown c.args.bytes.now c.if-bytes-eq0.false c.if-bytes.true

pub returns-then-bytes-ne-SIZE_A2 : goal.returns-then-bytes-ne-SIZE_A2
returns-then-bytes-ne-SIZE_A2 c =
    c.refused-then-bytes-ne-SIZE_A2.ensures
    ∙ read-a2-wrong c.args.bytes.now c.if-bytes-eq0.false c.if-bytes.false c.if-bytes-ne-SIZE_A2.true

pub returns : goal.returns
returns c =
    let bytes = c.args.bytes.now in
    c.read_body.ensures
    ∙ ap read_body (part-all bytes 1)
    ∙ read-a2-whole bytes c.if-bytes-eq0.false c.if-bytes.false c.if-bytes-ne-SIZE_A2.false
