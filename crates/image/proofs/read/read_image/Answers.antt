-- Any other kind is read as A2; A1 by its refusals in their order, then by its body.
use Rattle.std.proofs.Common.{ap, ◌∙◌, ◌++◌}
use Rattle.image.specs.Images.{tail_of_a1}
use Rattle.image.specs.Bodies.{read_body}
use Rattle.image.proofs.Taking.{read-empty, read-other, read-a1-wrong, read-a1-whole, part-all}
use Rattle.image.proofs.read.read_image.Goals as goal

pub returns-then-bytes-eq0 : goal.returns-then-bytes-eq0
returns-then-bytes-eq0 c = c.refused.ensures ∙ read-empty c.args.bytes.now c.if-bytes-eq0.true

pub returns-then-bytes : goal.returns-then-bytes
returns-then-bytes c = c.read_a2.ensures ∙ read-other c.args.bytes.now c.if-bytes-eq0.false c.if-bytes.true

pub returns-then-bytes-ne-SIZE_A1 : goal.returns-then-bytes-ne-SIZE_A1
returns-then-bytes-ne-SIZE_A1 c =
    c.refused-then-bytes-ne-SIZE_A1.ensures
    ∙ read-a1-wrong c.args.bytes.now c.if-bytes-eq0.false c.if-bytes.false c.if-bytes-ne-SIZE_A1.true

pub returns : goal.returns
returns c =
    let bytes = c.args.bytes.now in
    c.read_body_a1.ensures
    ∙ ap (λ l. read_body (l ++ tail_of_a1)) (part-all bytes 1)
    ∙ read-a1-whole bytes c.if-bytes-eq0.false c.if-bytes.false c.if-bytes-ne-SIZE_A1.false
