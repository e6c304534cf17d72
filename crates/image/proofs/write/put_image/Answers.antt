-- The 37 bytes that both kinds have, then the tail.
use Rattle.std.proofs.Common.{ap, ◌∙◌}
use lib.Seq.{sets}
use Rattle.unit.proofs.Facts.{sound-facts}
use Rattle.image.specs.Bodies.{tail_bytes}
use Rattle.image.proofs.Putting.{image-end}
use Rattle.image.proofs.write.put_image.Goals as goal

pub returns : goal.returns
returns c =
    let state = c.args.state in
    c.put_tail.ensures
    ∙ ap (λ l. sets l 37 (tail_bytes state)) c.put_body.ensures
    ∙ image-end state c.args.s.now (sound-facts state c.requires.1).four c.requires.0
