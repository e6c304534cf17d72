-- The refusals in their order, then the image.
use Rattle.std.proofs.Common.{sym, ◌∙◌}
use Rattle.image.proofs.Putting.{wrote-a2-no-room, wrote-a2-unsound, wrote-a2}
use Rattle.image.proofs.write.write_a2.Goals as goal

pub returns-then-buffer-lt-SIZE_A2 : goal.returns-then-buffer-lt-SIZE_A2
returns-then-buffer-lt-SIZE_A2 c =
    let law = wrote-a2-no-room c.args.state c.args.buffer.now c.if-buffer-lt-SIZE_A2.true in
    (c.refused.ensures ∙ law.0, law.1)

pub returns-then-is_sound : goal.returns-then-is_sound
returns-then-is_sound c =
    let good = sym c.is_sound.ensures ∙ c.if-is_sound.true in
    wrote-a2 c.args.state c.args.buffer.now c.if-buffer-lt-SIZE_A2.false _ good c.put_image.ensures

pub returns-else-is_sound : goal.returns-else-is_sound
returns-else-is_sound c =
    let bad = sym c.is_sound.ensures ∙ c.if-is_sound.false in
    let law = wrote-a2-unsound c.args.state c.args.buffer.now c.if-buffer-lt-SIZE_A2.false bad in
    (c.refused-else-is_sound.ensures ∙ law.0, law.1)
