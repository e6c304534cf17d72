-- The refusals in their order, then the image.
use Rattle.std.proofs.Common.{sym, ◌∙◌}
use Rattle.image.specs.Images.{image_a1}
use Rattle.image.proofs.Putting.{wrote-a1-no-room, wrote-a1-unsound, wrote-a1-unfit, wrote-a1}
use Rattle.image.proofs.write.write_a1.Goals as goal

pub returns-then-buffer-lt-SIZE_A1 : goal.returns-then-buffer-lt-SIZE_A1
returns-then-buffer-lt-SIZE_A1 c =
    let law = wrote-a1-no-room c.args.state c.args.buffer.now c.if-buffer-lt-SIZE_A1.true in
    (c.refused.ensures ∙ law.0, law.1)

pub returns-then-fits_a1 : goal.returns-then-fits_a1
unfolding image_a1
returns-then-fits_a1 c =
    let good = sym c.is_sound.ensures ∙ c.if-is_sound.true in
    let fits = sym c.fits_a1.ensures ∙ c.if-fits_a1.true in
    wrote-a1 c.args.state c.args.buffer.now c.if-buffer-lt-SIZE_A1.false _ good fits c.put_body.ensures

pub returns-else-fits_a1 : goal.returns-else-fits_a1
returns-else-fits_a1 c =
    let good = sym c.is_sound.ensures ∙ c.if-is_sound.true in
    let unfit = sym c.fits_a1.ensures ∙ c.if-fits_a1.false in
    let law = wrote-a1-unfit c.args.state c.args.buffer.now c.if-buffer-lt-SIZE_A1.false good unfit in
    (c.refused-else-fits_a1.ensures ∙ law.0, law.1)

pub returns-else-is_sound : goal.returns-else-is_sound
returns-else-is_sound c =
    let bad = sym c.is_sound.ensures ∙ c.if-is_sound.false in
    let law = wrote-a1-unsound c.args.state c.args.buffer.now c.if-buffer-lt-SIZE_A1.false bad in
    (c.refused-else-is_sound.ensures ∙ law.0, law.1)
