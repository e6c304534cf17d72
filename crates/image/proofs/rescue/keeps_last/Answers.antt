-- Four zeros, or 1 and a number that an RBC may have.
use Rattle.std.proofs.Common.{◌&&◌, eqb, ap, ◌∙◌}
use Rattle.wire.specs.Bytes.{byte}
use Rattle.image.proofs.Keeping.{last-none-kept, last-some-kept}
use Rattle.image.proofs.rescue.keeps_last.Goals as goal

pub returns-then-flag-eq0 : goal.returns-then-flag-eq0
returns-then-flag-eq0 c =
    let image = c.args.image.now in
    c.and-then-flag-eq0.ensures
    ∙ ap (◌&&◌ (eqb (byte image 39) 0)) c.and.ensures
    ∙ last-none-kept image c.requires c.if-flag-eq0.true

pub returns : goal.returns
returns c =
    let image = c.args.image.now in
    c.and-2.ensures
    ∙ ap (◌&&◌ (eqb (byte image 38) 1)) c.can_be_named.ensures
    ∙ last-some-kept image c.requires c.if-flag-eq0.false
