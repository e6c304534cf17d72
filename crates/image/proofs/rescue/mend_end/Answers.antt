-- The test, then the byte.
use Rattle.std.proofs.Common.{◌&&◌, not, ap, ap₂, subst, ◌∙◌}
use Rattle.image.specs.Mends.{Cleared}
use Rattle.image.proofs.EachField.{end-next}
use Rattle.image.proofs.rescue.mend_end.Goals as goal

pub returns : goal.returns
returns c old long so_far =
    let args = c.args in
    let call = c.mend_byte in
    let alone = c.negated.ensures ∙ ap not c.and.ensures in
    let test = c.and-good.ensures ∙ ap₂ ◌&&◌ c.mark_spelt.ensures alone in
    end-next old long args.image.now args.fields.now args.count call.new.image call.new.fields call.result so_far
    (subst
    (λ b. Cleared b 8 1 args.image.now args.fields.now args.count call.new.image call.new.fields call.result)
    test
    call.ensures)
