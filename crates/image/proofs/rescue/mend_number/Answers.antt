-- The test, then the byte.
use Rattle.std.proofs.Common.{subst, leb}
use Rattle.wire.specs.Bytes.{byte}
use Rattle.image.specs.Mends.{Cleared}
use Rattle.image.proofs.EachField.{number-next}
use Rattle.image.proofs.rescue.mend_number.Goals as goal

pub returns : goal.returns
returns c old n field own so_far =
    let at = c.args.at in
    let image = c.args.image.now in
    let fields = c.args.fields.now in
    let call = c.mend_byte in
    let image-after = call.new.image in
    let fields-after = call.new.fields in
    number-next old n at field image fields c.args.count image-after fields-after call.result so_far c.args.most own
    (subst
    (λ k. Cleared (leb (byte image k) c.args.most) at 1 image fields c.args.count image-after fields-after call.result)
    c.from.ensures
    call.ensures)
