-- All fields, into an empty list.
use Rattle.image.proofs.Fields.{mended-all}
use Rattle.image.proofs.rescue.mend.Goals as goal

pub returns : goal.returns
returns c = mended-all c.args.image.now c.requires.0.0 11 _ _ _ c.mend_fields-count.ensures
