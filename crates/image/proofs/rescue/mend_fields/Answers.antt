-- The head, the places, and over the number of tries the last known RBC.
use Rattle.std.proofs.Common.{arith}
use Rattle.image.proofs.Fields.{mended-long, mended-listed, mended-few, mended-past}
use Rattle.image.proofs.EachField.{last-next}
use Rattle.image.proofs.rescue.mend_fields.Goals as goal

pub mend_places-places-requires : goal.mend_places-places-requires
mend_places-places-requires c =
    let old = c.args.image.now in
    let head = c.mend_head-head.ensures in (
      mended-long old 6 9 _ _ _ c.requires.0.0 (omega arith) head,
      (mended-listed old 6 9 _ _ _ (omega arith) head, mended-few old 6 9 _ _ _ (omega arith) head),
    )

pub mend_last-requires : goal.mend_last-requires
mend_last-requires c =
    let old = c.args.image.now in
    let long = c.requires.0.0 in
    let places = mended-past old long 10 _ _ _ (c.mend_places-places.ensures old long c.requires.1.0 c.mend_head-head.ensures) in
    let few = mended-few old 10 38 _ _ _ (omega arith) places in
    let all = mended-listed old 10 38 _ _ _ (omega arith) places in
    (mended-long old 10 38 _ _ _ long (omega arith) places, omega (arith, few, all))

pub returns : goal.returns
returns c =
    let old = c.args.image.now in
    let long = c.requires.0.0 in
    let places = mended-past old long 10 _ _ _ (c.mend_places-places.ensures old long c.requires.1.0 c.mend_head-head.ensures) in
    last-next old long _ _ _ places _ _ _ _ c.keeps_last-good.ensures c.mend_last.ensures
