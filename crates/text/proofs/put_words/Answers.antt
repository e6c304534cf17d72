-- The characters take the place of as many bytes of the buffer.
use Rattle.std.proofs.Common.{◌+◌, ◌++◌, length, take, refl, ap₂, arith}
use borrow.Rule.Slice.PartMut.{Post-is}
use Rattle.text.specs.Making.{put_at}
use Rattle.text.proofs.put_words.Goals as goal

pub returns : goal.returns
unfolding put_at
returns c =
    let at = c.args.at in
    let buffer = c.args.buffer.now in
    let end = at + length c.args.words.now in
    (refl, ap₂ (λ words rest. take at buffer ++ (words ++ rest)) c.copy_from_slice.ensures.after (Post-is at end buffer (omega arith)))
