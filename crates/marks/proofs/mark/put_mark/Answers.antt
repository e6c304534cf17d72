-- The kind and the offset, then the image in the part that is left of the mark.
use Rattle.std.proofs.Common.{◌∙◌}
use Rattle.marks.proofs.Putting.{mark-put}
use Rattle.marks.proofs.mark.put_mark.Goals as goal

pub returns : goal.returns
returns c =
    mark-put c.args.room.now c.args.at c.args.offset c.args.state c.requires.0 c.requires.2 _
    (c.copy_from_slice.ensures.after ∙ c.to_be_bytes.ensures) _ c.write_a2.ensures.1
