-- Four bytes.
use Rattle.std.proofs.Common.{eqb}
use Rattle.image.specs.Images.{state_in}
use Rattle.image.proofs.read.marks_in.Goals as goal

pub returns : goal.returns
unfolding state_in
returns c =
    λ i.
    record {
      inside = eqb (c.byte_at.ensures i) 1;
      mode = eqb (c.byte_at-2.ensures i) 1;
      manual = eqb (c.byte_at-3.ensures i) 1;
      end = eqb (c.byte_at-4.ensures i) 1;
    }
