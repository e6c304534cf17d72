-- Three bytes.
use Rattle.image.specs.Images.{state_in}
use Rattle.image.proofs.read.limits_in.Goals as goal

pub returns : goal.returns
unfolding state_in
returns c =
    λ i.
    record {
      lowest = c.byte_at.ensures i;
      highest = c.byte_at-2.ensures i;
      tries = c.byte_at-3.ensures i;
    }
