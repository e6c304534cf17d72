-- No place is set.
use Rattle.unit.specs.Changes.{noted}
use Rattle.unit.proofs.change.Change.noted.Goals as goal

pub returns : goal.returns
unfolding noted
returns c =
    λ i.
    record {
      refusal = c.args.refusal;
      train = c.args.train;
      marks = c.args.marks;
      which = c.args.which;
      at = 4;
      place = c.free.ensures i;
      partner = record { kind = 0; high = 0; middle = 0; low = 0 };
      first = 0;
      second = 0;
      standing = c.args.standing;
      last = c.args.last;
    }
