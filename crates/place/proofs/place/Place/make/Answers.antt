-- Each part of a turn is asked by itself.
use Rattle.place.specs.Table.{turned_to}
use Rattle.place.proofs.place.Place.make.Goals as goal

pub returns : goal.returns
unfolding turned_to
returns c =
    λ i.
    record {
      taken = c.is_taken.ensures i;
      first = c.first_number.ensures i;
      second = c.second_number.ensures i;
      place = c.after.ensures i;
    }
