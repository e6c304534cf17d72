-- Each set stands beside its name.
use Rattle.sets.proofs.six.SixSets.are_sound.Goals as goal

pub returns : goal.returns
returns c = c.all_sound.ensures
