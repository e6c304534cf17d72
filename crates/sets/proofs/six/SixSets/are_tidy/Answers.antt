-- Each set is one of the six.
use Rattle.std.proofs.Common.{ap, ◌∙◌}
use Rattle.std.specs.List.{list_all}
use Rattle.sets.specs.Members.{tidy}
use Rattle.sets.proofs.six.SixSets.are_tidy.Goals as goal

pub returns : goal.returns
returns c = c.all_tidy.ensures ∙ ap (list_all tidy) c.in_order.ensures
