-- The actions of the sets passed.
use Rattle.std.proofs.Common.{◌≡◌}
use Rattle.unit.specs.Forms.{listed}
use Rattle.sets.specs.SixSets.{unpacked_six}
use Rattle.sets.proofs.SixByName.{sent_to}
use Rattle.sets.proofs.six.SixSets.closing_actions.Given as goal

abbrev pub invariant-loop-name : goal.invariant-loop-name
invariant-loop-name l = l.sent ≡ listed (sent_to l.which (unpacked_six l.self) l.name-index)
