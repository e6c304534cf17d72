-- The records passed are told.
use Rattle.std.proofs.Common.{◌-◌, length}
use Rattle.text.proofs.Filling.{Filling}
use Rattle.text.proofs.sheet.Page.fill.Given as goal

abbrev pub invariant-loop-stop : goal.invariant-loop-stop
invariant-loop-stop l = Filling l.input l.fn.buffer l.fn.self l.buffer l.page

abbrev pub decreases-loop-stop : goal.decreases-loop-stop
decreases-loop-stop l = length l.input - l.page.at
