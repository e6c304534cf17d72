-- The marks passed are written, the run taken up at each where the one before it came to.
use Rattle.marks.proofs.Filling.{Filling}
use Rattle.marks.proofs.build.fill.Given as goal

abbrev pub invariant-loop-i : goal.invariant-loop-i
invariant-loop-i l = Filling l.log l.initial.room l.held l.count l.initial.state l.initial.at l.room l.state l.at l.i
