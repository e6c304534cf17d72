-- The actions of the places passed stand in the array.
use Rattle.std.proofs.Common.{◌≡◌, ◌≤◌, take}
use Rattle.unit.specs.Forms.{listed}
use Rattle.unit.specs.Changes.{sent_for}
use Rattle.unit.proofs.answer.Actions.of.Given as goal

abbrev pub invariant-loop-i : goal.invariant-loop-i
invariant-loop-i l = (l.i ≤ 4) × (l.actions ≡ listed (sent_for (take l.i l.fn.places) (take l.i l.fn.numbers)))
