-- Taken where the mark is not so already.
use Rattle.std.proofs.Common.{◌≡◌, Bool, true, false, not, refl, ap, ◌∙◌}
use mathlib.Core.Bool.{beq}
use Rattle.unit.specs.Steps.{hole_taken}
use Rattle.unit.specs.declared.state.Marks.{Marks}
use Rattle.sets.proofs.StepLaws.{answering, hole-is}
use Rattle.sets.proofs.step.ReadyState.hole.Goals as goal

-- a hole is entered outside one, and left inside
taken-where : (m : Marks) (entered : Bool) → hole_taken m entered ≡ not (beq m.inside entered)
taken-where m true = by m.inside
  where
    by : (inside : Bool) → not inside ≡ not (beq inside true)
    by true = refl
    by false = refl
taken-where m false = by m.inside
  where
    by : (inside : Bool) → inside ≡ not (beq inside false)
    by true = refl
    by false = refl

pub returns-then-self-entered : goal.returns-then-self-entered
returns-then-self-entered c =
    let a = c.args in
    let same = taken-where a.self.state.marks a.entered ∙ ap not c.if-self-entered.true in
    c.refuse.ensures ∙ ap answering (hole-is a.self.state a.entered false same)

pub returns : goal.returns
returns c =
    let a = c.args in
    let other = taken-where a.self.state.marks a.entered ∙ ap not c.if-self-entered.false in
    c.note.ensures ∙ ap answering (hole-is a.self.state a.entered true other)
