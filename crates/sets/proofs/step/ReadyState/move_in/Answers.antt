-- The move of the member is carried out or refused.
use Rattle.std.proofs.Common.{◌≡◌, Bool, true, false, sym, ap, ◌∙◌}
use Rattle.sets.specs.Members.{member_for}
use Rattle.sets.specs.SixSets.{set_in, unpacked_six, unpacked}
use Rattle.sets.specs.Moves.{move_of}
use Rattle.sets.specs.SetSteps.{set_moved}
use Rattle.sets.specs.declared.answer.SetAnswer.{SetAnswer}
use Rattle.sets.specs.declared.moves.Move.{Move}
use Rattle.sets.proofs.StepLaws.{member-held, answering, carries, taken_is}
use Rattle.sets.proofs.step.ReadyState.move_in.Goals.{After-is_taken}
use Rattle.sets.proofs.step.ReadyState.move_in.Goals as goal

-- where the move was tested
module _ (c : After-is_taken) where
  abbrev wanted : Move
  wanted =
      move_of c.args.self.state.limits c.args.event c.args.name
      (member_for c.args.partner (set_in c.args.name (unpacked_six c.args.self.state.sets)))

  moves_so : c.move_of-step.result ≡ wanted
  moves_so =
      let a = c.args in
      c.move_of-step.ensures
      ∙ ap (move_of a.self.state.limits a.event a.name)
      (c.member.ensures ∙ member-held a.name a.self.state.sets a.partner _ c.set-from.ensures)

  -- the answer goes by the test
  by : (t : Bool) (answer : SetAnswer)
      → c.is_taken.result ≡ t
      → answer ≡ answering (carries t c.args.partner c.args.name c.move_of-step.result c.args.self.state)
      → answer ≡ answering (set_moved (unpacked c.args.self.state) c.args.partner c.args.name wanted)
  by t answer test is =
      let a = c.args in
      is
      ∙ ap answering
      (taken_is a.self.state a.partner a.name c.move_of-step.result t (sym c.is_taken.ensures ∙ test)
      ∙ ap (set_moved (unpacked a.self.state) a.partner a.name) moves_so)

pub returns-then-is_taken : goal.returns-then-is_taken
returns-then-is_taken c =
    by (goal.at.returns-then-is_taken c).After-is_taken true _ c.if-is_taken.true c.carry_out.ensures

pub returns-else-is_taken : goal.returns-else-is_taken
returns-else-is_taken c =
    by (goal.at.returns-else-is_taken c).After-is_taken false _ c.if-is_taken.false c.refuse_in.ensures
