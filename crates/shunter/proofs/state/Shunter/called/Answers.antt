-- 17 where the core accepts and all modems are held.
use Rattle.std.proofs.Common.{◌≡◌, Bool, true, false, ◌&&◌, eqb, leb, sym, ap, ◌∙◌, eqb-true}
use Rattle.wire.specs.Refusals.{accepted}
use Rattle.wire.proofs.Tests.{and_left, and_right}
use Rattle.unit.specs.Forms.{packed}
use Rattle.shunter.specs.Queues.{modem_count}
use Rattle.shunter.specs.Shunting.{modem_missing, shunt_refused_at, all_held, shunted}
use Rattle.shunter.proofs.Answers.{called-missing, called_on}
use Rattle.shunter.proofs.state.Shunter.called.Goals.{After-modems}
use Rattle.shunter.proofs.state.Shunter.called.Goals as goal

-- what the test showed
shown : (c : After-modems) (b : Bool)
    → (eqb c.args.answer.code accepted && leb modem_count c.modems.result) ≡ b
    → (eqb c.args.answer.code accepted && all_held c.args.self) ≡ b
shown c b test = sym (ap (λ k. eqb c.args.answer.code accepted && leb modem_count k) c.modems.ensures) ∙ test

pub returns-then-answer-modems : goal.returns-then-answer-modems
unfolding packed
returns-then-answer-modems c p o is good =
    let self = c.args.self in
    let answer = c.args.answer in
    let both = shown (goal.at.returns-then-answer-modems c).After-modems true c.if-answer-modems.true in
    let accepts = eqb-true answer.code accepted (and_left (eqb answer.code accepted) (all_held self) both) in
    let held = and_right (eqb answer.code accepted) (all_held self) both in
    c.refused.ensures
    ∙ ap (λ w. shunted (shunt_refused_at modem_missing w self)) c.nowhere.ensures
    ∙ ap shunted (sym (called-missing self p o (sym (ap (λ a. a.code) is) ∙ accepts) held))

pub returns-else-answer-modems : goal.returns-else-answer-modems
returns-else-answer-modems c p o is good =
    called_on c.args.self p o c.args.answer c.answered.result is
    (shown (goal.at.returns-else-answer-modems c).After-modems false c.if-answer-modems.false) c.answered.ensures good
