-- 18 for one that waits.
use Rattle.std.proofs.Common.{◌≡◌, Bool, true, false, ◌&&◌, refl, sym, ap, ap₂, ◌∙◌}
use Rattle.std.proofs.Math.Nat.{sub-zero}
use Rattle.shunter.specs.Shunting.{up_lost_timeout}
use Rattle.unit.specs.Standings.{naming}
use Rattle.shunter.specs.Queues.{waiting}
use Rattle.shunter.specs.Shunting.{place_waits, shunt_refused_at, waits_for, shunted}
use Rattle.shunter.proofs.Answers.{packed-count, named-waits}
use Rattle.shunter.proofs.state.Shunter.named.Goals.{After-stirring}
use Rattle.shunter.proofs.state.Shunter.named.Goals as goal

-- what the test showed
shown : (c : After-stirring) (b : Bool)
    → (c.waits.result && c.stirring.result) ≡ b
    → (waits_for c.args.self.state.places (waiting c.args.self.queue) c.args.partner && up_lost_timeout c.args.event) ≡ b
shown c b test = sym (ap₂ ◌&&◌ c.waits.ensures c.stirring.ensures) ∙ test

pub returns-then-waits-stirring : goal.returns-then-waits-stirring
returns-then-waits-stirring c o is good =
    let args = c.args in
    let stirred = shown (goal.at.returns-then-waits-stirring c).After-stirring true c.if-waits-stirring.true in
    c.refused.ensures
    ∙ ap (λ w. shunted (shunt_refused_at place_waits w args.self)) c.nowhere.ensures
    ∙ ap shunted (sym (named-waits args.self args.partner args.event o stirred))

pub returns-else-waits-stirring : goal.returns-else-waits-stirring
returns-else-waits-stirring c o is good =
    let args = c.args in
    let own = packed-count args.answer o is ∙ sym (sub-zero _) in
    let quiet = shown (goal.at.returns-else-waits-stirring c).After-stirring false c.if-waits-stirring.false in
    c.answered.ensures (naming args.partner args.event) o is quiet refl own refl good
