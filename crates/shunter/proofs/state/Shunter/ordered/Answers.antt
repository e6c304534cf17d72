-- The lowest free place joins, and the last action is its own.
use Rattle.std.proofs.Common.{◌≡◌, ◌-◌, refl, ap, ◌∙◌, rules}
use Rattle.unit.specs.Standings.{order_to}
use Rattle.shunter.proofs.Answers.{packed-count}
use Rattle.shunter.proofs.state.Shunter.ordered.Goals as goal

pub returns : goal.returns
returns c p o is good =
    let one_less : c.saturating_sub-own.result ≡ c.args.answer.actions.count - 1 = search rules in
    let own = one_less ∙ ap (λ n. n - 1) (packed-count c.args.answer o is) in
    c.answered.ensures (order_to p) o is refl refl own c.lowest_free.ensures good
