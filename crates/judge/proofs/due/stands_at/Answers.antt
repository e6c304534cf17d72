-- By what is due.
use Rattle.std.proofs.Common.{sym, ap, ◌∙◌}
use Rattle.judge.specs.Judging.{stands_at}
use Rattle.judge.proofs.due.stands_at.Goals as goal

pub returns-in-TheAnswer : goal.returns-in-TheAnswer
unfolding stands_at
returns-in-TheAnswer c = c.compared.ensures ∙ ap (λ d. stands_at d c.args.sheet.now c.args.at) (sym c.in-TheAnswer.is)

pub returns-in-TheAction : goal.returns-in-TheAction
unfolding stands_at
returns-in-TheAction c =
    c.compared-in-TheAction.ensures ∙ ap (λ d. stands_at d c.args.sheet.now c.args.at) (sym c.in-TheAction.is)
