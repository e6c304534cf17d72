-- The answer, and then the actions.
use Rattle.std.proofs.Common.{[], ◌∷◌, sym, ◌∙◌, arith}
use Rattle.judge.specs.Sheets.{answer_kind}
use Rattle.judge.specs.Judging.{stands_at}
use Rattle.judge.specs.declared.due.Due.TheVariants.{TheAnswer}
use Rattle.judge.proofs.Dues.{due-met, due-fails, due-fits}
use Rattle.judge.proofs.due.dues_at.Goals as goal

pub overflow_add-at : goal.overflow_add-at
unfolding stands_at
overflow_add-at c =
    let right = sym c.is_right.ensures ∙ c.if-is_right.true in
    let fits =
    due-fits (answer_kind ∷ c.args.code ∷ []) c.args.sheet.now c.args.at (rw c.stands_at-stands.ensures at right)
    (omega arith) in
    omega arith

pub returns-then-is_right : goal.returns-then-is_right
returns-then-is_right c =
    c.actions_at.ensures
    ∙ sym
    (due-met (TheAnswer c.args.code) _ c.args.sheet.now c.args.at _ c.stands_at-stands.ensures
    (sym c.is_right.ensures ∙ c.if-is_right.true))

pub returns : goal.returns
returns c =
    due-fails (TheAnswer c.args.code) _ c.args.sheet.now c.args.at _ c.stands_at-stands.ensures
    (sym c.is_right.ensures ∙ c.if-is_right.false)
