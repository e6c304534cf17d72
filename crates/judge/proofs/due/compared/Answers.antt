-- The bytes that are due, a part of them, others.
use Rattle.std.proofs.Common.{sym}
use Rattle.judge.proofs.Comparing.{compared-right, compared-part}
use Rattle.judge.proofs.due.compared.Goals as goal

pub returns-then-starts_with : goal.returns-then-starts_with
returns-then-starts_with c =
    compared-right c.args.due.now c.args.sheet.now c.args.at c.if-at-sheet.false _ c.starts_with.ensures.value
    c.if-starts_with.true

pub returns-then-rest-due : goal.returns-then-rest-due
returns-then-rest-due c =
    compared-part c.args.due.now c.args.sheet.now c.args.at c.if-at-sheet.false _ c.starts_with.ensures.value
    c.if-starts_with.false _ (sym c.if-rest-due.true)

pub returns-else-rest-due : goal.returns-else-rest-due
returns-else-rest-due c =
    compared-part c.args.due.now c.args.sheet.now c.args.at c.if-at-sheet.false _ c.starts_with.ensures.value
    c.if-starts_with.false _ (sym c.if-rest-due.false)
