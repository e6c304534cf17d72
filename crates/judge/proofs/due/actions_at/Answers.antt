-- The actions passed stand right.
use Rattle.std.proofs.Common.{◌≡◌, ◌+◌, ◌≤◌, true, length, sym, ◌∙◌, arith}
use Rattle.unit.specs.OnRecords.{action_size, bytes_of}
use Rattle.judge.specs.Judging.{stands_at, is_right}
use Rattle.judge.proofs.Dues.{due-fits, passed-end, passed-more, passed-fails}
use Rattle.judge.proofs.due.actions_at.Goals as goal

pub overflow_add-at : goal.overflow_add-at
unfolding stands_at
overflow_add-at c =
    let right : is_right c.stands_at-stands.result ≡ true = sym c.is_right.ensures ∙ c.if-not-is_right.false in
    let fits : c.loop-i.at + action_size ≤ length c.args.sheet.now =
    due-fits (bytes_of c.action_in.result) c.args.sheet.now c.loop-i.at (rw c.stands_at-stands.ensures at right)
    (omega arith) in
    omega (arith, fits)

pub loop-i-preserved : goal.loop-i-preserved
loop-i-preserved c =
    passed-more _ _ _ _ _ _ c.loop-i.invariant c.loop-i-test.true _ c.action_in.ensures _
    c.stands_at-stands.ensures
    (sym c.is_right.ensures ∙ c.if-not-is_right.false)

pub returns-then-not-is_right : goal.returns-then-not-is_right
returns-then-not-is_right c =
    passed-fails _ _ _ _ _ _ c.loop-i.invariant c.loop-i-test.true _ c.action_in.ensures _
    c.stands_at-stands.ensures
    (sym c.is_right.ensures ∙ c.if-not-is_right.true)

pub returns : goal.returns
returns c = passed-end _ _ _ _ _ _ c.loop-i.invariant c.loop-i-test.false
