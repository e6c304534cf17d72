-- 0 is no action.
use Rattle.std.proofs.Common.{ap, arith, length}
use Rattle.unit.proofs.Written.{given-none, given-some, appended-none}
use Rattle.unit.proofs.bytes.put_number.Goals as goal

pub returns-then-number-eq-NO_ACTION : goal.returns-then-number-eq-NO_ACTION
returns-then-number-eq-NO_ACTION c = rw (given-none _ c.if-number-eq-NO_ACTION.true) (omega arith, appended-none _ _)

pub put_one-requires : goal.put_one-requires
put_one-requires c =
    let one = ap length (given-some c.args.number c.if-number-eq-NO_ACTION.false) in
    (omega (arith, c.requires.0, one), c.requires.1)

pub returns : goal.returns
returns c = rw (given-some _ c.if-number-eq-NO_ACTION.false) c.put_one.ensures
