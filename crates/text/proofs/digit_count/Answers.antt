-- One digit more than the power of ten that the number reaches; 0 has one.
use Rattle.std.proofs.Common.{length, sym, ap, arith}
use Rattle.text.proofs.Numbers.{decimal-one, decimal-long}
use Rattle.text.proofs.digit_count.Goals as goal

pub returns-in-Some : goal.returns-in-Some
returns-in-Some c =
    sym (decimal-long c.in-Some.power c.args.n c.in-Some.ensures.power_le c.in-Some.ensures.next_power_gt (omega arith))

pub returns-in-None : goal.returns-in-None
returns-in-None c = sym (ap length (decimal-one c.args.n (omega (arith, c.in-None.ensures.none))))
