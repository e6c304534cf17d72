-- Each arm is one of the six actions.
use Rattle.std.proofs.Common.{◌≡◌, ◌≢◌, ℕ, sym, ap, arith, ne_eqb}
use Rattle.unit.specs.Counting.{added}
use Rattle.unit.specs.declared.run.Totals.{Totals}
use Rattle.runs.proofs.run.add.Goals as goal

-- what is added goes by the action's number
by_number : (t : Totals) {k n : ℕ} → k ≡ n → added t n ≡ added t k
by_number t told = ap (added t) (sym told)

pub returns-in-21 : goal.returns-in-21
unfolding added
returns-in-21 c = by_number c.args.totals c.in-21.is

pub returns-in-22 : goal.returns-in-22
unfolding added
returns-in-22 c = by_number c.args.totals c.in-22.is

pub returns-in-154 : goal.returns-in-154
unfolding added
returns-in-154 c = by_number c.args.totals c.in-154.is

pub returns-in-155 : goal.returns-in-155
unfolding added
returns-in-155 c = by_number c.args.totals c.in-155.is

pub returns-in-156 : goal.returns-in-156
unfolding added
returns-in-156 c = by_number c.args.totals c.in-156.is

pub returns-in-159 : goal.returns-in-159
unfolding added
returns-in-159 c = by_number c.args.totals c.in-159.is

pub returns-in_default : goal.returns-in_default
unfolding added
returns-in_default c =
    let n = c.args.number in
    let n₁ : n ≢ 21 = omega arith in
    let n₂ : n ≢ 22 = omega arith in
    let n₃ : n ≢ 154 = omega arith in
    let n₄ : n ≢ 155 = omega arith in
    let n₅ : n ≢ 156 = omega arith in
    let n₆ : n ≢ 159 = omega arith in
    simp (ne_eqb n 21 n₁, ne_eqb n 22 n₂, ne_eqb n 154 n₃, ne_eqb n 155 n₄, ne_eqb n 156 n₅, ne_eqb n 159 n₆)
