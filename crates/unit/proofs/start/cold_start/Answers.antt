-- The limits are tested.
use Rattle.std.proofs.Common.{◌∙◌, true, false}
use Rattle.unit.proofs.Starts.{started-by}
use Rattle.unit.proofs.start.cold_start.Goals as goal

pub returns-then-limits_ok : goal.returns-then-limits_ok
returns-then-limits_ok c = started-by c.args.limits _ true c.limits_ok.ensures c.if-limits_ok.true _ c.cold.ensures

pub returns-else-limits_ok : goal.returns-else-limits_ok
returns-else-limits_ok c =
    (λ i. record { code = c.number.ensures i; state = c.cold-else-limits_ok.result })
    ∙ started-by c.args.limits _ false c.limits_ok.ensures c.if-limits_ok.false _ c.cold-else-limits_ok.ensures
