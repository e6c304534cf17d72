-- What the shunter answers to a record is what a run takes of it.
use Rattle.std.proofs.Common.{ap}
use Rattle.runs.specs.Counting.{applied_of}
use Rattle.shunter.specs.Shunting.{shunt, shunted}
use Rattle.shunter.proofs.Goods.{few}
use Rattle.shunter.proofs.run.ShunterMachine.answer.Goals as goal

pub returns-clause-given : goal.returns-clause-given
unfolding applied_of shunt shunted
returns-clause-given c =
    ap (λ o. record { code = o.code; state = o.shunter; actions = o.actions }) c.apply-shunted.ensures

pub returns-clause-few : goal.returns-clause-few
unfolding shunt
returns-clause-few c = few c.args.self c.args.bytes.now
