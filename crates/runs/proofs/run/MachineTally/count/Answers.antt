-- The refusal and the actions are counted.
use Rattle.std.proofs.Common.{◌≡◌, ◌+◌, cond, eqb, rules}
use Rattle.wire.specs.Refusals.{accepted}
use Rattle.runs.specs.Counting.{machine_tallying}
use Rattle.runs.proofs.run.MachineTally.count.Goals as goal

pub returns : goal.returns
unfolding machine_tallying
returns g c =
    let a = c.args in
    let refused : c.from.result ≡ cond (eqb a.answer.code accepted) 0 1 = search rules in
    λ i.
    record {
      state = a.answer.state;
      offset = a.self.offset + a.length;
      read = a.self.read + 1;
      refused = a.self.refused + refused i;
      totals = c.add_all.ensures i;
    }
