-- Only private contracts use what stands here: an answer as the code holds it, counted.
-- Defines: applied_of, machine_tallying.
use Rattle.std.specs.Prelude.{ℕ, ◌+◌, cond, eqb, take}
use Rattle.wire.specs.Refusals.{accepted}
use Rattle.unit.specs.Forms.{listed}
use Rattle.unit.specs.Runs.{totalled}
use Rattle.runs.specs.Machines.{Applying}
use Rattle.runs.specs.declared.machine.Applied.{Applied}
use Rattle.runs.specs.declared.run.MachineTally.{MachineTally}

-- what a machine answers, as the code holds it
unfoldable pub applied_of : {M : Type 0} → Applying M → Applied M
applied_of o = record { code = o.code; state = o.state; actions = listed o.actions }

-- a run with one record more, of an answer as the code holds it
unfoldable pub machine_tallying : {M : Type 0} → MachineTally M → ℕ → Applied M → MachineTally M
machine_tallying t k o =
    record {
      state = o.state;
      offset = t.offset + k;
      read = t.read + 1;
      refused = t.refused + cond (eqb o.code accepted) 0 1;
      totals = totalled t.totals (take o.actions.count o.actions.items);
    }
