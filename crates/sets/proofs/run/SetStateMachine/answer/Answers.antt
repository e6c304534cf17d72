-- What the engine answers to a record is what a run takes of it.
use Rattle.std.proofs.Common.{ap}
use Rattle.runs.specs.Counting.{applied_of}
use Rattle.sets.specs.OnSets.{on_sets, set_listed}
use Rattle.sets.proofs.SetFew.{apply-few}
use Rattle.sets.proofs.run.SetStateMachine.answer.Goals as goal

pub returns-clause-given : goal.returns-clause-given
unfolding applied_of on_sets set_listed
returns-clause-given c = ap (λ a. record { code = a.code; state = a.state; actions = a.actions }) c.apply-answer.ensures

pub returns-clause-few : goal.returns-clause-few
unfolding on_sets
returns-clause-few c = apply-few c.args.self c.args.bytes.now
