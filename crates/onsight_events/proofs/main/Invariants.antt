-- The sum stays small.
use Rattle.std.proofs.Common.{◌<◌}
use Rattle.onsight_events.proofs.main.Given as goal

abbrev pub invariant-loop : goal.invariant-loop
invariant-loop l = l.sum < 1000000007
