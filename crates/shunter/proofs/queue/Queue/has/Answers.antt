-- One half or the other.
use Rattle.std.proofs.Common.{sym}
use Rattle.shunter.proofs.Waits.{has-is}
use Rattle.shunter.proofs.queue.Queue.has.Goals as goal

pub returns : goal.returns
returns c = sym (has-is c.args.place c.args.self c.requires)
