-- The length first, then what stands at the front.
use Rattle.std.proofs.Common.{◌∙◌, sym}
use Rattle.record.proofs.Takes.{taken-long, taken-short}
use Rattle.record.proofs.take.take.Goals as goal

pub returns-then-log-gt-LONGEST_LOG : goal.returns-then-log-gt-LONGEST_LOG
returns-then-log-gt-LONGEST_LOG c = sym (taken-long c.args.log.now c.if-log-gt-LONGEST_LOG.true)

pub returns : goal.returns
returns c = c.front_at.ensures ∙ sym (taken-short c.args.log.now c.if-log-gt-LONGEST_LOG.false)
