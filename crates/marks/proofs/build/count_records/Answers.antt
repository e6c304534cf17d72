-- The records passed are counted.
use Rattle.marks.proofs.Counting.{counting-end, counting-unknown, counting-short, counting-next}
use Rattle.marks.proofs.build.count_records.Goals as goal

pub returns-then-at-log : goal.returns-then-at-log
returns-then-at-log c = counting-end c.args.log.now c.args.from _ _ c.loop-at.invariant c.if-at-log.true

pub returns-then-length-eq0 : goal.returns-then-length-eq0
returns-then-length-eq0 c =
    counting-unknown c.args.log.now c.args.from _ _ c.loop-at.invariant c.if-at-log.false _ c.length_of-length.ensures
    c.if-length-eq0.true

pub returns-then-log-at : goal.returns-then-log-at
returns-then-log-at c =
    counting-short c.args.log.now c.args.from _ _ c.loop-at.invariant c.if-at-log.false _ c.length_of-length.ensures
    c.if-length-eq0.false c.if-log-at.true

pub loop-at-preserved : goal.loop-at-preserved
loop-at-preserved c =
    counting-next c.args.log.now c.args.from _ _ c.loop-at.invariant c.if-at-log.false _ c.length_of-length.ensures
    c.if-length-eq0.false c.if-log-at.false
