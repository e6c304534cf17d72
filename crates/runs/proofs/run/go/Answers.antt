-- The records passed are the run so far.
use Rattle.std.proofs.Common.{◌+◌, ◌≤◌, length, sym, ap, ◌∙◌, arith, inl}
use Rattle.record.specs.Takes.{longest_log}
use Rattle.record.proofs.Takes.{part-is}
use Rattle.record.specs.Stops.{told_front}
use Rattle.unit.specs.Counting.{most_total, Below}
use Rattle.runs.specs.Counting.{machine_tallying}
use Rattle.runs.proofs.Counts.{few-sent}
use Rattle.runs.proofs.Going.{going-first, going_end, going-budget, going-stop, whole-counted, going_next}
use Rattle.runs.proofs.run.go.Goals.{In-Next}
use Rattle.runs.proofs.run.go.Goals as goal

pub loop-tally-init : goal.loop-tally-init
loop-tally-init g c = going-first g.M.Machine.gives c.args.log.now c.args.budget c.args.start _ c.fresh-tally.ensures

-- a whole record: there is room for it in the counts
part : (g : _) (c : In-Next g) → (1 ≤ c.in-Next.length)
    × (c.loop-tally.tally.offset + c.in-Next.length ≤ length c.args.log.now)
    × (c.loop-tally.tally.offset + c.in-Next.length ≤ longest_log)
    × (c.loop-tally.tally.read ≤ c.loop-tally.tally.offset)
    × (c.loop-tally.tally.refused ≤ c.loop-tally.tally.read)
    × Below most_total c.loop-tally.tally.totals
part g c =
    whole-counted g.M.Machine.gives c.args.log.now c.args.budget _ c.loop-tally.tally c.loop-tally.invariant c.if-at-log.false
    c.requires c.if-tally-budget.false _ _ (sym c.front_at.ensures ∙ ap told_front c.in-Next.is)

pub overflow_add-at : goal.overflow_add-at
overflow_add-at g c = omega (arith, (part g (goal.at.overflow_add-at g c).In-Next).2)

pub slice_bounds-answer-end : goal.slice_bounds-answer-end
slice_bounds-answer-end g c = (part g (goal.at.slice_bounds-answer-end g c).In-Next).1

pub count-tally-requires : goal.count-tally-requires
count-tally-requires g c =
    let facts = part g (goal.at.count-tally-requires g c).In-Next in
    (facts.2, facts.3, facts.4, facts.5, few-sent _ _ c.answer.ensures.given c.answer.ensures.few)

pub loop-tally-smaller : goal.loop-tally-smaller
unfolding machine_tallying
loop-tally-smaller g c =
    let read = ap (λ x. x.read) c.count-tally.ensures in
    omega (arith, read, c.if-tally-budget.false, c.loop-tally.invariant.2)

pub loop-tally-preserved : goal.loop-tally-preserved
loop-tally-preserved g c =
    going_next g.M.Machine.gives c.args.log.now c.args.budget _ c.loop-tally.tally c.loop-tally.invariant c.if-at-log.false c.requires
    c.if-tally-budget.false _ _ (sym c.front_at.ensures ∙ ap told_front c.in-Next.is) _
    (part-is c.args.log.now c.loop-tally.tally.offset c.in-Next.length) _
    c.answer.ensures.given _ c.count-tally.ensures c.answer.ensures.few

-- where it stops, the answer is the run's
pub returns-then-at-log : goal.returns-then-at-log
returns-then-at-log g c =
    let gives = g.M.Machine.gives in
    c.report.ensures
    ∙ going_end gives c.args.log.now c.args.budget _ c.loop-tally.tally c.loop-tally.invariant c.if-at-log.true

pub returns-then-tally-budget : goal.returns-then-tally-budget
returns-then-tally-budget g c =
    let gives = g.M.Machine.gives in
    c.report-then-tally-budget.ensures
    ∙ going-budget gives c.args.log.now c.args.budget _ c.loop-tally.tally c.loop-tally.invariant c.if-at-log.false
    c.if-tally-budget.true

pub returns-in-Stop : goal.returns-in-Stop
returns-in-Stop g c =
    let gives = g.M.Machine.gives in
    c.report-in-Stop.ensures
    ∙ going-stop gives c.args.log.now c.args.budget _ c.loop-tally.tally c.loop-tally.invariant c.if-at-log.false c.requires
    c.if-tally-budget.false _ (inl (sym c.front_at.ensures ∙ ap told_front c.in-Stop.is))
