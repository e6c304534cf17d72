-- The records passed are counted.
use Rattle.std.proofs.Common.{inl, ap, ◌≡◌, ◌+◌, ◌≤◌, length, drop, sym, ◌∙◌, arith}
use Rattle.record.specs.Takes.{longest_log, take_one}
use Rattle.record.specs.Takes.{Whole}
use Rattle.record.proofs.Takes.{part-is}
use Rattle.unit.specs.Forms.{most_actions}
use Rattle.record.specs.Stops.{told_front}
use Rattle.record.specs.Readings.{told_reading}
use Rattle.judge.proofs.Courses.{whole_part}
use Rattle.judge.proofs.Entries.{answer-few}
use Rattle.judge.proofs.Measuring.{measuring-end, measuring-next}
use Rattle.judge.proofs.produce.measure.Goals as goal
use Rattle.judge.proofs.produce.measure.Goals.{In-Next}

-- a whole record
module _ (c : In-Next) where
  whole : take_one (drop c.loop-stop.at c.args.log.now) ≡ Whole c.in-Next.length (told_reading c.in-Next.reading)
  whole = sym c.front_at.ensures ∙ ap told_front c.in-Next.is

  fits : (1 ≤ c.in-Next.length) × (c.loop-stop.at + c.in-Next.length ≤ length c.args.log.now)
  fits =
      let part =
      whole_part c.args.log.now c.requires c.loop-stop.state c.loop-stop.at c.in-Next.length (told_reading c.in-Next.reading) whole in
      (part.0, part.1)

pub overflow_add-end : goal.overflow_add-end
overflow_add-end c =
    let inside = fits (goal.at.overflow_add-end c).In-Next in
    omega (arith, inside.1, c.requires)

pub slice_bounds-on_record-end : goal.slice_bounds-on_record-end
slice_bounds-on_record-end c = (fits (goal.at.slice_bounds-on_record-end c).In-Next).1

-- what the step on it answers
pub overflow_mul-size : goal.overflow_mul-size
overflow_mul-size c =
    let few : c.on_record-stepped.result.count ≤ most_actions = answer-few c.loop-stop.state _ _ c.on_record-stepped.ensures.0 in
    omega (arith, few)

pub overflow_add-size-in-Next : goal.overflow_add-size-in-Next
overflow_add-size-in-Next c =
    let part = fits (goal.at.overflow_add-size-in-Next c).In-Next in
    let few : c.on_record-stepped.result.count ≤ most_actions = answer-few c.loop-stop.state _ _ c.on_record-stepped.ensures.0 in
    let short : c.loop-stop.at + c.in-Next.length ≤ longest_log = omega (arith, part.1, c.requires) in
    omega (arith, few, short)

pub overflow_add-size-in-Next-2 : goal.overflow_add-size-in-Next-2
overflow_add-size-in-Next-2 c =
    let part = fits (goal.at.overflow_add-size-in-Next-2 c).In-Next in
    let few : c.on_record-stepped.result.count ≤ most_actions = answer-few c.loop-stop.state _ _ c.on_record-stepped.ensures.0 in
    let short : c.loop-stop.at + c.in-Next.length ≤ longest_log = omega (arith, part.1, c.requires) in
    omega (arith, few, short, c.loop-stop.invariant.2)

pub loop-stop-smaller : goal.loop-stop-smaller
loop-stop-smaller c =
    let part = fits (goal.at.loop-stop-smaller c).In-Next in
    omega (arith, part.0, part.1)

pub loop-stop-preserved : goal.loop-stop-preserved
loop-stop-preserved c =
    let log = c.args.log.now in
    measuring-next log c.requires _ _ _ _ _ c.loop-stop.invariant _ _ (whole (goal.at.loop-stop-preserved c).In-Next) _
    (part-is log c.loop-stop.at c.in-Next.length) _ c.on_record-stepped.ensures.0

-- where it stops
pub returns : goal.returns
returns c =
    ap (λ stop. record { size = c.loop-stop.size; records = c.loop-stop.records; stop = stop }) c.number.ensures
    ∙ measuring-end c.args.log.now c.requires _ _ _ _ _ c.loop-stop.invariant _
    (inl (sym c.front_at.ensures ∙ ap told_front c.in-Stop.is))
