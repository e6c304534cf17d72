-- The records passed are written with what follows them.
use Rattle.std.proofs.Common.{ap, ◌≡◌, ◌+◌, ◌≤◌, length, drop, sym, ◌∙◌, arith}
use lib.Seq.{length-take-le}
use Rattle.record.specs.Takes.{take_one}
use Rattle.record.specs.Takes.{Whole}
use Rattle.record.proofs.Takes.{part-is}
use Rattle.unit.specs.Forms.{most_actions}
use Rattle.record.specs.Stops.{told_front}
use Rattle.record.specs.Readings.{told_reading}
use Rattle.judge.proofs.Courses.{whole_part}
use Rattle.judge.proofs.Entries.{answer-few, sent-inside}
use Rattle.judge.proofs.Filling.{filling-end, filling-room, filling-next}
use Rattle.judge.proofs.produce.fill.Goals as goal
use Rattle.judge.proofs.produce.fill.Goals.{In-Next}

-- a whole record
module _ (c : In-Next) where
  whole : take_one (drop c.loop-length.at c.args.log.now) ≡ Whole c.in-Next.length (told_reading c.in-Next.reading)
  whole = sym c.front_at.ensures ∙ ap told_front c.in-Next.is

  fits : (1 ≤ c.in-Next.length) × (c.loop-length.at + c.in-Next.length ≤ length c.args.log.now)
  fits =
      let part =
      whole_part c.args.log.now c.requires.0 c.loop-length.state c.loop-length.at c.in-Next.length (told_reading c.in-Next.reading) whole in
      (part.0, part.1)

pub overflow_add-end : goal.overflow_add-end
overflow_add-end c =
    let part = fits (goal.at.overflow_add-end c).In-Next in
    omega (arith, part.1, c.requires.0)

pub slice_bounds-on_record-end : goal.slice_bounds-on_record-end
slice_bounds-on_record-end c =
    (fits (goal.at.slice_bounds-on_record-end c).In-Next).1

-- the step on it, its actions written to the buffer
pub overflow_mul-sent : goal.overflow_mul-sent
overflow_mul-sent c =
    let few : c.on_record-stepped.result.count ≤ most_actions = answer-few c.loop-length.state _ _ c.on_record-stepped.ensures.0 in
    omega (arith, few)

pub slice_bounds-buffer-end : goal.slice_bounds-buffer-end
slice_bounds-buffer-end c =
    sent-inside c.loop-length.state _ _ c.on_record-stepped.ensures.0 _ _ c.on_record-stepped.ensures.1

pub slice_bounds-put_entry-end-in-Next : goal.slice_bounds-put_entry-end-in-Next
slice_bounds-put_entry-end-in-Next c =
    sym
    (length-take-le _ c.on_record-stepped.new.actions
    (sent-inside c.loop-length.state _ _ c.on_record-stepped.ensures.0 _ _ c.on_record-stepped.ensures.1))

pub put_entry-used-requires : goal.put_entry-used-requires
put_entry-used-requires c =
    let log = c.args.log.now in
    filling-room log c.requires.0 _ _ _ _ _ _ c.loop-length.invariant _ _ (whole (goal.at.put_entry-used-requires c).In-Next) _
    (part-is log c.loop-length.at c.in-Next.length) _ c.on_record-stepped.ensures.0 _ _ c.on_record-stepped.ensures.1

pub loop-length-smaller : goal.loop-length-smaller
loop-length-smaller c =
    let part = fits (goal.at.loop-length-smaller c).In-Next in
    omega (arith, part.0, part.1)

pub loop-length-preserved : goal.loop-length-preserved
loop-length-preserved c =
    let log = c.args.log.now in
    filling-next log c.requires.0 _ _ _ _ _ _ c.loop-length.invariant _ _ (whole (goal.at.loop-length-preserved c).In-Next) _
    (part-is log c.loop-length.at c.in-Next.length) _ c.on_record-stepped.ensures.0 _ _ c.on_record-stepped.ensures.1 _ _
    c.put_entry-used.ensures.0 c.put_entry-used.ensures.1

-- where it stops
pub returns : goal.returns
returns c =
    filling-end c.args.log.now c.requires.0 _ _ _ _ _ _ c.loop-length.invariant c.requires.1 _ c.front_at.ensures
    c.in_default.not-Next
