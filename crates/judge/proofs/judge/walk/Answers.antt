-- The records passed stand right, with all that follows them.
use Rattle.std.proofs.Common.{inl, ap, ◌≡◌, ◌+◌, ◌≤◌, ◌<◌, length, drop, sym, ◌∙◌, arith}
use lib.Seq.{length-take-le}
use Rattle.record.specs.Takes.{take_one}
use Rattle.record.specs.Takes.{Whole}
use Rattle.record.proofs.Takes.{part-is}
use Rattle.unit.specs.Forms.{most_actions}
use Rattle.record.specs.Readings.{told_reading}
use Rattle.record.specs.Stops.{stop_number, told_front}
use Rattle.judge.proofs.Entries.{answer-few, sent-inside}
use Rattle.judge.proofs.Walks.{judged-stop, whole-fits, point-behind, judged-more, judged-fails}
use Rattle.judge.proofs.judge.walk.Goals as goal
use Rattle.judge.proofs.judge.walk.Goals.{In-Next}

-- nothing more is taken
pub returns-in-Stop : goal.returns-in-Stop
returns-in-Stop c =
    c.stopped.ensures
    ∙ judged-stop _ _ _ _ _ _ c.loop-stop.invariant (stop_number c.in-Stop.stop) _ c.front_at.ensures
    (inl (ap told_front c.in-Stop.is))

-- a whole event record
module _ (c : In-Next) where
  whole : take_one (drop c.loop-stop.at c.args.sheet.now) ≡ Whole c.in-Next.length (told_reading c.in-Next.reading)
  whole = sym c.front_at.ensures ∙ ap told_front c.in-Next.is

  fits : (1 ≤ c.in-Next.length) × (c.loop-stop.at + c.in-Next.length ≤ length c.args.sheet.now)
  fits =
      whole-fits c.args.sheet.now _ _ c.loop-stop.state c.loop-stop.at c.loop-stop.records c.loop-stop.invariant c.in-Next.length
      (told_reading c.in-Next.reading) whole

pub overflow_add-end : goal.overflow_add-end
overflow_add-end c = let inside = fits (goal.at.overflow_add-end c).In-Next in omega (arith, inside.1)

pub slice_bounds-on_record-end : goal.slice_bounds-on_record-end
slice_bounds-on_record-end c = (fits (goal.at.slice_bounds-on_record-end c).In-Next).1

-- the step on it, its actions written to the buffer
pub overflow_mul-sent : goal.overflow_mul-sent
overflow_mul-sent c =
    let few : c.on_record-stepped.result.count ≤ most_actions = answer-few c.loop-stop.state _ _ c.on_record-stepped.ensures.0 in
    omega (arith, few)

pub slice_bounds-buffer-end : goal.slice_bounds-buffer-end
slice_bounds-buffer-end c =
    sent-inside c.loop-stop.state _ _ c.on_record-stepped.ensures.0 _ _ c.on_record-stepped.ensures.1

pub slice_bounds-dues_at-end : goal.slice_bounds-dues_at-end
slice_bounds-dues_at-end c =
    sym
    (length-take-le _ c.on_record-stepped.new.actions
    (sent-inside c.loop-stop.state _ _ c.on_record-stepped.ensures.0 _ _ c.on_record-stepped.ensures.1))

-- and how far what is due behind it stands
pub overflow_add-records : goal.overflow_add-records
overflow_add-records c =
    let inside = fits (goal.at.overflow_add-records c).In-Next in
    let below : c.loop-stop.records < length c.args.sheet.now =
    omega (arith, c.loop-stop.invariant.0, inside.0, inside.1) in
    omega (arith, below)

pub loop-stop-smaller : goal.loop-stop-smaller
loop-stop-smaller c =
    let taken = (goal.at.loop-stop-smaller c).In-Next in
    let inside = fits taken in
    let behind =
    point-behind _ _ _ _ _ _ c.loop-stop.invariant _ _ (whole taken) _ _ _ _
    (part-is c.args.sheet.now c.loop-stop.at c.in-Next.length) c.on_record-stepped.ensures.0 c.on_record-stepped.ensures.1 _
    c.dues_at-point.ensures in
    omega (arith, behind, inside.0, inside.1)

pub loop-stop-preserved : goal.loop-stop-preserved
loop-stop-preserved c =
    judged-more _ _ _ _ _ _ c.loop-stop.invariant _ _ (whole (goal.at.loop-stop-preserved c).In-Next) _ _ _ _
    (part-is c.args.sheet.now c.loop-stop.at c.in-Next.length) c.on_record-stepped.ensures.0 c.on_record-stepped.ensures.1 _
    c.dues_at-point.ensures
    (sym c.is_right.ensures ∙ c.if-is_right.true)

pub returns-else-is_right : goal.returns-else-is_right
returns-else-is_right c =
    judged-fails _ _ _ _ _ _ c.loop-stop.invariant _ _ (whole (goal.at.returns-else-is_right c).In-Next) _ _ _ _
    (part-is c.args.sheet.now c.loop-stop.at c.in-Next.length) c.on_record-stepped.ensures.0 c.on_record-stepped.ensures.1 _
    c.dues_at-point.ensures
    (sym c.is_right.ensures ∙ c.if-is_right.false)
