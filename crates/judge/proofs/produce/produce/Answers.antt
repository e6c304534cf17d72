-- The refusals in their order; then the sheet, counted and written.
use Rattle.std.proofs.Common.{ap, ◌∙◌}
use Rattle.judge.specs.Producing.{produce_refused}
use Rattle.judge.proofs.Produced.{limits-refused, log-refused, size-refused, room-refused, sheet-made}
use Rattle.judge.proofs.produce.produce.Goals as goal

pub returns-then-refusal-ne-ACCEPTED : goal.returns-then-refusal-ne-ACCEPTED
returns-then-refusal-ne-ACCEPTED c =
    limits-refused c.args.limits _ c.cold_start-started.ensures c.args.log.now c.args.room.now c.if-refusal-ne-ACCEPTED.true _
    c.refused.ensures

pub returns-then-log-gt-LONGEST_LOG : goal.returns-then-log-gt-LONGEST_LOG
returns-then-log-gt-LONGEST_LOG c =
    log-refused c.args.limits _ c.cold_start-started.ensures c.args.log.now c.args.room.now c.if-refusal-ne-ACCEPTED.false
    c.if-log-gt-LONGEST_LOG.true _
    (c.refused-then-log-gt-LONGEST_LOG.ensures ∙ ap produce_refused c.number.ensures)

-- the sheet counted
pub returns-then-size-gt-LONGEST_SHEET : goal.returns-then-size-gt-LONGEST_SHEET
returns-then-size-gt-LONGEST_SHEET c =
    size-refused c.args.limits c.args.log.now c.args.room.now _ _ (
      c.cold_start-started.ensures,
      c.if-refusal-ne-ACCEPTED.false,
      c.if-log-gt-LONGEST_LOG.false,
      c.measure-sheet.ensures,
    )
    c.if-size-gt-LONGEST_SHEET.true _
    (c.refused-then-size-gt-LONGEST_SHEET.ensures ∙ ap produce_refused c.number-then-size-gt-LONGEST_SHEET.ensures)

pub returns-then-size-room : goal.returns-then-size-room
returns-then-size-room c =
    room-refused c.args.limits c.args.log.now c.args.room.now _ _ (
      c.cold_start-started.ensures,
      c.if-refusal-ne-ACCEPTED.false,
      c.if-log-gt-LONGEST_LOG.false,
      c.measure-sheet.ensures,
    )
    c.if-size-gt-LONGEST_SHEET.false c.if-size-room.true _
    (c.refused-then-size-room.ensures ∙ ap produce_refused c.number-then-size-room.ensures)

pub returns : goal.returns
returns c =
    sheet-made c.args.limits c.args.log.now c.args.room.now _ _ (
      c.cold_start-started.ensures,
      c.if-refusal-ne-ACCEPTED.false,
      c.if-log-gt-LONGEST_LOG.false,
      c.measure-sheet.ensures,
    )
    c.if-size-gt-LONGEST_SHEET.false c.if-size-room.false _
    c.fill.ensures
