-- The header, then the lines.
use Rattle.std.proofs.Common.{ap, arith}
use Rattle.text.proofs.Placing.{sheet-none, sheet-long, header-ready, sheet-whole}
use Rattle.text.proofs.sheet.sheet_into.Goals as goal

pub returns-then-buffer-lt-SHEET_ROOM : goal.returns-then-buffer-lt-SHEET_ROOM
returns-then-buffer-lt-SHEET_ROOM c = sheet-none c.args.input.now c.args.buffer.now c.if-buffer-lt-SHEET_ROOM.true

pub returns-then-input-gt-MOST_INPUT : goal.returns-then-input-gt-MOST_INPUT
returns-then-input-gt-MOST_INPUT c =
    sheet-long c.args.input.now c.args.buffer.now c.if-buffer-lt-SHEET_ROOM.false c.if-input-gt-MOST_INPUT.true _ _
    c.put_words.ensures

pub fill-requires : goal.fill-requires
fill-requires c = (
  omega arith,
  c.if-input-gt-MOST_INPUT.false,
  omega arith,
  header-ready c.args.input.now c.args.buffer.now c.if-buffer-lt-SHEET_ROOM.false c.if-input-gt-MOST_INPUT.false _ _
      c.put_words-used.ensures _
      (ap (λ s. s.state) c.cold_start-start.ensures),
)

pub returns : goal.returns
returns c =
    sheet-whole c.args.input.now c.args.buffer.now c.if-buffer-lt-SHEET_ROOM.false c.if-input-gt-MOST_INPUT.false _ _
    c.put_words-used.ensures _ (ap (λ s. s.state) c.cold_start-start.ensures) _ _
    c.fill.ensures
