-- The sheet stands in the room.
use Rattle.std.proofs.Common.{arith, sym}
use lib.Seq.{length-take-le}
use Rattle.text.proofs.Sheets.{count_fits}
use Rattle.sheet_body.proofs.print.Goals as goal

pub slice_bounds-write_all-end : goal.slice_bounds-write_all-end
slice_bounds-write_all-end g c =
    let sheet = c.sheet_into-used in
    omega (arith, count_fits _ _ _ sheet.ensures.0, sheet.auto.buffer)

pub slice_bounds-write_all-end-2 : goal.slice_bounds-write_all-end-2
slice_bounds-write_all-end-2 g c =
    let sheet = c.sheet_into-used in
    let fits = count_fits _ _ _ sheet.ensures.0 in
    sym (length-take-le sheet.result sheet.new.buffer (omega (arith, fits, sheet.auto.buffer)))
