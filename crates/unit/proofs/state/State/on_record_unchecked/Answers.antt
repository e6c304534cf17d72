-- The room, then the record.
use Rattle.std.proofs.Common.{sym, ap, ◌∙◌, length}
use Rattle.record.specs.Readings.{told_reading}
use Rattle.unit.specs.Forms.{stepped}
use Rattle.unit.specs.OnRecords.{written}
use Rattle.unit.proofs.OnBytes.{unchecked-room, unchecked-reading}
use Rattle.unit.proofs.Settling.{written-refused}
use Rattle.unit.proofs.state.State.on_record_unchecked.Goals as goal

pub returns-then-actions-lt-ACTION_ROOM : goal.returns-then-actions-lt-ACTION_ROOM
returns-then-actions-lt-ACTION_ROOM c =
    let small = unchecked-room c.args.self c.args.bytes.now _ c.if-actions-lt-ACTION_ROOM.true in
    written-refused _ _ _ _ _ c.args.self c.args.actions.now c.refused.ensures c.nowhere.ensures small

pub returns-in-Ok : goal.returns-in-Ok
returns-in-Ok c =
    let buffer = c.args.actions.now in
    let enough = c.if-actions-lt-ACTION_ROOM.false in
    let is = sym (unchecked-reading c.args.self c.args.bytes.now (length buffer) enough _
    (sym c.read.ensures ∙ ap told_reading c.in-Ok.is)) in
    let wrote = c.write_step.ensures in
    (wrote.0 ∙ ap stepped is, wrote.1 ∙ ap (λ o. written o.actions buffer) is)

pub returns-in-Err : goal.returns-in-Err
returns-in-Err c =
    let buffer = c.args.actions.now in
    let enough = c.if-actions-lt-ACTION_ROOM.false in
    let means = unchecked-reading c.args.self c.args.bytes.now (length buffer) enough _
    (sym c.read.ensures ∙ ap told_reading c.in-Err.is) in
    written-refused _ _ _ _ _ c.args.self buffer c.refused-in-Err.ensures c.nowhere-in-Err.ensures means
