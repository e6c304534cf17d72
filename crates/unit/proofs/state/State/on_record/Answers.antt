-- The refusals in their order, then the step.
use Rattle.std.proofs.Common.{sym, ap, ◌∙◌, length}
use Rattle.unit.specs.Forms.{stepped}
use Rattle.unit.specs.OnRecords.{written}
use Rattle.unit.proofs.OnBytes.{bytes-unsound, on_room, on-enough, unchecked-sound}
use Rattle.unit.proofs.Settling.{written-refused}
use Rattle.unit.proofs.state.State.on_record.Goals as goal

pub returns-then-actions-lt-ACTION_ROOM : goal.returns-then-actions-lt-ACTION_ROOM
returns-then-actions-lt-ACTION_ROOM c =
    let small = on_room c.args.self c.args.bytes.now _ c.if-actions-lt-ACTION_ROOM.true in
    written-refused _ _ _ _ _ c.args.self c.args.actions.now c.refused.ensures c.nowhere.ensures small

pub returns-then-is_sound : goal.returns-then-is_sound
returns-then-is_sound c =
    let buffer = c.args.actions.now in
    let good = sym c.is_sound.ensures ∙ c.if-is_sound.true in
    let is = unchecked-sound c.args.self c.args.bytes.now (length buffer) good in
    let answer = c.on_record_unchecked.ensures in
    (answer.0 ∙ ap stepped is, answer.1 ∙ ap (λ o. written o.actions buffer) is)

pub returns-else-is_sound : goal.returns-else-is_sound
returns-else-is_sound c =
    let buffer = c.args.actions.now in
    let bad = sym c.is_sound.ensures ∙ c.if-is_sound.false in
    let unsound =
    on-enough c.args.self c.args.bytes.now _ c.if-actions-lt-ACTION_ROOM.false ∙ bytes-unsound c.args.self c.args.bytes.now bad in
    written-refused _ _ _ _ _ c.args.self buffer c.refused-else-is_sound.ensures c.nowhere-else-is_sound.ensures unsound
