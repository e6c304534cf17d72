-- The buffer's length, then the step, then what it sends.
use Rattle.std.proofs.Common.{ℕ, ap, ◌∙◌, arith}
use Rattle.shunter.specs.declared.answer.Sent.{Sent}
use Rattle.shunter.proofs.ShunterSent.{sent-few, sent-answer, sent-written, short-answer, short-written}
use Rattle.shunter.proofs.state.Shunter.on_record.Goals as goal

pub returns-then-actions-lt-ACTION_ROOM : goal.returns-then-actions-lt-ACTION_ROOM
returns-then-actions-lt-ACTION_ROOM c =
    let self = c.args.self in
    let bytes = c.args.bytes.now in
    let buffer = c.args.actions.now in
    let short = c.if-actions-lt-ACTION_ROOM.true in
    let at : ℕ → Sent = λ code. record { code = code; shunter = self; count = 0; standing = c.nowhere.result } in
    (ap at c.number.ensures ∙ short-answer self bytes buffer short _ c.nowhere.ensures, short-written self bytes buffer short)

pub write-requires : goal.write-requires
write-requires c = (sent-few c.args.self _ _ c.apply-shunted.ensures, omega (arith, c.if-actions-lt-ACTION_ROOM.false))

pub returns : goal.returns
returns c =
    let self = c.args.self in
    let bytes = c.args.bytes.now in
    let buffer = c.args.actions.now in
    let is = c.apply-shunted.ensures in
    let room = c.if-actions-lt-ACTION_ROOM.false in
    (sent-answer self bytes _ is _ room, sent-written self bytes _ is buffer _ room c.write.ensures)
