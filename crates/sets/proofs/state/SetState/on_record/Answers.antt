-- The buffer's length, then the step, then what it sends.
use Rattle.std.proofs.Common.{ℕ, ap, ◌∙◌, arith}
use Rattle.sets.specs.declared.answer.SetStepped.{SetStepped}
use Rattle.sets.proofs.SetSent.{sent-few, sent-answer, sent-written, short-answer, short-written}
use Rattle.sets.proofs.state.SetState.on_record.Goals as goal

pub returns-then-actions-lt-ACTION_ROOM : goal.returns-then-actions-lt-ACTION_ROOM
returns-then-actions-lt-ACTION_ROOM c =
    let a = c.args in
    let short = c.if-actions-lt-ACTION_ROOM.true in
    let at : ℕ → SetStepped = λ code. record { code = code; state = a.self; count = 0; phase = 0 } in
    (ap at c.number.ensures ∙ short-answer a.self a.bytes.now a.actions.now short, short-written a.self a.bytes.now a.actions.now short)

pub write-requires : goal.write-requires
write-requires c =
    (sent-few c.args.self _ _ c.apply-answer.ensures, omega (arith, c.if-actions-lt-ACTION_ROOM.false))

pub returns : goal.returns
returns c =
    let a = c.args in
    let room = c.if-actions-lt-ACTION_ROOM.false in (
      sent-answer a.self a.bytes.now _ c.apply-answer.ensures _ room,
      sent-written a.self a.bytes.now _ c.apply-answer.ensures a.actions.now _ room c.write.ensures,
    )
