-- The refusals in their order; then the step, and the image of the next state.
use Rattle.std.proofs.Common.{sym, ap, ◌∙◌, length, arith}
use Rattle.unit.specs.Steps.{refused}
use Rattle.unit.specs.declared.start.Started.{Started}
use Rattle.image.specs.Images.{read_a2}
use Rattle.image.proofs.Calling.{on_image-no-room, on_image-unread, read-long, call-nothing}
use Rattle.image.proofs.Calling.{call-answer, call_kept, call_next, call-sound, call-wrote}
use Rattle.image.proofs.call.step_image.Goals as goal

pub returns-then-actions-lt-ACTION_ROOM : goal.returns-then-actions-lt-ACTION_ROOM
returns-then-actions-lt-ACTION_ROOM c =
    let image = c.args.image.now in
    let actions = c.args.actions.now in
    let nothing = call-nothing _ image actions 10 _
    (on_image-no-room image c.args.bytes.now (length actions) c.if-actions-lt-ACTION_ROOM.true)
    (λ h. absurd (omega arith)) in
    ((λ i. record { code = c.number.ensures i; count = 0 }) ∙ nothing.0, nothing.1, nothing.2)

pub returns-then-held-ne-ACCEPTED : goal.returns-then-held-ne-ACCEPTED
returns-then-held-ne-ACCEPTED c =
    let image = c.args.image.now in
    let actions = c.args.actions.now in
    let found = c.read_a2-held.result in
    let code = ap (λ (r : Started). r.code) c.read_a2-held.ensures in
    let other = c.if-held-ne-ACCEPTED.true in
    call-nothing _ image actions found.code _
    (on_image-unread image c.args.bytes.now (length actions) c.if-actions-lt-ACTION_ROOM.false (λ h. other (code ∙ h))
    ∙ ap (λ k. refused k (read_a2 image).state) (sym code))
    other

pub returns-then-code-ne-ACCEPTED : goal.returns-then-code-ne-ACCEPTED
returns-then-code-ne-ACCEPTED c =
    let image = c.args.image.now in
    let bytes = c.args.bytes.now in
    let actions = c.args.actions.now in
    let room = c.if-actions-lt-ACTION_ROOM.false in
    let reading = c.read_a2-held.ensures in
    let read = sym (ap (λ (r : Started). r.code) reading) ∙ c.if-held-ne-ACCEPTED.false in
    let state = ap (λ (r : Started). r.state) reading in
    let on = c.on_record_unchecked-stepped in (
      call-answer image bytes actions _ _ on.result room read state on.ensures.0 on.ensures.1,
      call_kept image bytes actions _ _ on.result room read state on.ensures.0 on.ensures.1 c.if-code-ne-ACCEPTED.true,
      call-wrote image bytes actions _ _ on.result room read state on.ensures.0 on.ensures.1,
    )

pub put_image-requires : goal.put_image-requires
put_image-requires c =
    let image = c.args.image.now in
    let bytes = c.args.bytes.now in
    let actions = c.args.actions.now in
    let room = c.if-actions-lt-ACTION_ROOM.false in
    let reading = c.read_a2-held.ensures in
    let read = sym (ap (λ (r : Started). r.code) reading) ∙ c.if-held-ne-ACCEPTED.false in
    let state = ap (λ (r : Started). r.state) reading in
    let on = c.on_record_unchecked-stepped in (
      omega (arith, read-long image read),
      call-sound image bytes actions _ _ on.result room read state on.ensures.0 on.ensures.1,
    )

pub returns : goal.returns
returns c =
    let image = c.args.image.now in
    let bytes = c.args.bytes.now in
    let actions = c.args.actions.now in
    let room = c.if-actions-lt-ACTION_ROOM.false in
    let reading = c.read_a2-held.ensures in
    let read = sym (ap (λ (r : Started). r.code) reading) ∙ c.if-held-ne-ACCEPTED.false in
    let state = ap (λ (r : Started). r.state) reading in
    let on = c.on_record_unchecked-stepped in (
      call-answer image bytes actions _ _ on.result room read state on.ensures.0 on.ensures.1,
      call_next image bytes actions _ _ on.result room read state on.ensures.0 on.ensures.1 _ c.if-code-ne-ACCEPTED.false
          c.put_image.ensures,
      call-wrote image bytes actions _ _ on.result room read state on.ensures.0 on.ensures.1,
    )
