-- A refusal on the way to the last mark held; then the new marks, counted and written.
use Rattle.std.proofs.Common.{◌≡◌, ap, ◌∙◌, ◌/◌, List, ℕ}
use Rattle.wire.specs.Refusals.{no_room}
use Rattle.place.specs.declared.limits.Limits.{Limits}
use Rattle.marks.specs.declared.mark.Begun.{Begun}
use Rattle.marks.specs.Beginning.{begins_at}
use Rattle.marks.specs.Beginning.{extend_refused}
use Rattle.marks.specs.Marks.{mark_every, mark_count}
use Rattle.marks.proofs.Starting.{begins-good, begins-fine}
use Rattle.marks.proofs.Extending.{first-refused, held_fits, room-refused, marks-room, marks-made}
use Rattle.marks.proofs.build.extend.Goals as goal
use Rattle.marks.proofs.build.extend.Goals.{After-count_records-count}

-- where the way to the last mark begins; 10 where that mark is not there whole
begun-is : (limits : Limits) (log marks : List ℕ) (held : ℕ) {missing : ℕ} {begun : Begun}
    → missing ≡ no_room
    → begun ≡ begins_at limits log marks held missing
    → begun ≡ begins_at limits log marks held no_room
begun-is limits log marks held number is = is ∙ ap (begins_at limits log marks held) number

pub returns-then-code-ne-ACCEPTED : goal.returns-then-code-ne-ACCEPTED
returns-then-code-ne-ACCEPTED c =
    first-refused c.args.limits c.args.log.now c.args.held c.args.room.now _ (begun-is c.args.limits c.args.log.now c.args.room.now
    c.args.held c.number.ensures c.begins_at-begun.ensures) c.if-code-ne-ACCEPTED.true _
    c.refused.ensures

pub overflow_sub-room : goal.overflow_sub-room
overflow_sub-room c =
    held_fits c.args.limits c.args.log.now c.args.held c.args.room.now _ (begun-is c.args.limits c.args.log.now c.args.room.now c.args.held
    c.number.ensures c.begins_at-begun.ensures) c.if-code-ne-ACCEPTED.false

-- the records from there on, counted
module _ (c : After-count_records-count) where
  counted : c.count_records-count.result / mark_every ≡ mark_count c.begins_at-begun.result.offset c.args.log.now
  counted = ap (λ n. n / mark_every) c.count_records-count.ensures

pub returns-then-room-held : goal.returns-then-room-held
returns-then-room-held c =
    let known = goal.at.returns-then-room-held c in
    room-refused c.args.limits c.args.log.now c.args.held c.args.room.now _ (begun-is c.args.limits c.args.log.now c.args.room.now
    c.args.held c.number.ensures c.begins_at-begun.ensures) c.if-code-ne-ACCEPTED.false _
    (counted known.After-count_records-count) c.if-room-held.true _
    (c.refused-then-room-held.ensures ∙ ap extend_refused c.number-then-room-held.ensures)

pub fill-requires : goal.fill-requires
fill-requires c =
    let known = goal.at.fill-requires c in
    let good =
    begins-good c.args.limits c.args.log.now c.args.room.now c.args.held no_room _
    (begun-is c.args.limits c.args.log.now c.args.room.now c.args.held c.number.ensures c.begins_at-begun.ensures)
    c.if-code-ne-ACCEPTED.false in
    let fine = begins-fine c.args.limits c.args.log.now c.args.room.now c.args.held no_room _
    (begun-is c.args.limits c.args.log.now c.args.room.now c.args.held c.number.ensures c.begins_at-begun.ensures) in
    let room =
    marks-room c.args.limits c.args.log.now c.args.held c.args.room.now _ (begun-is c.args.limits c.args.log.now c.args.room.now c.args.held
    c.number.ensures c.begins_at-begun.ensures) c.if-code-ne-ACCEPTED.false _
    (counted known.After-count_records-count) c.if-room-held.false in
    (good.0, fine.0, fine.1, room)

pub returns : goal.returns
returns c =
    let known = goal.at.returns c in
    marks-made c.args.limits c.args.log.now c.args.held c.args.room.now _ (begun-is c.args.limits c.args.log.now c.args.room.now c.args.held
    c.number.ensures c.begins_at-begun.ensures) c.if-code-ne-ACCEPTED.false _
    (counted known.After-count_records-count) c.if-room-held.false _ c.fill.ensures
