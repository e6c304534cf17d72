-- The numbers as bytes, the cold start, and its image.
use Rattle.std.proofs.Common.{◌∙◌}
use Rattle.firmware.specs.Starts.{limits_of}
use Rattle.firmware.proofs.Numbers.{back}
use Rattle.firmware.proofs.Starting.{start-bytes, start-refused, start-written}
use Rattle.firmware.proofs.start.resheftal_cold_start.Goals as goal

pub returns-then-start-ne-ACCEPTED : goal.returns-then-start-ne-ACCEPTED
returns-then-start-ne-ACCEPTED c =
    let a = c.args in
    let made = c.cold_start-start in
    let started =
    made.ensures ∙ start-bytes a.lowest a.highest a.tries _ _ _ c.byte_of.ensures c.byte_of-2.ensures c.byte_of-3.ensures in
    start-refused (limits_of a.lowest a.highest a.tries) a.image.now made.result started _ c.if-start-ne-ACCEPTED.true
    (back _ _ c.minus.ensures)

pub returns : goal.returns
returns c =
    let a = c.args in
    let made = c.cold_start-start in
    let started =
    made.ensures ∙ start-bytes a.lowest a.highest a.tries _ _ _ c.byte_of.ensures c.byte_of-2.ensures c.byte_of-3.ensures in
    let wrote = c.write_a2-stored in
    start-written (limits_of a.lowest a.highest a.tries) a.image.now made.result started _ wrote.result _ c.if-start-ne-ACCEPTED.false
    (back _ _ c.minus-2.ensures) wrote.ensures.0 wrote.ensures.1
