-- The state is tested, then what the record means is stepped.
use Rattle.std.proofs.Common.{ap, sym, ◌∙◌}
use Rattle.wire.specs.Refusals.{number}
use Rattle.record.specs.Readings.{told_reading}
use Rattle.sets.specs.OnSets.{apply_sets, set_listed}
use Rattle.sets.specs.SetSteps.{set_refused}
use Rattle.sets.proofs.Packing.{packed-ready}
use Rattle.sets.proofs.state.SetState.apply.Goals as goal

pub returns-in-Ok : goal.returns-in-Ok
unfolding apply_sets
returns-in-Ok c =
    let ready = sym c.is_sound.ensures ∙ c.if-is_sound.true in
    rw (ready, sym c.read.ensures ∙ ap told_reading c.in-Ok.is) c.step.ensures

pub returns-in-Err : goal.returns-in-Err
unfolding apply_sets
returns-in-Err c =
    let ready = sym c.is_sound.ensures ∙ c.if-is_sound.true in
    rw (ready, sym c.read.ensures ∙ ap told_reading c.in-Err.is)
    (c.refused.ensures ∙ ap (λ b. set_listed (set_refused (number c.in-Err.refusal) b)) (sym (packed-ready _ ready)))

pub returns-else-is_sound : goal.returns-else-is_sound
unfolding apply_sets
returns-else-is_sound c =
    let unready = sym c.is_sound.ensures ∙ c.if-is_sound.false in
    rw unready c.refused-else-is_sound.ensures
