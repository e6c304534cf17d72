-- The parts are tested, up to the first that is not as it should be; four places there are.
use Rattle.std.proofs.Common.{true, false, refl, sym, ◌∙◌}
use Rattle.unit.proofs.FourPlaces.{four-places}
use Rattle.unit.proofs.Tested.{sound-by}
use Rattle.unit.proofs.state.State.is_sound.Goals as goal

pub returns-then-is_sound : goal.returns-then-is_sound
returns-then-is_sound c =
    c.places_ok.ensures
    ∙ sound-by c.args.self true true true true (four-places c.args.self c.well_formed.0)
    (sym c.limits_ok.ensures ∙ c.if-not-limits_ok.false)
    (sym c.train_ok.ensures ∙ c.if-not-train_ok.false)
    (sym c.marks_ok.ensures ∙ c.if-not-marks_ok.false)
    (sym c.is_sound.ensures ∙ c.if-is_sound.true)

pub returns-else-is_sound : goal.returns-else-is_sound
returns-else-is_sound c =
    c.if-is_sound.false
    ∙ sound-by c.args.self true true true false (four-places c.args.self c.well_formed.0)
    (sym c.limits_ok.ensures ∙ c.if-not-limits_ok.false)
    (sym c.train_ok.ensures ∙ c.if-not-train_ok.false)
    (sym c.marks_ok.ensures ∙ c.if-not-marks_ok.false)
    (sym c.is_sound.ensures ∙ c.if-is_sound.false)

pub returns-then-not-marks_ok : goal.returns-then-not-marks_ok
returns-then-not-marks_ok c =
    sound-by c.args.self true true false _ (four-places c.args.self c.well_formed.0)
    (sym c.limits_ok.ensures ∙ c.if-not-limits_ok.false)
    (sym c.train_ok.ensures ∙ c.if-not-train_ok.false)
    (sym c.marks_ok.ensures ∙ c.if-not-marks_ok.true)
    refl

pub returns-then-not-train_ok : goal.returns-then-not-train_ok
returns-then-not-train_ok c =
    sound-by c.args.self true false _ _ (four-places c.args.self c.well_formed.0)
    (sym c.limits_ok.ensures ∙ c.if-not-limits_ok.false)
    (sym c.train_ok.ensures ∙ c.if-not-train_ok.true)
    refl refl

pub returns-then-not-limits_ok : goal.returns-then-not-limits_ok
returns-then-not-limits_ok c =
    sound-by c.args.self false _ _ _ (four-places c.args.self c.well_formed.0)
    (sym c.limits_ok.ensures ∙ c.if-not-limits_ok.true)
    refl refl refl
