-- The places passed are sound, and their partners have no higher place.
use Rattle.std.proofs.Common.{arith, ◌<◌, length, sym, ◌∙◌}
use Rattle.unit.proofs.FourPlaces.{four-places}
use Rattle.unit.proofs.Tested.{ok_end, ok-more, ok-bad, ok-twice}
use Rattle.unit.proofs.state.State.places_ok.Goals as goal

pub loop-i-preserved : goal.loop-i-preserved
loop-i-preserved c =
    let four = four-places c.args.self c.well_formed.0 in
    let under : c.loop-i.i < length c.args.self.places = omega (arith, four) in
    let good = sym c.is_sound.ensures ∙ c.if-not-is_sound.false in
    let alone = sym c.absent_above.ensures ∙ c.if-not-absent_above.false in
    (omega arith, ok-more c.args.self.limits c.args.self.places _ c.loop-i.invariant.1 under good alone)

pub returns : goal.returns
returns c =
    ok_end c.args.self.limits c.args.self.places c.loop-i.i c.loop-i.invariant.1
    (omega (arith, four-places c.args.self c.well_formed.0))

pub returns-then-not-absent_above : goal.returns-then-not-absent_above
returns-then-not-absent_above c =
    let four = four-places c.args.self c.well_formed.0 in
    let under : c.loop-i.i < length c.args.self.places = omega (arith, four) in
    let good = sym c.is_sound.ensures ∙ c.if-not-is_sound.false in
    let twice = sym c.absent_above.ensures ∙ c.if-not-absent_above.true in
    ok-twice c.args.self.limits c.args.self.places _ c.loop-i.invariant.1 under good twice

pub returns-then-not-is_sound : goal.returns-then-not-is_sound
returns-then-not-is_sound c =
    let four = four-places c.args.self c.well_formed.0 in
    let under : c.loop-i.i < length c.args.self.places = omega (arith, four) in
    ok-bad c.args.self.limits c.args.self.places _ c.loop-i.invariant.1 under (sym c.is_sound.ensures ∙ c.if-not-is_sound.true)
