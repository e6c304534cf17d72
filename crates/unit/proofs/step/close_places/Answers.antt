-- The places passed are closed where they were due, and their numbers stand beside them.
use Rattle.std.proofs.Common.{◌≡◌, ◌<◌, ◌≤◌, ◌∙◌, refl, sym, length, replicate, arith}
use Rattle.unit.specs.Steps.{closed}
use Rattle.unit.proofs.Closings.{closings-places, closing-numbers, closings-all, numbers-all}
use Rattle.unit.proofs.step.close_places.Goals as goal

pub loop-i-init : goal.loop-i-init
unfolding closed
loop-i-init c = (omega arith, refl, refl)

pub loop-i-preserved : goal.loop-i-preserved
loop-i-preserved c =
    let which = c.args.which in
    let ps = c.args.before in
    let i = c.loop-i.i in
    let four : length ps ≡ 4 = omega arith in
    let under : i < length ps = omega (arith, four, c.loop-i-test.true) in
    let places = c.loop-i.places in
    let inv = c.loop-i.invariant in (
      omega arith,
      closings-places which ps i under places inv.1 _ c.close-turned.ensures,
      closing-numbers which ps i under places inv.1 _ c.close-turned.ensures _ (replicate 4 0) (sym four) inv.2,
    )

pub returns : goal.returns
returns c =
    let which = c.args.which in
    let ps = c.args.before in
    let four : length ps ≡ 4 = omega arith in
    let above : length ps ≤ c.loop-i.i = omega (arith, four, c.loop-i-test.false) in (
      c.loop-i.invariant.1 ∙ closings-all which ps c.loop-i.i above,
      c.loop-i.invariant.2 ∙ numbers-all which ps c.loop-i.i above (replicate 4 0) (sym four),
    )
