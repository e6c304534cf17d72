-- The actions passed are written.
use Rattle.std.proofs.Common.{◌≡◌, ◌<◌, length, refl, sym, ◌∙◌, rules, arith}
use Rattle.unit.proofs.Written.{written_none}
use Rattle.shunter.proofs.ShunterSent.{written_next}
use Rattle.shunter.proofs.bytes.write.Goals as goal

pub loop-i-init : goal.loop-i-init
loop-i-init c = (omega arith, refl, sym (written_none c.args.s.now))

pub loop-i-preserved : goal.loop-i-preserved
loop-i-preserved c =
    let items = c.args.actions.items in
    let i = c.loop-i.i in
    let four : length items ≡ 4 = search rules in
    let under : i < 4 = omega (arith, c.requires.0, c.loop-i-test.true) in
    let inv = c.loop-i.invariant in (
      omega arith,
      c.put.auto.s ∙ inv.1,
      written_next items i c.loop-i.s _ c.args.s.now (omega (arith, four, under))
          under (omega (arith, inv.1, c.requires.1)) inv.2 c.put.ensures,
    )
