-- The actions passed are written.
use Rattle.std.proofs.Common.{take, sym, arith}
use Rattle.std.proofs.lemmas.List.{length-take}
use Rattle.unit.proofs.Written.{written_none}
use Rattle.sets.proofs.SetSent.{written_next}
use Rattle.sets.proofs.bytes.write.Goals as goal

pub loop-i-init : goal.loop-i-init
loop-i-init c = sym (written_none c.args.s.now)

pub loop-i-preserved : goal.loop-i-preserved
loop-i-preserved c =
    let items = take c.args.actions.count c.args.actions.items in
    let few = length-take c.args.actions.count c.args.actions.items in
    written_next items c.loop-i.i c.loop-i.s _ c.args.s.now c.loop-i-test.true (omega arith) (omega arith) c.loop-i.invariant c.put.ensures
