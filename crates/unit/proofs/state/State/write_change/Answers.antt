-- With closings or without.
use Rattle.std.proofs.Common.{sym, ap, ◌∙◌, arith}
use Rattle.unit.specs.Steps.{with_places}
use Rattle.unit.proofs.Settling.{made-length, unclosed, written-made}
use Rattle.unit.proofs.state.State.write_change.Goals as goal

pub write_sent-requires : goal.write_sent-requires
write_sent-requires c =
    (omega (arith, c.requires.0, made-length c.args.self c.args.change, c.write_closings-shut.ensures.1), omega arith)

pub returns-then-closes_any : goal.returns-then-closes_any
returns-then-closes_any c =
    let wrote = c.write_closings-shut.ensures in
    written-made c.args.self c.args.change _ _ _ c.args.s.now _ _
    (c.with_places-closed.ensures ∙ ap (with_places c.args.self) wrote.0) wrote.1 wrote.2
    c.write_sent.ensures

pub write_sent-requires-2 : goal.write_sent-requires-2
write_sent-requires-2 c = (omega (arith, c.requires.0, made-length c.args.self c.args.change), c.requires.1)

pub returns : goal.returns
returns c =
    let same = unclosed c.args.self c.args.change c.args.s.now (sym c.closes_any.ensures ∙ c.if-closes_any.false) in
    written-made c.args.self c.args.change _ _ _ c.args.s.now _ _ same.0 same.1 same.2 c.write_sent-2.ensures
