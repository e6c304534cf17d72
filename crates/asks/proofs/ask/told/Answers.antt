-- Nothing said, or 16 times the place, plus the phase: a small number has its own bits.
use Rattle.std.proofs.Common.{sym, ap, subst, ◌∙◌, ◌+◌, ◌*◌, ◌<◌, pos, SFits, arith}
use Rattle.std.specs.Int.{w32}
use Rattle.unit.specs.declared.search.Standing.{Standing}
use Rattle.asks.specs.Asks.{per_place}
use Rattle.asks.proofs.Asking.{small-own, told-some}
use Rattle.asks.proofs.ask.told.Goals as goal

pub returns : goal.returns
returns c =
    let w : Standing = c.args.standing in
    let is = sym (told-some w c.if-standing-eq0.false) in
    let byte : w.phase < 256 = omega arith in
    let place = c.requires in
    let own = small-own (per_place * w.place + w.phase) (omega (arith, byte, place)) in
    (own.0 ∙ ap pos is, subst (λ n. SFits w32 (pos n)) is own.1)
