-- One at most at each place.
use Rattle.std.proofs.Common.{◌≡◌, ◌+◌, refl, sym, ap, ap₂, ◌∙◌, arith}
use Rattle.std.proofs.Math.Numerals.{add-one}
use Rattle.wire.specs.Bytes.{as_bit}
use Rattle.unit.proofs.Few.{once-few}
use Rattle.shunter.specs.Queues.{modems_held, sum_to, has_modem, waiting}
use Rattle.shunter.proofs.state.Shunter.modems.Goals as goal

pub loop-at-init : goal.loop-at-init
unfolding sum_to
loop-at-init c = (omega arith, omega arith, refl)

pub loop-at-preserved : goal.loop-at-preserved
unfolding sum_to
loop-at-preserved c =
    let at = c.loop-at.at in
    let ps = c.args.self.state.places in
    let is = waiting c.args.self.queue in
    let inv = c.loop-at.invariant in (
      omega arith,
      omega (arith, inv.1, c.modem_at-held.ensures, once-few (has_modem ps is at)),
      ap₂ ◌+◌ inv.2 c.modem_at-held.ensures ∙ ap (λ n. sum_to n (λ i. as_bit (has_modem ps is i))) (sym (add-one at)),
    )

pub returns : goal.returns
unfolding modems_held
returns c =
    let all : c.loop-at.at ≡ 4 = omega arith in
    c.loop-at.invariant.2 ∙ ap (λ n. sum_to n (λ i. as_bit (has_modem c.args.self.state.places (waiting c.args.self.queue) i))) all
