-- The numbers passed are counted.
use Rattle.std.proofs.Common.{◌≡◌, ◌+◌, ◌≤◌, ◌<◌, length, get_or, take, map, sym, ap, ◌∙◌, arith, rules}
use Rattle.place.specs.Places.{vacant, partner_of}
use Rattle.unit.specs.Steps.{act}
use Rattle.unit.specs.Changes.{given, sent_for}
use Rattle.unit.specs.Runs.{totalled}
use Rattle.unit.specs.Counting.{most_total, added}
use Rattle.unit.proofs.Closings.{sent-more, sent-all}
use Rattle.unit.proofs.Runs.Tallies.{totalled_none, totalled-given, totalled-append, below_more, added-below}
use Rattle.unit.proofs.run.Totals.add_all.Goals as goal

pub loop-i-init : goal.loop-i-init
unfolding sent_for
loop-i-init c = (omega arith, (λ ps long. sym (totalled_none _)), (λ below. below_more (omega arith) below))

pub add-totals-requires : goal.add-totals-requires
add-totals-requires c =
    below_more (omega (arith, c.loop-i.invariant.0)) (c.loop-i.invariant.2 c.requires)

pub loop-i-preserved : goal.loop-i-preserved
loop-i-preserved c =
    let self = c.args.self in
    let ks = c.args.numbers in
    let i = c.loop-i.i in
    let inv = c.loop-i.invariant in
    let added-one = c.add-totals.ensures in
    let four : length ks ≡ 4 = search rules in
    let within : i < length ks = omega (arith, four, c.loop-i-test.true) in (
      omega (arith, c.loop-i-test.true),
      (λ ps long.
          let p = partner_of (get_or ps i vacant) in
          let sent = sent_for (take i ps) (take i ks) in
          added-one
          ∙ ap (λ t. added t (get_or ks i 0)) (inv.1 ps long)
          ∙ sym (totalled-append self sent (map (act p) (given (get_or ks i 0)))
          ∙ totalled-given (totalled self sent) p (get_or ks i 0))
          ∙ ap (totalled self) (sent-more ps ks i (omega (arith, long, c.loop-i-test.true)) within)),
      (λ below. rw added-one (below_more (omega arith) (added-below (most_total + i) _ _ (inv.2 below)))),
    )

pub returns : goal.returns
returns c =
    let past : 4 ≤ c.loop-i.i = c.loop-i-test.false in
    let inv = c.loop-i.invariant in
    let four : length c.args.numbers ≡ 4 = search rules in (
      (λ ps long.
          inv.1 ps long
          ∙ ap (totalled c.args.self)
          (sent-all ps c.args.numbers c.loop-i.i (omega (arith, long, past)) (omega (arith, four, past)))),
      below_more (omega (arith, inv.0)) (inv.2 c.requires),
    )
