-- The places passed are closed where they were due, and their actions stand in the buffer.
use Rattle.std.proofs.Common.{◌≡◌, refl, ap, ap₂, ◌∙◌, ◌++◌, map, ◌≤◌, ◌<◌, arith, length, take}
use lib.ListN.{length-map, length-append}
use Rattle.wire.specs.Blocks.{blocks}
use Rattle.unit.specs.Steps.{act, closed}
use Rattle.unit.specs.OnRecords.{written}
use Rattle.unit.specs.Changes.{given, closing_number, sent_for}
use Rattle.unit.proofs.Closings.{closings-places, closings-all, closing-number, closing-partner}
use Rattle.unit.proofs.Closings.{sent-closings, sent-more, sent-room, sent-all}
use Rattle.unit.proofs.FourPlaces.{four-places}
use Rattle.unit.proofs.state.State.write_closings.Invariants.{all}
use Rattle.unit.proofs.state.State.write_closings.Goals as goal

pub loop-i-init : goal.loop-i-init
unfolding closed sent_for written blocks
loop-i-init c = (omega arith, refl, refl, refl)

pub put_number-count-requires : goal.put_number-count-requires
put_number-count-requires c =
    let which = c.args.which in
    let ps = c.args.self.places in
    let ks = all which ps in
    let i = c.loop-i.i in
    let inv = c.loop-i.invariant in
    let four : length ps ≡ 4 = four-places c.args.self c.well_formed.0 in
    let many : length ks ≡ 4 = length-map ps (closing_number which) ∙ four in
    let under : i < length ps = omega (arith, four, c.loop-i-test.true) in
    let within : i < length ks = omega (arith, many, c.loop-i-test.true) in
    let number = closing-number which ps i under _ inv.1 _ c.close-turned.ensures in
    let room = sent-room ps ks i under within in
    let same = ap (λ k. length (given k)) number in (
      omega (arith, room, same, inv.2, c.loop-i-test.true),
      omega arith,
    )

pub loop-i-preserved : goal.loop-i-preserved
loop-i-preserved c =
    let which = c.args.which in
    let ps = c.args.self.places in
    let ks = all which ps in
    let buffer = c.args.s.now in
    let i = c.loop-i.i in
    let inv = c.loop-i.invariant in
    let four : length ps ≡ 4 = four-places c.args.self c.well_formed.0 in
    let many : length ks ≡ 4 = length-map ps (closing_number which) ∙ four in
    let under : i < length ps = omega (arith, four, c.loop-i-test.true) in
    let within : i < length ks = omega (arith, many, c.loop-i-test.true) in
    let closes = c.close-turned.ensures in
    let p = c.partner.result in
    let number = c.close-turned.result.first in
    let so_far = sent_for (take i ps) (take i ks) in
    let wrote = c.put_number-count in
    let next =
    ap₂ (λ q k. so_far ++ map (act q) (given k))
    (c.partner.ensures ∙ closing-partner which ps i under _ inv.1 _ closes)
    (closing-number which ps i under _ inv.1 _ closes)
    ∙ sent-more ps ks i under within in
    let total = ap length next in
    let joined = length-append so_far (map (act p) (given number)) in
    let same = length-map (given number) (act p) in (
      omega (arith, c.loop-i-test.true),
      closings-places which ps i under _ inv.1 _ closes,
      omega (arith, wrote.ensures.0, inv.2, total, joined, same),
      wrote.ensures.1 so_far buffer inv.2 inv.3 ∙ ap (λ l. written l buffer) next,
    )

pub returns : goal.returns
returns c =
    let which = c.args.which in
    let ps = c.args.self.places in
    let ks = all which ps in
    let i = c.loop-i.i in
    let inv = c.loop-i.invariant in
    let four : length ps ≡ 4 = four-places c.args.self c.well_formed.0 in
    let many : length ks ≡ 4 = length-map ps (closing_number which) ∙ four in
    let above : length ps ≤ i = omega (arith, four, c.loop-i-test.false) in
    let all-sent =
    sent-all ps ks i above (omega (arith, many, c.loop-i-test.false)) ∙ sent-closings which ps in (
      inv.1 ∙ closings-all which ps i above,
      inv.2 ∙ ap length all-sent,
      inv.3 ∙ ap (λ l. written l c.args.s.now) all-sent,
    )
