-- The actions of the places passed stand in the array.
use Rattle.std.proofs.Common.{ap, ap₂, ◌∙◌, ◌<◌, arith, length, take, get_or}
use Rattle.unit.specs.Forms.{listed}
use Rattle.unit.specs.Changes.{given, push_all, sent_for}
use Rattle.unit.proofs.Rules.{send-listed}
use Rattle.unit.proofs.Closings.{sent-more, sent-room, sent-all}
use Rattle.unit.proofs.answer.Actions.of.Goals as goal

pub loop-i-init : goal.loop-i-init
unfolding sent_for
loop-i-init c = (omega arith, c.none-actions.ensures)

pub loop-i-preserved : goal.loop-i-preserved
loop-i-preserved c =
    let ps = c.args.places in
    let ks = c.args.numbers in
    let i = c.loop-i.i in
    let under : i < length ps = omega arith in
    let within : i < length ks = omega arith in
    let sent = sent_for (take i ps) (take i ks) in (
      omega arith,
      c.send_number-actions.ensures
          ∙ ap₂ (λ a p. push_all a p (given (get_or ks i 0))) c.loop-i.invariant.1 c.partner.ensures
          ∙ send-listed sent _ (given (get_or ks i 0)) (omega (arith, sent-room ps ks i under within, c.loop-i-test.true))
          ∙ ap listed (sent-more ps ks i under within),
    )

pub returns : goal.returns
returns c =
    c.loop-i.invariant.1
    ∙ ap listed (sent-all c.args.places c.args.numbers c.loop-i.i (omega arith) (omega arith))
