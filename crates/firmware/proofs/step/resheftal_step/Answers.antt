-- What the step on the image answers, as a number of C.
use Rattle.std.proofs.Common.{sym, ap, ◌∙◌, pos, neg_ℤ, length, arith}
use Rattle.unit.specs.Steps.{Outcome}
use Rattle.image.specs.Calls.{on_image}
use Rattle.image.specs.declared.call.Called.{Called}
use Rattle.firmware.specs.Calls.{seen_after}
use Rattle.firmware.proofs.Numbers.{back}
use Rattle.firmware.proofs.Calling.{on_image-few, number-refused, number-done}
use Rattle.firmware.proofs.step.resheftal_step.Goals as goal

pub returns-then-code-ne-ACCEPTED : goal.returns-then-code-ne-ACCEPTED
unfolding seen_after
returns-then-code-ne-ACCEPTED c =
    let o : Outcome = on_image c.args.image.now c.args.bytes.now (length c.args.actions.now) in
    let is = c.step_image-called.ensures in
    let code = ap (λ (r : Called). r.code) is.0 in (
      number-refused o _ (λ h. c.if-code-ne-ACCEPTED.true (code ∙ h)) (back _ _ c.minus.ensures ∙ ap (λ k. neg_ℤ (pos k)) code),
      is.1,
      is.2,
    )

pub number-requires : goal.number-requires
number-requires c =
    let few = on_image-few c.args.image.now c.args.bytes.now (length c.args.actions.now) in
    let count = ap (λ (r : Called). r.count) c.step_image-called.ensures.0 in
    omega (arith, few, count)

pub returns : goal.returns
unfolding seen_after
returns c =
    let o : Outcome = on_image c.args.image.now c.args.bytes.now (length c.args.actions.now) in
    let is = c.step_image-called.ensures in
    let code = ap (λ (r : Called). r.code) is.0 in
    let count = ap (λ (r : Called). r.count) is.0 in (
      number-done o _ (sym code ∙ c.if-code-ne-ACCEPTED.false) (back _ _ c.number.ensures ∙ ap pos count),
      is.1,
      is.2,
    )
