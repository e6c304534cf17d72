-- The refusal of reading; then what a step of the state says.
use Rattle.std.proofs.Common.{sym, ap, ◌∙◌, subst, pos, neg_ℤ, ◌≤◌}
use Rattle.unit.specs.States.{place_count}
use Rattle.unit.specs.OnRecords.{applied}
use Rattle.unit.specs.Forms.{packed}
use Rattle.unit.specs.declared.search.Standing.{Standing}
use Rattle.unit.specs.declared.answer.Answer.{Answer}
use Rattle.unit.specs.declared.start.Started.{Started}
use Rattle.image.specs.Images.{read_a2}
use Rattle.asks.specs.Asks.{standing_number}
use Rattle.firmware.proofs.Numbers.{back}
use Rattle.asks.proofs.Asking.{applied-place, standing-unread, standing-read}
use Rattle.asks.proofs.ask.resheftal_standing.Goals as goal

pub returns-then-held-ne-ACCEPTED : goal.returns-then-held-ne-ACCEPTED
returns-then-held-ne-ACCEPTED c =
    let code = ap (λ (r : Started). r.code) c.read_a2-held.ensures in
    back _ _ c.minus.ensures
    ∙ ap (λ k. neg_ℤ (pos k)) code
    ∙ sym (standing-unread c.args.image.now c.args.bytes.now (λ h. c.if-held-ne-ACCEPTED.true (code ∙ h)))

pub told-requires : goal.told-requires
unfolding packed
told-requires c =
    let image = c.args.image.now in
    let bytes = c.args.bytes.now in
    let said =
    ap (λ (a : Answer). a.standing) c.apply-answer.ensures
    ∙ ap (λ (r : Started). (applied r.state bytes).standing) c.read_a2-held.ensures in
    subst (λ (w : Standing). w.place ≤ place_count) (sym said) (applied-place (read_a2 image).state bytes)

pub returns : goal.returns
unfolding packed
returns c =
    let image = c.args.image.now in
    let bytes = c.args.bytes.now in
    let code = ap (λ (r : Started). r.code) c.read_a2-held.ensures in
    let said =
    ap (λ (a : Answer). a.standing) c.apply-answer.ensures
    ∙ ap (λ (r : Started). (applied r.state bytes).standing) c.read_a2-held.ensures in
    back _ _ c.told.ensures
    ∙ ap (λ (w : Standing). pos (standing_number w)) said
    ∙ sym (standing-read image bytes (sym code ∙ c.if-held-ne-ACCEPTED.false))
