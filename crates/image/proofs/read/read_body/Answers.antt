-- Soundness is tested, then whether the bytes are the ones that the state writes.
use Rattle.std.proofs.Common.{refl, sym, ap, ◌∙◌, true, false}
use Rattle.image.specs.Images.{whole_bytes, same_bytes}
use Rattle.image.proofs.Taking.{body-by}
use Rattle.image.proofs.read.read_body.Goals as goal

pub returns : goal.returns
returns c =
    let body = c.args.body.now in
    let good = sym c.is_sound.ensures ∙ c.if-not-is_sound.false in
    let own = ap (λ s. same_bytes (whole_bytes s) body) c.state_in-state.ensures ∙ sym c.is_spelt.ensures ∙ c.if-not-is_spelt.false in
    body-by body c.state_in-state.result true true c.state_in-state.ensures good own

pub returns-then-not-is_spelt : goal.returns-then-not-is_spelt
returns-then-not-is_spelt c =
    let body = c.args.body.now in
    let good = sym c.is_sound.ensures ∙ c.if-not-is_sound.false in
    let own = ap (λ s. same_bytes (whole_bytes s) body) c.state_in-state.ensures ∙ sym c.is_spelt.ensures ∙ c.if-not-is_spelt.true in
    c.refused-then-not-is_spelt.ensures ∙ body-by body c.state_in-state.result true false c.state_in-state.ensures good own

pub returns-then-not-is_sound : goal.returns-then-not-is_sound
returns-then-not-is_sound c =
    let bad = sym c.is_sound.ensures ∙ c.if-not-is_sound.true in
    c.refused.ensures ∙ body-by c.args.body.now c.state_in-state.result false _ c.state_in-state.ensures bad refl
