-- The refusals in their order, then every field.
use Rattle.std.proofs.Common.{◌≡◌, Bool, List, ℕ, drop, sym, ap, ◌∙◌, arith}
use Rattle.wire.specs.Refusals.{wrong_length, unknown_kind}
use Rattle.unit.specs.States.{limits_ok}
use Rattle.image.specs.Images.{state_in}
use Rattle.image.specs.Mends.{Mendable}
use Rattle.image.proofs.Taking.{read-a2-empty, read-a2-unknown, read-a2-wrong, part-all}
use Rattle.image.proofs.Left.{rescue-refused, rescue-limited, rescue-bad-limits}
use Rattle.image.proofs.rescue.rescue.Goals as goal
use Rattle.image.proofs.rescue.rescue.Goals.{After-limits_ok}

pub returns-then-image-eq0 : goal.returns-then-image-eq0
returns-then-image-eq0 c =
    let image = c.args.image.now in
    let law = rescue-refused image wrong_length (read-a2-empty image c.if-image-eq0.true) (λ h. absurd (omega arith)) in
    (c.nothing.ensures ∙ law.0, law.1)

pub returns-then-image : goal.returns-then-image
returns-then-image c =
    let image = c.args.image.now in
    let read = read-a2-unknown image c.if-image-eq0.false c.if-image.true in
    let law = rescue-refused image unknown_kind read (λ h. absurd (omega arith)) in
    (c.nothing-then-image.ensures ∙ law.0, law.1)

pub returns-then-image-ne-SIZE_A2 : goal.returns-then-image-ne-SIZE_A2
returns-then-image-ne-SIZE_A2 c =
    let image = c.args.image.now in
    let read = read-a2-wrong image c.if-image-eq0.false c.if-image.false c.if-image-ne-SIZE_A2.true in
    let law = rescue-refused image wrong_length read (λ h. absurd (omega arith)) in
    (c.nothing-then-image-ne-SIZE_A2.ensures ∙ law.0, law.1)

-- it has the kind and the length, and its limits are tested
module _ (c : After-limits_ok) where
  abbrev old : List ℕ
  old = c.args.image.now

  is_whole : Mendable old
  is_whole = (c.if-image-ne-SIZE_A2.false, c.if-image.false)

  limits : c.limits_in-limits.result ≡ (state_in (drop 1 old)).limits
  limits = c.limits_in-limits.ensures ∙ ap (λ body. (state_in body).limits) (part-all old 1)

  shown : (b : Bool) → c.limits_ok.result ≡ b → limits_ok (state_in (drop 1 old)).limits ≡ b
  shown b test = ap limits_ok (sym limits) ∙ sym c.limits_ok.ensures ∙ test

pub returns-then-limits_ok : goal.returns-then-limits_ok
returns-then-limits_ok c =
    let tested = (goal.at.returns-then-limits_ok c).After-limits_ok in
    let law = rescue-limited (old tested) (is_whole tested) (shown tested _ c.if-limits_ok.true) in
    (c.mend.ensures.0 ∙ law.0, c.mend.ensures.1 ∙ law.1)

pub returns-else-limits_ok : goal.returns-else-limits_ok
returns-else-limits_ok c =
    let tested = (goal.at.returns-else-limits_ok c).After-limits_ok in
    let law = rescue-bad-limits (old tested) (is_whole tested) (shown tested _ c.if-limits_ok.false) in
    (c.nothing-else-limits_ok.ensures ∙ law.0, law.1)
