-- The places passed hold others.
use Rattle.std.proofs.Common.{◌≡◌, Bool, ◌&&◌, not, eqb, List, ℕ, drop, sym, ap, ap₂, ◌∙◌, arith}
use Rattle.wire.specs.Bytes.{byte}
use Rattle.record.specs.Partners.{partner_at, same_partner}
use Rattle.record.specs.declared.partner.Partner.{Partner}
use Rattle.image.proofs.Keeping.{lower-end, lower-same, lower-other}
use Rattle.image.proofs.rescue.repeats.Goals as goal
use Rattle.image.proofs.rescue.repeats.Goals.{After-and}

-- a lower place that was asked
module _ (c : After-and) where
  abbrev image : List ℕ
  image = c.args.image.now

  abbrev lower : ℕ
  lower = c.loop-lower.lower

  abbrev partner : Partner
  partner = partner_at 3 (drop c.args.at image)

  shown : (b : Bool)
      → c.and.result ≡ b
      → (not (eqb (byte image lower) 0) && same_partner partner (partner_at 3 (drop lower image))) ≡ b
  shown b test =
      sym
      (c.and.ensures
      ∙ ap (◌&&◌ (not (eqb (byte image lower) 0))) c.same.ensures
      ∙ ap₂ (λ p q. not (eqb (byte image lower) 0) && same_partner p q) c.partner_in-partner.ensures
      c.partner_in-other.ensures)
      ∙ test

pub loop-lower-preserved : goal.loop-lower-preserved
loop-lower-preserved c i own =
    let asked = (goal.at.loop-lower-preserved c).After-and in
    lower-other (partner asked) (image asked) i c.args.at (lower asked) (omega arith) (c.loop-lower.invariant i own)
    (shown asked _ c.if-and.false)

pub returns-then-lower-at : goal.returns-then-lower-at
returns-then-lower-at c i own =
    let image = c.args.image.now in
    lower-end (partner_at 3 (drop c.args.at image)) image i c.args.at c.loop-lower.lower c.if-lower-at.true
    (c.loop-lower.invariant i own)

pub returns-then-and : goal.returns-then-and
returns-then-and c i own =
    let asked = (goal.at.returns-then-and c).After-and in
    lower-same (partner asked) (image asked) i c.args.at (lower asked) (omega arith) (c.loop-lower.invariant i own)
    (shown asked _ c.if-and.true)
