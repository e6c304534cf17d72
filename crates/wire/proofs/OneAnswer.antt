-- No second answer satisfies the contract of a public function: a line for each of this crate's, over the contract as the checker names it.
-- Proves: byte-at-once, and-once, or_once, negated-once, number-once.
use mathlib.Core.Path.{◌≡◌, sym, ◌∙◌}
use Rattle.wire.proofs.byte.byte_at.Reads as byte_at
use Rattle.wire.proofs.join.and.Reads as and
use Rattle.wire.proofs.join.or.Reads as or
use Rattle.wire.proofs.join.negated.Reads as negated
use Rattle.wire.proofs.refusal.Refusal.number.Reads as number

pub byte-at-once : (κ : _) (s : _) (i : _) (r₁ : _) (r₂ : _)
    → byte_at.Post κ (s, (i, tt)) r₁ (s, (i, tt))
    → byte_at.Post κ (s, (i, tt)) r₂ (s, (i, tt))
    → r₁ ≡ r₂
byte-at-once κ s i r₁ r₂ p q = p ∙ sym q

pub and-once : (κ : _) (a : _) (b : _) (r₁ : _) (r₂ : _)
    → and.Post κ (a, (b, tt)) r₁ (a, (b, tt))
    → and.Post κ (a, (b, tt)) r₂ (a, (b, tt))
    → r₁ ≡ r₂
and-once κ a b r₁ r₂ p q = p ∙ sym q

pub or_once : (κ : _) (a : _) (b : _) (r₁ : _) (r₂ : _)
    → or.Post κ (a, (b, tt)) r₁ (a, (b, tt))
    → or.Post κ (a, (b, tt)) r₂ (a, (b, tt))
    → r₁ ≡ r₂
or_once κ a b r₁ r₂ p q = p ∙ sym q

pub negated-once : (κ : _) (a : _) (r₁ : _) (r₂ : _)
    → negated.Post κ (a, tt) r₁ (a, tt)
    → negated.Post κ (a, tt) r₂ (a, tt)
    → r₁ ≡ r₂
negated-once κ a r₁ r₂ p q = p ∙ sym q

pub number-once : (κ : _) (self : _) (r₁ : _) (r₂ : _)
    → number.Post κ (self, tt) r₁ (self, tt)
    → number.Post κ (self, tt) r₂ (self, tt)
    → r₁ ≡ r₂
number-once κ self r₁ r₂ p q = p ∙ sym q
