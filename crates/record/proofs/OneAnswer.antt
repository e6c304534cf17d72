-- No second answer satisfies the contract of a public function: a line for each of this crate's, over the contract as the checker names it.
-- Proves: partner-same-once, partner-is-rbc-once, partner-in-range-once, partner-is-reserved-once, partner-can-be-named-once,
-- length-of-once, read-once, stop-number-once, front-at-once, take-once.
use mathlib.Core.Path.{◌≡◌, sym, ◌∙◌}
use Rattle.record.proofs.partner.Partner.same.Reads as partner-same
use Rattle.record.proofs.partner.Partner.is_rbc.Reads as partner-is-rbc
use Rattle.record.proofs.partner.Partner.in_range.Reads as partner-in-range
use Rattle.record.proofs.partner.Partner.is_reserved.Reads as partner-is-reserved
use Rattle.record.proofs.partner.Partner.can_be_named.Reads as partner-can-be-named
use Rattle.record.proofs.read.length_of.Reads as length-of
use Rattle.record.proofs.read.read.Reads as read
use Rattle.record.proofs.stop.Stop.number.Reads as stop-number
use Rattle.record.proofs.take.front_at.Reads as front-at
use Rattle.record.proofs.take.take.Reads as take
use Rattle.record.proofs.Told.{told-one, front-one, taken-one}

pub partner-same-once : (κ : _) (self : _) (other : _) (r₁ : _) (r₂ : _)
    → partner-same.Post κ (self, (other, tt)) r₁ (self, (other, tt))
    → partner-same.Post κ (self, (other, tt)) r₂ (self, (other, tt))
    → r₁ ≡ r₂
partner-same-once κ self other r₁ r₂ p q = p ∙ sym q

pub partner-is-rbc-once : (κ : _) (self : _) (r₁ : _) (r₂ : _)
    → partner-is-rbc.Post κ (self, tt) r₁ (self, tt)
    → partner-is-rbc.Post κ (self, tt) r₂ (self, tt)
    → r₁ ≡ r₂
partner-is-rbc-once κ self r₁ r₂ p q = p ∙ sym q

pub partner-in-range-once : (κ : _) (self : _) (r₁ : _) (r₂ : _)
    → partner-in-range.Post κ (self, tt) r₁ (self, tt)
    → partner-in-range.Post κ (self, tt) r₂ (self, tt)
    → r₁ ≡ r₂
partner-in-range-once κ self r₁ r₂ p q = p ∙ sym q

pub partner-is-reserved-once : (κ : _) (self : _) (r₁ : _) (r₂ : _)
    → partner-is-reserved.Post κ (self, tt) r₁ (self, tt)
    → partner-is-reserved.Post κ (self, tt) r₂ (self, tt)
    → r₁ ≡ r₂
partner-is-reserved-once κ self r₁ r₂ p q = p ∙ sym q

pub partner-can-be-named-once : (κ : _) (self : _) (r₁ : _) (r₂ : _)
    → partner-can-be-named.Post κ (self, tt) r₁ (self, tt)
    → partner-can-be-named.Post κ (self, tt) r₂ (self, tt)
    → r₁ ≡ r₂
partner-can-be-named-once κ self r₁ r₂ p q = p ∙ sym q

pub length-of-once : (κ : _) (kind : _) (r₁ : _) (r₂ : _)
    → length-of.Post κ (kind, tt) r₁ (kind, tt)
    → length-of.Post κ (kind, tt) r₂ (kind, tt)
    → r₁ ≡ r₂
length-of-once κ kind r₁ r₂ p q = p ∙ sym q

pub read-once : (κ : _) (s : _) (r₁ : _) (r₂ : _)
    → read.Post κ (s, tt) r₁ (s, tt)
    → read.Post κ (s, tt) r₂ (s, tt)
    → r₁ ≡ r₂
read-once κ s r₁ r₂ p q = told-one r₁ r₂ (p ∙ sym q)

pub stop-number-once : (κ : _) (self : _) (r₁ : _) (r₂ : _)
    → stop-number.Post κ (self, tt) r₁ (self, tt)
    → stop-number.Post κ (self, tt) r₂ (self, tt)
    → r₁ ≡ r₂
stop-number-once κ self r₁ r₂ p q = p ∙ sym q

pub front-at-once : (κ : _) (log : _) (at : _) (r₁ : _) (r₂ : _)
    → front-at.Post κ (log, (at, tt)) r₁ (log, (at, tt))
    → front-at.Post κ (log, (at, tt)) r₂ (log, (at, tt))
    → r₁ ≡ r₂
front-at-once κ log at r₁ r₂ p q = front-one r₁ r₂ (p ∙ sym q)

pub take-once : (κ : _) (log : _) (r₁ : _) (r₂ : _)
    → take.Post κ (log, tt) r₁ (log, tt)
    → take.Post κ (log, tt) r₂ (log, tt)
    → r₁ ≡ r₂
take-once κ log r₁ r₂ p q = taken-one r₁ r₂ (p ∙ sym q)
