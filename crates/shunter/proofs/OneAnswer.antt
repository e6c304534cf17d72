-- No second answer satisfies the contract of a public function: a line for each of this crate's, over the contract as the checker names it.
-- Proves: fit-once, shunter-is-ready-once, shunter-apply-once, shunter-on-record-once, run-once.
use mathlib.Core.Path.{◌≡◌, sym, ◌∙◌}
use Rattle.shunter.proofs.start.fit.Reads as fit
use Rattle.shunter.proofs.state.Shunter.is_ready.Reads as shunter-is-ready
use Rattle.shunter.proofs.state.Shunter.apply.Reads as shunter-apply
use Rattle.shunter.proofs.state.Shunter.on_record.Reads as shunter-on-record
use Rattle.shunter.proofs.run.run.Reads as run

pub fit-once : (κ : _) (limits : _) (r₁ : _) (r₂ : _)
    → fit.Post κ (limits, tt) r₁ (limits, tt)
    → fit.Post κ (limits, tt) r₂ (limits, tt)
    → r₁ ≡ r₂
fit-once κ limits r₁ r₂ p q = p ∙ sym q

pub shunter-is-ready-once : (κ : _) (self : _) (r₁ : _) (r₂ : _)
    → shunter-is-ready.Post κ (self, tt) r₁ (self, tt)
    → shunter-is-ready.Post κ (self, tt) r₂ (self, tt)
    → r₁ ≡ r₂
shunter-is-ready-once κ self r₁ r₂ p q = p ∙ sym q

pub shunter-apply-once : (κ : _) (self : _) (bytes : _) (r₁ : _) (r₂ : _)
    → shunter-apply.Post κ (self, (bytes, tt)) r₁ (self, (bytes, tt))
    → shunter-apply.Post κ (self, (bytes, tt)) r₂ (self, (bytes, tt))
    → r₁ ≡ r₂
shunter-apply-once κ self bytes r₁ r₂ p q = p ∙ sym q

pub shunter-on-record-once : (κ : _) (self : _) (bytes : _) (actions : _) (r₁ : _) (r₂ : _) (actions₁ : _) (actions₂ : _)
    → shunter-on-record.Post κ (self, (bytes, (actions, tt))) r₁ (self, (bytes, (actions₁, tt)))
    → shunter-on-record.Post κ (self, (bytes, (actions, tt))) r₂ (self, (bytes, (actions₂, tt)))
    → (r₁ ≡ r₂) × (actions₁.now ≡ actions₂.now)
shunter-on-record-once κ self bytes actions r₁ r₂ actions₁ actions₂ p q = (p.0 ∙ sym q.0, p.1 ∙ sym q.1)

pub run-once : (κ : _) (shunter : _) (log : _) (budget : _) (r₁ : _) (r₂ : _)
    → run.Post κ (shunter, (log, (budget, tt))) r₁ (shunter, (log, (budget, tt)))
    → run.Post κ (shunter, (log, (budget, tt))) r₂ (shunter, (log, (budget, tt)))
    → r₁ ≡ r₂
run-once κ shunter log budget r₁ r₂ p q = p ∙ sym q
