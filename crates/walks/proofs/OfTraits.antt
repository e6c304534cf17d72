-- No second answer satisfies what an engine promises, which are contracts of a trait: a line for each, over the contract as the checker
-- names it.
-- Proves: box-start-once, box-step-once, box-run-once, shunter-start-once, shunter-step-once, shunter-run-once, sets-start-once,
-- sets-step-once, sets-run-once.
use mathlib.Core.Path.{◌≡◌, sym, ◌∙◌}
use Rattle.walks.proofs.engine.StateEngine.start.Reads as box-start
use Rattle.walks.proofs.engine.StateEngine.step.Reads as box-step
use Rattle.walks.proofs.engine.StateEngine.run.Reads as box-run
use Rattle.walks.proofs.engine.ShunterEngine.start.Reads as shunter-start
use Rattle.walks.proofs.engine.ShunterEngine.step.Reads as shunter-step
use Rattle.walks.proofs.engine.ShunterEngine.run.Reads as shunter-run
use Rattle.walks.proofs.engine.SetStateEngine.start.Reads as sets-start
use Rattle.walks.proofs.engine.SetStateEngine.step.Reads as sets-step
use Rattle.walks.proofs.engine.SetStateEngine.run.Reads as sets-run

pub box-start-once : (κ : _) (limits : _) (r₁ : _) (r₂ : _)
    → box-start.Post κ (limits, tt) r₁ (limits, tt)
    → box-start.Post κ (limits, tt) r₂ (limits, tt)
    → r₁ ≡ r₂
box-start-once κ limits r₁ r₂ p q = p ∙ sym q

pub box-step-once : (κ : _) (self : _) (bytes : _) (actions : _) (r₁ : _) (r₂ : _) (actions₁ : _) (actions₂ : _)
    → box-step.Post κ (self, (bytes, (actions, tt))) r₁ (self, (bytes, (actions₁, tt)))
    → box-step.Post κ (self, (bytes, (actions, tt))) r₂ (self, (bytes, (actions₂, tt)))
    → (r₁ ≡ r₂) × (actions₁.now ≡ actions₂.now)
box-step-once κ self bytes actions r₁ r₂ actions₁ actions₂ p q = (p.0 ∙ sym q.0, p.1 ∙ sym q.1)

pub box-run-once : (κ : _) (self : _) (log : _) (budget : _) (r₁ : _) (r₂ : _)
    → box-run.Post κ (self, (log, (budget, tt))) r₁ (self, (log, (budget, tt)))
    → box-run.Post κ (self, (log, (budget, tt))) r₂ (self, (log, (budget, tt)))
    → r₁ ≡ r₂
box-run-once κ self log budget r₁ r₂ p q = p ∙ sym q

pub shunter-start-once : (κ : _) (limits : _) (r₁ : _) (r₂ : _)
    → shunter-start.Post κ (limits, tt) r₁ (limits, tt)
    → shunter-start.Post κ (limits, tt) r₂ (limits, tt)
    → r₁ ≡ r₂
shunter-start-once κ limits r₁ r₂ p q = p ∙ sym q

pub shunter-step-once : (κ : _) (self : _) (bytes : _) (actions : _) (r₁ : _) (r₂ : _) (actions₁ : _) (actions₂ : _)
    → shunter-step.Post κ (self, (bytes, (actions, tt))) r₁ (self, (bytes, (actions₁, tt)))
    → shunter-step.Post κ (self, (bytes, (actions, tt))) r₂ (self, (bytes, (actions₂, tt)))
    → (r₁ ≡ r₂) × (actions₁.now ≡ actions₂.now)
shunter-step-once κ self bytes actions r₁ r₂ actions₁ actions₂ p q = (p.0 ∙ sym q.0, p.1 ∙ sym q.1)

pub shunter-run-once : (κ : _) (self : _) (log : _) (budget : _) (r₁ : _) (r₂ : _)
    → shunter-run.Post κ (self, (log, (budget, tt))) r₁ (self, (log, (budget, tt)))
    → shunter-run.Post κ (self, (log, (budget, tt))) r₂ (self, (log, (budget, tt)))
    → r₁ ≡ r₂
shunter-run-once κ self log budget r₁ r₂ p q = p ∙ sym q

pub sets-start-once : (κ : _) (limits : _) (r₁ : _) (r₂ : _)
    → sets-start.Post κ (limits, tt) r₁ (limits, tt)
    → sets-start.Post κ (limits, tt) r₂ (limits, tt)
    → r₁ ≡ r₂
sets-start-once κ limits r₁ r₂ p q = p ∙ sym q

pub sets-step-once : (κ : _) (self : _) (bytes : _) (actions : _) (r₁ : _) (r₂ : _) (actions₁ : _) (actions₂ : _)
    → sets-step.Post κ (self, (bytes, (actions, tt))) r₁ (self, (bytes, (actions₁, tt)))
    → sets-step.Post κ (self, (bytes, (actions, tt))) r₂ (self, (bytes, (actions₂, tt)))
    → (r₁ ≡ r₂) × (actions₁.now ≡ actions₂.now)
sets-step-once κ self bytes actions r₁ r₂ actions₁ actions₂ p q = (p.0 ∙ sym q.0, p.1 ∙ sym q.1)

pub sets-run-once : (κ : _) (self : _) (log : _) (budget : _) (r₁ : _) (r₂ : _)
    → sets-run.Post κ (self, (log, (budget, tt))) r₁ (self, (log, (budget, tt)))
    → sets-run.Post κ (self, (log, (budget, tt))) r₂ (self, (log, (budget, tt)))
    → r₁ ≡ r₂
sets-run-once κ self log budget r₁ r₂ p q = p ∙ sym q
