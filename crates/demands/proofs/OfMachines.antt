-- No second answer satisfies what a machine promises to its run, which are contracts of a trait: a line for each, over the contract as the
-- checker names it.
-- Proves: shunter-is-ready-once, shunter-answer-once, sets-is-ready-once, sets-answer-once.
use mathlib.Core.Path.{◌≡◌, sym, ◌∙◌}
use Rattle.shunter.proofs.run.ShunterMachine.is_ready.Reads as shunter-is-ready
use Rattle.shunter.proofs.run.ShunterMachine.answer.Reads as shunter-answer
use Rattle.sets.proofs.run.SetStateMachine.is_ready.Reads as sets-is-ready
use Rattle.sets.proofs.run.SetStateMachine.answer.Reads as sets-answer

pub shunter-is-ready-once : (κ : _) (self : _) (r₁ : _) (r₂ : _)
    → shunter-is-ready.Post κ (self, tt) r₁ (self, tt)
    → shunter-is-ready.Post κ (self, tt) r₂ (self, tt)
    → r₁ ≡ r₂
shunter-is-ready-once κ self r₁ r₂ p q = p ∙ sym q

pub shunter-answer-once : (κ : _) (self : _) (bytes : _) (r₁ : _) (r₂ : _)
    → shunter-answer.Post κ (self, (bytes, tt)) r₁ (self, (bytes, tt))
    → shunter-answer.Post κ (self, (bytes, tt)) r₂ (self, (bytes, tt))
    → r₁ ≡ r₂
shunter-answer-once κ self bytes r₁ r₂ p q = p.0 ∙ sym q.0

pub sets-is-ready-once : (κ : _) (self : _) (r₁ : _) (r₂ : _)
    → sets-is-ready.Post κ (self, tt) r₁ (self, tt)
    → sets-is-ready.Post κ (self, tt) r₂ (self, tt)
    → r₁ ≡ r₂
sets-is-ready-once κ self r₁ r₂ p q = p ∙ sym q

pub sets-answer-once : (κ : _) (self : _) (bytes : _) (r₁ : _) (r₂ : _)
    → sets-answer.Post κ (self, (bytes, tt)) r₁ (self, (bytes, tt))
    → sets-answer.Post κ (self, (bytes, tt)) r₂ (self, (bytes, tt))
    → r₁ ≡ r₂
sets-answer-once κ self bytes r₁ r₂ p q = p.0 ∙ sym q.0
