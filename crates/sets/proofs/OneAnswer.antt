-- No second answer satisfies the contract of a public function: a line for each of this crate's, over the contract as the checker names it.
-- Proves: set-start-once, set-state-is-sound-once, set-state-apply-once, set-state-on-record-once, run-once.
use mathlib.Core.Path.{◌≡◌, sym, ◌∙◌}
use Rattle.sets.proofs.start.set_start.Reads as set-start
use Rattle.sets.proofs.state.SetState.is_sound.Reads as set-state-is-sound
use Rattle.sets.proofs.state.SetState.apply.Reads as set-state-apply
use Rattle.sets.proofs.state.SetState.on_record.Reads as set-state-on-record
use Rattle.sets.proofs.run.run.Reads as run

pub set-start-once : (κ : _) (limits : _) (r₁ : _) (r₂ : _)
    → set-start.Post κ (limits, tt) r₁ (limits, tt)
    → set-start.Post κ (limits, tt) r₂ (limits, tt)
    → r₁ ≡ r₂
set-start-once κ limits r₁ r₂ p q = p ∙ sym q

pub set-state-is-sound-once : (κ : _) (self : _) (r₁ : _) (r₂ : _)
    → set-state-is-sound.Post κ (self, tt) r₁ (self, tt)
    → set-state-is-sound.Post κ (self, tt) r₂ (self, tt)
    → r₁ ≡ r₂
set-state-is-sound-once κ self r₁ r₂ p q = p ∙ sym q

pub set-state-apply-once : (κ : _) (self : _) (bytes : _) (r₁ : _) (r₂ : _)
    → set-state-apply.Post κ (self, (bytes, tt)) r₁ (self, (bytes, tt))
    → set-state-apply.Post κ (self, (bytes, tt)) r₂ (self, (bytes, tt))
    → r₁ ≡ r₂
set-state-apply-once κ self bytes r₁ r₂ p q = p ∙ sym q

pub set-state-on-record-once : (κ : _) (self : _) (bytes : _) (actions : _) (r₁ : _) (r₂ : _) (actions₁ : _) (actions₂ : _)
    → set-state-on-record.Post κ (self, (bytes, (actions, tt))) r₁ (self, (bytes, (actions₁, tt)))
    → set-state-on-record.Post κ (self, (bytes, (actions, tt))) r₂ (self, (bytes, (actions₂, tt)))
    → (r₁ ≡ r₂) × (actions₁.now ≡ actions₂.now)
set-state-on-record-once κ self bytes actions r₁ r₂ actions₁ actions₂ p q = (p.0 ∙ sym q.0, p.1 ∙ sym q.1)

pub run-once : (κ : _) (state : _) (log : _) (budget : _) (r₁ : _) (r₂ : _)
    → run.Post κ (state, (log, (budget, tt))) r₁ (state, (log, (budget, tt)))
    → run.Post κ (state, (log, (budget, tt))) r₂ (state, (log, (budget, tt)))
    → r₁ ≡ r₂
run-once κ state log budget r₁ r₂ p q = p ∙ sym q
