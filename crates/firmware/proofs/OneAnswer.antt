-- No second answer satisfies the contract of a public function: a line for each of this crate's, over the contract as the checker names it.
-- Proves: minus-once, resheftal-step-once, resheftal-cold-start-once.
use mathlib.Core.Path.{◌≡◌, sym, ◌∙◌}
use Rattle.firmware.proofs.step.minus.Reads as minus
use Rattle.firmware.proofs.step.resheftal_step.Reads as resheftal-step
use Rattle.firmware.proofs.start.resheftal_cold_start.Reads as resheftal-cold-start

pub minus-once : (κ : _) (code : _) (r₁ : _) (r₂ : _)
    → minus.Post κ (code, tt) r₁ (code, tt)
    → minus.Post κ (code, tt) r₂ (code, tt)
    → r₁ ≡ r₂
minus-once κ code r₁ r₂ p q = p.0 ∙ sym q.0

pub resheftal-step-once : (κ : _) (image : _) (bytes : _) (actions : _) (r₁ : _) (r₂ : _)
    (image₁ : _) (image₂ : _) (actions₁ : _) (actions₂ : _)
    → resheftal-step.Post κ (image, (bytes, (actions, tt))) r₁ (image₁, (bytes, (actions₁, tt)))
    → resheftal-step.Post κ (image, (bytes, (actions, tt))) r₂ (image₂, (bytes, (actions₂, tt)))
    → (r₁ ≡ r₂) × (image₁.now ≡ image₂.now) × (actions₁.now ≡ actions₂.now)
resheftal-step-once κ image bytes actions r₁ r₂ image₁ image₂ actions₁ actions₂ p q =
    (p.0 ∙ sym q.0, p.1 ∙ sym q.1, p.2 ∙ sym q.2)

pub resheftal-cold-start-once : (κ : _) (lowest : _) (highest : _) (tries : _) (image : _) (r₁ : _) (r₂ : _)
    (image₁ : _) (image₂ : _)
    → resheftal-cold-start.Post κ (lowest, (highest, (tries, (image, tt)))) r₁ (lowest, (highest, (tries, (image₁, tt))))
    → resheftal-cold-start.Post κ (lowest, (highest, (tries, (image, tt)))) r₂ (lowest, (highest, (tries, (image₂, tt))))
    → (r₁ ≡ r₂) × (image₁.now ≡ image₂.now)
resheftal-cold-start-once κ lowest highest tries image r₁ r₂ image₁ image₂ p q = (p.0 ∙ sym q.0, p.1 ∙ sym q.1)
