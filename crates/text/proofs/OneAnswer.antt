-- No second answer satisfies the contract of a public function: a line for each of this crate's, over the contract as the checker names it.
-- Proves: sheet-into-once.
use mathlib.Core.Path.{◌≡◌, sym, ◌∙◌}
use Rattle.text.proofs.sheet.sheet_into.Reads as sheet-into

pub sheet-into-once : (κ : _) (input : _) (buffer : _) (r₁ : _) (r₂ : _) (buffer₁ : _) (buffer₂ : _)
    → sheet-into.Post κ (input, (buffer, tt)) r₁ (input, (buffer₁, tt))
    → sheet-into.Post κ (input, (buffer, tt)) r₂ (input, (buffer₂, tt))
    → (r₁ ≡ r₂) × (buffer₁.now ≡ buffer₂.now)
sheet-into-once κ input buffer r₁ r₂ buffer₁ buffer₂ p q = (p.0 ∙ sym q.0, p.1 ∙ sym q.1)
