-- No second answer satisfies the contract of a public function: a line for each of this crate's, over the contract as the checker names it.
-- Proves: resheftal-interface-once, resheftal-reads-once, resheftal-standing-once.
use mathlib.Core.Path.{◌≡◌, sym, ◌∙◌}
use Rattle.asks_c.proofs.resheftal_interface.Reads as resheftal-interface
use Rattle.asks_c.proofs.resheftal_reads.Reads as resheftal-reads
use Rattle.asks_c.proofs.resheftal_standing.Reads as resheftal-standing

pub resheftal-interface-once : (κ : _) (r₁ : _) (r₂ : _)
    → resheftal-interface.Post κ tt r₁ tt
    → resheftal-interface.Post κ tt r₂ tt
    → r₁ ≡ r₂
resheftal-interface-once κ r₁ r₂ p q = p ∙ sym q

pub resheftal-reads-once : (κ : _) (image : _) (r₁ : _) (r₂ : _)
    → resheftal-reads.Post κ (image, tt) r₁ (image, tt)
    → resheftal-reads.Post κ (image, tt) r₂ (image, tt)
    → r₁ ≡ r₂
resheftal-reads-once κ image r₁ r₂ p q = p ∙ sym q

pub resheftal-standing-once : (κ : _) (image : _) (bytes : _) (r₁ : _) (r₂ : _)
    → resheftal-standing.Post κ (image, (bytes, tt)) r₁ (image, (bytes, tt))
    → resheftal-standing.Post κ (image, (bytes, tt)) r₂ (image, (bytes, tt))
    → r₁ ≡ r₂
resheftal-standing-once κ image bytes r₁ r₂ p q = p ∙ sym q
