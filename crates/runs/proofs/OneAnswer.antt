-- No second answer satisfies the contract of a public function: a line for each of this crate's, over the contract as the checker names it.
-- Proves: machine-run-once.
use mathlib.Core.Path.{◌≡◌, sym, ◌∙◌}
use Rattle.runs.proofs.run.run.Reads as run

pub machine-run-once : (M : _) (laws : _) (copied : _) (machines : _) (machine-code : _) (clones : _) (clone-code : _)
    (κ : _) (machine : _) (log : _) (budget : _) (r₁ : _) (r₂ : _)
    → run.Post M laws copied machines machine-code clones clone-code κ (machine, (log, (budget, tt))) r₁ (machine, (log, (budget, tt)))
    → run.Post M laws copied machines machine-code clones clone-code κ (machine, (log, (budget, tt))) r₂ (machine, (log, (budget, tt)))
    → r₁ ≡ r₂
machine-run-once M laws copied machines machine-code clones clone-code κ machine log budget r₁ r₂ p q = p ∙ sym q
