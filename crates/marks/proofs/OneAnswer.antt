-- No second answer satisfies the contract of a public function: a line for each of this crate's, over the contract as the checker names it.
-- Proves: extend-once, build-once, look-up-once.
use mathlib.Core.Path.{◌≡◌, sym, ◌∙◌}
use Rattle.marks.proofs.build.extend.Reads as extend
use Rattle.marks.proofs.build.build.Reads as build
use Rattle.marks.proofs.lookup.look_up.Reads as look_up

pub extend-once : (κ : _) (limits : _) (log : _) (held : _) (room : _) (r₁ : _) (r₂ : _) (room₁ : _) (room₂ : _)
    → extend.Post κ (limits, (log, (held, (room, tt)))) r₁ (limits, (log, (held, (room₁, tt))))
    → extend.Post κ (limits, (log, (held, (room, tt)))) r₂ (limits, (log, (held, (room₂, tt))))
    → (r₁ ≡ r₂) × (room₁.now ≡ room₂.now)
extend-once κ limits log held room r₁ r₂ room₁ room₂ p q = (p.0 ∙ sym q.0, p.1 ∙ sym q.1)

pub build-once : (κ : _) (limits : _) (log : _) (room : _) (r₁ : _) (r₂ : _) (room₁ : _) (room₂ : _)
    → build.Post κ (limits, (log, (room, tt))) r₁ (limits, (log, (room₁, tt)))
    → build.Post κ (limits, (log, (room, tt))) r₂ (limits, (log, (room₂, tt)))
    → (r₁ ≡ r₂) × (room₁.now ≡ room₂.now)
build-once κ limits log room r₁ r₂ room₁ room₂ p q = (p.0 ∙ sym q.0, p.1 ∙ sym q.1)

pub look-up-once : (κ : _) (limits : _) (log : _) (marks : _) (n : _) (r₁ : _) (r₂ : _)
    → look_up.Post κ (limits, (log, (marks, (n, tt)))) r₁ (limits, (log, (marks, (n, tt))))
    → look_up.Post κ (limits, (log, (marks, (n, tt)))) r₂ (limits, (log, (marks, (n, tt))))
    → r₁ ≡ r₂
look-up-once κ limits log marks n r₁ r₂ p q = p ∙ sym q
