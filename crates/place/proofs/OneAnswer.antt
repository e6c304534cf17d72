-- No second answer satisfies the contract of a public function: a line for each of this crate's, over the contract as the checker names it.
-- Proves: phase-number-once, phase-tries-once, direction-number-once, place-free-once, place-held-once,
-- place-is-free-once, place-partner-once, place-held-phase-once, place-holds-once, place-is-sound-once, place-close-once,
-- place-after-once, place-turn-once, turn-is-taken-once.
use mathlib.Core.Path.{◌≡◌, sym, ◌∙◌}
use Rattle.place.proofs.phase.Phase.number.Reads as phase-number
use Rattle.place.proofs.phase.Phase.tries.Reads as phase-tries
use Rattle.place.proofs.place.Direction.number.Reads as direction-number
use Rattle.place.proofs.place.Place.free.Reads as place-free
use Rattle.place.proofs.place.Place.held.Reads as place-held
use Rattle.place.proofs.place.Place.is_free.Reads as place-is-free
use Rattle.place.proofs.place.Place.partner.Reads as place-partner
use Rattle.place.proofs.place.Place.held_phase.Reads as place-held-phase
use Rattle.place.proofs.place.Place.holds.Reads as place-holds
use Rattle.place.proofs.place.Place.is_sound.Reads as place-is-sound
use Rattle.place.proofs.place.Place.close.Reads as place-close
use Rattle.place.proofs.place.Place.after.Reads as place_after
use Rattle.place.proofs.place.Place.turn.Reads as place-turn
use Rattle.place.proofs.turn.Turn.is_taken.Reads as turn-is-taken

pub phase-number-once : (κ : _) (self : _) (r₁ : _) (r₂ : _)
    → phase-number.Post κ (self, tt) r₁ (self, tt)
    → phase-number.Post κ (self, tt) r₂ (self, tt)
    → r₁ ≡ r₂
phase-number-once κ self r₁ r₂ p q = p ∙ sym q

pub phase-tries-once : (κ : _) (self : _) (r₁ : _) (r₂ : _)
    → phase-tries.Post κ (self, tt) r₁ (self, tt)
    → phase-tries.Post κ (self, tt) r₂ (self, tt)
    → r₁ ≡ r₂
phase-tries-once κ self r₁ r₂ p q = p ∙ sym q

pub direction-number-once : (κ : _) (self : _) (r₁ : _) (r₂ : _)
    → direction-number.Post κ (self, tt) r₁ (self, tt)
    → direction-number.Post κ (self, tt) r₂ (self, tt)
    → r₁ ≡ r₂
direction-number-once κ self r₁ r₂ p q = p ∙ sym q

pub place-free-once : (κ : _) (r₁ : _) (r₂ : _)
    → place-free.Post κ tt r₁ tt
    → place-free.Post κ tt r₂ tt
    → r₁ ≡ r₂
place-free-once κ r₁ r₂ p q = p ∙ sym q

pub place-held-once : (κ : _) (direction : _) (phase : _) (partner : _) (r₁ : _) (r₂ : _)
    → place-held.Post κ (direction, (phase, (partner, tt))) r₁ (direction, (phase, (partner, tt)))
    → place-held.Post κ (direction, (phase, (partner, tt))) r₂ (direction, (phase, (partner, tt)))
    → r₁ ≡ r₂
place-held-once κ direction phase partner r₁ r₂ p q = p ∙ sym q

pub place-is-free-once : (κ : _) (self : _) (r₁ : _) (r₂ : _)
    → place-is-free.Post κ (self, tt) r₁ (self, tt)
    → place-is-free.Post κ (self, tt) r₂ (self, tt)
    → r₁ ≡ r₂
place-is-free-once κ self r₁ r₂ p q = p ∙ sym q

pub place-partner-once : (κ : _) (self : _) (r₁ : _) (r₂ : _)
    → place-partner.Post κ (self, tt) r₁ (self, tt)
    → place-partner.Post κ (self, tt) r₂ (self, tt)
    → r₁ ≡ r₂
place-partner-once κ self r₁ r₂ p q = p ∙ sym q

pub place-held-phase-once : (κ : _) (self : _) (r₁ : _) (r₂ : _)
    → place-held-phase.Post κ (self, tt) r₁ (self, tt)
    → place-held-phase.Post κ (self, tt) r₂ (self, tt)
    → r₁ ≡ r₂
place-held-phase-once κ self r₁ r₂ p q = p ∙ sym q

pub place-holds-once : (κ : _) (self : _) (partner : _) (r₁ : _) (r₂ : _)
    → place-holds.Post κ (self, (partner, tt)) r₁ (self, (partner, tt))
    → place-holds.Post κ (self, (partner, tt)) r₂ (self, (partner, tt))
    → r₁ ≡ r₂
place-holds-once κ self partner r₁ r₂ p q = p ∙ sym q

pub place-is-sound-once : (κ : _) (self : _) (limits : _) (r₁ : _) (r₂ : _)
    → place-is-sound.Post κ (self, (limits, tt)) r₁ (self, (limits, tt))
    → place-is-sound.Post κ (self, (limits, tt)) r₂ (self, (limits, tt))
    → r₁ ≡ r₂
place-is-sound-once κ self limits r₁ r₂ p q = p ∙ sym q

pub place-close-once : (κ : _) (self : _) (which : _) (r₁ : _) (r₂ : _)
    → place-close.Post κ (self, (which, tt)) r₁ (self, (which, tt))
    → place-close.Post κ (self, (which, tt)) r₂ (self, (which, tt))
    → r₁ ≡ r₂
place-close-once κ self which r₁ r₂ p q = p ∙ sym q

pub place-after-once : (κ : _) (self : _) (turn : _) (r₁ : _) (r₂ : _)
    → place_after.Post κ (self, (turn, tt)) r₁ (self, (turn, tt))
    → place_after.Post κ (self, (turn, tt)) r₂ (self, (turn, tt))
    → r₁ ≡ r₂
place-after-once κ self turn r₁ r₂ p q = p ∙ sym q

pub place-turn-once : (κ : _) (self : _) (event : _) (limits : _) (r₁ : _) (r₂ : _)
    → place-turn.Post κ (self, (event, (limits, tt))) r₁ (self, (event, (limits, tt)))
    → place-turn.Post κ (self, (event, (limits, tt))) r₂ (self, (event, (limits, tt)))
    → r₁ ≡ r₂
place-turn-once κ self event limits r₁ r₂ p q = p ∙ sym q

pub turn-is-taken-once : (κ : _) (self : _) (r₁ : _) (r₂ : _)
    → turn-is-taken.Post κ (self, tt) r₁ (self, tt)
    → turn-is-taken.Post κ (self, tt) r₂ (self, tt)
    → r₁ ≡ r₂
turn-is-taken-once κ self r₁ r₂ p q = p ∙ sym q
