-- No second answer satisfies the contract of a public function: a line for each of this crate's, over the contract as the checker names it.
-- Proves: area-number-once, mode-number-once, event-number-once, state-fresh-once, state-number-once, state-os-in-force-once,
-- state-service-brake-once, state-step-once.
use mathlib.Core.Path.{◌≡◌, sym, ◌∙◌}
use Rattle.onsight.proofs.event.Area.number.Reads as area-number
use Rattle.onsight.proofs.event.Mode.number.Reads as mode-number
use Rattle.onsight.proofs.event.Event.number.Reads as event-number
use Rattle.onsight.proofs.procedure.State.fresh.Reads as state-fresh
use Rattle.onsight.proofs.procedure.State.number.Reads as state-number
use Rattle.onsight.proofs.procedure.State.os_in_force.Reads as state-os-in-force
use Rattle.onsight.proofs.procedure.State.service_brake.Reads as state-service-brake
use Rattle.onsight.proofs.procedure.State.step.Reads as state-step

pub area-number-once : (κ : _) (self : _) (r s : _)
    → area-number.Post κ (self, tt) r (self, tt)
    → area-number.Post κ (self, tt) s (self, tt)
    → r ≡ s
area-number-once κ self r s p q = p ∙ sym q

pub mode-number-once : (κ : _) (self : _) (r s : _)
    → mode-number.Post κ (self, tt) r (self, tt)
    → mode-number.Post κ (self, tt) s (self, tt)
    → r ≡ s
mode-number-once κ self r s p q = p ∙ sym q

pub event-number-once : (κ : _) (self : _) (r s : _)
    → event-number.Post κ (self, tt) r (self, tt)
    → event-number.Post κ (self, tt) s (self, tt)
    → r ≡ s
event-number-once κ self r s p q = p ∙ sym q

pub state-fresh-once : (κ : _) (r s : _) → state-fresh.Post κ tt r tt → state-fresh.Post κ tt s tt → r ≡ s
state-fresh-once κ r s p q = p ∙ sym q

pub state-number-once : (κ : _) (self : _) (r s : _)
    → state-number.Post κ (self, tt) r (self, tt)
    → state-number.Post κ (self, tt) s (self, tt)
    → r ≡ s
state-number-once κ self r s p q = p ∙ sym q

pub state-os-in-force-once : (κ : _) (self : _) (r s : _)
    → state-os-in-force.Post κ (self, tt) r (self, tt)
    → state-os-in-force.Post κ (self, tt) s (self, tt)
    → r ≡ s
state-os-in-force-once κ self r s p q = p ∙ sym q

pub state-service-brake-once : (κ : _) (self : _) (r s : _)
    → state-service-brake.Post κ (self, tt) r (self, tt)
    → state-service-brake.Post κ (self, tt) s (self, tt)
    → r ≡ s
state-service-brake-once κ self r s p q = p ∙ sym q

pub state-step-once : (κ : _) (self : _) (event : _) (r s : _)
    → state-step.Post κ (self, (event, tt)) r (self, (event, tt))
    → state-step.Post κ (self, (event, tt)) s (self, (event, tt))
    → r ≡ s
state-step-once κ self event r s p q = p ∙ sym q
