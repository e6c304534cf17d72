-- Cross-checks only: rules told a second time.
-- What words of the laws mean: which event is message 32, which stir a partner.
-- Proves: is_version-event, stirring-means, stirs-means.
use mathlib.Core.Path.{◌≡◌, refl, ap, ◌∙◌}
use mathlib.Core.Logic.{◌↔◌, ◌⊎◌, inl, inr, ⊎_elim}
use mathlib.Core.Bool.{Bool, true, false≢true}
use Prim.Native.Nat.{ℕ}
use Rattle.wire.proofs.Tests.{and_left, and_right, and_both}
use Rattle.record.specs.declared.partner.Partner.{Partner}
use Rattle.record.specs.declared.event.PartnerEvent.{PartnerEvent}
use Rattle.record.specs.declared.event.PartnerEvent.TheVariants.{Drop, Up, Loss, Timeout, Version, Ended}
use Rattle.unit.specs.Kept.{is_version}
use Rattle.unit.specs.Standings.{Concern, nobody, order_to, call_of, naming}
use Rattle.unit.specs.Concerns.{stirring, stirs}

-- message 32, whatever its version, and no other event
-- meaning
pub is_version-event : (e : PartnerEvent) → (is_version e ≡ true) ↔ ((v : ℕ) × (e ≡ Version v))
is_version-event e = (is e, λ h. ap is_version h.1)
  where
    is : (e : PartnerEvent) → is_version e ≡ true → (v : ℕ) × (e ≡ Version v)
    is Drop h = absurd (false≢true h)
    is Up h = absurd (false≢true h)
    is Loss h = absurd (false≢true h)
    is Timeout h = absurd (false≢true h)
    is (Version v) h = (v, refl)
    is Ended h = absurd (false≢true h)

-- up, lost and timeout, and no other event
-- meaning
pub stirring-means : (e : PartnerEvent) → (stirring e ≡ true) ↔ ((e ≡ Up) ⊎ ((e ≡ Loss) ⊎ (e ≡ Timeout)))
stirring-means e = (is e, ⊎_elim (ap stirring) (⊎_elim (ap stirring) (ap stirring)))
  where
    is : (e : PartnerEvent) → stirring e ≡ true → (e ≡ Up) ⊎ ((e ≡ Loss) ⊎ (e ≡ Timeout))
    is Drop h = absurd (false≢true h)
    is Up h = inl refl
    is Loss h = inr (inl refl)
    is Timeout h = inr (inr refl)
    is (Version v) h = absurd (false≢true h)
    is Ended h = absurd (false≢true h)

-- one of them that names one of these partners
-- meaning
pub stirs-means : (mine : Partner → Bool) (c : Concern)
    → (stirs mine c ≡ true)
    ↔ ((p : Partner) × (e : PartnerEvent) × (c ≡ naming p e) × (mine p ≡ true) × (stirring e ≡ true))
stirs-means mine c = (is c, λ h. ap (stirs mine) h.2 ∙ and_both (mine h.0) (stirring h.1) h.3 h.4)
  where
    is : (c : Concern)
        → stirs mine c ≡ true
        → (p : Partner) × (e : PartnerEvent) × (c ≡ naming p e) × (mine p ≡ true) × (stirring e ≡ true)
    is nobody h = absurd (false≢true h)
    is (order_to p) h = absurd (false≢true h)
    is (call_of p) h = absurd (false≢true h)
    is (naming p e) h = (p, e, refl, and_left (mine p) (stirring e) h, and_right (mine p) (stirring e) h)
