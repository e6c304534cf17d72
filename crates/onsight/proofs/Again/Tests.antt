-- Cross-checks only: rules told a second time.
-- What each test on a state or an event means: it is true exactly of these.
-- Proves: is_idle-means, is_late-means, is_done-means, asks_for_acknowledgement-means, is_profile-means, is_expiry-means,
-- is_acknowledgement-means, ends-means, brings_os-means, expiry_in_late-means.
use mathlib.Core.Path.{◌≡◌, refl, ap, ap₂}
use mathlib.Core.Logic.{◌↔◌, ◌⊎◌, inl, inr, ⊎_elim}
use mathlib.Core.Bool.{true, ◌&&◌}
use Rattle.onsight.specs.HistoryWords.{Met, is_idle, is_late, is_done, is_profile, is_expiry, is_acknowledgement, expiry_in_late}
use Rattle.onsight.specs.HistoryWords.{ends, brings_os, asks_for_acknowledgement}
use Rattle.onsight.specs.declared.event.Area.{Area}
use Rattle.onsight.specs.declared.event.Area.TheVariants.{Entered}
use Rattle.onsight.specs.declared.event.Mode.{Mode}
use Rattle.onsight.specs.declared.event.Mode.TheVariants.{OS, Another}
use Rattle.onsight.specs.declared.event.Event.{Event}
use Rattle.onsight.specs.declared.event.Event.TheVariants.{Profile, Window, Start, Acknowledgement, Expiry}
use Rattle.onsight.specs.declared.procedure.State.{State}
use Rattle.onsight.specs.declared.procedure.State.TheVariants.{Idle, Asked, Late, Braking, Done}
use Rattle.onsight.proofs.Again.Each.{never, by_state, by-event}

-- Idle, and no other state
-- meaning
pub is_idle-means : (s : State) → (is_idle s ≡ true) ↔ (s ≡ Idle)
is_idle-means s = (by_state (λ s. is_idle s ≡ true → s ≡ Idle) (λ h. refl) never never never never never s, ap is_idle)

-- Late, and no other state
-- meaning
pub is_late-means : (s : State) → (is_late s ≡ true) ↔ (s ≡ Late)
is_late-means s = (by_state (λ s. is_late s ≡ true → s ≡ Late) never never never (λ h. refl) never never s, ap is_late)

-- Done, and no other state
-- meaning
pub is_done-means : (s : State) → (is_done s ≡ true) ↔ (s ≡ Done)
is_done-means s = (by_state (λ s. is_done s ≡ true → s ≡ Done) never never never never never (λ h. refl) s, ap is_done)

-- "Asked, Late and Braking"
-- meaning
pub asks_for_acknowledgement-means : (s : State)
    → (asks_for_acknowledgement s ≡ true)
    ↔ ((s ≡ Asked) ⊎ ((s ≡ Late) ⊎ (s ≡ Braking)))
asks_for_acknowledgement-means s = (
  by_state (λ s. asks_for_acknowledgement s ≡ true → (s ≡ Asked) ⊎ ((s ≡ Late) ⊎ (s ≡ Braking)))
      never never (λ h. inl refl) (λ h. inr (inl refl)) (λ h. inr (inr refl)) never s,
  ⊎_elim (ap asks_for_acknowledgement) (⊎_elim (ap asks_for_acknowledgement) (ap asks_for_acknowledgement)),
)

-- a profile, whatever it says, and no other event
-- meaning
pub is_profile-means : (e : Event) → (is_profile e ≡ true) ↔ ((area : Area) × ((mode : Mode) × (e ≡ Profile area mode)))
is_profile-means e = (is e, λ h. ap is_profile h.1.1)
  where
    is : (e : Event) → is_profile e ≡ true → (area : Area) × ((mode : Mode) × (e ≡ Profile area mode))
    is (Profile area mode) h = (area, (mode, refl))
    is Window h = never h
    is Start h = never h
    is Acknowledgement h = never h
    is Expiry h = never h

-- timer expiry, and no other event
-- meaning
pub is_expiry-means : (e : Event) → (is_expiry e ≡ true) ↔ (e ≡ Expiry)
is_expiry-means e = (
  by-event (λ e. is_expiry e ≡ true → e ≡ Expiry) (λ mode. never) never never never never never never never (λ h. refl) e,
  ap is_expiry,
)

-- driver acknowledgement, and no other event
-- meaning
pub is_acknowledgement-means : (e : Event) → (is_acknowledgement e ≡ true) ↔ (e ≡ Acknowledgement)
is_acknowledgement-means e = (
  by-event (λ e. is_acknowledgement e ≡ true → e ≡ Acknowledgement)
      (λ mode. never) never never never never never never (λ h. refl) never e,
  ap is_acknowledgement,
)

-- "entered gives Done for OS", "driver acknowledgement gives Done"
-- meaning
pub ends-means : (e : Event) → (ends e ≡ true) ↔ ((e ≡ Profile Entered OS) ⊎ (e ≡ Acknowledgement))
ends-means e = (
  by-event (λ e. ends e ≡ true → (e ≡ Profile Entered OS) ⊎ (e ≡ Acknowledgement))
      (λ mode. never) (λ h. inl refl) never never never never never (λ h. inr refl) never e,
  ⊎_elim (ap ends) (ap ends),
)

-- the events after which, taken, OS is in force: those that give Late or Done
-- meaning
pub brings_os-means : (e : Event)
    → (brings_os e ≡ true)
    ↔ ((e ≡ Profile Entered OS) ⊎ ((e ≡ Profile Entered Another) ⊎ ((e ≡ Start) ⊎ (e ≡ Acknowledgement))))
brings_os-means e = (
  by-event (λ e.
      brings_os e ≡ true
      → (e ≡ Profile Entered OS) ⊎ ((e ≡ Profile Entered Another) ⊎ ((e ≡ Start) ⊎ (e ≡ Acknowledgement))))
      (λ mode. never) (λ h. inl refl) never never (λ h. inr (inl refl)) never
      (λ h. inr (inr (inl refl))) (λ h. inr (inr (inr refl))) never e,
  ⊎_elim (ap brings_os) (⊎_elim (ap brings_os) (⊎_elim (ap brings_os) (ap brings_os))),
)

-- "expiry in Late"
-- meaning
pub expiry_in_late-means : (m : Met) → (expiry_in_late m ≡ true) ↔ ((m.state ≡ Late) × (m.event ≡ Expiry))
expiry_in_late-means m = (
  by_state (λ s. (is_late s && is_expiry m.event) ≡ true → (s ≡ Late) × (m.event ≡ Expiry))
      never never never (λ h. (refl, (is_expiry-means m.event).0 h)) never never m.state,
  λ h. ap₂ (λ s e. is_late s && is_expiry e) h.0 h.1,
)
