-- Cross-checks only: rules told a second time.
-- The cases of each enum are counted from 0, in the order in which Q-1 names them.
-- Proves: states-numbered, areas-numbered, modes-numbered, events-numbered.
use mathlib.Core.Path.{◌≡◌, refl}
use mathlib.Core.List.{[], ◌∷◌, map}
use Rattle.onsight.specs.Numbers.{state_number, area_number, mode_number, event_number}
use Rattle.onsight.specs.declared.event.Area.{Area}
use Rattle.onsight.specs.declared.event.Area.TheVariants.{Ahead, Entered}
use Rattle.onsight.specs.declared.event.Mode.{Mode}
use Rattle.onsight.specs.declared.event.Mode.TheVariants.{OS, SB, PT, Another}
use Rattle.onsight.specs.declared.event.Event.TheVariants.{Profile, Window, Start, Acknowledgement, Expiry}
use Rattle.onsight.specs.declared.procedure.State.TheVariants.{Idle, Waiting, Asked, Late, Braking, Done}

-- promise
pub states-numbered :
    map state_number (Idle ∷ Waiting ∷ Asked ∷ Late ∷ Braking ∷ Done ∷ [])
    ≡ (0 ∷ 1 ∷ 2 ∷ 3 ∷ 4 ∷ 5 ∷ [])
states-numbered = refl

-- promise
pub areas-numbered : map area_number (Ahead ∷ Entered ∷ []) ≡ (0 ∷ 1 ∷ [])
areas-numbered = refl

-- promise
pub modes-numbered : map mode_number (OS ∷ SB ∷ PT ∷ Another ∷ []) ≡ (0 ∷ 1 ∷ 2 ∷ 3 ∷ [])
modes-numbered = refl

-- promise
pub events-numbered : (area : Area) (mode : Mode)
    → map event_number (Profile area mode ∷ Window ∷ Start ∷ Acknowledgement ∷ Expiry ∷ [])
    ≡ (0 ∷ 1 ∷ 2 ∷ 3 ∷ 4 ∷ [])
events-numbered area mode = refl
