-- What a profile does not tell apart.
-- Proves: ahead-alike, sb-pt-alike.
use mathlib.Core.Path.{◌≡◌, refl}
use Rattle.onsight.specs.Procedures.{step}
use Rattle.onsight.specs.declared.event.Area.{Area}
use Rattle.onsight.specs.declared.event.Area.TheVariants.{Ahead, Entered}
use Rattle.onsight.specs.declared.event.Mode.{Mode}
use Rattle.onsight.specs.declared.event.Mode.TheVariants.{SB, PT}
use Rattle.onsight.specs.declared.event.Event.TheVariants.{Profile}
use Rattle.onsight.specs.declared.procedure.State.{State}
use Rattle.onsight.proofs.Again.Each.{by_state}

-- "ahead gives Waiting", whatever the mode
-- promise
pub ahead-alike : (s : State) (mode other : Mode) → step s (Profile Ahead mode) ≡ step s (Profile Ahead other)
ahead-alike s mode other =
    by_state (λ s. step s (Profile Ahead mode) ≡ step s (Profile Ahead other)) refl refl refl refl refl refl s

-- "Asked for SB or PT": the two are treated alike
-- promise
pub sb-pt-alike : (s : State) (area : Area) → step s (Profile area SB) ≡ step s (Profile area PT)
sb-pt-alike s Ahead = ahead-alike s SB PT
sb-pt-alike s Entered = by_state (λ s. step s (Profile Entered SB) ≡ step s (Profile Entered PT)) refl refl refl refl refl refl s
