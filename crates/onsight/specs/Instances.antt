-- Examples only: nobody has to believe what stands here.
-- The histories at which the instances of the promises are computed.
-- Defines: late_at_once, late_by_asked, silence.
use Rattle.std.specs.Prelude.{List, [], ◌∷◌}
use Rattle.onsight.specs.declared.event.Area.TheVariants.{Ahead, Entered}
use Rattle.onsight.specs.declared.event.Mode.TheVariants.{OS, SB, PT, Another}
use Rattle.onsight.specs.declared.event.Event.{Event}
use Rattle.onsight.specs.declared.event.Event.TheVariants.{Profile, Window, Start, Acknowledgement, Expiry}

-- comes to Late by its one event, the area entered in another mode
abbrev pub late_at_once : List Event
late_at_once = Profile Entered Another ∷ []

-- comes to Late by way of Waiting and Asked, with refused events before, between and after
abbrev pub late_by_asked : List Event
late_by_asked =
    Window
    ∷ Acknowledgement
    ∷ Profile Ahead PT
    ∷ Expiry
    ∷ Profile Entered OS
    ∷ Window
    ∷ Window
    ∷ Expiry
    ∷ Start
    ∷ Start
    ∷ []

-- every event but the acknowledgement: fifteen, with the window and the start twice and the expiry thrice
abbrev pub silence : List Event
silence =
    Expiry
    ∷ Start
    ∷ Window
    ∷ Profile Ahead OS
    ∷ Profile Ahead SB
    ∷ Profile Ahead PT
    ∷ Profile Ahead Another
    ∷ Profile Entered OS
    ∷ Profile Entered SB
    ∷ Profile Entered PT
    ∷ Profile Entered Another
    ∷ Expiry
    ∷ Start
    ∷ Window
    ∷ Expiry
    ∷ []
