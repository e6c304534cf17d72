-- Cross-checks only: rules told a second time.
-- The numbers of document 01 for phases, directions, tries and actions; what is told of a place; what a turn sends.
-- Proves: phase_number-each, tries-each, direction_number-each, actions-numbered, tries-numbered, vacant-told, seat-told, takes-turns,
-- numbers-turns.
use mathlib.Core.Path.{◌≡◌, refl}
use mathlib.Core.Bool.{true, false}
use mathlib.Core.List.{[], ◌∷◌}
use Prim.Native.Nat.{ℕ}
use Rattle.record.specs.Partners.{same_partner}
use Rattle.record.specs.declared.partner.Partner.{Partner}
use Rattle.place.specs.Places.{phase_number, tries, direction_number, most_tries, default_tries, fleet_tries, vacant, seat, is_free}
use Rattle.place.specs.Places.{held_phase, holds}
use Rattle.place.specs.Table.{request, release, incompatible, initiate, terminate, established, takes, numbers}
use Rattle.place.specs.declared.phase.Phase.{Phase}
use Rattle.place.specs.declared.phase.Phase.TheVariants.{Connecting, Contacting, Open, Lost, Ending}
use Rattle.place.specs.declared.place.Direction.{Direction}
use Rattle.place.specs.declared.place.Direction.TheVariants.{Outgoing, Incoming}
use Rattle.place.specs.declared.turn.Turn.TheVariants.{Stays, Released, Becomes, Sends, SendsBoth}

-- "Phases: 1 Connecting, 2 Contacting, 3 Open, 4 Lost, 5 Ending"
-- promise
pub phase_number-each : (t : ℕ)
    → (phase_number (Connecting t) ≡ 1)
    × (phase_number (Contacting t) ≡ 2)
    × (phase_number Open ≡ 3)
    × (phase_number (Lost t) ≡ 4)
    × (phase_number (Ending t) ≡ 5)
phase_number-each t = (refl, refl, refl, refl, refl)

-- "Tries: .. 0 in Open"
-- promise
pub tries-each : (t : ℕ)
    → tries (Connecting t) ∷ tries (Contacting t) ∷ tries Open ∷ tries (Lost t) ∷ tries (Ending t) ∷ []
    ≡ t ∷ t ∷ 0 ∷ t ∷ t ∷ []
tries-each t = refl

-- "Direction: 0 outgoing, 1 incoming"
-- promise
pub direction_number-each : direction_number Outgoing ∷ direction_number Incoming ∷ [] ≡ 0 ∷ 1 ∷ []
direction_number-each = refl

-- "21 request connection, 22 release ..; 154 no compatible version, 155 initiate, 156 terminate, 159 established"
-- promise
pub actions-numbered :
    (request ≡ 21)
    × (release ≡ 22)
    × (incompatible ≡ 154)
    × (initiate ≡ 155)
    × (terminate ≡ 156)
    × (established ≡ 159)
actions-numbered = (refl, refl, refl, refl, refl, refl)

-- Q-3: "a number of tries n, 1 to 9"; "the default was 3 and becomes 5"; "The fitted fleets .. relied on 3"
-- promise
pub tries-numbered : most_tries ∷ default_tries ∷ fleet_tries ∷ [] ≡ 9 ∷ 5 ∷ 3 ∷ []
tries-numbered = refl

-- "Each place is free or holds a partner with its phase"
-- promise
pub vacant-told : (p : Partner) → (is_free vacant ≡ true) × (holds p vacant ≡ false)
vacant-told p = (refl, refl)

-- promise
pub seat-told : (d : Direction) (ph : Phase) (p q : Partner)
    → (is_free (seat d ph p) ≡ false)
    × (holds q (seat d ph p) ≡ same_partner q p)
    × (held_phase (seat d ph p) ≡ ph)
seat-told d ph p q = (refl, refl, refl)

-- ""no" is refusal 7": a place that stays does not take the event, and every other turn does
-- promise
pub takes-turns : (ph : Phase) (first second : ℕ)
    → (takes Stays ≡ false)
    × (takes Released ≡ true)
    × (takes (Becomes ph) ≡ true)
    × (takes (Sends first ph) ≡ true)
    × (takes (SendsBoth first second ph) ≡ true)
takes-turns ph first second = (refl, refl, refl, refl, refl)

-- what a turn sends, in its order; that a release sends 22 is `released-sends`
-- promise
pub numbers-turns : (ph : Phase) (first second : ℕ)
    → (numbers Stays ≡ [])
    × (numbers (Becomes ph) ≡ [])
    × (numbers (Sends first ph) ≡ first ∷ [])
    × (numbers (SendsBoth first second ph) ≡ first ∷ second ∷ [])
numbers-turns ph first second = (refl, refl, refl, refl)
