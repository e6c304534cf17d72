-- Cross-checks only: nobody has to believe what stands here.
-- What the promises on a turn of a place speak of.
-- Defines: own_numbers, on_next, first_tries, afresh, NextSound, SeatOf.
use Rattle.record.specs.declared.partner.Partner.{Partner}
use Rattle.place.specs.declared.phase.Phase.{Phase}
use Rattle.place.specs.declared.place.Direction.{Direction}
use Rattle.place.specs.declared.place.Holding.{Holding}
use Rattle.place.specs.declared.place.Holding.TheVariants.{Free, Held}
use Rattle.place.specs.declared.limits.Limits.{Limits}
use Rattle.place.specs.declared.turn.Turn.{Turn}
use Rattle.std.specs.Prelude.{ℕ, ◌+◌, Bool, true, cond, ◌&&◌, ◌||◌, ◌≡◌, List, [], ◌∷◌, eqb}
use Rattle.place.specs.Places.{by_phase, phase_number, tries, phase_ok, fits_incoming}
use Rattle.place.specs.Table.{request, release, on_turn}

-- "Of our own numbering: 21 request connection, 22 release": none of the messages 154, 155, 156, 159
abbrev pub own_numbers : List ℕ → Bool
own_numbers [] = true
own_numbers (number ∷ rest) = (eqb number request || eqb number release) && own_numbers rest

-- what is asked of the phase that a turn leads to, if it leads to one
abbrev pub on_next : (Phase → Type 0) → Turn → Type 0
on_next P = on_turn Unit Unit (λ sent next. P next)

-- the tries at which a phase is entered
abbrev pub first_tries : Phase → ℕ
first_tries = by_phase 1 1 0 1 1

-- one more try in the same phase, or the first of another
abbrev pub afresh : Phase → Phase → Bool
afresh ph q = cond (eqb (phase_number ph) (phase_number q)) (eqb (tries q) (tries ph + 1)) (eqb (tries q) (first_tries q))

-- the next phase is sound, and fit for an incoming place where the phase was
abbrev pub NextSound : Limits → Phase → Turn → Type 0
NextSound l ph = on_next (λ q. (phase_ok l q ≡ true) × (fits_incoming ph ≡ true → fits_incoming q ≡ true))

-- free, or held by this partner in this direction
abbrev pub SeatOf : Direction → Partner → Holding → Type 0
SeatOf d p Free = Unit
SeatOf d p (Held e ph q) = (e ≡ d) × (q ≡ p)
