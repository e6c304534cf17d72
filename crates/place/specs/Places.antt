-- Document 01, "What the box remembers", the part on one place.
-- Defines: by_phase, phase_number, tries, direction_number, most_tries, default_tries, fleet_tries, vacant, seat, on_holding, is_free,
-- partner_of, held_phase, holds, tries_ok, phase_ok, fits_incoming, fits, place_ok.
use Rattle.std.specs.Prelude.{ℕ, Bool, true, false, ◌&&◌, leb}
use Rattle.record.specs.Partners.{is_rbc, named_ok, same_partner}
use Rattle.record.specs.declared.partner.Partner.{Partner}
use Rattle.place.specs.declared.phase.Phase.{Phase}
use Rattle.place.specs.declared.phase.Phase.TheVariants.{Connecting, Contacting, Open, Lost, Ending}
use Rattle.place.specs.declared.place.Direction.{Direction}
use Rattle.place.specs.declared.place.Direction.TheVariants.{Outgoing, Incoming}
use Rattle.place.specs.declared.place.Holding.{Holding}
use Rattle.place.specs.declared.place.Holding.TheVariants.{Free, Held}
use Rattle.place.specs.declared.place.Place.{Place}
use Rattle.place.specs.declared.limits.Limits.{Limits}

-- an answer for each phase, in 01's order: Connecting, Contacting, Open, Lost, Ending ("an ending session has a phase of its own")
abbrev pub by_phase : {A : Type 0} → A → A → A → A → A → Phase → A
by_phase at_connecting at_contacting at_open at_lost at_ending (Connecting t) = at_connecting
by_phase at_connecting at_contacting at_open at_lost at_ending (Contacting t) = at_contacting
by_phase at_connecting at_contacting at_open at_lost at_ending Open = at_open
by_phase at_connecting at_contacting at_open at_lost at_ending (Lost t) = at_lost
by_phase at_connecting at_contacting at_open at_lost at_ending (Ending t) = at_ending

-- "Phases: 1 Connecting, 2 Contacting, 3 Open, 4 Lost, 5 Ending"
abbrev pub phase_number : Phase → ℕ
phase_number = by_phase 1 2 3 4 5

-- "Tries: 1 to 3, but 0 in Open", and of Q-3 1 to n
abbrev pub tries : Phase → ℕ
tries (Connecting t) = t
tries (Contacting t) = t
tries Open = 0
tries (Lost t) = t
tries (Ending t) = t

-- "Direction: 0 outgoing, 1 incoming"
abbrev pub direction_number : Direction → ℕ
direction_number Outgoing = 0
direction_number Incoming = 1

-- Q-3: "a number of tries n, 1 to 9": the largest
abbrev pub most_tries : ℕ
most_tries = 9

-- Q-3: "Where no number is given the default was 3 and becomes 5"
abbrev pub default_tries : ℕ
default_tries = 5

-- Q-3: "The fitted fleets, `sheet` and all cases of 01 relied on 3"; what a refused cold start or image read holds
abbrev pub fleet_tries : ℕ
fleet_tries = 3

-- a free place
abbrev pub vacant : Place
vacant = record { holding = Free }

-- a place that holds a partner
abbrev pub seat : Direction → Phase → Partner → Place
seat d ph p = record { holding = Held d ph p }

-- what is said of a place that is free, and of one that holds a partner with its direction and phase
abbrev pub on_holding : {A : Type 0} → A → (Direction → Phase → Partner → A) → Holding → A
on_holding none held Free = none
on_holding none held (Held d ph p) = held d ph p

-- the place is free
abbrev pub is_free : Place → Bool
is_free place = on_holding true (λ d ph p. false) place.holding

-- the partner of a place; all zeros where it is free
abbrev pub partner_of : Place → Partner
partner_of place = on_holding (record { kind = 0; high = 0; middle = 0; low = 0 }) (λ d ph p. p) place.holding

-- the phase of a held place; Open where it is free
abbrev pub held_phase : Place → Phase
held_phase place = on_holding Open (λ d ph p. ph) place.holding

-- the place holds this partner
abbrev pub holds : Partner → Place → Bool
holds p place = on_holding false (λ d ph q. same_partner p q) place.holding

-- Q-3: "tries run from 1 to n"
abbrev pub tries_ok : Limits → ℕ → Bool
tries_ok l t = leb 1 t && leb t l.tries

-- the tries used are in their range, "but 0 in Open"
abbrev pub phase_ok : Limits → Phase → Bool
phase_ok l ph = by_phase (tries_ok l (tries ph)) (tries_ok l (tries ph)) true (tries_ok l (tries ph)) (tries_ok l (tries ph)) ph

-- "Connecting and Contacting are outgoing": the phases that an incoming place may have
abbrev pub fits_incoming : Phase → Bool
fits_incoming = by_phase false false true true true

-- "no RIU is incoming, Connecting and Contacting are outgoing"
abbrev pub fits : Direction → Phase → Partner → Bool
fits Outgoing ph p = true
fits Incoming ph p = is_rbc p && fits_incoming ph

-- the place is sound by itself; Q-2: "No RBC in a place .. may have that value"
abbrev pub place_ok : Limits → Place → Bool
place_ok l place = on_holding true (λ d ph p. named_ok p && (phase_ok l ph && fits d ph p)) place.holding
