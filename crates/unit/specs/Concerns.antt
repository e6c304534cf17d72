-- Cross-checks only: nobody has to believe what stands here.
-- The events, actions and places of any choice of partners.
-- Defines: stirring, stirs, takes_in, action_for, release_for, other_for, held_by, place_of, is_connecting, held_past, place_past.
use Rattle.std.specs.Prelude.{Bool, true, false, ◌&&◌, not, eqb}
use Rattle.record.specs.Events.{by_event}
use Rattle.record.specs.declared.partner.Partner.{Partner}
use Rattle.record.specs.declared.event.PartnerEvent.{PartnerEvent}
use Rattle.place.specs.Places.{by_phase}
use Rattle.place.specs.Table.{release}
use Rattle.place.specs.declared.phase.Phase.{Phase}
use Rattle.place.specs.declared.place.Holding.{Holding}
use Rattle.place.specs.declared.place.Holding.TheVariants.{Free, Held}
use Rattle.place.specs.declared.place.Place.{Place}
use Rattle.unit.specs.Standings.{Concern, by_concern}
use Rattle.unit.specs.declared.answer.Action.{Action}

-- up, lost or timeout
abbrev pub stirring : PartnerEvent → Bool
stirring = by_event false true true true (λ v. false) false

-- an up, lost or timeout that names one of these partners
abbrev pub stirs : (Partner → Bool) → Concern → Bool
stirs mine = by_concern false (λ p. false) (λ p. false) (λ p e. mine p && stirring e)

-- an order or a call that takes one of these partners in, where it is accepted
abbrev pub takes_in : (Partner → Bool) → Concern → Bool
takes_in mine = by_concern false mine mine (λ p e. false)

-- an action for one of these partners; a release among them; any other
abbrev pub action_for : (Partner → Bool) → Action → Bool
action_for mine a = mine a.partner

abbrev pub release_for : (Partner → Bool) → Action → Bool
release_for mine a = mine a.partner && eqb a.number release

abbrev pub other_for : (Partner → Bool) → Action → Bool
other_for mine a = mine a.partner && not (eqb a.number release)

-- a place that one of these partners has
abbrev pub held_by : (Partner → Bool) → Holding → Bool
held_by mine Free = false
held_by mine (Held d ph p) = mine p

abbrev pub place_of : (Partner → Bool) → Place → Bool
place_of mine place = held_by mine place.holding

-- a place that one of them has and that is not Connecting
abbrev pub is_connecting : Phase → Bool
is_connecting = by_phase true false false false false

abbrev pub held_past : (Partner → Bool) → Holding → Bool
held_past mine Free = false
held_past mine (Held d ph p) = mine p && not (is_connecting ph)

abbrev pub place_past : (Partner → Bool) → Place → Bool
place_past mine place = held_past mine place.holding
