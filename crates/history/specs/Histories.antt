-- Document 01, "Worth of each promise": histories, and what demand 3 counts in them.
-- A history is a row of event records, any bytes, each given 20 bytes for its actions. Everything is counted from the defined steps.
-- Defines: after, summed, is_order, is_call, is_loss, accepted_as, orders, calls, losses, actions, is_release, releases,
-- places_held, names, is_timeout, timeout_for, silent, timeouts, holds_place, waiting_phase, waits_at,
-- waits, release_of, releases_of, actions_of, orders_of, calls_of, losses_of, sent.
use Rattle.std.specs.Prelude.{ℕ, ◌+◌, Bool, true, false, ◌&&◌, ◌||◌, not, List, [], ◌∷◌, ◌++◌, eqb, length}
use Rattle.record.specs.Events.{by_event}
use Rattle.record.specs.Partners.{same_partner}
use Rattle.record.specs.Records.{kind_order, kind_loss, kind_message, message_call, reading}
use Rattle.wire.specs.Bytes.{byte, as_bit}
use Rattle.wire.specs.Sums.{sum}
use Rattle.wire.specs.Refusals.{accepted}
use Rattle.record.specs.declared.partner.Partner.{Partner}
use Rattle.record.specs.declared.event.PartnerEvent.{PartnerEvent}
use Rattle.place.specs.Places.{by_phase, is_free, holds, on_holding}
use Rattle.place.specs.Table.{release}
use Rattle.place.specs.declared.phase.Phase.{Phase}
use Rattle.place.specs.declared.place.Place.{Place}
use Rattle.unit.specs.Steps.{Outcome}
use Rattle.unit.specs.Kept.{count}
use Rattle.unit.specs.OnRecords.{action_room, on_record}
use Rattle.unit.specs.Standings.{by_concern, concern_of}
use Rattle.unit.specs.declared.last.Last.TheVariants.{Unknown}
use Rattle.unit.specs.declared.state.State.{State}
use Rattle.unit.specs.declared.answer.Action.{Action}
use Rattle.unit.specs.States.{some}

-- the state after a history: "a row of event records, each given 20 bytes for its actions"
unfoldable pub after : State → List (List ℕ) → State
after s [] = s
after s (bytes ∷ history) = after (on_record s bytes action_room).state history

-- the sum over a history of what each record counts for, by the state that it meets and its outcome
unfoldable pub summed : (State → List ℕ → Outcome → ℕ) → State → List (List ℕ) → ℕ
summed f s [] = 0
summed f s (bytes ∷ history) = f s bytes (on_record s bytes action_room) + summed f (on_record s bytes action_room).state history

-- kind 5; kind 11 with number 38; kind 9: read from the record's bytes
abbrev pub is_order : List ℕ → Bool
is_order bytes = eqb (byte bytes 0) kind_order

abbrev pub is_call : List ℕ → Bool
is_call bytes = eqb (byte bytes 0) kind_message && eqb (byte bytes 5) message_call

abbrev pub is_loss : List ℕ → Bool
is_loss bytes = eqb (byte bytes 0) kind_loss

-- accepted means code 0
abbrev pub accepted_as : (State → List ℕ → Bool) → State → List ℕ → Outcome → ℕ
accepted_as test s bytes o = as_bit (test s bytes && eqb o.code accepted)

-- the accepted orders, calls 38 and losses of a history
abbrev pub orders : State → List (List ℕ) → ℕ
orders = summed (accepted_as (λ s. is_order))

abbrev pub calls : State → List (List ℕ) → ℕ
calls = summed (accepted_as (λ s. is_call))

abbrev pub losses : State → List (List ℕ) → ℕ
losses = summed (accepted_as (λ s. is_loss))

-- the actions of a history
abbrev pub actions : State → List (List ℕ) → ℕ
actions = summed (λ s bytes o. length o.actions)

-- "releases the actions 22"
abbrev pub is_release : Action → Bool
is_release a = eqb a.number release

abbrev pub releases : State → List (List ℕ) → ℕ
releases = summed (λ s bytes o. count is_release o.actions)

-- the places that hold a partner
unfoldable pub places_held : List Place → ℕ
unfolding sum
places_held ps = sum (λ p. as_bit (not (is_free p))) ps

-- a record names a partner when it reads as an event that carries that type and number; Q-2: an order with 16,383 names whoever is
-- meant by it at that point
abbrev pub names : Partner → State → List ℕ → Bool
names p s bytes = by_concern false (same_partner p) (same_partner p) (λ q f. same_partner p q) (concern_of s.last (reading bytes))

abbrev pub is_timeout : PartnerEvent → Bool
is_timeout = by_event false false false true (λ v. false) false

-- a timeout for a partner; whom an order means plays no part in it
abbrev pub timeout_for : Partner → List ℕ → Bool
timeout_for p bytes =
    by_concern false (λ q. false) (λ q. false) (λ q f. same_partner p q && is_timeout f) (concern_of Unknown (reading bytes))

-- "is from then on named by nothing but timeouts"
unfoldable pub silent : Partner → State → List (List ℕ) → Bool
silent p s [] = true
silent p s (bytes ∷ history) =
    (not (names p s bytes) || timeout_for p bytes) && silent p (on_record s bytes action_room).state history

unfoldable pub timeouts : Partner → List (List ℕ) → ℕ
unfolding sum
timeouts p history = sum (λ bytes. as_bit (timeout_for p bytes)) history

-- the partner holds a place
abbrev pub holds_place : Partner → List Place → Bool
holds_place p = some (holds p)

-- "A partner that waits (any phase but Open)"
abbrev pub waiting_phase : Phase → Bool
waiting_phase = by_phase true true false true true

abbrev pub waits_at : Partner → Place → Bool
waits_at p place = on_holding false (λ d ph q. same_partner p q && waiting_phase ph) place.holding

abbrev pub waits : Partner → List Place → Bool
waits p = some (waits_at p)

-- the releases of one partner
abbrev pub release_of : Partner → Action → Bool
release_of p a = is_release a && same_partner p a.partner

abbrev pub releases_of : Partner → State → List (List ℕ) → ℕ
releases_of p = summed (λ s bytes o. count (release_of p) o.actions)

-- what one partner counts for: the actions for it, and the accepted orders, calls 38 and losses that name it
abbrev pub actions_of : Partner → State → List (List ℕ) → ℕ
actions_of p = summed (λ s bytes o. count (λ a. same_partner p a.partner) o.actions)

abbrev pub orders_of : Partner → State → List (List ℕ) → ℕ
orders_of p = summed (accepted_as (λ s bytes. names p s bytes && is_order bytes))

abbrev pub calls_of : Partner → State → List (List ℕ) → ℕ
calls_of p = summed (accepted_as (λ s bytes. names p s bytes && is_call bytes))

abbrev pub losses_of : Partner → State → List (List ℕ) → ℕ
losses_of p = summed (accepted_as (λ s bytes. names p s bytes && is_loss bytes))

-- the actions of a history, in their order
unfoldable pub sent : State → List (List ℕ) → List Action
sent s [] = []
sent s (bytes ∷ history) = (on_record s bytes action_room).actions ++ sent (on_record s bytes action_room).state history
