-- Cross-checks only: nobody has to believe what stands here.
-- Sums over histories of the shunter: orders and first 21s of a partner, what is sent and what goes out, releases.
-- Defines: order_of, orders_to, firsts_to, left_waiting, shunter_sent, refusals, went_out, releasing, released_by, rows_in, cold_reached,
-- request_to, release_to, call_by, accepts, sent_some, modem_after, modem_seen, partner_waits, partner_modem.
use Rattle.std.specs.Prelude.{ℕ, zero, suc, Bool, true, false, cond, ◌&&◌, ◌||◌, not, List, [], ◌∷◌, ◌++◌, eqb, length}
use Rattle.std.specs.Prelude.{take, drop, leb}
use Rattle.wire.specs.Refusals.{accepted}
use Rattle.record.specs.Partners.{same_partner}
use Rattle.record.specs.Records.{mission_ended}
use Rattle.record.specs.declared.partner.Partner.{Partner}
use Rattle.record.specs.declared.event.PartnerEvent.TheVariants.{Drop, Up, Loss, Timeout, Version, Ended}
use Rattle.record.specs.declared.event.Event.{Event}
use Rattle.record.specs.declared.event.Event.TheVariants.{Level, Mission, Mode, Hole, Order, EndAll, Call, Named}
use Rattle.record.specs.Readings.{Reading}
use Rattle.record.specs.Readings.{Meant, Refused}
use Rattle.place.specs.Places.{holds}
use Rattle.unit.specs.Kept.{count}
use Rattle.wire.specs.Bytes.{as_bit}
use Rattle.unit.specs.OnRecords.{action_room}
use Rattle.unit.specs.Standings.{Concern, nobody, order_to, call_of, naming}
use Rattle.unit.specs.States.{some}
use Rattle.unit.specs.declared.answer.Action.{Action}
use Rattle.shunter.specs.Shunting.{shunt}
use Rattle.shunter.specs.declared.state.Shunter.{Shunter}
use Rattle.shunter.specs.ShunterHistories.{shunter_sum, reached}
use Rattle.record.specs.Takes.{taken, on_taken}
use Rattle.place.specs.declared.limits.Limits.{Limits}
use Rattle.shunter.specs.Queues.{cold_shunter}
use Rattle.record.specs.Records.{reading}
use Rattle.place.specs.Table.{request, release}
use Rattle.unit.specs.Standings.{concern_of}
use Rattle.shunter.specs.Queues.{waiting}
use Rattle.shunter.specs.Shunting.{Shunting, waits_for}

-- a 21 and a 22 for a partner
abbrev pub request_to : Partner → Action → Bool
request_to p a = same_partner p a.partner && eqb a.number request

abbrev pub release_to : Partner → Action → Bool
release_to p a = same_partner p a.partner && eqb a.number release

-- some action passes a test
abbrev pub sent_some : (Action → Bool) → Shunting → Bool
sent_some test o = leb 1 (count test o.actions)

-- a call 38 of a partner
abbrev pub call_by : Partner → Concern → Bool
call_by p nobody = false
call_by p (order_to q) = false
call_by p (call_of q) = same_partner p q
call_by p (naming q e) = false

-- a step that accepts such a record
abbrev pub accepts : (Concern → Bool) → Shunter → List ℕ → Shunting → Bool
accepts test h bytes o = test (concern_of h.state.last (reading bytes)) && eqb o.code accepted

-- "A place needs a modem from its first 21, or from its 38, until its 22": read from what went out and from the calls that were accepted
abbrev pub modem_after : Partner → Bool → Shunter → List ℕ → Shunting → Bool
modem_after p had h bytes o = (had || (sent_some (request_to p) o || accepts (call_by p) h bytes o)) && not (sent_some (release_to p) o)

unfoldable pub modem_seen : Partner → Bool → Shunter → List (List ℕ) → Bool
modem_seen p had h [] = had
modem_seen p had h (bytes ∷ history) =
    modem_seen p (modem_after p had h bytes (shunt h bytes action_room)) (shunt h bytes action_room).shunter history

-- a partner that has a place waits for a modem, or has one
abbrev pub partner_waits : Partner → Shunter → Bool
partner_waits p h = waits_for h.state.places (waiting h.queue) p

abbrev pub partner_modem : Partner → Shunter → Bool
partner_modem p h = some (holds p) h.state.places && not (partner_waits p h)

-- an order to a partner; one with 16,383 is the one's that is meant by it at that point
abbrev pub order_of : Partner → Concern → Bool
order_of p nobody = false
order_of p (order_to q) = same_partner p q
order_of p (call_of q) = false
order_of p (naming q e) = false

-- the orders to a partner that were accepted
abbrev pub orders_to : Partner → Shunter → List (List ℕ) → ℕ
orders_to p = shunter_sum (λ h bytes o. as_bit (accepts (order_of p) h bytes o))

-- the 21s that went out for a partner that waited, or was ordered in that very step: its first ones
abbrev pub firsts_to : Partner → Shunter → List (List ℕ) → ℕ
firsts_to p = shunter_sum (λ h bytes o. cond (partner_waits p h || accepts (order_of p) h bytes o) (count (request_to p) o.actions) 0)

-- how often it left the queue with its place
abbrev pub left_waiting : Partner → Shunter → List (List ℕ) → ℕ
left_waiting p = shunter_sum (λ h bytes o. as_bit (partner_waits p h && not (some (holds p) o.shunter.state.places)))

-- the actions that went out, in their order, and how many
unfoldable pub shunter_sent : Shunter → List (List ℕ) → List Action
shunter_sent h [] = []
shunter_sent h (bytes ∷ history) =
    (shunt h bytes action_room).actions ++ shunter_sent (shunt h bytes action_room).shunter history

-- the records that were refused
abbrev pub refusals : Shunter → List (List ℕ) → ℕ
refusals = shunter_sum (λ h bytes o. cond (eqb o.code accepted) 0 1)

abbrev pub went_out : Shunter → List (List ℕ) → ℕ
went_out = shunter_sum (λ h bytes o. length o.actions)

-- "by drop, end all or mission 0, and by nothing else"
abbrev pub releasing : Partner → Event → Bool
releasing p (Level level manual) = false
releasing p (Mission mission) = eqb mission mission_ended
releasing p Mode = false
releasing p (Hole entered) = false
releasing p (Order q accepting cause) = false
releasing p EndAll = true
releasing p (Call q) = false
releasing p (Named q Drop) = same_partner p q
releasing p (Named q Up) = false
releasing p (Named q Loss) = false
releasing p (Named q Timeout) = false
releasing p (Named q (Version v)) = false
releasing p (Named q Ended) = false

-- a record that does so
abbrev pub released_by : Partner → Reading → Bool
released_by p (Meant e) = releasing p e
released_by p (Refused r) = false

-- the records that a run of so many takes off a log
unfoldable pub rows_in : ℕ → List ℕ → List (List ℕ)
rows_in zero log = []
rows_in (suc budget) log = on_taken (taken log) (λ stop. []) (λ k. take k log ∷ rows_in budget (drop k log))

-- the records that reach the core, from a cold start of the shunter
abbrev pub cold_reached : Limits → List (List ℕ) → List (List ℕ)
cold_reached l history = reached (cold_shunter l).shunter history
