-- Cross-checks only: rules told a second time.
-- What words of the shunter's promises mean, case by case.
-- Proves: ahead-each, releasing-each, releasing-mission, released_by-unread, up_lost_timeout-each, stirs_waiting-each, call_too_many-each,
-- just_ordered-each, ready-means, releases-sent, went-sent.
use mathlib.Core.Path.{◌≡◌, refl, ap}
use mathlib.Core.Bool.{Bool, true, false, cond, ◌&&◌}
use mathlib.Core.Logic.{◌↔◌}
use mathlib.Core.List.{List, [], ◌∷◌}
use Prim.Native.Nat.{ℕ, suc, ◌≤◌}
use native.Mathlib.Omega.{arith}
use lib.Dec.{leb}
use lib.ListN.{length, length-append}
use borrow.Author.Tests.{eq-eqb, ne_eqb}
use Rattle.record.specs.Partners.{same_partner}
use Rattle.record.specs.Records.{mission_ended}
use Rattle.record.specs.declared.partner.Partner.{Partner}
use Rattle.record.specs.declared.event.Cause.{Cause}
use Rattle.record.specs.declared.event.PartnerEvent.{PartnerEvent}
use Rattle.record.specs.declared.event.PartnerEvent.TheVariants.{Drop, Up, Loss, Timeout, Version, Ended}
use Rattle.record.specs.declared.event.Event.TheVariants.{Level, Mission, Mode, Hole, Order, EndAll, Call, Named}
use Rattle.record.specs.Readings.{Refused}
use Rattle.wire.proofs.Tests.{and_left, and_right, and_both}
use Rattle.place.specs.Places.{vacant, seat}
use Rattle.place.specs.Table.{first_try}
use Rattle.place.specs.declared.phase.Phase.TheVariants.{Connecting, Contacting, Open, Lost, Ending}
use Rattle.place.specs.declared.place.Direction.{Direction}
use Rattle.place.specs.declared.place.Direction.TheVariants.{Outgoing, Incoming}
use Rattle.unit.specs.Kept.{count}
use Rattle.unit.specs.OnRecords.{action_room}
use Rattle.unit.specs.Standings.{nobody, order_to, call_of, naming}
use Rattle.unit.specs.States.{sound}
use Rattle.unit.proofs.Counts.{count-append}
use Rattle.history.specs.Histories.{is_release}
use Rattle.shunter.specs.Queues.{waiting, in_order, every, distinct, place_at, just_ordered, modems_held, queue_ok, rules_hold, ready}
use Rattle.shunter.specs.Shunting.{call_too_many, up_lost_timeout, stirs_waiting, shunt}
use Rattle.shunter.specs.ShunterHistories.{shunter_sum, modem_releases, ahead}
use Rattle.shunter.specs.ShunterSums.{partner_waits}
use Rattle.shunter.specs.ShunterSums.{shunter_sent, went_out, releasing, released_by}
use Rattle.shunter.specs.declared.state.Shunter.{Shunter}
use Rattle.shunter.proofs.Ready.{facts-queue, ready-sound, ready-queued}

-- nobody stands in front of the first, or in an empty queue; one more in front of one that is behind another
-- meaning
pub ahead-each : (i j : ℕ) (js : List ℕ)
    → (ahead i [] ≡ 0)
    × (ahead i (i ∷ js) ≡ 0)
    × ((i ≡ j → ⊥) → ahead i (j ∷ js) ≡ suc (ahead i js))
unfolding ahead
ahead-each i j js = (
  refl,
  ap (λ b. cond b 0 (suc (ahead i js))) (eq-eqb i i refl),
  λ other. ap (λ b. cond b 0 (suc (ahead i js))) (ne_eqb i j other),
)

-- a waiting place is released by an end of all, and by its own partner's drop; by none of the others
-- meaning
pub releasing-each : (p q : Partner) (level v : ℕ) (flag : Bool) (cause : Cause)
    → (releasing p EndAll ≡ true)
    × (releasing p (Named q Drop) ≡ same_partner p q)
    × (releasing p (Level level flag)
    ∷ releasing p Mode
    ∷ releasing p (Hole flag)
    ∷ releasing p (Order q flag cause)
    ∷ releasing p (Call q)
    ∷ releasing p (Named q Up)
    ∷ releasing p (Named q Loss)
    ∷ releasing p (Named q Timeout)
    ∷ releasing p (Named q (Version v))
    ∷ releasing p (Named q Ended)
    ∷ []
    ≡ false ∷ false ∷ false ∷ false ∷ false ∷ false ∷ false ∷ false ∷ false ∷ false ∷ [])
releasing-each p q level v flag cause = (refl, refl, refl)

-- by mission 0, and by no other
-- meaning
pub releasing-mission : (p : Partner) (mission : ℕ)
    → (releasing p (Mission 0) ≡ true) × ((mission ≡ 0 → ⊥) → releasing p (Mission mission) ≡ false)
releasing-mission p mission = (refl, λ other. ne_eqb mission mission_ended other)

-- and by no record that is refused as it reads
-- meaning
pub released_by-unread : (p : Partner) (r : ℕ) → released_by p (Refused r) ≡ false
released_by-unread p r = refl

-- "up, lost or timeout"
-- meaning
pub up_lost_timeout-each : (v : ℕ)
    → up_lost_timeout Drop
    ∷ up_lost_timeout Up
    ∷ up_lost_timeout Loss
    ∷ up_lost_timeout Timeout
    ∷ up_lost_timeout (Version v)
    ∷ up_lost_timeout Ended
    ∷ []
    ≡ false ∷ true ∷ true ∷ true ∷ false ∷ false ∷ []
up_lost_timeout-each v = refl

-- an up, lost or timeout of a partner that waits, and nothing else, gets 18
-- meaning
pub stirs_waiting-each : (h : Shunter) (p : Partner) (e : PartnerEvent)
    → (stirs_waiting h (naming p e) ≡ (partner_waits p h && up_lost_timeout e))
    × (stirs_waiting h nobody ≡ false)
    × (stirs_waiting h (order_to p) ≡ false)
    × (stirs_waiting h (call_of p) ≡ false)
stirs_waiting-each h p e = (refl, refl, refl, refl)

-- a call with two modems held, and nothing else, gets 17
-- meaning
pub call_too_many-each : (h : Shunter) (p : Partner) (e : PartnerEvent)
    → (call_too_many h (call_of p) ≡ leb 2 (modems_held h.state.places (waiting h.queue)))
    × (call_too_many h nobody ≡ false)
    × (call_too_many h (order_to p) ≡ false)
    × (call_too_many h (naming p e) ≡ false)
call_too_many-each h p e = (refl, refl, refl, refl)

-- "Connecting, outgoing, tries 1", and nothing else, is as an order leaves a place
-- meaning
pub just_ordered-each : (d : Direction) (t : ℕ) (p : Partner)
    → (just_ordered (seat Outgoing (Connecting 1) p) ≡ true)
    × (just_ordered (seat Incoming (Connecting 1) p) ≡ false)
    × ((t ≡ 1 → ⊥) → just_ordered (seat Outgoing (Connecting t) p) ≡ false)
    × (just_ordered (seat Outgoing (Contacting t) p)
    ∷ just_ordered (seat Outgoing Open p)
    ∷ just_ordered (seat Outgoing (Lost t) p)
    ∷ just_ordered (seat Outgoing (Ending t) p)
    ∷ just_ordered vacant
    ∷ []
    ≡ false ∷ false ∷ false ∷ false ∷ false ∷ [])
just_ordered-each d t p = (refl, refl, (λ other. ne_eqb t first_try other), refl)

-- a sound shunter: a sound box; nobody in front of somebody; each that waits as its order left it, and waiting once; at most two modems
-- held, and both where one waits
-- meaning
pub ready-means : (h : Shunter)
    → (ready h ≡ true)
    ↔ ((sound h.state ≡ true)
    × (in_order h.queue ≡ true)
    × (every (λ i. just_ordered (place_at h.state.places i)) (waiting h.queue) ≡ true)
    × (distinct (waiting h.queue) ≡ true)
    × (modems_held h.state.places (waiting h.queue) ≤ 2)
    × (1 ≤ length (waiting h.queue) → modems_held h.state.places (waiting h.queue) ≡ 2))
unfolding ready rules_hold
ready-means h = (
  (λ good.
      let rules = and_right (sound h.state) (in_order h.queue && queue_ok h.state.places (waiting h.queue)) good in
      let facts = ready-queued h good in (
        ready-sound h good,
        and_left (in_order h.queue) (queue_ok h.state.places (waiting h.queue)) rules,
        facts.fresh,
        facts.apart,
        facts.most,
        facts.busy,
      )),
  (λ facts.
      and_both (sound h.state) (in_order h.queue && queue_ok h.state.places (waiting h.queue)) facts.0
      (and_both (in_order h.queue) (queue_ok h.state.places (waiting h.queue)) facts.1
      (facts-queue h.state.places (waiting h.queue)
      (record { fresh = facts.2; apart = facts.3; most = facts.4; busy = facts.5 })))),
)

-- the modem releases of a history are the 22s of what went out, and as many actions went out as stand there
-- meaning
pub releases-sent : (h : Shunter) (history : List (List ℕ)) → modem_releases h history ≡ count is_release (shunter_sent h history)
unfolding shunter_sum shunter_sent count
releases-sent h [] = refl
releases-sent h (bytes ∷ history) =
    let x = shunt h bytes action_room in
    let rest = releases-sent x.shunter history in
    let both = count-append is_release x.actions (shunter_sent x.shunter history) in
    omega arith

-- meaning
pub went-sent : (h : Shunter) (history : List (List ℕ)) → went_out h history ≡ length (shunter_sent h history)
unfolding shunter_sum shunter_sent
went-sent h [] = refl
went-sent h (bytes ∷ history) =
    let x = shunt h bytes action_room in
    let rest = went-sent x.shunter history in
    let both = length-append x.actions (shunter_sent x.shunter history) in
    omega arith
