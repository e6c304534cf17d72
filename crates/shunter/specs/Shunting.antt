-- Request Q-10: one step of the shunter, over what the box's step gives.
-- Defines: Shunting, modem_missing, place_waits, shunt_refused_at, shunt_refused, kept, waits_for, own_request, held_back, newcomers,
-- line_up,
-- free_modems, served, unserved, first_requests, goes_out, line_of, sends, is_call_of, all_held, call_too_many, passed, up_lost_timeout,
-- wakes, stirs_waiting, on_concern, concern_in, core_step, applying, shunt, shunted, sent_buffer, sent_of.
use Rattle.std.specs.Prelude.{ℕ, ◌-◌, Bool, true, false, cond, ◌&&◌, ◌||◌, not, List, [], ◌∷◌, ◌++◌, map, eqb, leb}
use Rattle.std.specs.Prelude.{length, take, drop}
use Rattle.wire.specs.Refusals as refusal
use Rattle.record.specs.Partners.{same_partner}
use Rattle.record.specs.Records.{reading}
use Rattle.record.specs.declared.partner.Partner.{Partner}
use Rattle.record.specs.declared.event.PartnerEvent.{PartnerEvent}
use Rattle.record.specs.declared.event.PartnerEvent.TheVariants.{Drop, Up, Loss, Timeout, Version, Ended}
use Rattle.place.specs.Places.{is_free, partner_of, holds}
use Rattle.place.specs.Table.{request, release}
use Rattle.place.specs.declared.place.Place.{Place}
use Rattle.unit.specs.Forms.{listed}
use Rattle.unit.specs.OnRecords.{action_room, on_record, written}
use Rattle.unit.specs.Standings.{Concern, nobody, order_to, call_of, naming, concern_of}
use Rattle.unit.specs.States.{first, nowhere}
use Rattle.unit.specs.Steps.{Outcome, act}
use Rattle.unit.specs.declared.answer.Action.{Action}
use Rattle.unit.specs.declared.search.Standing.{Standing}
use Rattle.shunter.specs.Queues.{modem_count, waiting, queued, place_at, modems_held, ready}
use Rattle.shunter.specs.declared.state.Shunter.{Shunter}
use Rattle.shunter.specs.declared.answer.Shunted.{Shunted}
use Rattle.shunter.specs.declared.answer.Sent.{Sent}

-- what a step of the shunter gives: 0 or the refusal, the next state, the actions that go out, and the place and phase that it carries
pub record Shunting : Type 0 where
  pub code : ℕ
  pub shunter : Shunter
  pub actions : List Action
  pub standing : Standing

-- "17, last, a 38 that the core would accept with no modem free"
abbrev pub modem_missing : ℕ
modem_missing = 17

-- "18, up, lost or timeout for a waiting place"
abbrev pub place_waits : ℕ
place_waits = 18

-- a refused step changes nothing, the queue included
abbrev pub shunt_refused_at : ℕ → Standing → Shunter → Shunting
shunt_refused_at r w h = record { code = r; shunter = h; actions = []; standing = w }

abbrev pub shunt_refused : ℕ → Shunter → Shunting
shunt_refused r h = shunt_refused_at r nowhere h

-- those that pass a test, in their order
unfoldable pub kept : {A : Type 0} → (A → Bool) → List A → List A
kept test [] = []
kept test (x ∷ xs) = cond (test x) (x ∷ kept test xs) (kept test xs)

-- a partner waits: it has one of the places that do
unfoldable pub waits_for : List Place → List ℕ → Partner → Bool
waits_for ps [] p = false
waits_for ps (i ∷ is) p = holds p (place_at ps i) || waits_for ps is p

-- "A newly ordered place joins the end of a queue and its 21 is held back"
abbrev pub own_request : Concern → Action → Bool
own_request nobody a = false
own_request (order_to p) a = same_partner p a.partner && eqb a.number request
own_request (call_of p) a = false
own_request (naming p e) a = false

-- "A waiting place that is released leaves the queue without any 22 going out"
abbrev pub held_back : (Partner → Bool) → Concern → Action → Bool
held_back waits c a = own_request c a || (waits a.partner && eqb a.number release)

-- the place that an accepted order takes, "the lowest-numbered free place"
abbrev pub newcomers : List Place → Concern → List ℕ
newcomers before nobody = []
newcomers before (order_to p) = first is_free before ∷ []
newcomers before (call_of p) = []
newcomers before (naming p e) = []

-- who waits when the core's step is done: those that still have their places, then the newly ordered one
unfoldable pub line_up : List Place → List ℕ → Concern → List Place → List ℕ
line_up before is c after = kept (λ i. not (is_free (place_at after i))) is ++ newcomers before c

-- the modems that nobody holds then
abbrev pub free_modems : List Place → List ℕ → ℕ
free_modems ps line = modem_count - modems_held ps line

-- "each free modem goes to the place waiting longest"
abbrev pub served : List Place → List ℕ → List ℕ
served ps line = take (free_modems ps line) line

-- those that go on waiting
abbrev pub unserved : List Place → List ℕ → List ℕ
unserved ps line = drop (free_modems ps line) line

-- "whose 21 follows them"
abbrev pub first_requests : List Place → List ℕ → List Action
first_requests ps is = map (λ i. act (partner_of (place_at ps i)) request) is

-- "When the core's other actions of the step are out, each free modem goes to the place waiting longest, whose 21 follows them"
abbrev pub goes_out : (Partner → Bool) → Concern → List Action → List Place → List ℕ → List Action
goes_out waits c acts ps line = kept (λ a. not (held_back waits c a)) acts ++ first_requests ps (served ps line)

-- who waits when an outcome of the core is there, and what an accepted step then gives
abbrev pub line_of : Shunter → Concern → Outcome → List ℕ
line_of h c o = line_up h.state.places (waiting h.queue) c o.state.places

unfoldable pub sends : Shunter → Concern → Outcome → Shunting
sends h c o =
    record {
      code = refusal.accepted;
      shunter = record { state = o.state; queue = queued (unserved o.state.places (line_of h c o)) };
      actions = goes_out (waits_for h.state.places (waiting h.queue)) c o.actions o.state.places (line_of h c o);
      standing = nowhere;
    }

-- message 38
abbrev pub is_call_of : Concern → Bool
is_call_of nobody = false
is_call_of (order_to p) = false
is_call_of (call_of p) = true
is_call_of (naming p e) = false

-- no modem is free
abbrev pub all_held : Shunter → Bool
all_held h = leb modem_count (modems_held h.state.places (waiting h.queue))

-- an accepted call with no modem free
abbrev pub call_too_many : Shunter → Concern → Bool
call_too_many h c = is_call_of c && all_held h

-- the core's own refusal; 17; else what is sent
unfoldable pub passed : Shunter → Concern → Outcome → Shunting
passed h c o =
    cond (eqb o.code refusal.accepted) (cond (call_too_many h c) (shunt_refused modem_missing h) (sends h c o))
    (shunt_refused_at o.code o.standing h)

-- "up, lost or timeout"
abbrev pub up_lost_timeout : PartnerEvent → Bool
up_lost_timeout Drop = false
up_lost_timeout Up = true
up_lost_timeout Loss = true
up_lost_timeout Timeout = true
up_lost_timeout (Version v) = false
up_lost_timeout Ended = false

-- one of these that names one of some partners
abbrev pub wakes : (Partner → Bool) → Concern → Bool
wakes mine nobody = false
wakes mine (order_to p) = false
wakes mine (call_of p) = false
wakes mine (naming p e) = mine p && up_lost_timeout e

-- or a partner that waits
abbrev pub stirs_waiting : Shunter → Concern → Bool
stirs_waiting h c = wakes (waits_for h.state.places (waiting h.queue)) c

-- 18 before the core's step on the event; a record that does not read as an event concerns nobody
unfoldable pub on_concern : Shunter → Concern → Outcome → Shunting
on_concern h c o =
    cond (stirs_waiting h c) (shunt_refused place_waits h) (passed h c o)

-- whom a record concerns, as the box reads it
abbrev pub concern_in : Shunter → List ℕ → Concern
concern_in h bytes = concern_of h.state.last (reading bytes)

-- the core's step on it, given 20 bytes for its actions
abbrev pub core_step : Shunter → List ℕ → Outcome
core_step h bytes = on_record h.state bytes action_room

-- "11 also for a queue or holding that breaks these rules", then what the record gives
unfoldable pub applying : Shunter → List ℕ → Shunting
applying h bytes =
    cond (ready h) (on_concern h (concern_in h bytes) (core_step h bytes)) (shunt_refused refusal.not_sound h)

-- "Step: 10, 11, ..": room is the length of the action buffer
unfoldable pub shunt : Shunter → List ℕ → ℕ → Shunting
shunt h bytes room = cond (leb action_room room) (applying h bytes) (shunt_refused refusal.no_room h)

-- a shunting as the code holds it
unfoldable pub shunted : Shunting → Shunted
shunted o = record { code = o.code; shunter = o.shunter; actions = listed o.actions; standing = o.standing }

-- "An accepted call writes only its actions ..; later bytes stay"
abbrev pub sent_buffer : Shunter → List ℕ → List ℕ → List ℕ
sent_buffer h bytes buffer = written (shunt h bytes (length buffer)).actions buffer

-- what the step on bytes answers beside the buffer
unfoldable pub sent_of : Shunting → Sent
sent_of o = record { code = o.code; shunter = o.shunter; count = length o.actions; standing = o.standing }
