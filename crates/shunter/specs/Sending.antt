-- Only private contracts use what stands here: an accepted step as the code carries it out.
-- Defines: outward, still_held, first_request, joiner_of, line_after, sent_with, line_for, sent_own, Fits, Good, AnsweredOn.
use Rattle.std.specs.Prelude.{ℕ, ◌-◌, ◌≤◌, ◌≡◌, Bool, false, cond, ◌&&◌, not, List, ◌++◌, eqb, length}
use Rattle.std.specs.Prelude.{take}
use Rattle.wire.specs.Refusals.{accepted}
use Rattle.record.specs.declared.partner.Partner.{Partner}
use Rattle.place.specs.Places.{is_free, partner_of}
use Rattle.place.specs.Table.{request, release}
use Rattle.place.specs.declared.place.Place.{Place}
use Rattle.unit.specs.Forms.{most_actions, packed}
use Rattle.unit.specs.Standings.{Concern, nobody, order_to, call_of, naming}
use Rattle.unit.specs.States.{first, nowhere}
use Rattle.unit.specs.Steps.{Outcome, act}
use Rattle.unit.specs.declared.answer.Action.{Action}
use Rattle.unit.specs.declared.answer.Answer.{Answer}
use Rattle.unit.specs.declared.state.State.{State}
use Rattle.shunter.specs.Queues.{modem_count, no_place, somebody, waiting, queued, place_at}
use Rattle.shunter.specs.Shunting.{Shunting, kept, waits_for, newcomers, served}
use Rattle.shunter.specs.Shunting.{unserved, first_requests, sends, is_call_of, all_held, stirs_waiting, on_concern, shunted}
use Rattle.shunter.specs.declared.answer.Shunted.{Shunted}
use Rattle.shunter.specs.declared.state.Shunter.{Shunter}

-- the actions but the releases of partners that wait
abbrev pub outward : (Partner → Bool) → List Action → List Action
outward waits acts = kept (λ a. not (waits a.partner && eqb a.number release)) acts

-- a place where it is still held; 4 where it is free
abbrev pub still_held : List Place → ℕ → ℕ
still_held after i = cond (is_free (place_at after i)) no_place i

-- the first request of a place
abbrev pub first_request : List Place → ℕ → Action
first_request ps i = act (partner_of (place_at ps i)) request

-- the place that joins; 4 is none
abbrev pub joiner_of : List Place → Concern → ℕ
joiner_of before nobody = no_place
joiner_of before (order_to p) = first is_free before
joiner_of before (call_of p) = no_place
joiner_of before (naming p e) = no_place

-- who waits after the core's step, with one more place or none
abbrev pub line_after : List ℕ → List Place → ℕ → List ℕ
line_after is after joiner = kept (λ i. not (is_free (place_at after i))) is ++ somebody joiner

-- a step that is accepted, of the core's actions but the order's own
unfoldable pub sent_with : Shunter → State → List Action → List ℕ → Shunting
sent_with h next acts line =
    record {
      code = accepted;
      shunter = record { state = next; queue = queued (unserved next.places line) };
      actions =
          outward (waits_for h.state.places (waiting h.queue)) acts
          ++ first_requests next.places (served next.places line);
      standing = nowhere;
    }

-- the line, and the step of the core's actions less the order's own, as many as join
abbrev pub line_for : Shunter → Concern → Outcome → List ℕ
line_for h c o = line_after (waiting h.queue) o.state.places (joiner_of h.state.places c)

abbrev pub sent_own : Shunter → Concern → Outcome → Shunting
sent_own h c o = sent_with h o.state (take (length o.actions - length (newcomers h.state.places c)) o.actions) (line_for h c o)

-- the code has room for it
abbrev pub Fits : Shunting → List ℕ → Type 0
Fits o line = (length o.actions ≤ most_actions) × (length line ≤ modem_count)

-- what is known of a step that 17 and 18 do not refuse
abbrev pub Good : Shunter → Concern → Outcome → Type 0
Good h c o =
    (length o.actions ≤ most_actions)
    × (stirs_waiting h c ≡ false
    → (is_call_of c && all_held h) ≡ false
    → o.code ≡ accepted
    → (sends h c o ≡ sent_own h c o) × Fits (sent_own h c o) (line_for h c o))

-- what the code answers to an event, of the core's answer to it
abbrev pub AnsweredOn : Shunter → Concern → Answer → Shunted → Type 0
AnsweredOn h c answer result = (o : Outcome) → answer ≡ packed o → Good h c o → result ≡ shunted (on_concern h c o)
