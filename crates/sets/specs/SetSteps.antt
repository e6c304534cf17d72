-- Request Q-7: one step of the engine of sets, for every kind of event.
-- Defines: SetOutcome, set_refused_at, set_refused, set_done, set_noted, with_six, tried, in_sessions, shuts, goers, stayers, closed_six,
-- sent_all,
-- closing_sent, set_closed, with_member, moved, set_recalling, set_moved, set_named, new_member, admitted_to, set_joined, set_ordered_to,
-- set_ordered, set_received, set_called, set_step.
use Rattle.std.specs.Prelude.{ℕ, Bool, true, false, cond, ◌&&◌, not, List, [], ◌∷◌, ◌++◌, map, eqb, ltb}
use Rattle.wire.specs.Refusals as refusal
use Rattle.record.specs.Partners.{is_rbc, reserved}
use Rattle.record.specs.Records.{mission_ended}
use Rattle.record.specs.declared.partner.Partner.{Partner}
use Rattle.record.specs.declared.event.Cause.{Cause}
use Rattle.record.specs.declared.event.PartnerEvent.{PartnerEvent}
use Rattle.record.specs.declared.event.Event.{Event}
use Rattle.record.specs.declared.event.Event.TheVariants.{Level, Mission, Mode, Hole, Order, EndAll, Call, Named}
use Rattle.place.specs.Table.{request, release, terminate, established, first_try}
use Rattle.place.specs.declared.place.Direction.{Direction}
use Rattle.place.specs.declared.place.Direction.TheVariants.{Outgoing, Incoming}
use Rattle.place.specs.declared.turn.Closing.{Closing}
use Rattle.place.specs.declared.turn.Closing.TheVariants.{Every, Sessions, Nothing}
use Rattle.unit.specs.Lasts.{meant, recalled}
use Rattle.unit.specs.Steps.{act, mark_manual, mark_mode, mark_hole, hole_taken, in_force, spend, displaced}
use Rattle.unit.specs.declared.answer.Action.{Action}
use Rattle.unit.specs.declared.state.Train.{Train}
use Rattle.unit.specs.declared.state.Marks.{Marks}
use Rattle.sets.specs.Members.{most_members, session_tries, member_for, without, joining, those}
use Rattle.sets.specs.SixSets.{Six, Sets, set_in, with_set, size, whereabouts, phase_in, on_whereabouts}
use Rattle.sets.specs.Moves.{move_of, on_move, moves, sent_in}
use Rattle.sets.specs.declared.members.Member.{Member}
use Rattle.sets.specs.declared.names.SetName.{SetName}
use Rattle.sets.specs.declared.names.SetName.TheVariants.{Calling, Contacted, IncomingSessions, OutgoingSessions, LostSessions}
use Rattle.sets.specs.declared.names.SetName.TheVariants.{TerminatingSessions}
use Rattle.sets.specs.declared.moves.Move.{Move}

-- what a step gives: 0 or the refusal, the next state, the actions in their order, and the phase that it carries
pub record SetOutcome (A : Type 0) : Type 0 where
  pub code : ℕ
  pub state : A
  pub actions : List Action
  pub phase : ℕ

-- a refusal leaves the state as it was; of Q-6 the phase is said where the partner's is
abbrev pub set_refused_at : {A : Type 0} → ℕ → ℕ → A → SetOutcome A
set_refused_at r ph z = record { code = r; state = z; actions = []; phase = ph }

-- "every other answer carries place 4 and phase 0"
abbrev pub set_refused : {A : Type 0} → ℕ → A → SetOutcome A
set_refused r z = set_refused_at r 0 z

-- an accepted step
abbrev pub set_done : {A : Type 0} → A → List Action → SetOutcome A
set_done z acts = record { code = refusal.accepted; state = z; actions = acts; phase = 0 }

-- another train and other marks
abbrev pub set_noted : Sets → Train → Marks → Sets
set_noted z t m = record { limits = z.limits; train = t; marks = m; six = z.six; last = z.last }

-- other sets
abbrev pub with_six : Sets → Six → Sets
with_six z x = record { limits = z.limits; train = z.train; marks = z.marks; six = x; last = z.last }

-- a member with other tries: "a lost or terminating member keeps its direction"
abbrev pub tried : ℕ → Member → Member
tried t m = record { partner = m.partner; tries = t; direction = m.direction }

-- whom a closing is for: an end all for every member, of which terminating ones stay as they are; an order to an RBC that does not accept
-- them, for RBCs in session or lost
abbrev pub in_sessions : SetName → Bool
in_sessions Calling = false
in_sessions Contacted = false
in_sessions IncomingSessions = true
in_sessions OutgoingSessions = true
in_sessions LostSessions = true
in_sessions TerminatingSessions = false

abbrev pub shuts : Closing → SetName → Member → Bool
shuts Every w m = true
shuts Sessions w m = in_sessions w && is_rbc m.partner
shuts Nothing w m = false

-- the members of a set that a closing is for, and those that it is not for
abbrev pub goers : Closing → SetName → List Member → List Member
goers which w ms = those (shuts which w) ms

abbrev pub stayers : Closing → SetName → List Member → List Member
stayers which w ms = those (λ m. not (shuts which w m)) ms

-- 000: "terminating_sessions := terminating_sessions ∪ (RBC ∩ (incoming_sessions ∪ outgoing_sessions))"; calling, contacted and lost
-- ones leave, and terminating ones stay
unfoldable pub closed_six : Closing → Six → Six
closed_six which x =
    record {
      calling = stayers which Calling x.calling;
      contacted = stayers which Contacted x.contacted;
      incoming = stayers which IncomingSessions x.incoming;
      outgoing = stayers which OutgoingSessions x.outgoing;
      lost = stayers which LostSessions x.lost;
      terminating =
          x.terminating
          ++ map (tried first_try) (goers which IncomingSessions x.incoming ++ goers which OutgoingSessions x.outgoing);
    }

-- an action of this number for each of these members
abbrev pub sent_all : ℕ → List Member → List Action
sent_all number ms = map (λ m. act m.partner number) ms

-- "Connecting, Contacting or Lost gives 22 ..; Open gives 156"
unfoldable pub closing_sent : Closing → Six → List Action
closing_sent which x =
    sent_all release (goers which Calling x.calling)
    ++ (sent_all release (goers which Contacted x.contacted)
    ++ (sent_all terminate (goers which IncomingSessions x.incoming)
    ++ (sent_all terminate (goers which OutgoingSessions x.outgoing) ++ sent_all release (goers which LostSessions x.lost))))

unfoldable pub set_closed : Closing → Sets → SetOutcome Sets
set_closed which z = set_done (with_six z (closed_six which z.six)) (closing_sent which z.six)

-- a member enters a set, after those that stand there
abbrev pub with_member : SetName → Member → Six → Six
with_member w m x = with_set w (joining (set_in w x) m) x

-- a member that moves: it is taken out of its set, and put into the one that it enters
unfoldable pub moved : Partner → SetName → Move → Six → Six
moved p w mv x =
    let m : Member = member_for p (set_in w x) in
    let rest : Six = with_set w (without p (set_in w x)) x in
    on_move x rest (λ sent v t. with_member v (tried t m) rest) mv

-- Q-2: "the RBC of the most recent 159 sent to an RBC"
abbrev pub set_recalling : Sets → Six → List Action → SetOutcome Sets
set_recalling z x acts =
    set_done (record { limits = z.limits; train = z.train; marks = z.marks; six = x; last = recalled z.last acts }) acts

-- "\"no\" is refusal 7"
unfoldable pub set_moved : Sets → Partner → SetName → Move → SetOutcome Sets
set_moved z p w mv =
    cond (moves mv) (set_recalling z (moved p w mv z.six) (map (act p) (sent_in mv)))
    (set_refused_at refusal.not_taken (phase_in w) z)

-- "for other partner events 6, 7"
unfoldable pub set_named : Sets → Partner → PartnerEvent → SetOutcome Sets
set_named z p e =
    on_whereabouts (whereabouts p z.six)
    (λ w. set_moved z p w (move_of z.limits e w (member_for p (set_in w z.six))))
    (set_refused refusal.has_none z)

-- a newcomer
abbrev pub new_member : Direction → ℕ → Partner → Member
new_member d t p = record { partner = p; tries = t; direction = d }

-- "5, 8" of an order and of 38: refused, or taken in; "at most four members in all"
abbrev pub admitted_to : Sets → Partner → SetOutcome Sets → SetOutcome Sets
admitted_to z p joins =
    on_whereabouts (whereabouts p z.six)
    (λ w. set_refused_at refusal.has_place (phase_in w) z)
    (cond (ltb (size z.six) most_members) joins (set_refused refusal.all_taken z))

-- an order's partner is called, after the closing that the order brings, "with action 21 last"
unfoldable pub set_joined : Sets → Partner → Bool → Cause → SetOutcome Sets
set_joined z p accepting cause =
    let which : Closing = displaced p accepting in
    let x : Six = closed_six which z.six in
    set_done
    (with_six (set_noted z z.train (spend cause z.marks)) (with_member Calling (new_member Outgoing first_try p) x))
    (closing_sent which z.six ++ (act p request ∷ []))

-- Q-2: "15 .. when none is known, after 4 and before 5"
abbrev pub set_ordered_to : Sets → Partner → Bool → Cause → SetOutcome Sets
set_ordered_to z p accepting cause =
    cond (reserved p) (set_refused refusal.none_known z) (admitted_to z p (set_joined z p accepting cause))

-- "for an order 4, 5, 8"
unfoldable pub set_ordered : Sets → Partner → Bool → Cause → SetOutcome Sets
set_ordered z p accepting cause =
    cond (in_force cause z.train z.marks) (set_ordered_to z (meant z.last p) accepting cause) (set_refused refusal.not_in_force z)

-- 000's incoming_communication: "Message 38 .. Open, incoming, with 159"
unfoldable pub set_received : Sets → Partner → SetOutcome Sets
set_received z p =
    set_recalling z (with_member IncomingSessions (new_member Incoming session_tries p) z.six) (act p established ∷ [])

-- "for 38 9, 5, 8"
unfoldable pub set_called : Sets → Partner → SetOutcome Sets
set_called z p = cond (is_rbc p) (admitted_to z p (set_received z p)) (set_refused refusal.call_from_riu z)

-- one step; the train and the marks by the box's own rules
unfoldable pub set_step : Sets → Event → SetOutcome Sets
set_step z (Level level manual) =
    set_done (set_noted z (record { level = level; mission = z.train.mission }) (mark_manual z.marks manual)) []
set_step z (Mission mission) =
    let noted : Sets = set_noted z (record { level = z.train.level; mission = mission }) z.marks in
    cond (eqb mission mission_ended) (set_closed Every noted) (set_done noted [])
set_step z Mode = set_done (set_noted z z.train (mark_mode z.marks)) []
set_step z (Hole entered) =
    cond (hole_taken z.marks entered) (set_done (set_noted z z.train (mark_hole z.marks entered)) [])
    (set_refused refusal.not_taken z)
set_step z (Order p accepting cause) = set_ordered z p accepting cause
set_step z EndAll = set_closed Every z
set_step z (Call p) = set_called z p
set_step z (Named p e) = set_named z p e
