-- Document 01, "Rules of one step", with the meant partner of request Q-2: one step on values, for every kind of event.
-- Defines: Outcome, refused_at, refused, done, with_train, with_marks, with_places, recalling, act, mark_manual, with_level, mark_mode,
-- mark_hole,
-- hole_taken, at_hole, actions_in, closed, closing_actions, close_places, with_mission, at_mission, radio_level, in_force, spend,
-- displaced, taken_in, ordered_at, refused_for, ordered, set_at, called_at, called, turned_at, named, step.
use Rattle.std.specs.Prelude.{ℕ, Bool, true, false, cond, ◌&&◌, ◌||◌, not, List, [], ◌∷◌, ◌++◌, map, eqb, get_or, set}
use Rattle.record.specs.Partners.{is_rbc, reserved}
use Rattle.record.specs.Records.{mission_ended, mission_starting}
use Rattle.wire.specs.Orders.{first_that_applies}
use Rattle.wire.specs.Refusals as refusal
use Rattle.record.specs.declared.partner.Partner.{Partner}
use Rattle.record.specs.declared.event.Cause.{Cause}
use Rattle.record.specs.declared.event.Cause.TheVariants.{StartOfMission, Trackside, ModeChange, ManualLevel, HoleEnd}
use Rattle.record.specs.declared.event.PartnerEvent.{PartnerEvent}
use Rattle.record.specs.declared.event.Event.{Event}
use Rattle.record.specs.declared.event.Event.TheVariants.{Level, Mission, Mode, Hole, Order, EndAll, Call, Named}
use Rattle.place.specs.Places.{vacant, seat, on_holding, is_free, held_phase, holds}
use Rattle.place.specs.Table.{request, established, first_try, turn, takes, numbers, place_after, closed_by}
use Rattle.place.specs.declared.phase.Phase.TheVariants.{Connecting, Open}
use Rattle.place.specs.declared.place.Direction.TheVariants.{Outgoing, Incoming}
use Rattle.place.specs.declared.place.Holding.{Holding}
use Rattle.place.specs.declared.place.Place.{Place}
use Rattle.place.specs.declared.turn.Turn.{Turn}
use Rattle.place.specs.declared.turn.Closing.{Closing}
use Rattle.place.specs.declared.turn.Closing.TheVariants.{Every, Sessions, Nothing}
use Rattle.unit.specs.Lasts.{meant, recalled}
use Rattle.unit.specs.States.{some, first, seek, nowhere, standing}
use Rattle.unit.specs.declared.state.Train.{Train}
use Rattle.unit.specs.declared.state.Marks.{Marks}
use Rattle.unit.specs.declared.state.State.{State}
use Rattle.unit.specs.declared.search.Standing.{Standing}
use Rattle.unit.specs.declared.answer.Action.{Action}

-- what a step gives: 0 or the refusal, the next state, the actions in their order, and the place and phase that it carries
pub record Outcome : Type 0 where
  pub code : ℕ
  pub state : State
  pub actions : List Action
  pub standing : Standing

-- "A refused step .. returns its number, the state as given, counts 0"; Q-6: "Refusals 5 and 7 then carry place and phase"
abbrev pub refused_at : ℕ → Standing → State → Outcome
refused_at r w s = record { code = r; state = s; actions = []; standing = w }

-- "7 for a hole, and every other answer, carries place 4 and phase 0": another refusal
abbrev pub refused : ℕ → State → Outcome
refused r s = refused_at r nowhere s

-- an accepted step
abbrev pub done : State → List Action → Outcome
done s acts = record { code = refusal.accepted; state = s; actions = acts; standing = nowhere }

-- the state with one part of it changed
abbrev pub with_train : State → Train → State
with_train s t = record { limits = s.limits; train = t; marks = s.marks; places = s.places; last = s.last }

abbrev pub with_marks : State → Marks → State
with_marks s m = record { limits = s.limits; train = s.train; marks = m; places = s.places; last = s.last }

abbrev pub with_places : State → List Place → State
with_places s ps = record { limits = s.limits; train = s.train; marks = s.marks; places = ps; last = s.last }

-- Q-2: "the RBC of the most recent 159 sent to an RBC; the state remembers it"
abbrev pub recalling : State → List Action → State
recalling s acts = record { limits = s.limits; train = s.train; marks = s.marks; places = s.places; last = recalled s.last acts }

-- an action for a partner
abbrev pub act : Partner → ℕ → Action
act p number = record { number = number; partner = p }

-- "manual 1 sets its mark, manual 0 leaves it"
abbrev pub mark_manual : Marks → Bool → Marks
mark_manual m manual = record { inside = m.inside; mode = m.mode; manual = m.manual || manual; end = m.end }

-- "Level: stored; manual 1 sets its mark, manual 0 leaves it"
abbrev pub with_level : State → ℕ → Bool → State
with_level s level manual = with_marks (with_train s (record { level = level; mission = s.train.mission })) (mark_manual s.marks manual)

-- "Mode change: sets its mark"
abbrev pub mark_mode : Marks → Marks
mark_mode m = record { inside = m.inside; mode = true; manual = m.manual; end = m.end }

-- "Hole entered: .. sets inside, clears hole end. Hole left: .. clears inside, sets hole end"
abbrev pub mark_hole : Marks → Bool → Marks
mark_hole m entered = record { inside = entered; mode = m.mode; manual = m.manual; end = not entered }

-- "Hole entered: taken only outside a hole", "Hole left: taken only inside"
abbrev pub hole_taken : Marks → Bool → Bool
hole_taken m true = not m.inside
hole_taken m false = m.inside

-- "for hole 7"
abbrev pub at_hole : State → Bool → Outcome
at_hole s entered =
    first_that_applies (λ r. refused r s) ((hole_taken s.marks entered, refusal.not_taken) ∷ [])
    (done (with_marks s (mark_hole s.marks entered)) [])

-- the actions of a place's turn, for the partner that it holds
abbrev pub actions_in : Holding → Turn → List Action
actions_in k t = on_holding [] (λ d ph p. map (act p) (numbers t)) k

-- the places after a closing, and its actions, "lowest first"
unfoldable pub closed : Closing → List Place → List Place
closed which [] = []
closed which (p ∷ ps) = place_after p (closed_by which p) ∷ closed which ps

unfoldable pub closing_actions : Closing → List Place → List Action
closing_actions which [] = []
closing_actions which (p ∷ ps) = actions_in p.holding (closed_by which p) ++ closing_actions which ps

-- a closing of these places; of `Every`: "End all: closes every place, lowest first, that is not Ending; with no such place it is accepted
-- and does no more"
abbrev pub close_places : Closing → State → Outcome
close_places which s = done (with_places s (closed which s.places)) (closing_actions which s.places)

-- the mission stored
abbrev pub with_mission : State → ℕ → State
with_mission s mission = with_train s (record { level = s.train.level; mission = mission })

-- "Mission: stored; 0 also ends all"
abbrev pub at_mission : State → ℕ → Outcome
at_mission s mission = cond (eqb mission mission_ended) (close_places Every (with_mission s mission)) (done (with_mission s mission) [])

-- "level 2 or 3"
abbrev pub radio_level : Train → Bool
radio_level t = eqb t.level 2 || eqb t.level 3

-- "Its cause must be in force: 0 start of mission (mission 1, level 2 or 3); 1 trackside (always); 2 mode change (mission not 0, level 2
-- or 3, mark set); 3 manual level (level 2 or 3, mark set); 4 hole end (mark set)"
abbrev pub in_force : Cause → Train → Marks → Bool
in_force StartOfMission t m = eqb t.mission mission_starting && radio_level t
in_force Trackside t m = true
in_force ModeChange t m = not (eqb t.mission mission_ended) && (radio_level t && m.mode)
in_force ManualLevel t m = radio_level t && m.manual
in_force HoleEnd t m = m.end

-- "Acceptance clears the mark used by causes 2, 3, 4, and no other"
abbrev pub spend : Cause → Marks → Marks
spend StartOfMission m = m
spend Trackside m = m
spend ModeChange m = record { inside = m.inside; mode = false; manual = m.manual; end = m.end }
spend ManualLevel m = record { inside = m.inside; mode = m.mode; manual = false; end = m.end }
spend HoleEnd m = record { inside = m.inside; mode = m.mode; manual = m.manual; end = false }

-- "If the partner is an RBC and accepting is 0, each RBC place in Open or Lost is closed, lowest first"; "orders to an RIU never end RBC
-- sessions"
abbrev pub displaced : Partner → Bool → Closing
displaced p accepting = cond (is_rbc p && not accepting) Sessions Nothing

-- "Then the partner takes the lowest-numbered free place as Connecting, outgoing, tries 1, with action 21 last"
abbrev pub taken_in : Outcome → ℕ → Partner → Outcome
taken_in o i p =
    done (with_places o.state (set o.state.places i (seat Outgoing (Connecting first_try) p))) (o.actions ++ (act p request ∷ []))

-- "A place freed by this same order is not counted as free for it": the place was found before the closings
abbrev pub ordered_at : State → Partner → Bool → Cause → ℕ → Outcome
ordered_at s p accepting cause i = taken_in (close_places (displaced p accepting) (with_marks s (spend cause s.marks))) i p

-- Q-6: "Refusals 5 and 7 then carry place and phase in the step's answer; .. every other answer, carries place 4 and phase 0"
abbrev pub refused_for : Partner → State → ℕ → Outcome
refused_for p s r = refused_at r (cond (eqb r refusal.has_place || eqb r refusal.not_taken) (standing (seek p s.places)) nowhere) s

-- "for an order 4, 5, 8"; Q-2: "15 .. when none is known, after 4 and before 5". The partner is the meant one, which is still the reserved
-- one exactly when none is known; 5 and 8 ask the places before any closing
abbrev pub ordered : State → Partner → Bool → Cause → Outcome
ordered s p accepting cause =
    first_that_applies (refused_for p s)
    ((in_force cause s.train s.marks, refusal.not_in_force)
    ∷ (not (reserved p), refusal.none_known)
    ∷ (not (some (holds p) s.places), refusal.has_place)
    ∷ (some is_free s.places, refusal.all_taken)
    ∷ [])
    (ordered_at s p accepting cause (first is_free s.places))

-- another place at this number, and these actions for its partner
abbrev pub set_at : State → ℕ → Place → List Action → Outcome
set_at s i place acts = done (recalling (with_places s (set s.places i place)) acts) acts

-- "Message 38 takes the lowest free place as Open, incoming, with 159"
abbrev pub called_at : State → Partner → ℕ → Outcome
called_at s p i = set_at s i (seat Incoming Open p) (act p established ∷ [])

-- "for 38 9, 5, 8"
abbrev pub called : State → Partner → Outcome
called s p =
    first_that_applies (refused_for p s)
    ((is_rbc p, refusal.call_from_riu)
    ∷ (not (some (holds p) s.places), refusal.has_place)
    ∷ (some is_free s.places, refusal.all_taken)
    ∷ [])
    (called_at s p (first is_free s.places))

-- a turn of the place with this number, for the partner that it holds
abbrev pub turned_at : State → ℕ → Partner → Turn → Outcome
turned_at s i p t = set_at s i (place_after (get_or s.places i vacant) t) (map (act p) (numbers t))

-- "for other partner events 6, 7"; "\"no\" is refusal 7"; where no place holds the partner 6 comes first, and i and t mean nothing
abbrev pub named : State → Partner → PartnerEvent → Outcome
named s p e =
    let i : ℕ = first (holds p) s.places in
    let t : Turn = turn s.limits (held_phase (get_or s.places i vacant)) e in
    first_that_applies (refused_for p s)
    ((some (holds p) s.places, refusal.has_none) ∷ (takes t, refusal.not_taken) ∷ [])
    (turned_at s i p t)

-- one step; Q-2: "Demands 2 and 3 read with the meant partner"
unfoldable pub step : State → Event → Outcome
step s (Level level manual) = done (with_level s level manual) []
step s (Mission mission) = at_mission s mission
step s Mode = done (with_marks s (mark_mode s.marks)) []
step s (Hole entered) = at_hole s entered
step s (Order p accepting cause) = ordered s (meant s.last p) accepting cause
step s EndAll = close_places Every s
step s (Call p) = called s p
step s (Named p e) = named s p e
