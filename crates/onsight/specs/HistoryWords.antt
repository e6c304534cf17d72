-- Cross-checks only: nobody has to believe what stands here.
-- Further words on histories of request Q-1: what each event met, answers, accepted events, tests on a state and on an event, and
-- histories that are as long as can be.
-- Defines: Met, met, end_of, codes, accepted_of, accepted_in, last_is, any_is, is_idle, is_late, is_done, is_profile, is_expiry,
-- is_acknowledgement, expiry_in_late, ends, brings_os, asks_for_acknowledgement, every, unacknowledged, most_accepted, longest, way_to,
-- way_to_done.
use Rattle.std.specs.Prelude.{ℕ, Bool, true, false, cond, ◌&&◌, ◌||◌, not, List, [], ◌∷◌, map, eqb}
use Rattle.onsight.specs.Cases.{by_state, by_profile, by_event}
use Rattle.onsight.specs.Numbers.{accepted}
use Rattle.onsight.specs.Procedures.{step}
use Rattle.onsight.specs.declared.event.Area.TheVariants.{Ahead, Entered}
use Rattle.onsight.specs.declared.event.Mode.TheVariants.{OS, SB, Another}
use Rattle.onsight.specs.declared.event.Event.{Event}
use Rattle.onsight.specs.declared.event.Event.TheVariants.{Profile, Window, Start, Acknowledgement, Expiry}
use Rattle.onsight.specs.declared.procedure.State.{State}
use Rattle.onsight.specs.declared.procedure.State.TheVariants.{Idle, Waiting, Asked, Late, Braking, Done}
use Rattle.onsight.specs.declared.procedure.Answer.{Answer}

-- one event of a history with the state that it met and what was answered
pub record Met : Type 0 where
  pub state : State
  pub event : Event
  pub answer : Answer

-- the events of a history from a state, each with what it met
unfoldable pub met : State → List Event → List Met
met s [] = []
met s (e ∷ es) = record { state = s; event = e; answer = step s e } ∷ met (step s e).state es

-- the state that the last one left; where there is none, the one before
unfoldable pub end_of : State → List Met → State
end_of s [] = s
end_of s (m ∷ ms) = end_of m.answer.state ms

-- 0 or 14 for each event of a history
abbrev pub codes : State → List Event → List ℕ
codes s es = map (λ m. m.answer.code) (met s es)

-- the accepted ones
unfoldable pub accepted_of : List Met → List Met
accepted_of [] = []
accepted_of (m ∷ ms) = cond (eqb m.answer.code accepted) (m ∷ accepted_of ms) (accepted_of ms)

abbrev pub accepted_in : State → List Event → List Met
accepted_in s es = accepted_of (met s es)

-- the last one passes a test; where there is none, what is given for that
unfoldable pub last_is : (Met → Bool) → Bool → List Met → Bool
last_is test none [] = none
last_is test none (m ∷ ms) = last_is test (test m) ms

-- one of them passes a test; or it was so before
unfoldable pub any_is : (Event → Bool) → Bool → List Met → Bool
any_is test before [] = before
any_is test before (m ∷ ms) = any_is test (before || test m.event) ms

abbrev pub is_idle : State → Bool
is_idle = by_state true false false false false false

abbrev pub is_late : State → Bool
is_late = by_state false false false true false false

abbrev pub is_done : State → Bool
is_done = by_state false false false false false true

abbrev pub is_profile : Event → Bool
is_profile = by_event (λ area mode. true) false false false false

abbrev pub is_expiry : Event → Bool
is_expiry = by_event (λ area mode. false) false false false true

abbrev pub is_acknowledgement : Event → Bool
is_acknowledgement = by_event (λ area mode. false) false false true false

-- "expiry in Late"
abbrev pub expiry_in_late : Met → Bool
expiry_in_late m = is_late m.state && is_expiry m.event

-- the events that, taken, end the procedure: a profile already in OS, and the acknowledgement
abbrev pub ends : Event → Bool
ends = by_event (by_profile false true false false) false false true false

-- the events that, taken, bring OS into force: those that end the procedure, the area entered in another mode, and the start passed
abbrev pub brings_os : Event → Bool
brings_os = by_event (by_profile false true false true) false true true false

-- "Asked, Late and Braking": the states that wait for the driver
abbrev pub asks_for_acknowledgement : State → Bool
asks_for_acknowledgement = by_state false false true true true false

-- every event of a history passes a test
unfoldable pub every : (Event → Bool) → List Event → Bool
every test [] = true
every test (e ∷ es) = test e && every test es

-- a history without an acknowledgement
abbrev pub unacknowledged : List Event → Bool
unacknowledged = every (λ e. not (is_acknowledgement e))

-- the most events that a procedure accepts, and a history that has as many
abbrev pub most_accepted : ℕ
most_accepted = 5

abbrev pub longest : List Event
longest = Profile Ahead Another ∷ Window ∷ Start ∷ Expiry ∷ Acknowledgement ∷ []

-- a history that leads from a fresh Idle to each state
abbrev pub way_to : State → List Event
way_to Idle = []
way_to Waiting = Profile Ahead Another ∷ []
way_to Asked = Profile Entered SB ∷ []
way_to Late = Profile Entered Another ∷ []
way_to Braking = Profile Entered Another ∷ Expiry ∷ []
way_to Done = Profile Entered OS ∷ []

-- a history that leads from each state to Done
abbrev pub way_to_done : State → List Event
way_to_done Idle = Profile Entered OS ∷ []
way_to_done Waiting = Window ∷ Acknowledgement ∷ []
way_to_done Asked = Acknowledgement ∷ []
way_to_done Late = Acknowledgement ∷ []
way_to_done Braking = Acknowledgement ∷ []
way_to_done Done = []
