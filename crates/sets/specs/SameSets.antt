-- Request Q-7: "it and the place engine give the same refusal, sets, tries, other fields and collection of actions": the two engines side
-- by side.
-- Defines: name_of, place_passes, count_in, many, SameState, SameAnswer, gather, sets_of, phase_for, seat_of, seats_of, places_of,
-- state_of.
use Rattle.std.specs.Prelude.{ℕ, ◌+◌, ◌-◌, ◌≡◌, Bool, false, List, [], ◌∷◌, ◌++◌, map, replicate}
use Rattle.place.specs.Places.{tries, vacant, seat, on_holding}
use Rattle.place.specs.declared.phase.Phase.{Phase}
use Rattle.place.specs.declared.phase.Phase.TheVariants.{Connecting, Contacting, Open, Lost, Ending}
use Rattle.place.specs.declared.place.Direction.{Direction}
use Rattle.place.specs.declared.place.Place.{Place}
use Rattle.unit.specs.Kept.{count, here}
use Rattle.wire.specs.Sums.{sum}
use Rattle.wire.specs.Bytes.{as_bit}
use Rattle.unit.specs.States.{place_count}
use Rattle.unit.specs.Steps.{Outcome}
use Rattle.unit.specs.declared.answer.Action.{Action}
use Rattle.unit.specs.declared.state.State.{State}
use Rattle.sets.specs.SixSets.{Six, Sets, set_in, with_set, size, unpacked, no_sets}
use Rattle.sets.specs.Moves.{sessions_of}
use Rattle.sets.specs.SetSteps.{SetOutcome, new_member}
use Rattle.sets.specs.declared.members.Member.{Member}
use Rattle.sets.specs.declared.names.SetName.{SetName}
use Rattle.sets.specs.declared.names.SetName.TheVariants.{Calling, Contacted, IncomingSessions, OutgoingSessions, LostSessions}
use Rattle.sets.specs.declared.names.SetName.TheVariants.{TerminatingSessions}
use Rattle.sets.specs.declared.state.SetState.{SetState}

-- "Calling is Connecting, contacted Contacting, incoming and outgoing Open by direction, lost Lost, terminating Ending"
abbrev pub name_of : Direction → Phase → SetName
name_of d (Connecting t) = Calling
name_of d (Contacting t) = Contacted
name_of d Open = sessions_of d
name_of d (Lost t) = LostSessions
name_of d (Ending t) = TerminatingSessions

-- a place passes a test on a set and a member where what it holds does
abbrev pub place_passes : (SetName → Member → Bool) → Place → Bool
place_passes test place = on_holding false (λ d ph p. test (name_of d ph) (new_member d (tries ph) p)) place.holding

-- how many members of a set pass a test, and how many of the six sets
unfoldable pub count_in : (Member → Bool) → List Member → ℕ
count_in test [] = 0
count_in test (m ∷ ms) = as_bit (test m) + count_in test ms

unfoldable pub many : (SetName → Member → Bool) → Six → ℕ
many test x =
    count_in (test Calling) x.calling
    + (count_in (test Contacted) x.contacted
    + (count_in (test IncomingSessions) x.incoming
    + (count_in (test OutgoingSessions) x.outgoing
    + (count_in (test LostSessions) x.lost + count_in (test TerminatingSessions) x.terminating))))

-- a state of the one engine means the same as one of the other: the other fields are the same, and for every test on a set and a member as
-- many held places pass as members
pub record SameState (s : State) (z : Sets) : Type 0 where
  pub limits : s.limits ≡ z.limits
  pub train : s.train ≡ z.train
  pub marks : s.marks ≡ z.marks
  pub members : (test : SetName → Member → Bool) → sum (here (place_passes test)) s.places ≡ many test z.six
  pub last : s.last ≡ z.last

-- two answers are the same: refusal, state, how many actions pass any test, and the phase of Q-6
pub record SameAnswer (o : Outcome) (a : SetOutcome SetState) : Type 0 where
  pub code : o.code ≡ a.code
  pub state : SameState o.state (unpacked a.state)
  pub actions : (test : Action → Bool) → count test o.actions ≡ count test a.actions
  pub phase : o.standing.phase ≡ a.phase

-- the six sets of these places, and the state of the one engine that means a state of the other
unfoldable pub gather : List Place → Six
gather [] = no_sets
gather (p ∷ ps) =
    on_holding (gather ps)
    (λ d ph q. with_set (name_of d ph) (new_member d (tries ph) q ∷ set_in (name_of d ph) (gather ps)) (gather ps))
    p.holding

abbrev pub sets_of : State → Sets
sets_of s = record { limits = s.limits; train = s.train; marks = s.marks; six = gather s.places; last = s.last }

-- a place for each member, the rest free; and the other way round
abbrev pub phase_for : SetName → ℕ → Phase
phase_for Calling t = Connecting t
phase_for Contacted t = Contacting t
phase_for IncomingSessions t = Open
phase_for OutgoingSessions t = Open
phase_for LostSessions t = Lost t
phase_for TerminatingSessions t = Ending t

abbrev pub seat_of : SetName → Member → Place
seat_of w m = seat m.direction (phase_for w m.tries) m.partner

abbrev pub seats_of : Six → List Place
seats_of x =
    map (seat_of Calling) x.calling
    ++ (map (seat_of Contacted) x.contacted
    ++ (map (seat_of IncomingSessions) x.incoming
    ++ (map (seat_of OutgoingSessions) x.outgoing
    ++ (map (seat_of LostSessions) x.lost ++ map (seat_of TerminatingSessions) x.terminating))))

unfoldable pub places_of : Six → List Place
places_of x = seats_of x ++ replicate (place_count - size x) vacant

abbrev pub state_of : Sets → State
state_of z = record { limits = z.limits; train = z.train; marks = z.marks; places = places_of z.six; last = z.last }
