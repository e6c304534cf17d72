-- Request Q-7: the six sets, "calling, contacted, incoming, outgoing, lost, terminating"; where a partner stands among them; when a state
-- is sound; the cold start.
-- Defines: Six, Sets, set_in, with_set, size, everyone, whereabouts, on_whereabouts, phase_in, tries_in, fits_in, may_be, member_ok,
-- members_ok, sound_sets, unpacked_six, six_in, unpacked, packed_six, packed_sets, tidy_six, set_ready, no_sets, cold_sets, set_cold,
-- set_start.
use Rattle.std.specs.Prelude.{Option, Some, None}
use Rattle.std.specs.Prelude.{ℕ, ◌+◌, Bool, true, false, cond, ◌&&◌, List, [], ◌++◌, eqb, leb, length}
use Rattle.wire.specs.Refusals.{accepted, bad_limits}
use Rattle.record.specs.Partners.{is_rbc, named_ok}
use Rattle.record.specs.Records.{mission_ended}
use Rattle.record.specs.declared.partner.Partner.{Partner}
use Rattle.place.specs.Places.{tries_ok}
use Rattle.place.specs.declared.limits.Limits.{Limits}
use Rattle.place.specs.declared.place.Direction.{Direction}
use Rattle.place.specs.declared.place.Direction.TheVariants.{Outgoing, Incoming}
use Rattle.unit.specs.Lasts.{last_ok}
use Rattle.unit.specs.States.{limits_ok, train_ok, marks_ok, no_marks, no_limits}
use Rattle.unit.specs.declared.last.Last.{Last}
use Rattle.unit.specs.declared.last.Last.TheVariants.{Unknown}
use Rattle.unit.specs.declared.state.Train.{Train}
use Rattle.unit.specs.declared.state.Marks.{Marks}
use Rattle.sets.specs.Members.{most_members, session_tries, has_member, all_of, apart, members_of, set_of, tidy}
use Rattle.sets.specs.declared.members.Member.{Member}
use Rattle.sets.specs.declared.names.SetName.{SetName}
use Rattle.sets.specs.declared.names.SetName.TheVariants.{Calling, Contacted, IncomingSessions, OutgoingSessions, LostSessions}
use Rattle.sets.specs.declared.names.SetName.TheVariants.{TerminatingSessions}
use Rattle.sets.specs.declared.six.SixSets.{SixSets}
use Rattle.sets.specs.declared.state.SetState.{SetState}
use Rattle.sets.specs.declared.start.SetStarted.{SetStarted}

-- "calling, contacted, incoming, outgoing, lost, terminating"
pub record Six : Type 0 where
  pub calling : List Member
  pub contacted : List Member
  pub incoming : List Member
  pub outgoing : List Member
  pub lost : List Member
  pub terminating : List Member

-- the six sets, and "the other fields" as the box has them
pub record Sets : Type 0 where
  pub limits : Limits
  pub train : Train
  pub marks : Marks
  pub six : Six
  pub last : Last

-- the set of this name
abbrev pub set_in : SetName → Six → List Member
set_in Calling x = x.calling
set_in Contacted x = x.contacted
set_in IncomingSessions x = x.incoming
set_in OutgoingSessions x = x.outgoing
set_in LostSessions x = x.lost
set_in TerminatingSessions x = x.terminating

-- the six with another set of this name
abbrev pub with_set : SetName → List Member → Six → Six
with_set Calling ms x =
    record {
      calling = ms;
      contacted = x.contacted;
      incoming = x.incoming;
      outgoing = x.outgoing;
      lost = x.lost;
      terminating = x.terminating;
    }
with_set Contacted ms x =
    record {
      calling = x.calling;
      contacted = ms;
      incoming = x.incoming;
      outgoing = x.outgoing;
      lost = x.lost;
      terminating = x.terminating;
    }
with_set IncomingSessions ms x =
    record {
      calling = x.calling;
      contacted = x.contacted;
      incoming = ms;
      outgoing = x.outgoing;
      lost = x.lost;
      terminating = x.terminating;
    }
with_set OutgoingSessions ms x =
    record {
      calling = x.calling;
      contacted = x.contacted;
      incoming = x.incoming;
      outgoing = ms;
      lost = x.lost;
      terminating = x.terminating;
    }
with_set LostSessions ms x =
    record {
      calling = x.calling;
      contacted = x.contacted;
      incoming = x.incoming;
      outgoing = x.outgoing;
      lost = ms;
      terminating = x.terminating;
    }
with_set TerminatingSessions ms x =
    record {
      calling = x.calling;
      contacted = x.contacted;
      incoming = x.incoming;
      outgoing = x.outgoing;
      lost = x.lost;
      terminating = ms;
    }

-- how many members there are in all
unfoldable pub size : Six → ℕ
size x =
    length x.calling
    + (length x.contacted
    + (length x.incoming + (length x.outgoing + (length x.lost + length x.terminating))))

-- the union of the six
unfoldable pub everyone : Six → List Member
everyone x = x.calling ++ (x.contacted ++ (x.incoming ++ (x.outgoing ++ (x.lost ++ x.terminating))))

-- the set that a partner stands in, by six tests
unfoldable pub whereabouts : Partner → Six → Option SetName
whereabouts p x =
    cond (has_member p x.calling) (Some Calling)
    (cond (has_member p x.contacted) (Some Contacted)
    (cond (has_member p x.incoming) (Some IncomingSessions)
    (cond (has_member p x.outgoing) (Some OutgoingSessions)
    (cond (has_member p x.lost) (Some LostSessions) (cond (has_member p x.terminating) (Some TerminatingSessions) None)))))

-- what is said where a partner stands in a set, and where it stands in none
abbrev pub on_whereabouts : {A : Type 0} → Option SetName → (SetName → A) → A → A
on_whereabouts (Some w) there none = there w
on_whereabouts None there none = none

-- "Calling is Connecting, contacted Contacting, incoming and outgoing Open by direction, lost Lost, terminating Ending": 01's numbers
abbrev pub phase_in : SetName → ℕ
phase_in Calling = 1
phase_in Contacted = 2
phase_in IncomingSessions = 3
phase_in OutgoingSessions = 3
phase_in LostSessions = 4
phase_in TerminatingSessions = 5

-- 01: "Tries: 1 to 3, but 0 in Open", and of Q-3 1 to n
abbrev pub tries_in : Limits → SetName → ℕ → Bool
tries_in l Calling t = tries_ok l t
tries_in l Contacted t = tries_ok l t
tries_in l IncomingSessions t = eqb t session_tries
tries_in l OutgoingSessions t = eqb t session_tries
tries_in l LostSessions t = tries_ok l t
tries_in l TerminatingSessions t = tries_ok l t

-- whose connection it may be, by the set: calling, contacted and outgoing have the box's own, incoming the partners'; "a lost or
-- terminating member keeps its direction"
abbrev pub fits_in : SetName → Direction → Bool
fits_in Calling Outgoing = true
fits_in Calling Incoming = false
fits_in Contacted Outgoing = true
fits_in Contacted Incoming = false
fits_in IncomingSessions Outgoing = false
fits_in IncomingSessions Incoming = true
fits_in OutgoingSessions Outgoing = true
fits_in OutgoingSessions Incoming = false
fits_in LostSessions d = true
fits_in TerminatingSessions d = true

-- "no RIU incoming", nor lost or terminating with that direction
abbrev pub may_be : Direction → Partner → Bool
may_be Outgoing p = true
may_be Incoming p = is_rbc p

-- a member of the set of this name is sound by itself
unfoldable pub member_ok : Limits → SetName → Member → Bool
member_ok l w m =
    named_ok m.partner && (tries_in l w m.tries && (fits_in w m.direction && may_be m.direction m.partner))

-- each member of each set is
unfoldable pub members_ok : Limits → Six → Bool
members_ok l x =
    all_of (member_ok l Calling) x.calling
    && (all_of (member_ok l Contacted) x.contacted
    && (all_of (member_ok l IncomingSessions) x.incoming
    && (all_of (member_ok l OutgoingSessions) x.outgoing
    && (all_of (member_ok l LostSessions) x.lost && all_of (member_ok l TerminatingSessions) x.terminating))))

-- the ranges of the box hold, each member is sound by itself, there are "at most four members in all", and no partner stands in two sets,
-- nor twice in one
unfoldable pub sound_sets : Sets → Bool
sound_sets z =
    limits_ok z.limits
    && (train_ok z.train
    && (marks_ok z.marks
    && (last_ok z.last
    && (leb (size z.six) most_members && (members_ok z.limits z.six && apart (everyone z.six))))))

-- a state as the code holds it, its sets read as lists; and a state as the code holds it for these lists
abbrev pub unpacked_six : SixSets → Six
unpacked_six x =
    record {
      calling = members_of x.calling;
      contacted = members_of x.contacted;
      incoming = members_of x.incoming;
      outgoing = members_of x.outgoing;
      lost = members_of x.lost;
      terminating = members_of x.terminating;
    }

-- the six sets of a state
abbrev pub six_in : SetState → Six
six_in b = unpacked_six b.sets

unfoldable pub unpacked : SetState → Sets
unpacked b = record { limits = b.limits; train = b.train; marks = b.marks; six = unpacked_six b.sets; last = b.last }

abbrev pub packed_six : Six → SixSets
packed_six x =
    record {
      calling = set_of x.calling;
      contacted = set_of x.contacted;
      incoming = set_of x.incoming;
      outgoing = set_of x.outgoing;
      lost = set_of x.lost;
      terminating = set_of x.terminating;
    }

unfoldable pub packed_sets : Sets → SetState
packed_sets z = record { limits = z.limits; train = z.train; marks = z.marks; sets = packed_six z.six; last = z.last }

-- each of the six has zeros after its count
unfoldable pub tidy_six : SixSets → Bool
tidy_six x =
    tidy x.calling
    && (tidy x.contacted && (tidy x.incoming && (tidy x.outgoing && (tidy x.lost && tidy x.terminating))))

-- a state that is not refused with 11
unfoldable pub set_ready : SetState → Bool
set_ready b = tidy_six b.sets && sound_sets (unpacked b)

-- six empty sets
abbrev pub no_sets : Six
no_sets = record { calling = []; contacted = []; incoming = []; outgoing = []; lost = []; terminating = [] }

-- the box's cold start, with the six sets empty for the places free
abbrev pub cold_sets : Limits → Sets
cold_sets l = record { limits = l; train = record { level = 0; mission = mission_ended }; marks = no_marks; six = no_sets; last = Unknown }

unfoldable pub set_cold : Limits → SetState
set_cold l = packed_sets (cold_sets l)

-- refusal 13 as the box has it
unfoldable pub set_start : Limits → SetStarted
set_start l =
    cond (limits_ok l) (record { code = accepted; state = set_cold l }) (record { code = bad_limits; state = set_cold no_limits })
