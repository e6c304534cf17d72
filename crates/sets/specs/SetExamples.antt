-- Examples only: nobody has to believe what stands here.
-- Histories of the engine of sets, for computed instances.
-- Defines: set_limits, set_first, rbc_record, riu_record, set_told, six_told, set_answers, one_session, mixed_sessions, member_of,
-- in_calling, in_incoming, in_outgoing, in_lost, set_holding, after_count, unsound_states, took_all, to5.
use Rattle.std.specs.Prelude.{ℕ, List, [], ◌∷◌, ◌++◌}
use Rattle.place.specs.Places.{direction_number}
use Rattle.place.specs.declared.limits.Limits.{Limits}
use Rattle.unit.specs.States.{one_to_two}
use Rattle.place.specs.declared.place.Direction.{Direction}
use Rattle.place.specs.declared.place.Direction.TheVariants.{Outgoing, Incoming}
use Rattle.unit.specs.OnRecords.{action_room, action_bytes}
use Rattle.sets.specs.Members.{no_member, set_of}
use Rattle.sets.specs.SixSets.{Six, with_set, unpacked_six, packed_sets, no_sets, cold_sets, set_start}
use Rattle.sets.specs.SetSteps.{with_six, new_member}
use Rattle.sets.specs.OnSets.{on_sets}
use Rattle.sets.specs.declared.members.Member.{Member}
use Rattle.sets.specs.declared.names.SetName.TheVariants.{Calling, IncomingSessions, OutgoingSessions, LostSessions}
use Rattle.sets.specs.declared.state.SetState.{SetState}

-- X 1 to 2, three tries
abbrev pub set_limits : Limits
set_limits = one_to_two 3

abbrev pub set_first : SetState
set_first = (set_start set_limits).state

-- a record of this kind for the RBC, or the RIU, with this low byte, and what follows
abbrev pub rbc_record : ℕ → ℕ → List ℕ → List ℕ
rbc_record kind low rest = kind ∷ 0 ∷ 0 ∷ 0 ∷ low ∷ rest

abbrev pub riu_record : ℕ → ℕ → List ℕ → List ℕ
riu_record kind low rest = kind ∷ 1 ∷ 0 ∷ 0 ∷ low ∷ rest

-- the members of a set: the type and the low byte of each, its tries, its direction
unfoldable pub set_told : List Member → List ℕ
set_told [] = []
set_told (m ∷ ms) = m.partner.kind ∷ m.partner.low ∷ m.tries ∷ direction_number m.direction ∷ set_told ms

-- the six sets, parted by FF hex
abbrev pub six_told : Six → List ℕ
six_told x =
    set_told x.calling
    ++ (0xFF
    ∷ set_told x.contacted
    ++ (0xFF
    ∷ set_told x.incoming
    ++ (0xFF ∷ set_told x.outgoing ++ (0xFF ∷ set_told x.lost ++ (0xFF ∷ set_told x.terminating)))))

-- the answers of a history: the number, the phase, the bytes of the actions, and the six sets then
unfoldable pub set_answers : SetState → List (List ℕ) → List (List (List ℕ))
set_answers b [] = []
set_answers b (bytes ∷ history) =
    (((on_sets b bytes action_room).code ∷ (on_sets b bytes action_room).phase ∷ [])
    ∷ action_bytes (on_sets b bytes action_room).actions
    ∷ six_told (unpacked_six (on_sets b bytes action_room).state.sets)
    ∷ [])
    ∷ set_answers (on_sets b bytes action_room).state history

-- RBC 5 is ordered, up, answers, is lost, up again, dropped, and ends; then a drop finds nobody
abbrev pub one_session : List (List ℕ)
one_session =
    rbc_record 5 5 (1 ∷ 1 ∷ [])
    ∷ rbc_record 8 5 []
    ∷ rbc_record 11 5 (32 ∷ 17 ∷ [])
    ∷ rbc_record 9 5 []
    ∷ rbc_record 8 5 []
    ∷ rbc_record 6 5 []
    ∷ rbc_record 11 5 (39 ∷ 0 ∷ [])
    ∷ rbc_record 6 5 []
    ∷ []

-- RBC 1 calls and is lost, RBC 2 calls, RIU 3 is in session
abbrev pub mixed_sessions : List (List ℕ)
mixed_sessions =
    rbc_record 11 1 (38 ∷ 0 ∷ [])
    ∷ rbc_record 9 1 []
    ∷ rbc_record 11 2 (38 ∷ 0 ∷ [])
    ∷ riu_record 5 3 (1 ∷ 1 ∷ [])
    ∷ riu_record 8 3 []
    ∷ riu_record 11 3 (32 ∷ 32 ∷ [])
    ∷ []

-- the RBC and the RIU with this low byte as members
abbrev pub member_of : ℕ → ℕ → ℕ → Direction → Member
member_of kind low t d = new_member d t (record { kind = kind; high = 0; middle = 0; low = low })

-- six sets of which one has these members
abbrev pub in_calling : List Member → Six
in_calling ms = with_set Calling ms no_sets

abbrev pub in_incoming : List Member → Six
in_incoming ms = with_set IncomingSessions ms no_sets

abbrev pub in_outgoing : List Member → Six
in_outgoing ms = with_set OutgoingSessions ms no_sets

abbrev pub in_lost : List Member → Six
in_lost ms = with_set LostSessions ms no_sets

-- a state with these sets
abbrev pub set_holding : Six → SetState
set_holding x = packed_sets (with_six (cold_sets set_limits) x)

-- a state in whose first set this member stands after the count
abbrev pub after_count : Member → SetState
after_count m =
    record {
      limits = set_limits;
      train = (cold_sets set_limits).train;
      marks = (cold_sets set_limits).marks;
      sets =
          record {
            calling = record { items = m ∷ no_member ∷ no_member ∷ no_member ∷ []; count = 0 };
            contacted = set_of [];
            incoming = set_of [];
            outgoing = set_of [];
            lost = set_of [];
            terminating = set_of [];
          };
      last = (cold_sets set_limits).last;
    }

-- a state that is sound, and then: a partner in two sets, and twice in one; five members; an RIU incoming, and lost with that direction;
-- four tries of three, none, and one in session; a call of the partner's in calling; RBC 1 after a count
abbrev pub unsound_states : List SetState
unsound_states =
    set_holding (with_set LostSessions (member_of 0 2 3 Incoming ∷ []) (in_calling (member_of 1 2 1 Outgoing ∷ [])))
    ∷ set_holding (with_set LostSessions (member_of 0 1 1 Outgoing ∷ []) (in_calling (member_of 0 1 1 Outgoing ∷ [])))
    ∷ set_holding (in_lost (member_of 0 1 1 Outgoing ∷ member_of 0 1 2 Outgoing ∷ []))
    ∷ set_holding
    (with_set LostSessions (member_of 0 4 1 Outgoing ∷ member_of 0 5 1 Outgoing ∷ [])
    (in_calling (member_of 0 1 1 Outgoing ∷ member_of 0 2 1 Outgoing ∷ member_of 0 3 1 Outgoing ∷ [])))
    ∷ set_holding (in_incoming (member_of 1 1 0 Incoming ∷ []))
    ∷ set_holding (in_lost (member_of 1 1 1 Incoming ∷ []))
    ∷ set_holding (in_calling (member_of 0 1 4 Outgoing ∷ []))
    ∷ set_holding (in_calling (member_of 0 1 0 Outgoing ∷ []))
    ∷ set_holding (in_outgoing (member_of 0 1 1 Outgoing ∷ []))
    ∷ set_holding (in_calling (member_of 0 1 1 Incoming ∷ []))
    ∷ after_count (member_of 0 1 1 Outgoing)
    ∷ []

-- an answer with number 0 and phase 0, these actions, and the six sets after it
abbrev pub took_all : List ℕ → List ℕ → List (List ℕ)
took_all sent sets = (0 ∷ 0 ∷ []) ∷ sent ∷ sets ∷ []

-- an action with this number, for RBC 5
abbrev pub to5 : ℕ → List ℕ
to5 number = number ∷ 0 ∷ 0 ∷ 0 ∷ 5 ∷ []
