-- Request Q-7: what an event makes of a member, by the set that it stands in; 01's table of phases read set by set.
-- Defines: sessions_of, dropped, connected, disconnected, retried, timed_out, answered, finished, move_of, on_move, moves, sent_in.
use Rattle.std.specs.Prelude.{ℕ, ◌+◌, Bool, true, false, cond, List, [], ◌∷◌, ltb}
use Rattle.record.specs.declared.event.PartnerEvent.{PartnerEvent}
use Rattle.record.specs.declared.event.PartnerEvent.TheVariants.{Drop, Up, Loss, Timeout, Version, Ended}
use Rattle.place.specs.Table.{request, release, incompatible, initiate, terminate, established, first_try, supported}
use Rattle.place.specs.declared.limits.Limits.{Limits}
use Rattle.place.specs.declared.place.Direction.{Direction}
use Rattle.place.specs.declared.place.Direction.TheVariants.{Outgoing, Incoming}
use Rattle.sets.specs.Members.{session_tries}
use Rattle.sets.specs.declared.members.Member.{Member}
use Rattle.sets.specs.declared.names.SetName.{SetName}
use Rattle.sets.specs.declared.names.SetName.TheVariants.{Calling, Contacted, IncomingSessions, OutgoingSessions, LostSessions}
use Rattle.sets.specs.declared.names.SetName.TheVariants.{TerminatingSessions}
use Rattle.sets.specs.declared.moves.Move.{Move}
use Rattle.sets.specs.declared.moves.Move.TheVariants.{Stays, Leaves, Enters, Sends, SendsBoth}

-- the sessions of this direction
abbrev pub sessions_of : Direction → SetName
sessions_of Outgoing = OutgoingSessions
sessions_of Incoming = IncomingSessions

-- drop: "Connecting, Contacting or Lost gives 22 and frees it; Open gives 156 and becomes Ending, tries 1"
abbrev pub dropped : SetName → Move
dropped Calling = Leaves
dropped Contacted = Leaves
dropped IncomingSessions = Sends terminate TerminatingSessions first_try
dropped OutgoingSessions = Sends terminate TerminatingSessions first_try
dropped LostSessions = Leaves
dropped TerminatingSessions = Stays

-- connection up: a member that is called is contacted, a lost one is in session again, by its direction
abbrev pub connected : Direction → SetName → Move
connected d Calling = Sends initiate Contacted first_try
connected d Contacted = Stays
connected d IncomingSessions = Stays
connected d OutgoingSessions = Stays
connected d LostSessions = Enters (sessions_of d) session_tries
connected d TerminatingSessions = Stays

-- connection lost
abbrev pub disconnected : SetName → Move
disconnected Calling = Stays
disconnected Contacted = Leaves
disconnected IncomingSessions = Sends request LostSessions first_try
disconnected OutgoingSessions = Sends request LostSessions first_try
disconnected LostSessions = Stays
disconnected TerminatingSessions = Leaves

-- "Timeout gives the action shown and one more try while tries are 1 or 2; at 3 it gives 22", and of Q-3 n for 3
abbrev pub retried : Limits → ℕ → SetName → ℕ → Move
retried l number w t = cond (ltb t l.tries) (Sends number w (t + 1)) Leaves

abbrev pub timed_out : Limits → ℕ → SetName → Move
timed_out l t Calling = retried l request Calling t
timed_out l t Contacted = retried l initiate Contacted t
timed_out l t IncomingSessions = Stays
timed_out l t OutgoingSessions = Stays
timed_out l t LostSessions = retried l request LostSessions t
timed_out l t TerminatingSessions = retried l terminate TerminatingSessions t

-- message 32: 000's receive_information_compatible and receive_information_incompatible
abbrev pub answered : Limits → ℕ → SetName → Move
answered l version Calling = Stays
answered l version Contacted =
    cond (supported l version) (Sends established OutgoingSessions session_tries)
    (SendsBoth incompatible terminate TerminatingSessions first_try)
answered l version IncomingSessions = Stays
answered l version OutgoingSessions = Stays
answered l version LostSessions = Stays
answered l version TerminatingSessions = Stays

-- message 39: 000's terminate_communication
abbrev pub finished : SetName → Move
finished Calling = Stays
finished Contacted = Stays
finished IncomingSessions = Stays
finished OutgoingSessions = Stays
finished LostSessions = Stays
finished TerminatingSessions = Leaves

-- what an event that names a member makes of it
unfoldable pub move_of : Limits → PartnerEvent → SetName → Member → Move
move_of l Drop w m = dropped w
move_of l Up w m = connected m.direction w
move_of l Loss w m = disconnected w
move_of l Timeout w m = timed_out l m.tries w
move_of l (Version v) w m = answered l v w
move_of l Ended w m = finished w

-- what is said of a member that stays, of one that leaves, and of one that enters a set with tries, and these actions for it
abbrev pub on_move {ℓ} : {A : Type ℓ} → A → A → (List ℕ → SetName → ℕ → A) → Move → A
on_move stays leaves enters Stays = stays
on_move stays leaves enters Leaves = leaves
on_move stays leaves enters (Enters w t) = enters [] w t
on_move stays leaves enters (Sends number w t) = enters (number ∷ []) w t
on_move stays leaves enters (SendsBoth first second w t) = enters (first ∷ second ∷ []) w t

-- the event is taken: "\"no\" is refusal 7"
abbrev pub moves : Move → Bool
moves = on_move false true (λ sent w t. true)

-- the numbers of the actions: a member that leaves gets 22
abbrev pub sent_in : Move → List ℕ
sent_in = on_move [] (release ∷ []) (λ sent w t. sent)
