-- Only private contracts use what stands here: the sets as the code holds them, and the actions while they are gathered.
-- Defines: six_names, held_set, with_held, sound_six, sent_so_far, neat.
use Rattle.std.specs.Prelude.{◌≤◌, ◌≡◌, Bool, ◌&&◌, List, leb, take, [], ◌∷◌}
use Rattle.place.specs.declared.limits.Limits.{Limits}
use Rattle.unit.specs.Forms.{most_actions, listed}
use Rattle.unit.specs.declared.answer.Action.{Action}
use Rattle.unit.specs.declared.answer.Actions.{Actions}
use Rattle.sets.specs.Members.{most_members, apart}
use Rattle.sets.specs.SixSets.{size, everyone, members_ok, unpacked_six, tidy_six}
use Rattle.sets.specs.declared.members.Members.{Members}
use Rattle.sets.specs.declared.names.SetName.{SetName}
use Rattle.sets.specs.declared.names.SetName.TheVariants.{Calling, Contacted, IncomingSessions, OutgoingSessions, LostSessions}
use Rattle.sets.specs.declared.names.SetName.TheVariants.{TerminatingSessions}
use Rattle.sets.specs.declared.six.SixSets.{SixSets}

-- the names of the six sets, in the order in which the code walks over them
abbrev pub six_names : List SetName
six_names =
    Calling ∷ Contacted ∷ IncomingSessions ∷ OutgoingSessions ∷ LostSessions ∷ TerminatingSessions ∷ []

-- the set of this name, and the six with another one of this name, as the code holds them
abbrev pub held_set : SetName → SixSets → Members
held_set Calling x = x.calling
held_set Contacted x = x.contacted
held_set IncomingSessions x = x.incoming
held_set OutgoingSessions x = x.outgoing
held_set LostSessions x = x.lost
held_set TerminatingSessions x = x.terminating

abbrev pub with_held : SetName → Members → SixSets → SixSets
with_held Calling s x =
    record {
      calling = s;
      contacted = x.contacted;
      incoming = x.incoming;
      outgoing = x.outgoing;
      lost = x.lost;
      terminating = x.terminating;
    }
with_held Contacted s x =
    record {
      calling = x.calling;
      contacted = s;
      incoming = x.incoming;
      outgoing = x.outgoing;
      lost = x.lost;
      terminating = x.terminating;
    }
with_held IncomingSessions s x =
    record {
      calling = x.calling;
      contacted = x.contacted;
      incoming = s;
      outgoing = x.outgoing;
      lost = x.lost;
      terminating = x.terminating;
    }
with_held OutgoingSessions s x =
    record {
      calling = x.calling;
      contacted = x.contacted;
      incoming = x.incoming;
      outgoing = s;
      lost = x.lost;
      terminating = x.terminating;
    }
with_held LostSessions s x =
    record {
      calling = x.calling;
      contacted = x.contacted;
      incoming = x.incoming;
      outgoing = x.outgoing;
      lost = s;
      terminating = x.terminating;
    }
with_held TerminatingSessions s x =
    record {
      calling = x.calling;
      contacted = x.contacted;
      incoming = x.incoming;
      outgoing = x.outgoing;
      lost = x.lost;
      terminating = s;
    }

-- the part of soundness that the six sets have
unfoldable pub sound_six : Limits → SixSets → Bool
sound_six l x =
    tidy_six x
    && (leb (size (unpacked_six x)) most_members && (members_ok l (unpacked_six x) && apart (everyone (unpacked_six x))))

-- the actions gathered so far, and that nothing but zeros stands after them
abbrev pub sent_so_far : Actions → List Action
sent_so_far actions = take actions.count actions.items

abbrev pub neat : Actions → Type 0
neat actions = (actions.count ≤ most_actions) × (actions ≡ listed (sent_so_far actions))
