-- Histories of the engine of sets, computed: what the promises ask for is met there.
-- Proves: shown-session, shown-displaced, shown-unsound, shown-waiting.
use mathlib.Core.Path.{◌≡◌, refl}
use mathlib.Core.Bool.{true, false}
use mathlib.Core.List.{[], ◌∷◌, map}
use native.Mathlib.Omega.{arith}
use Rattle.wire.specs.Blocks.{blocks}
use Rattle.record.specs.Records.{reading}
use Rattle.unit.specs.Lasts.{recalled}
use Rattle.history.specs.Histories.{timeouts}
use Rattle.history.specs.Reaching.{rbc5, order5, timeout5}
use Rattle.sets.specs.Members.{member_for, without, apart, members_of, set_of, tidy}
use Rattle.sets.specs.SixSets.{size, everyone, whereabouts, member_ok, members_ok, sound_sets, unpacked, packed_sets, tidy_six}
use Rattle.sets.specs.SixSets.{set_ready, set_cold, set_start}
use Rattle.sets.specs.Moves.{move_of}
use Rattle.sets.specs.SetSteps.{closed_six, closing_sent, set_closed, moved, set_moved, set_named, set_joined, set_ordered, set_received}
use Rattle.sets.specs.SetSteps.{set_called, set_step}
use Rattle.sets.specs.OnSets.{apply_sets, on_sets}
use Rattle.sets.specs.SetHistories.{set_after, is_member, set_waits, set_silent, set_releases_of}
use Rattle.sets.specs.SetExamples.{set_limits, set_first, rbc_record, set_told, set_answers, one_session, mixed_sessions}
use Rattle.sets.specs.SetExamples.{unsound_states, took_all, to5}
use Rattle.sets.proofs.SameAnswers.{cold-ready}
use Rattle.sets.proofs.SetDemand.{history-ready, set-waiting, set-released-once}

-- one session, from its order to its end: the number and the phase, the actions, and the six sets after it
-- meaning
pub shown-session : set_answers set_first one_session
    ≡ took_all (to5 21) (0 ∷ 5 ∷ 1 ∷ 0 ∷ 0xFF ∷ 0xFF ∷ 0xFF ∷ 0xFF ∷ 0xFF ∷ [])
    ∷ took_all (to5 155) (0xFF ∷ 0 ∷ 5 ∷ 1 ∷ 0 ∷ 0xFF ∷ 0xFF ∷ 0xFF ∷ 0xFF ∷ [])
    ∷ took_all (to5 159) (0xFF ∷ 0xFF ∷ 0xFF ∷ 0 ∷ 5 ∷ 0 ∷ 0 ∷ 0xFF ∷ 0xFF ∷ [])
    ∷ took_all (to5 21) (0xFF ∷ 0xFF ∷ 0xFF ∷ 0xFF ∷ 0 ∷ 5 ∷ 1 ∷ 0 ∷ 0xFF ∷ [])
    ∷ took_all [] (0xFF ∷ 0xFF ∷ 0xFF ∷ 0 ∷ 5 ∷ 0 ∷ 0 ∷ 0xFF ∷ 0xFF ∷ [])
    ∷ took_all (to5 156) (0xFF ∷ 0xFF ∷ 0xFF ∷ 0xFF ∷ 0xFF ∷ 0 ∷ 5 ∷ 1 ∷ 0 ∷ [])
    ∷ took_all (to5 22) (0xFF ∷ 0xFF ∷ 0xFF ∷ 0xFF ∷ 0xFF ∷ [])
    ∷ ((6 ∷ 0 ∷ []) ∷ [] ∷ (0xFF ∷ 0xFF ∷ 0xFF ∷ 0xFF ∷ 0xFF ∷ []) ∷ [])
    ∷ []
unfolding set_answers set_told on_sets apply_sets set_step set_ordered set_joined set_named set_moved moved move_of set_called
    set_received set_closed
    closed_six closing_sent whereabouts member_for without set_ready tidy_six tidy sound_sets members_ok
    member_ok apart
    everyone size unpacked packed_sets members_of set_of set_start set_cold reading recalled blocks
shown-session = refl

-- an order to an RBC that does not accept them ends the sessions of RBCs: the incoming one terminates with its direction, the lost one
-- leaves, the RIU stays; a second order to the one that terminates gets 5, with its phase
-- meaning
pub shown-displaced :
    set_answers (set_after set_first mixed_sessions) (rbc_record 5 4 (0 ∷ 1 ∷ []) ∷ rbc_record 5 2 (1 ∷ 1 ∷ []) ∷ [])
    ≡ ((0 ∷ 0 ∷ [])
    ∷ (156 ∷ 0 ∷ 0 ∷ 0 ∷ 2 ∷ 22 ∷ 0 ∷ 0 ∷ 0 ∷ 1 ∷ 21 ∷ 0 ∷ 0 ∷ 0 ∷ 4 ∷ [])
    ∷ (0 ∷ 4 ∷ 1 ∷ 0 ∷ 0xFF ∷ 0xFF ∷ 0xFF ∷ 1 ∷ 3 ∷ 0 ∷ 0 ∷ 0xFF ∷ 0xFF ∷ 0 ∷ 2 ∷ 1 ∷ 1 ∷ [])
    ∷ [])
    ∷ ((5 ∷ 5 ∷ [])
    ∷ []
    ∷ (0 ∷ 4 ∷ 1 ∷ 0 ∷ 0xFF ∷ 0xFF ∷ 0xFF ∷ 1 ∷ 3 ∷ 0 ∷ 0 ∷ 0xFF ∷ 0xFF ∷ 0 ∷ 2 ∷ 1 ∷ 1 ∷ [])
    ∷ [])
    ∷ []
unfolding set_after set_answers set_told on_sets apply_sets set_step set_ordered set_joined set_named set_moved moved move_of
    set_called set_received
    set_closed closed_six closing_sent whereabouts member_for without set_ready tidy_six tidy sound_sets members_ok
    member_ok
    apart everyone size unpacked packed_sets members_of set_of set_start set_cold reading recalled blocks
shown-displaced = refl

-- 11 "where sets meet, there are more than four members, an RIU is incoming, tries are out of range, something stands after a count"; in
-- this order, after a state that is sound: a partner in two sets, and twice in one; five members; an RIU incoming, and lost with that
-- direction; four tries of three, none, and one in session; a call of the partner's in calling; RBC 1 after a count
-- meaning
pub shown-unsound : map set_ready unsound_states
    ≡ true ∷ false ∷ false ∷ false ∷ false ∷ false ∷ false ∷ false ∷ false ∷ false ∷ false ∷ []
unfolding set_ready tidy_six tidy sound_sets members_ok member_ok apart everyone size unpacked packed_sets
    members_of set_of
shown-unsound = refl

-- RBC 5 is called and named by nothing but three timeouts: it is no member then, and was released once
-- instance
pub shown-waiting :
    (is_member rbc5 (set_after (set_after set_first (order5 ∷ [])) (timeout5 ∷ timeout5 ∷ timeout5 ∷ [])) ≡ false)
    × (set_releases_of rbc5 (set_after set_first (order5 ∷ [])) (timeout5 ∷ timeout5 ∷ timeout5 ∷ []) ≡ 1)
unfolding set_waits set_silent timeouts set_after on_sets apply_sets set_step set_ordered set_joined set_named set_moved moved
    move_of set_called
    set_received set_closed closed_six closing_sent whereabouts member_for without set_ready tidy_six tidy
    sound_sets members_ok
    member_ok apart everyone size unpacked packed_sets members_of set_of set_start set_cold reading recalled
shown-waiting =
    let b = set_after set_first (order5 ∷ []) in
    let good = history-ready set_first (order5 ∷ []) (cold-ready set_limits) in
    let later = timeout5 ∷ timeout5 ∷ timeout5 ∷ [] in
    (set-waiting b good rbc5 refl later refl (omega arith), set-released-once b good rbc5 refl later refl (omega arith))
