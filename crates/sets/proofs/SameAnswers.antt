-- The two engines give the same answer to every record, in any room, from any states that are sound and mean the same; soundness is kept.
-- Defines: Alike.
-- Proves: same_answer, some-sets, some-state, on_sets-ready, alike_next, alike-after, cold-alike, cold-ready, cold-both.
use mathlib.Core.Path.{◌≡◌, refl, sym, ap, subst}
use mathlib.Core.Bool.{Bool, true, false, cond}
use mathlib.Core.List.{List, [], ◌∷◌}
use Prim.Native.Nat.{ℕ}
use native.Mathlib.Omega.{arith}
use lib.Dec.{leb}
use Rattle.wire.specs.Refusals as refusal
use Rattle.wire.proofs.Tests.{and_both, cond-case}
use Rattle.record.specs.Records.{reading}
use Rattle.record.specs.Ranges.{reading_ok}
use Rattle.record.specs.declared.event.Event.{Event}
use Rattle.record.specs.Readings.{Reading}
use Rattle.record.specs.Readings.{Meant, Refused}
use Rattle.record.proofs.Ranges.{reading-ok}
use Rattle.place.specs.declared.limits.Limits.{Limits}
use Rattle.wire.specs.Sums.{sum}
use Rattle.unit.specs.OnRecords.{action_room, on_reading, applied, on_record}
use Rattle.unit.specs.States.{limits_ok, sound, cold, cold_start, no_limits}
use Rattle.unit.specs.Steps.{Outcome, refused, step}
use Rattle.unit.specs.declared.start.Started.{Started}
use Rattle.unit.specs.declared.state.State.{State}
use Rattle.unit.proofs.Facts.{sound-facts}
use Rattle.unit.proofs.Sound.{step-sound, on_record-sound}
use Rattle.unit.proofs.Starts.{cold-sound}
use Rattle.history.specs.Histories.{after}
use Rattle.sets.specs.Members.{apart}
use Rattle.sets.specs.SixSets.{Sets, size, everyone, members_ok, sound_sets, unpacked, packed_sets, set_ready, cold_sets}
use Rattle.sets.specs.SixSets.{set_cold, set_start}
use Rattle.sets.specs.SetSteps.{SetOutcome, set_refused, set_step}
use Rattle.sets.specs.OnSets.{set_reading, boxed, apply_sets, on_sets}
use Rattle.sets.specs.SameSets.{count_in, many, SameState, SameAnswer, sets_of, state_of}
use Rattle.sets.specs.SetHistories.{set_after}
use Rattle.sets.specs.declared.start.SetStarted.{SetStarted}
use Rattle.sets.specs.declared.state.SetState.{SetState}
use Rattle.sets.proofs.Packing.{sets-facts, ready-sound, packed-ready, unpacked-few, ready-packed}
use Rattle.sets.proofs.Meaning.{Same, same_size, sound-sets, sets_of-same, sets_of-sound, state_of-same, state_of-sound}
use Rattle.sets.proofs.SameStep.{beside, SameOutcome, same_step}

-- the fields of a state that means the same are the other's own
beside_same : (s : State) (z : Sets) → SameState s z → z ≡ beside s z.six
beside_same s z same =
    λ i.
    record {
      limits = sym same.limits i;
      train = sym same.train i;
      marks = sym same.marks i;
      six = z.six;
      last = sym same.last i;
    }

-- and the other way round
same_beside : (s : State) (z : Sets) → z ≡ beside s z.six → Same s.places z.six → SameState s z
same_beside s z fields members =
    record {
      limits = sym (ap (λ (y : Sets). y.limits) fields);
      train = sym (ap (λ (y : Sets). y.train) fields);
      marks = sym (ap (λ (y : Sets). y.marks) fields);
      members = members;
      last = sym (ap (λ (y : Sets). y.last) fields);
    }

-- two states that mean the same step to the same
stepped_same : (s : State) (z : Sets)
    → sound s ≡ true
    → SameState s z
    → (e : Event)
    → SameOutcome (step s e) (set_step z e)
stepped_same s z ok same e =
    subst (λ y. SameOutcome (step s e) (set_step y e)) (sym (beside_same s z same))
    (same_step s (sound-facts s ok) z.six same.members e)

-- an outcome as the code holds it, where its state is sound
answer-same : (o : Outcome) (a : SetOutcome Sets) → sound o.state ≡ true → SameOutcome o a → SameAnswer o (boxed a)
answer-same o a ok same =
    let size = same_size o.state.places a.state.six same.members in
    let four = (sound-facts o.state ok).four in
    record {
      code = same.code;
      state =
          subst (SameState o.state) (sym (unpacked-few a.state (omega arith)))
          (same_beside o.state a.state same.fields same.members);
      actions = same.actions;
      phase = same.phase;
    }

module _ (s : State) (b : SetState) (ok : sound s ≡ true) (ready : set_ready b ≡ true) (same : SameState s (unpacked b)) where
  -- a refusal leaves both as they were
  refused-same : (r : ℕ) → SameAnswer (refused r s) (set_refused r b)
  refused-same r = record { code = refl; state = same; actions = λ test. refl; phase = refl }

  -- and so do they on whatever a record reads
  read_same : (r : Reading) → reading_ok r ≡ true → SameAnswer (on_reading s r) (boxed (set_reading (unpacked b) r))
  read_same (Meant e) event =
      answer-same (step s e) (set_step (unpacked b) e) (step-sound s e ok event) (stepped_same s (unpacked b) ok same e)
  read_same (Refused r) event =
      subst (λ c. SameAnswer (refused r s) (set_refused r c)) (sym (packed-ready b ready)) (refused-same r)

  -- "it and the place engine give the same refusal, sets, tries, other fields and collection of actions for every sound state and event"
  -- promise
  pub same_answer : (bytes : List ℕ) (room : ℕ) → SameAnswer (on_record s bytes room) (on_sets b bytes room)
  unfolding on_record on_sets apply_sets
  same_answer bytes room =
      by (leb action_room room)
      (subst (λ c. SameAnswer (cond c (on_reading s (reading bytes)) (refused refusal.not_sound s))
      (cond (set_ready b) (boxed (set_reading (unpacked b) (reading bytes))) (set_refused refusal.not_sound b))) (sym ok)
      (subst (λ c. SameAnswer (on_reading s (reading bytes))
      (cond c (boxed (set_reading (unpacked b) (reading bytes))) (set_refused refusal.not_sound b))) (sym ready)
      (read_same (reading bytes) (reading-ok bytes))))
    where
      by : (c : Bool)
          → SameAnswer (applied s bytes) (apply_sets b bytes)
          → SameAnswer (cond c (applied s bytes) (refused refusal.no_room s))
          (cond c (apply_sets b bytes) (set_refused refusal.no_room b))
      by true h = h
      by false h = refused-same refusal.no_room

-- every sound state of the one engine has a state of the other that means the same
-- promise
pub some-sets : (s : State)
    → sound s ≡ true
    → (set_ready (packed_sets (sets_of s)) ≡ true) × SameState s (unpacked (packed_sets (sets_of s)))
some-sets s ok =
    let good = sets_of-sound s ok in (
      ready-packed (sets_of s) good,
      subst (SameState s) (sym (unpacked-few (sets_of s) (sets-facts (sets_of s) good).few)) (sets_of-same s),
    )

-- "and the other way round"
-- promise
pub some-state : (b : SetState)
    → set_ready b ≡ true
    → (sound (state_of (unpacked b)) ≡ true) × SameState (state_of (unpacked b)) (unpacked b)
some-state b ready = (state_of-sound (unpacked b) (ready-sound b ready), state_of-same (unpacked b) (ready-sound b ready))

-- the sets after a step on what a record reads are sound
read-sound : (b : SetState)
    → set_ready b ≡ true
    → (r : Reading)
    → reading_ok r ≡ true
    → sound_sets (set_reading (unpacked b) r).state ≡ true
read-sound b ready (Meant e) event =
    let s = state_of (unpacked b) in
    let ok = (some-state b ready).0 in
    let same = (some-state b ready).1 in
    let stepped = stepped_same s (unpacked b) ok same e in
    sound-sets (step s e).state (set_step (unpacked b) e).state
    (same_beside (step s e).state (set_step (unpacked b) e).state stepped.fields stepped.members)
    (step-sound s e ok event)
read-sound b ready (Refused r) event = ready-sound b ready

-- a sound state steps to a sound state, whatever the record and the room
-- promise
pub on_sets-ready : (b : SetState) (bytes : List ℕ) (room : ℕ)
    → set_ready b ≡ true
    → set_ready (on_sets b bytes room).state ≡ true
unfolding on_sets apply_sets
on_sets-ready b bytes room ready =
    cond-case (λ (o : SetOutcome SetState). set_ready o.state ≡ true) (leb action_room room) _ _
    (λ enough.
    cond-case (λ (o : SetOutcome SetState). set_ready o.state ≡ true) (set_ready b) _ _
    (λ good. ready-packed (set_reading (unpacked b) (reading bytes)).state (read-sound b ready (reading bytes) (reading-ok bytes)))
    (λ bad. ready))
    (λ small. ready)

-- sound states of the two engines that mean the same
pub record Alike (s : State) (b : SetState) : Type 0 where
  pub sound : sound s ≡ true
  pub ready : set_ready b ≡ true
  pub same : SameState s (unpacked b)

-- stay so, record by record
pub alike_next : (s : State) (b : SetState) (bytes : List ℕ) (room : ℕ)
    → Alike s b
    → Alike (on_record s bytes room).state (on_sets b bytes room).state
alike_next s b bytes room alike =
    record {
      sound = on_record-sound s bytes room alike.sound;
      ready = on_sets-ready b bytes room alike.ready;
      same = (same_answer s b alike.sound alike.ready alike.same bytes room).state;
    }

-- and along a history
pub alike-after : (s : State) (b : SetState) (history : List (List ℕ)) → Alike s b → Alike (after s history) (set_after b history)
unfolding after set_after
alike-after s b [] alike = alike
alike-after s b (bytes ∷ history) alike =
    alike-after (on_record s bytes action_room).state (on_sets b bytes action_room).state history (alike_next s b bytes action_room alike)

-- the two cold starts
cold-same : (l : Limits) → SameState (cold l) (unpacked (set_cold l))
unfolding cold set_cold many count_in sum size
cold-same l =
    subst (SameState (cold l)) (sym (unpacked-few (cold_sets l) (omega arith)))
    (record { limits = refl; train = refl; marks = refl; members = λ test. refl; last = refl })

-- two starts answer the same, with states that mean the same
abbrev StartsSame : Started → SetStarted → Type 0
StartsSame s b = (s.code ≡ b.code) × SameState s.state (unpacked b.state)

-- whichever way a test goes
either_same : (c : Bool) (s t : Started) (a b : SetStarted) → StartsSame s a → StartsSame t b → StartsSame (cond c s t) (cond c a b)
either_same true s t a b h g = h
either_same false s t a b h g = g

-- with the same limits the two cold starts are both accepted or both refused, and mean the same
-- promise
pub cold-alike : (l : Limits)
    → ((cold_start l).code ≡ (set_start l).code) × SameState (cold_start l).state (unpacked (set_start l).state)
unfolding cold_start set_start
cold-alike l = either_same (limits_ok l) _ _ _ _ (refl, cold-same l) (refl, cold-same no_limits)

-- a cold start is sound, a refused one too
-- promise
pub cold-ready : (l : Limits) → set_ready (set_start l).state ≡ true
unfolding set_start set_cold sound_sets members_ok everyone size apart
cold-ready l =
    cond-case (λ (o : SetStarted). set_ready o.state ≡ true) (limits_ok l) _ _
    (λ ok. ready-packed (cold_sets l) (and_both (limits_ok l) true ok refl))
    (λ bad. ready-packed (cold_sets no_limits) refl)

-- so they are sound states that mean the same
pub cold-both : (l : Limits) → Alike (cold_start l).state (set_start l).state
cold-both l = record { sound = cold-sound l; ready = cold-ready l; same = (cold-alike l).1 }
