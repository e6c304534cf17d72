-- Demand 3 of the engine of sets, read from its own steps and derived: its histories count what the box's count.
-- Proves: history-same, next-same, history-ready, set-bound, set-taken-in, set-waiting, set-released-once, set-reached,
-- set-reached-three.
use mathlib.Core.Path.{◌≡◌, refl, sym, ap, ap₂, ◌∙◌}
use mathlib.Core.Logic.{◌⊎◌}
use mathlib.Core.Bool.{Bool, true, false, ◌&&◌, ◌||◌, not}
use mathlib.Core.List.{List, [], ◌∷◌}
use Prim.Native.Nat.{ℕ, ◌+◌, ◌*◌, ◌≤◌, ◌<◌}
use native.Mathlib.Omega.{arith}
use lib.Dec.{eqb}
use lib.ListN.{length}
use Rattle.wire.specs.Refusals.{accepted}
use Rattle.wire.proofs.Tests.{true-false}
use Rattle.record.specs.Records.{reading}
use Rattle.record.specs.declared.partner.Partner.{Partner}
use Rattle.place.specs.Places.{most_tries, fleet_tries, is_free, holds}
use Rattle.place.specs.declared.limits.Limits.{Limits}
use Rattle.place.specs.declared.phase.Phase.{Phase}
use Rattle.place.specs.declared.phase.Phase.TheVariants.{Connecting, Contacting, Open, Lost, Ending}
use Rattle.place.specs.declared.place.Direction.{Direction}
use Rattle.place.specs.declared.place.Direction.TheVariants.{Outgoing, Incoming}
use Rattle.place.specs.declared.place.Holding.{Holding}
use Rattle.place.specs.declared.place.Holding.TheVariants.{Free, Held}
use Rattle.place.specs.declared.place.Place.{Place}
use Rattle.unit.specs.Kept.{count, here}
use Rattle.wire.specs.Sums.{sum}
use Rattle.wire.specs.Bytes.{as_bit}
use Rattle.unit.specs.OnRecords.{action_room, on_record}
use Rattle.unit.specs.States.{some, cold_start}
use Rattle.unit.specs.Steps.{Outcome}
use Rattle.unit.specs.declared.answer.Action.{Action}
use Rattle.unit.specs.declared.state.State.{State}
use Rattle.unit.proofs.Counts.{count-all}
use Rattle.unit.proofs.Searches.{first-none, none-some}
use Rattle.unit.proofs.Weights.{weigh-same}
use Rattle.history.specs.Histories.{after, summed, is_order, is_call, is_loss, actions, is_release}
use Rattle.history.specs.Histories.{places_held, timeout_for, silent, timeouts, holds_place, waiting_phase}
use Rattle.history.specs.Histories.{waits_at, waits}
use Rattle.history.specs.Histories.{release_of}
use Rattle.history.specs.PerEvent.{per_order, per_call, per_loss, timeouts_to_release}
use Rattle.history.specs.Reaching.{reaching}
use Rattle.history.specs.Sums.{sums_of, counts}
use Rattle.unit.specs.States.{one_to_two}
use Rattle.history.proofs.Bounds.{bound}
use Rattle.history.proofs.Concerned.{named_by}
use Rattle.history.proofs.Counted.{and-true}
use Rattle.history.proofs.Reached.{reached, demand-reached}
use Rattle.history.proofs.TakenIn.{taken_in}
use Rattle.history.proofs.Waiting.{waiting, released-once}
use Rattle.sets.specs.Members.{is_for, has_member}
use Rattle.sets.specs.SixSets.{Six, everyone, six_in, unpacked, set_ready, set_start}
use Rattle.sets.specs.SetSteps.{SetOutcome, new_member}
use Rattle.sets.specs.OnSets.{on_sets}
use Rattle.sets.specs.SameSets.{name_of, place_passes, count_in, many, SameState, SameAnswer, state_of}
use Rattle.sets.specs.SetHistories.{set_after, set_sum, set_accepted, set_orders, set_calls, set_losses, set_actions, set_releases}
use Rattle.sets.specs.SetHistories.{members_held, is_member, set_waits, set_silent, set_releases_of, set_sums}
use Rattle.sets.specs.declared.members.Member.{Member}
use Rattle.sets.specs.declared.names.SetName.{SetName}
use Rattle.sets.specs.declared.names.SetName.TheVariants.{Calling, Contacted, IncomingSessions, OutgoingSessions, LostSessions}
use Rattle.sets.specs.declared.names.SetName.TheVariants.{TerminatingSessions}
use Rattle.sets.specs.declared.state.SetState.{SetState}
use Rattle.sets.proofs.Counting.{within-counted, count_in-same, many-everyone, many-size}
use Rattle.sets.proofs.SameAnswers.{Alike, same_answer, on_sets-ready, alike_next, alike-after, cold-alike, cold-both}
use Rattle.sets.proofs.SameAnswers.{some-state}

-- both engines' answers to a record, from states that mean the same
answers : (s : State) (b : SetState) (bytes : List ℕ)
    → Alike s b
    → SameAnswer (on_record s bytes action_room) (on_sets b bytes action_room)
answers s b bytes alike = same_answer s b alike.sound alike.ready alike.same bytes action_room

-- from cold starts with the same limits, after any history, the states mean the same
-- promise
pub history-same : (l : Limits) (history : List (List ℕ))
    → SameState (after (cold_start l).state history) (unpacked (set_after (set_start l).state history))
history-same l history = (alike-after (cold_start l).state (set_start l).state history (cold-both l)).same

-- and so are the answers to whatever comes next, in any room
-- promise
pub next-same : (l : Limits) (history : List (List ℕ)) (bytes : List ℕ) (room : ℕ)
    → SameAnswer (on_record (after (cold_start l).state history) bytes room) (on_sets (set_after (set_start l).state history) bytes room)
next-same l history bytes room =
    let alike = alike-after (cold_start l).state (set_start l).state history (cold-both l) in
    same_answer (after (cold_start l).state history) (set_after (set_start l).state history) alike.sound alike.ready alike.same
    bytes room

-- soundness along a history
-- promise
pub history-ready : (b : SetState) (history : List (List ℕ)) → set_ready b ≡ true → set_ready (set_after b history) ≡ true
unfolding set_after
history-ready b [] ready = ready
history-ready b (bytes ∷ history) ready =
    history-ready (on_sets b bytes action_room).state history (on_sets-ready b bytes action_room ready)

-- what counts the same for each record counts the same over a history
same-sums : (f : State → List ℕ → Outcome → ℕ) (g : SetState → List ℕ → SetOutcome SetState → ℕ)
    → ((s : State) (b : SetState) (bytes : List ℕ)
    → Alike s b
    → f s bytes (on_record s bytes action_room) ≡ g b bytes (on_sets b bytes action_room))
    → (s : State) (b : SetState) (history : List (List ℕ))
    → Alike s b
    → summed f s history ≡ set_sum g b history
unfolding summed set_sum
same-sums f g each s b [] alike = refl
same-sums f g each s b (bytes ∷ history) alike =
    ap₂ ◌+◌ (each s b bytes alike)
    (same-sums f g each (on_record s bytes action_room).state (on_sets b bytes action_room).state history
    (alike_next s b bytes action_room alike))

module _ (s : State) (b : SetState) (history : List (List ℕ)) (alike : Alike s b) where
  -- accepted records of a kind
  same-accepted : (test : List ℕ → Bool)
      → summed (λ s bytes o. as_bit (test bytes && eqb o.code accepted)) s history ≡ set_sum (set_accepted test) b history
  same-accepted test =
      same-sums (λ s bytes o. as_bit (test bytes && eqb o.code accepted)) (set_accepted test)
      (λ s b bytes alike. ap (λ c. as_bit (test bytes && eqb c accepted)) (answers s b bytes alike).code)
      s b history alike

  -- actions that pass a test
  same-counted : (test : Action → Bool)
      → summed (λ s bytes o. count test o.actions) s history ≡ set_sum (λ b bytes o. count test o.actions) b history
  same-counted test =
      same-sums (λ s bytes o. count test o.actions) (λ b bytes o. count test o.actions)
      (λ s b bytes alike. (answers s b bytes alike).actions test)
      s b history alike

  -- and all of them
  same-actions : actions s history ≡ set_actions b history
  same-actions =
      same-sums (λ s bytes o. length o.actions) (λ b bytes o. length o.actions)
      (λ s b bytes alike.
      sym (count-all (on_record s bytes action_room).actions)
      ∙ (answers s b bytes alike).actions (λ a. true)
      ∙ count-all (on_sets b bytes action_room).actions)
      s b history alike

-- so it is from the two cold starts
module _ (l : Limits) (history : List (List ℕ)) where
  cold-accepted : (test : List ℕ → Bool)
      → summed (λ s bytes o. as_bit (test bytes && eqb o.code accepted)) (cold_start l).state history
      ≡ set_sum (set_accepted test) (set_start l).state history
  cold-accepted = same-accepted (cold_start l).state (set_start l).state history (cold-both l)

  cold-actions : actions (cold_start l).state history ≡ set_actions (set_start l).state history
  cold-actions = same-actions (cold_start l).state (set_start l).state history (cold-both l)

-- as many places held as members
held-places : (ps : List Place) → places_held ps ≡ sum (here (place_passes (λ w m. true))) ps
unfolding places_held sum
held-places [] = refl
held-places (p ∷ ps) = ap₂ ◌+◌ (by p.holding) (held-places ps)
  where
    by : (k : Holding) → as_bit (not (is_free (record { holding = k }))) ≡ here (place_passes (λ w m. true)) (record { holding = k })
    by Free = refl
    by (Held d ph p) = refl

-- so as many members as places held
held-members : (s : State) (b : SetState) → SameState s (unpacked b) → places_held s.places ≡ members_held b
unfolding unpacked
held-members s b same = held-places s.places ∙ same.members (λ w m. true) ∙ many-size (six_in b)

-- the bound, of counts that are the same
bounds-same : (n : ℕ) {k o c j k' o' c' j' : ℕ}
    → k ≡ k'
    → o ≡ o'
    → c ≡ c'
    → j ≡ j'
    → k ≤ per_order n * o + per_call n * c + per_loss n * j
    → k' ≤ per_order n * o' + per_call n * c' + per_loss n * j'
bounds-same n acts ordered called lost most = rw (← acts, ← ordered, ← called, ← lost) most

module _ (l : Limits) (started : (set_start l).code ≡ accepted) (history : List (List ℕ)) where
  -- the other engine starts too
  from-cold : (cold_start l).code ≡ accepted
  from-cold = (cold-alike l).0 ∙ started

  -- "at most 11 actions for each order accepted, 5 for each accepted call from an RBC, 3 for each accepted loss", by the number of tries
  -- promise
  pub set-bound : set_actions (set_start l).state history
      ≤ per_order l.tries * set_orders (set_start l).state history
      + per_call l.tries * set_calls (set_start l).state history
      + per_loss l.tries * set_losses (set_start l).state history
  set-bound =
      bounds-same l.tries (cold-actions l history)
      (cold-accepted l history is_order)
      (cold-accepted l history is_call)
      (cold-accepted l history is_loss)
      (bound l from-cold history)

  -- "Partners taken in equal releases plus places held": plus members
  -- promise
  pub set-taken-in : set_orders (set_start l).state history + set_calls (set_start l).state history
      ≡ set_releases (set_start l).state history + members_held (set_after (set_start l).state history)
  set-taken-in =
      let taken = taken_in l from-cold history in
      let a = cold-accepted l history is_order in
      let c = cold-accepted l history is_call in
      let r = same-counted (cold_start l).state (set_start l).state history (cold-both l) is_release in
      let h = held-members (after (cold_start l).state history) (set_after (set_start l).state history) (history-same l history) in
      omega arith

-- a member that waits: in any set but incoming and outgoing
abbrev waiting_in : SetName → Bool
waiting_in Calling = true
waiting_in Contacted = true
waiting_in IncomingSessions = false
waiting_in OutgoingSessions = false
waiting_in LostSessions = true
waiting_in TerminatingSessions = true

-- and that is this partner
abbrev waiting_member : Partner → SetName → Member → Bool
waiting_member p w m = is_for p m && waiting_in w

-- a phase waits where its set does
waiting-phase : (d : Direction) (ph : Phase) → waiting_phase ph ≡ waiting_in (name_of d ph)
waiting-phase d (Connecting t) = refl
waiting-phase d (Contacting t) = refl
waiting-phase Outgoing Open = refl
waiting-phase Incoming Open = refl
waiting-phase d (Lost t) = refl
waiting-phase d (Ending t) = refl

-- a place waits where its member does
waits-at : (p : Partner) (k : Holding)
    → here (waits_at p) (record { holding = k }) ≡ here (place_passes (waiting_member p)) (record { holding = k })
waits-at p Free = refl
waits-at p (Held d ph q) = ap (λ b. as_bit (is_for p (new_member d 0 q) && b)) (waiting-phase d ph)

-- one of a set of those that wait is counted
waits-counted : (p : Partner) (ms : List Member) → has_member p ms ≡ true → 1 ≤ count_in (λ m. is_for p m && true) ms
waits-counted p ms is =
    let some = within-counted p ms is in
    let all = count_in-same (λ m. is_for p m && true) (is_for p) (λ m. and-true (is_for p m)) ms in
    omega arith

-- a partner that waits is counted among those that do
waits-many : (p : Partner) (b : SetState) → set_waits p b ≡ true → 1 ≤ many (waiting_member p) (six_in b)
unfolding set_waits many
waits-many p b is =
    by (has_member p x.calling) (has_member p x.contacted) (has_member p x.lost) (has_member p x.terminating) refl refl refl refl is
  where
    x : Six
    x = six_in b

    by : (c d e f : Bool)
        → has_member p x.calling ≡ c
        → has_member p x.contacted ≡ d
        → has_member p x.lost ≡ e
        → has_member p x.terminating ≡ f
        → (c || (d || (e || f))) ≡ true
        → 1
        ≤ count_in (waiting_member p Calling) x.calling
        + (count_in (waiting_member p Contacted) x.contacted
        + (count_in (waiting_member p IncomingSessions) x.incoming
        + (count_in (waiting_member p OutgoingSessions) x.outgoing
        + (count_in (waiting_member p LostSessions) x.lost + count_in (waiting_member p TerminatingSessions) x.terminating))))
    by true d e f c-is d-is e-is f-is is =
        let some = waits-counted p x.calling c-is in
        omega arith
    by false true e f c-is d-is e-is f-is is =
        let some = waits-counted p x.contacted d-is in
        omega arith
    by false false true f c-is d-is e-is f-is is =
        let some = waits-counted p x.lost e-is in
        omega arith
    by false false false true c-is d-is e-is f-is is =
        let some = waits-counted p x.terminating f-is in
        omega arith
    by false false false false c-is d-is e-is f-is is = true-false false is refl

-- so it waits among the places
waits-same : (s : State) (b : SetState) (p : Partner)
    → SameState s (unpacked b)
    → set_waits p b ≡ true
    → waits p s.places ≡ true
unfolding unpacked
waits-same s b p same is = by (some (waits_at p) s.places) refl
  where
    by : (c : Bool) → some (waits_at p) s.places ≡ c → c ≡ true
    by true h = refl
    by false h =
        let none = first-none (waits_at p) s.places (none-some (waits_at p) s.places (ap not h)) in
        let all = weigh-same (here (waits_at p)) (here (place_passes (waiting_member p))) (λ q. waits-at p q.holding) s.places in
        let held = same.members (waiting_member p) in
        let as_bit = waits-many p b is in
        absurd (omega arith)

-- a partner with no place is no member
absent-same : (s : State) (b : SetState) (p : Partner)
    → SameState s (unpacked b)
    → holds_place p s.places ≡ false
    → is_member p b ≡ false
unfolding unpacked
absent-same s b p same none = by (is_member p b) refl
  where
    by : (c : Bool) → is_member p b ≡ c → c ≡ false
    by true is =
        let nobody = first-none (holds p) s.places (none-some (holds p) s.places (ap not none)) in
        let held = same.members (λ w. is_for p) in
        let all = many-everyone (is_for p) (six_in b) in
        let as_bit = within-counted p (everyone (six_in b)) is in
        absurd (omega arith)
    by false is = refl

-- a history is silent on a partner for both engines, or for none
silent-same : (p : Partner) (s : State) (b : SetState) (history : List (List ℕ))
    → Alike s b
    → silent p s history ≡ set_silent p b history
unfolding silent set_silent unpacked
silent-same p s b [] alike = refl
silent-same p s b (bytes ∷ history) alike =
    ap₂ (λ last rest. (not (named_by p last (reading bytes)) || timeout_for p bytes) && rest) alike.same.last
    (silent-same p (on_record s bytes action_room).state (on_sets b bytes action_room).state history
    (alike_next s b bytes action_room alike))

-- "A partner that waits (any phase but Open) and is from then on named by nothing but timeouts holds no place after its third one", by the
-- number of tries
module _
    (b : SetState)
    (ready : set_ready b ≡ true)
    (p : Partner)
    (waiting-then : set_waits p b ≡ true)
    (history : List (List ℕ))
    (quiet-on : set_silent p b history ≡ true)
    (enough : timeouts_to_release b.limits.tries ≤ timeouts p history)
  where
    -- the state of places that means the same, and as many timeouts as there
    s' : State
    s' = state_of (unpacked b)

    both : Alike s' b
    unfolding s'
    both = record { sound = (some-state b ready).0; ready = ready; same = (some-state b ready).1 }

    as_many : timeouts_to_release s'.limits.tries ≤ timeouts p history
    unfolding s' unpacked
    as_many = enough

    -- it is no member then
    -- promise
    pub set-waiting : is_member p (set_after b history) ≡ false
    set-waiting =
        absent-same (after s' history) (set_after b history) p (alike-after s' b history both).same
        (waiting s' both.sound p (waits-same s' b p both.same waiting-then) history
        (silent-same p s' b history both ∙ quiet-on)
        as_many)

    -- and was released once
    -- promise
    pub set-released-once : set_releases_of p b history ≡ 1
    set-released-once =
        sym (same-counted s' b history both (release_of p))
        ∙ released-once s' both.sound p (waits-same s' b p both.same waiting-then) history
        (silent-same p s' b history both ∙ quiet-on)
        as_many

-- what demand 3 counts from a cold start is what the box's histories count
set-sums : (n : ℕ) (history : List (List ℕ)) → set_sums n history ≡ sums_of n history
unfolding set_sums sums_of
set-sums n history =
    let l = one_to_two n in
    λ i.
    record {
      orders = sym (cold-accepted l history is_order) i;
      calls = sym (cold-accepted l history is_call) i;
      losses = sym (cold-accepted l history is_loss) i;
      actions = sym (cold-actions l history) i;
    }

-- "histories are shown that reach 11, 5 and 3", for every number of tries
-- promise
pub set-reached : (n : ℕ)
    → 1 ≤ n
    → n ≤ most_tries
    → (a b c : ℕ)
    → (c ≡ 0) ⊎ (0 < a + b)
    → set_sums n (reaching n a b c) ≡ counts a b c (per_order n * a + per_call n * b + per_loss n * c)
set-reached n some-try most a b c h = set-sums n (reaching n a b c) ∙ reached n some-try most a b c h

-- with the three tries of document 01
-- promise
pub set-reached-three : (a b c : ℕ)
    → (c ≡ 0) ⊎ (0 < a + b)
    → set_sums fleet_tries (reaching fleet_tries a b c) ≡ counts a b c (11 * a + 5 * b + 3 * c)
set-reached-three a b c h = set-sums fleet_tries (reaching fleet_tries a b c) ∙ demand-reached a b c h
