-- The sets of a sound state are disjoint, no RIU is incoming, there are at most four members; and the invariants of document 000 that this
-- state can express, by their machines and labels. A sound state steps to a sound one, so all of this holds along every history.
-- Proves: one_set, member-fits, on-track, riu-never-calls, riu-not-incoming, four-members, train-in-range, sessions-connected.
use mathlib.Core.Path.{◌≡◌, refl, sym, ap, ◌∙◌, subst}
use mathlib.Core.Bool.{Bool, true, false, cond, ◌||◌}
use mathlib.Core.List.{List, [], ◌∷◌}
use Prim.Native.Nat.{ℕ, ◌≤◌}
use native.Mathlib.Omega.{arith}
use lib.ListN.{get_or}
use Rattle.wire.proofs.Tests.{and_left, and_right, true-false}
use Rattle.record.specs.Partners.{is_rbc, partner_ok, named_ok}
use Rattle.record.specs.declared.partner.Partner.{Partner}
use Rattle.record.proofs.Partners.{same-eq}
use Rattle.place.specs.Places.{vacant, holds}
use Rattle.place.specs.declared.place.Direction.{Direction}
use Rattle.place.specs.declared.place.Direction.TheVariants.{Outgoing, Incoming}
use Rattle.unit.specs.Kept.{here}
use Rattle.wire.specs.Sums.{sum}
use Rattle.unit.specs.States.{train_ok, seek, sound}
use Rattle.unit.specs.declared.search.Found.{Found}
use Rattle.unit.specs.declared.search.Found.TheVariants.{At, Vacant, Full}
use Rattle.unit.specs.declared.state.State.{State}
use Rattle.unit.proofs.Facts.{sound-facts}
use Rattle.unit.proofs.Searches.{FoundOk, seek_ok}
use Rattle.sets.specs.Members.{most_members, is_for, has_member, member_for, all_of}
use Rattle.sets.specs.SixSets.{set_in, size, tries_in, fits_in, may_be, member_ok, six_in, unpacked, set_ready}
use Rattle.sets.specs.Moves.{sessions_of}
use Rattle.sets.specs.SameSets.{SameState, state_of}
use Rattle.sets.specs.declared.members.Member.{Member}
use Rattle.sets.specs.declared.names.SetName.{SetName}
use Rattle.sets.specs.declared.names.SetName.TheVariants.{Calling, Contacted, IncomingSessions, OutgoingSessions, LostSessions}
use Rattle.sets.specs.declared.names.SetName.TheVariants.{TerminatingSessions}
use Rattle.sets.specs.declared.state.SetState.{SetState}
use Rattle.sets.proofs.Packing.{sets-facts, ready-sound, ready-size}
use Rattle.sets.proofs.Counting.{within-counted, many-in, member_is}
use Rattle.sets.proofs.Meaning.{SoundEach, sound-each}
use Rattle.sets.proofs.SameSearch.{found-same}
use Rattle.sets.proofs.SameStep.{held-as}
use Rattle.sets.proofs.SameAnswers.{some-state}

-- the member of a set of sound ones is sound
found-sound : (test : Member → Bool) (p : Partner) (ms : List Member)
    → all_of test ms ≡ true
    → has_member p ms ≡ true
    → test (member_for p ms) ≡ true
unfolding member_for
found-sound test p [] ok is = true-false false is refl
found-sound test p (m ∷ ms) ok is =
    by (is_for p m) (found-sound test p ms (and_right (test m) (all_of test ms) ok)) is
  where
    by : (b : Bool)
        → (has_member p ms ≡ true → test (member_for p ms) ≡ true)
        → (b || has_member p ms) ≡ true
        → test (cond b m (member_for p ms)) ≡ true
    by true rest is = and_left (test m) (all_of test ms) ok
    by false rest is = rest is

-- the sessions, and those that are not connected
apart_of : SetName → ℕ
apart_of Calling = 0
apart_of Contacted = 1
apart_of IncomingSessions = 1
apart_of OutgoingSessions = 1
apart_of LostSessions = 0
apart_of TerminatingSessions = 1

module _ (b : SetState) (ready : set_ready b ≡ true) where
  -- the state of places that means the same, its soundness, and that it does
  s : State
  s = state_of (unpacked b)

  good : sound s ≡ true
  unfolding s
  good = (some-state b ready).0

  same : SameState s (unpacked b)
  unfolding s
  same = (some-state b ready).1

  -- "Prove the sets disjoint": a partner stands in one set only. 000, machine 1, inv1: incoming and outgoing sessions are a partition of
  -- the sessions; machine 2, inv5: nobody is contacted and in session
  -- promise
  pub one_set : (p : Partner) (w v : SetName)
      → has_member p (set_in w (six_in b)) ≡ true
      → has_member p (set_in v (six_in b)) ≡ true
      → w ≡ v
  unfolding unpacked
  one_set p w v in-w in-v = by (seek p s.places) (seek_ok p s.places)
    where
      some-place : 1 ≤ sum (here (holds p)) s.places
      some-place =
          let held = same.members (λ w. is_for p) in
          let one = within-counted p (set_in w (six_in b)) in-w in
          let all = many-in (λ w. is_for p) w (six_in b) in
          omega arith

      by : (found : Found) → FoundOk p s.places found → w ≡ v
      by (At i ph) (below, held, phase) =
          held-as p ph (get_or s.places i vacant).holding held phase (λ k. w ≡ v)
          (λ d at.
          let one = (sound-facts s good).places.1 p in
          sym (found-same p s.places (six_in b) same.members one i below d ph at w in-w).0
          ∙ (found-same p s.places (six_in b) same.members one i below d ph at v in-v).0)
      by (Vacant i) (below, free, none) =
          let some = some-place in
          absurd (omega arith)
      by Full (full, none) =
          let some = some-place in
          absurd (omega arith)

  -- each member is sound by itself in its set: its partner may have a place, its tries and its direction are ones of that set
  -- promise
  pub member-fits : (p : Partner) (w : SetName)
      → has_member p (set_in w (six_in b)) ≡ true
      → member_ok b.limits w (member_for p (set_in w (six_in b))) ≡ true
  unfolding unpacked
  member-fits p w is = by w is
    where
      each : SoundEach b.limits (six_in b)
      each = sound-each b.limits (six_in b) (sets-facts (unpacked b) (ready-sound b ready)).members

      by : (w : SetName) → has_member p (set_in w (six_in b)) ≡ true
          → member_ok b.limits w (member_for p (set_in w (six_in b))) ≡ true
      by Calling is = found-sound (member_ok b.limits Calling) p (six_in b).calling each.calling is
      by Contacted is = found-sound (member_ok b.limits Contacted) p (six_in b).contacted each.contacted is
      by IncomingSessions is = found-sound (member_ok b.limits IncomingSessions) p (six_in b).incoming each.incoming is
      by OutgoingSessions is = found-sound (member_ok b.limits OutgoingSessions) p (six_in b).outgoing each.outgoing is
      by LostSessions is = found-sound (member_ok b.limits LostSessions) p (six_in b).lost each.lost is
      by TerminatingSessions is = found-sound (member_ok b.limits TerminatingSessions) p (six_in b).terminating each.terminating is

  -- the member found is the partner itself
  itself : (p : Partner) (w : SetName) → has_member p (set_in w (six_in b)) ≡ true
      → (member_for p (set_in w (six_in b))).partner ≡ p
  itself p w is = sym (same-eq p (member_for p (set_in w (six_in b))).partner (member_is p (set_in w (six_in b)) is))

  -- 000, machine 0, inv1; machine 2, inv1 and inv2; machine 3, inv4: whoever is in a set is on the track side, an RBC or an RIU
  -- promise
  pub on-track : (p : Partner) (w : SetName) → has_member p (set_in w (six_in b)) ≡ true → partner_ok p ≡ true
  unfolding member_ok
  on-track p w is =
      let m = member_for p (set_in w (six_in b)) in
      ap partner_ok (sym (itself p w is))
      ∙ and_left (partner_ok m.partner) _ (and_left (named_ok m.partner) _ (member-fits p w is))

  -- the direction of a member, by its set
  direction-fits : (p : Partner) (w : SetName)
      → has_member p (set_in w (six_in b)) ≡ true
      → fits_in w (member_for p (set_in w (six_in b))).direction ≡ true
  unfolding member_ok
  direction-fits p w is =
      let m = member_for p (set_in w (six_in b)) in
      and_left (fits_in w m.direction) (may_be m.direction m.partner)
      (and_right (tries_in b.limits w m.tries) _ (and_right (named_ok m.partner) _ (member-fits p w is)))

  -- "no RIU incoming": whoever has that direction, in whichever set, is an RBC
  -- promise
  pub riu-never-calls : (p : Partner) (w : SetName)
      → has_member p (set_in w (six_in b)) ≡ true
      → (member_for p (set_in w (six_in b))).direction ≡ Incoming
      → is_rbc p ≡ true
  unfolding member_ok
  riu-never-calls p w is calls =
      let m = member_for p (set_in w (six_in b)) in
      let may =
      and_right (fits_in w m.direction) (may_be m.direction m.partner)
      (and_right (tries_in b.limits w m.tries) _ (and_right (named_ok m.partner) _ (member-fits p w is))) in
      subst (λ q. is_rbc q ≡ true) (itself p w is) (subst (λ d. may_be d m.partner ≡ true) calls may)

  -- 000, machine 2, inv6: "incoming_sessions ∩ RIU = ∅"
  -- promise
  pub riu-not-incoming : (p : Partner) → has_member p (six_in b).incoming ≡ true → is_rbc p ≡ true
  riu-not-incoming p is =
      riu-never-calls p IncomingSessions is (by (member_for p (six_in b).incoming).direction (direction-fits p IncomingSessions is))
    where
      by : (d : Direction) → fits_in IncomingSessions d ≡ true → d ≡ Incoming
      by Outgoing h = true-false false h refl
      by Incoming h = refl

  -- "at most four members in all"
  -- promise
  pub four-members : size (six_in b) ≤ most_members
  four-members = ready-size b ready

  -- 000, machine 4, inv1 and inv3: the level and the status are ones that there are
  -- promise
  pub train-in-range : train_ok b.train ≡ true
  unfolding unpacked
  train-in-range = (sets-facts (unpacked b) (ready-sound b ready)).train

  -- 000, machine 5, inv3: who is in session has a connection: it is neither being called nor lost
  -- promise
  pub sessions-connected : (p : Partner) (d : Direction)
      → has_member p (set_in (sessions_of d) (six_in b)) ≡ true
      → (has_member p (six_in b).calling ≡ false) × (has_member p (six_in b).lost ≡ false)
  unfolding apart_of
  sessions-connected p d is = (
    by (has_member p (six_in b).calling) (λ in-calling. ap apart_of (one_set p (sessions_of d) Calling is in-calling)),
    by (has_member p (six_in b).lost) (λ in-lost. ap apart_of (one_set p (sessions_of d) LostSessions is in-lost)),
  )
    where
      connected : (d : Direction) → apart_of (sessions_of d) ≡ 1
      connected Outgoing = refl
      connected Incoming = refl

      by : (c : Bool) → (c ≡ true → apart_of (sessions_of d) ≡ 0) → c ≡ false
      by true h =
          let none = h refl in
          let one = connected d in
          absurd (omega arith)
      by false h = refl
