-- Places and sets that mean the same: one is sound exactly where the other is, and each has the other.
-- Defines: Same, SoundEach.
-- Proves: sound-each, same_size, sound-sets, sets_of-same, sets_of-sound, state_of-same, state_of-sound.
use mathlib.Core.Path.{◌≡◌, refl, sym, ap, ap₂, ◌∙◌}
use mathlib.Core.Bool.{Bool, true, false, cond, ◌&&◌, not}
use mathlib.Core.List.{List, [], ◌∷◌, ◌++◌, map}
use Prim.Native.Nat.{ℕ, zero, suc, ◌+◌, ◌-◌, ◌≤◌}
use native.Mathlib.Omega.{arith}
use lib.Dec.{eqb}
use lib.ListN.{length, replicate, length-append, length-replicate, length-map}
use borrow.Author.Tests.{eqb-true}
use Rattle.wire.proofs.Tests.{and_left, and_right, and_both, true-false}
use Rattle.record.specs.Partners.{is_rbc, named_ok}
use Rattle.record.specs.declared.partner.Partner.{Partner}
use Rattle.record.proofs.Partners.{same_refl, same-eq}
use Rattle.place.specs.Places.{tries, vacant, seat, on_holding, tries_ok, place_ok}
use Rattle.place.specs.declared.limits.Limits.{Limits}
use Rattle.place.specs.declared.phase.Phase.{Phase}
use Rattle.place.specs.declared.phase.Phase.TheVariants.{Connecting, Contacting, Open, Lost, Ending}
use Rattle.place.specs.declared.place.Direction.{Direction}
use Rattle.place.specs.declared.place.Direction.TheVariants.{Outgoing, Incoming}
use Rattle.place.specs.declared.place.Holding.{Holding}
use Rattle.place.specs.declared.place.Holding.TheVariants.{Free, Held}
use Rattle.place.specs.declared.place.Place.{Place}
use Rattle.unit.specs.Kept.{here}
use Rattle.wire.specs.Sums.{sum}
use Rattle.wire.specs.Bytes.{as_bit}
use Rattle.unit.specs.Lasts.{last_ok}
use Rattle.unit.specs.States.{place_count, limits_ok, train_ok, marks_ok, sound}
use Rattle.unit.specs.declared.state.State.{State}
use Rattle.unit.proofs.Facts.{bad, PlacesFacts, sound-facts, facts-sound}
use Rattle.unit.proofs.Weights.{weigh-same, weigh-few}
use Rattle.history.proofs.Counted.{and-true}
use Rattle.sets.specs.Members.{most_members, is_for, has_member, all_of, apart}
use Rattle.sets.specs.SixSets.{Six, Sets, set_in, with_set, size, everyone, tries_in, fits_in, may_be, member_ok, members_ok, sound_sets}
use Rattle.sets.specs.SetSteps.{new_member}
use Rattle.sets.specs.SameSets.{name_of, place_passes, count_in, many, SameState, gather, sets_of, phase_for, seat_of, places_of}
use Rattle.sets.specs.SameSets.{state_of}
use Rattle.sets.specs.declared.members.Member.{Member}
use Rattle.sets.specs.declared.names.SetName.{SetName}
use Rattle.sets.specs.declared.names.SetName.TheVariants.{Calling, Contacted, IncomingSessions, OutgoingSessions, LostSessions}
use Rattle.sets.specs.declared.names.SetName.TheVariants.{TerminatingSessions}
use Rattle.sets.proofs.Packing.{sets-facts, facts-sets}
use Rattle.sets.proofs.Counting.{none-fails, all_pass, within-counted, counted-within, many-set, many-everyone, many-size}

-- the places hold what the sets have
abbrev pub Same : List Place → Six → Type 0
Same ps x = (test : SetName → Member → Bool) → sum (here (place_passes test)) ps ≡ many test x

-- nobody passes a test that nobody passes
and-false : (b : Bool) → (b && false) ≡ false
and-false true = refl
and-false false = refl

-- a place is sound by itself where its member is
member-ok : (l : Limits) (d : Direction) (ph : Phase) (p : Partner)
    → member_ok l (name_of d ph) (new_member d (tries ph) p) ≡ place_ok l (seat d ph p)
unfolding member_ok
member-ok l Outgoing (Connecting t) p = refl
member-ok l Outgoing (Contacting t) p = refl
member-ok l Outgoing Open p = refl
member-ok l Outgoing (Lost t) p = refl
member-ok l Outgoing (Ending t) p = refl
member-ok l Incoming (Connecting t) p = ap (λ b. named_ok p && (tries_ok l t && b)) (sym (and-false (is_rbc p)))
member-ok l Incoming (Contacting t) p = ap (λ b. named_ok p && (tries_ok l t && b)) (sym (and-false (is_rbc p)))
member-ok l Incoming Open p = ap (λ b. named_ok p && b) (sym (and-true (is_rbc p)))
member-ok l Incoming (Lost t) p = ap (λ b. named_ok p && (tries_ok l t && b)) (sym (and-true (is_rbc p)))
member-ok l Incoming (Ending t) p = ap (λ b. named_ok p && (tries_ok l t && b)) (sym (and-true (is_rbc p)))

-- a member that is not sound
abbrev unsound : Limits → SetName → Member → Bool
unsound l w m = not (member_ok l w m)

-- the places that are not sound by themselves are those of such members
bad-places : (l : Limits) (ps : List Place) → sum (here (place_passes (unsound l))) ps ≡ sum (bad l) ps
bad-places l ps = weigh-same _ _ (λ p. by p.holding) ps
  where
    turned : (a b : Bool) → a ≡ b → as_bit (not a) ≡ cond b 0 1
    turned true b same = ap (λ c. cond c 0 1) same
    turned false b same = ap (λ c. cond c 0 1) same

    by : (k : Holding) → here (place_passes (unsound l)) (record { holding = k }) ≡ bad l (record { holding = k })
    by Free = refl
    by (Held d ph p) = turned _ _ (member-ok l d ph p)

-- every member sound is no member that is not
members-sound : (l : Limits) (x : Six) → many (unsound l) x ≡ 0 → members_ok l x ≡ true
unfolding many members_ok
members-sound l x none =
    and_both _ _ (none-fails (member_ok l Calling) x.calling (omega arith))
    (and_both _ _ (none-fails (member_ok l Contacted) x.contacted (omega arith))
    (and_both _ _ (none-fails (member_ok l IncomingSessions) x.incoming (omega arith))
    (and_both _ _ (none-fails (member_ok l OutgoingSessions) x.outgoing (omega arith))
    (and_both _ _ (none-fails (member_ok l LostSessions) x.lost (omega arith))
    (none-fails (member_ok l TerminatingSessions) x.terminating (omega arith))))))

-- the members of each set are sound
pub record SoundEach (l : Limits) (x : Six) : Type 0 where
  pub calling : all_of (member_ok l Calling) x.calling ≡ true
  pub contacted : all_of (member_ok l Contacted) x.contacted ≡ true
  pub incoming : all_of (member_ok l IncomingSessions) x.incoming ≡ true
  pub outgoing : all_of (member_ok l OutgoingSessions) x.outgoing ≡ true
  pub lost : all_of (member_ok l LostSessions) x.lost ≡ true
  pub terminating : all_of (member_ok l TerminatingSessions) x.terminating ≡ true

-- as they are where all are
pub sound-each : (l : Limits) (x : Six) → members_ok l x ≡ true → SoundEach l x
unfolding members_ok
sound-each l x ok =
    let fifth = all_of (member_ok l LostSessions) x.lost && all_of (member_ok l TerminatingSessions) x.terminating in
    let fourth = all_of (member_ok l OutgoingSessions) x.outgoing && fifth in
    let third = all_of (member_ok l IncomingSessions) x.incoming && fourth in
    let second = all_of (member_ok l Contacted) x.contacted && third in
    let h₁ = and_right (all_of (member_ok l Calling) x.calling) second ok in
    let h₂ = and_right (all_of (member_ok l Contacted) x.contacted) third h₁ in
    let h₃ = and_right (all_of (member_ok l IncomingSessions) x.incoming) fourth h₂ in
    let h₄ = and_right (all_of (member_ok l OutgoingSessions) x.outgoing) fifth h₃ in
    record {
      calling = and_left (all_of (member_ok l Calling) x.calling) second ok;
      contacted = and_left (all_of (member_ok l Contacted) x.contacted) third h₁;
      incoming = and_left (all_of (member_ok l IncomingSessions) x.incoming) fourth h₂;
      outgoing = and_left (all_of (member_ok l OutgoingSessions) x.outgoing) fifth h₃;
      lost = and_left (all_of (member_ok l LostSessions) x.lost) _ h₄;
      terminating = and_right (all_of (member_ok l LostSessions) x.lost) _ h₄;
    }

-- and no member is unsound where all are sound
sound-members : (l : Limits) (x : Six) → members_ok l x ≡ true → many (unsound l) x ≡ 0
unfolding many
sound-members l x ok =
    let each = sound-each l x ok in
    let a = all_pass (member_ok l Calling) x.calling each.calling in
    let b = all_pass (member_ok l Contacted) x.contacted each.contacted in
    let c = all_pass (member_ok l IncomingSessions) x.incoming each.incoming in
    let d = all_pass (member_ok l OutgoingSessions) x.outgoing each.outgoing in
    let e = all_pass (member_ok l LostSessions) x.lost each.lost in
    let f = all_pass (member_ok l TerminatingSessions) x.terminating each.terminating in
    omega arith

-- no partner twice is no partner counted twice
lone-apart : (ms : List Member) → ((q : Partner) → count_in (is_for q) ms ≤ 1) → apart ms ≡ true
unfolding count_in apart
lone-apart [] one = refl
lone-apart (m ∷ ms) one =
    and_both _ _ (by (has_member m.partner ms) refl)
    (lone-apart ms
    (λ q.
    let all = one q in
    omega arith))
  where
    by : (b : Bool) → has_member m.partner ms ≡ b → not b ≡ true
    by true is =
        let itself : as_bit (is_for m.partner m) ≡ 1 = ap as_bit (same_refl m.partner) in
        let again = within-counted m.partner ms is in
        let all = one m.partner in
        absurd (omega arith)
    by false is = refl

-- and the other way round
apart-lone : (ms : List Member) → apart ms ≡ true → (q : Partner) → count_in (is_for q) ms ≤ 1
unfolding count_in apart
apart-lone [] ok q = omega arith
apart-lone (m ∷ ms) ok q =
    by (is_for q m) refl (apart-lone ms (and_right (not (has_member m.partner ms)) (apart ms) ok) q)
    (and_left (not (has_member m.partner ms)) (apart ms) ok)
  where
    absent : (b : Bool) → not b ≡ true → b ≡ false
    absent true h = true-false true refl (sym h)
    absent false h = refl

    by : (b : Bool)
        → is_for q m ≡ b
        → count_in (is_for q) ms ≤ 1
        → not (has_member m.partner ms) ≡ true
        → as_bit b + count_in (is_for q) ms ≤ 1
    by true is rest none =
        let nobody = counted-within m.partner ms (absent (has_member m.partner ms) none) in
        let same : count_in (is_for q) ms ≡ count_in (is_for m.partner) ms = ap (λ r. count_in (is_for r) ms) (same-eq q m.partner is) in
        omega arith
    by false is rest none = omega arith

-- as many members as held places, hence no more than places
pub same_size : (ps : List Place) (x : Six) → Same ps x → size x ≤ length ps
same_size ps x same =
    let all = same (λ w m. true) in
    let members = many-size x in
    let few = weigh-few (here (place_passes (λ w m. true))) ps (λ p. by p.holding) in
    omega arith
  where
    by : (k : Holding) → here (place_passes (λ w m. true)) (record { holding = k }) ≤ 1
    by Free = omega arith
    by (Held d ph p) = omega arith

-- the facts of sound places, and those of sound sets
module _ (l : Limits) (ps : List Place) (x : Six) (same : Same ps x) where
  -- sound places make sound sets
  places-sets : PlacesFacts l ps → (members_ok l x ≡ true) × (apart (everyone x) ≡ true)
  places-sets facts = (
    members-sound l x (sym (same (unsound l)) ∙ bad-places l ps ∙ facts.0),
    lone-apart (everyone x)
        (λ q.
        let one = facts.1 q in
        let held = same (λ w. is_for q) in
        let all = many-everyone (is_for q) x in
        omega arith),
  )

  -- and sound sets sound places
  sets-places : members_ok l x ≡ true → apart (everyone x) ≡ true → PlacesFacts l ps
  sets-places members lone = (
    sym (bad-places l ps) ∙ same (unsound l) ∙ sound-members l x members,
    λ q.
        let one = apart-lone (everyone x) lone q in
        let held = same (λ w. is_for q) in
        let all = many-everyone (is_for q) x in
        omega arith,
  )

-- a state that means the same as a sound one is sound
pub sound-sets : (s : State) (z : Sets) → SameState s z → sound s ≡ true → sound_sets z ≡ true
sound-sets s z same ok =
    let f = sound-facts s ok in
    let size = same_size s.places z.six same.members in
    let four = f.four in
    let sets = places-sets s.limits s.places z.six same.members f.places in
    facts-sets z (
    record {
      limits = ap limits_ok (sym same.limits) ∙ f.limits;
      train = ap train_ok (sym same.train) ∙ f.train;
      marks = ap marks_ok (sym same.marks) ∙ f.marks;
      last = ap last_ok (sym same.last) ∙ f.last;
      few = omega arith;
      members = ap (λ l. members_ok l z.six) (sym same.limits) ∙ sets.0;
      lone = sets.1;
    }
    )

-- and the other way round, of four places
sets-sound : (s : State) (z : Sets)
    → SameState s z
    → length s.places ≡ place_count
    → sound_sets z ≡ true
    → sound s ≡ true
sets-sound s z same four ok =
    let f = sets-facts z ok in
    facts-sound s (
    record {
      limits = ap limits_ok same.limits ∙ f.limits;
      train = ap train_ok same.train ∙ f.train;
      marks = ap marks_ok same.marks ∙ f.marks;
      four = four;
      places =
          sets-places s.limits s.places z.six same.members (ap (λ l. members_ok l z.six) same.limits ∙ f.members)
          f.lone;
      last = ap last_ok same.last ∙ f.last;
    }
    )

-- the sets gathered from places mean the same
gather-same : (ps : List Place) → Same ps (gather ps)
unfolding sum gather many count_in
gather-same [] test = refl
gather-same (p ∷ ps) test = by p.holding (gather-same ps test)
  where
    by : (k : Holding)
        → sum (here (place_passes test)) ps ≡ many test (gather ps)
        → here (place_passes test) (record { holding = k }) + sum (here (place_passes test)) ps
        ≡ many test
        (on_holding (gather ps)
        (λ d ph q. with_set (name_of d ph) (new_member d (tries ph) q ∷ set_in (name_of d ph) (gather ps)) (gather ps))
        k)
    by Free rest = omega arith
    by (Held d ph q) rest =
        let store = many-set test (name_of d ph) (new_member d (tries ph) q ∷ set_in (name_of d ph) (gather ps)) (gather ps) in
        omega arith

-- so the state of sets gathered from a state of places means the same
pub sets_of-same : (s : State) → SameState s (sets_of s)
sets_of-same s = record { limits = refl; train = refl; marks = refl; members = gather-same s.places; last = refl }

-- "every sound place state has a set state that means the same"
pub sets_of-sound : (s : State) → sound s ≡ true → sound_sets (sets_of s) ≡ true
sets_of-sound s ok = sound-sets s (sets_of s) (sets_of-same s) ok

-- places joined weigh what both weigh
weigh-append : (f : Place → ℕ) (xs ys : List Place) → sum f (xs ++ ys) ≡ sum f xs + sum f ys
unfolding sum
weigh-append f [] ys = omega arith
weigh-append f (p ∷ xs) ys =
    let rest = weigh-append f xs ys in
    omega arith

-- and free ones nothing
weigh-vacant : (test : SetName → Member → Bool) (n : ℕ) → sum (here (place_passes test)) (replicate n vacant) ≡ 0
unfolding sum
weigh-vacant test zero = refl
weigh-vacant test (suc n) =
    let rest = weigh-vacant test n in
    omega arith

-- a sound member's place holds that member
seat-passes : (l : Limits) (test : SetName → Member → Bool) (w : SetName) (m : Member)
    → member_ok l w m ≡ true
    → place_passes test (seat_of w m) ≡ test w m
unfolding member_ok
seat-passes l test w m ok = by w m.direction m.tries (and_right (named_ok m.partner) _ ok)
  where
    by : (w : SetName) (d : Direction) (t : ℕ)
        → (tries_in l w t && (fits_in w d && may_be d m.partner)) ≡ true
        → test (name_of d (phase_for w t)) (new_member d (tries (phase_for w t)) m.partner) ≡ test w (new_member d t m.partner)
    by Calling d t ok = refl
    by Contacted d t ok = refl
    by IncomingSessions Outgoing t ok = true-false false (and_right (eqb t 0) false ok) refl
    by IncomingSessions Incoming t ok =
        ap (λ u. test IncomingSessions (new_member Incoming u m.partner)) (sym (eqb-true t 0 (and_left (eqb t 0) _ ok)))
    by OutgoingSessions Outgoing t ok =
        ap (λ u. test OutgoingSessions (new_member Outgoing u m.partner)) (sym (eqb-true t 0 (and_left (eqb t 0) _ ok)))
    by OutgoingSessions Incoming t ok = true-false false (and_right (eqb t 0) false ok) refl
    by LostSessions d t ok = refl
    by TerminatingSessions d t ok = refl

-- so the places of sound members of a set count as the members do
seats-passing : (l : Limits) (test : SetName → Member → Bool) (w : SetName) (ms : List Member)
    → all_of (member_ok l w) ms ≡ true
    → sum (here (place_passes test)) (map (seat_of w) ms) ≡ count_in (test w) ms
unfolding sum count_in
seats-passing l test w [] ok = refl
seats-passing l test w (m ∷ ms) ok =
    ap₂ (λ b k. as_bit b + k) (seat-passes l test w m (and_left (member_ok l w m) (all_of (member_ok l w) ms) ok))
    (seats-passing l test w ms (and_right (member_ok l w m) (all_of (member_ok l w) ms) ok))

-- the places of sound members mean the same
places_same : (l : Limits) (x : Six) → members_ok l x ≡ true → Same (places_of x) x
unfolding places_of many
places_same l x ok test =
    let each = sound-each l x ok in
    let f = here (place_passes test) in
    let p = map (seat_of Calling) x.calling in
    let q = map (seat_of Contacted) x.contacted in
    let r = map (seat_of IncomingSessions) x.incoming in
    let s = map (seat_of OutgoingSessions) x.outgoing in
    let t = map (seat_of LostSessions) x.lost in
    let u = map (seat_of TerminatingSessions) x.terminating in
    let whole = weigh-append f (p ++ (q ++ (r ++ (s ++ (t ++ u))))) (replicate (place_count - size x) vacant) in
    let none = weigh-vacant test (place_count - size x) in
    let first = weigh-append f p (q ++ (r ++ (s ++ (t ++ u)))) in
    let second = weigh-append f q (r ++ (s ++ (t ++ u))) in
    let third = weigh-append f r (s ++ (t ++ u)) in
    let fourth = weigh-append f s (t ++ u) in
    let fifth = weigh-append f t u in
    let a = seats-passing l test Calling x.calling each.calling in
    let b = seats-passing l test Contacted x.contacted each.contacted in
    let c = seats-passing l test IncomingSessions x.incoming each.incoming in
    let d = seats-passing l test OutgoingSessions x.outgoing each.outgoing in
    let e = seats-passing l test LostSessions x.lost each.lost in
    let g = seats-passing l test TerminatingSessions x.terminating each.terminating in
    omega arith

-- and there are four of them
places-four : (x : Six) → size x ≤ most_members → length (places_of x) ≡ place_count
unfolding places_of size
places-four x few =
    let p = map (seat_of Calling) x.calling in
    let q = map (seat_of Contacted) x.contacted in
    let r = map (seat_of IncomingSessions) x.incoming in
    let s = map (seat_of OutgoingSessions) x.outgoing in
    let t = map (seat_of LostSessions) x.lost in
    let u = map (seat_of TerminatingSessions) x.terminating in
    let rest = replicate (place_count - size x) vacant in
    let whole = length-append (p ++ (q ++ (r ++ (s ++ (t ++ u))))) rest in
    let free = length-replicate (place_count - size x) vacant in
    let first = length-append p (q ++ (r ++ (s ++ (t ++ u)))) in
    let second = length-append q (r ++ (s ++ (t ++ u))) in
    let third = length-append r (s ++ (t ++ u)) in
    let fourth = length-append s (t ++ u) in
    let fifth = length-append t u in
    let a = length-map x.calling (seat_of Calling) in
    let b = length-map x.contacted (seat_of Contacted) in
    let c = length-map x.incoming (seat_of IncomingSessions) in
    let d = length-map x.outgoing (seat_of OutgoingSessions) in
    let e = length-map x.lost (seat_of LostSessions) in
    let g = length-map x.terminating (seat_of TerminatingSessions) in
    omega arith

-- so the state of places made from sound sets means the same
pub state_of-same : (z : Sets) → sound_sets z ≡ true → SameState (state_of z) z
state_of-same z ok =
    record {
      limits = refl;
      train = refl;
      marks = refl;
      members = places_same z.limits z.six (sets-facts z ok).members;
      last = refl;
    }

-- "and the other way round"
pub state_of-sound : (z : Sets) → sound_sets z ≡ true → sound (state_of z) ≡ true
state_of-sound z ok = sets-sound (state_of z) z (state_of-same z ok) (places-four z.six (sets-facts z ok).few) ok
