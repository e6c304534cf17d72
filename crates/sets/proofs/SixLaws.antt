-- The six sets together: how many members there are, counted and listed; a closing adds no member and sends none two actions; sets joined;
-- what soundness and the cold start say of the six.
-- Defines: counts, CountEach, theirs, ours, ended, Joins, GoingFew, with_sets.
-- Proves: count-each, counts-few, counts-size (both `counted`), closed-size, sent-size, set-lists, set-count, joins, onto, everyone-size,
-- sound-by, going-few, ended-joins, ended-tidy, ended-onto, ready-parts, start-sets.
use mathlib.Core.Path.{◌≡◌, refl, sym, ap, ap₂, ◌∙◌}
use mathlib.Core.Bool.{Bool, true, false, cond, ◌&&◌, not}
use mathlib.Core.List.{List, [], ◌∷◌, ◌++◌, map}
use Prim.Native.Nat.{ℕ, suc, ◌+◌, ◌≤◌}
use native.Mathlib.Omega.{arith}
use lib.Dec.{leb}
use lib.ListN.{length, length-append, length-map}
use Rattle.wire.specs.Refusals.{accepted, bad_limits}
use Rattle.place.specs.Table.{first_try, release, terminate}
use Rattle.place.specs.declared.limits.Limits.{Limits}
use Rattle.place.specs.declared.turn.Closing.{Closing}
use Rattle.unit.specs.Lasts.{last_ok}
use Rattle.unit.specs.States.{limits_ok, train_ok, marks_ok, cold, no_limits, cold_start}
use Rattle.unit.specs.Steps.{act}
use Rattle.unit.specs.declared.answer.Action.{Action}
use Rattle.unit.specs.declared.start.Started.{Started}
use Rattle.sets.specs.Members.{most_members, those, apart, members_of, set_of, tidy}
use Rattle.sets.specs.SixSets.{Six, size, everyone, members_ok, sound_sets, unpacked_six, unpacked, packed_six, packed_sets}
use Rattle.sets.specs.SixSets.{tidy_six, set_ready, no_sets, set_cold, set_start}
use Rattle.sets.specs.SetSteps.{tried, shuts, goers, closed_six, sent_all, closing_sent}
use Rattle.sets.specs.Holding.{sound_six}
use Rattle.sets.specs.declared.members.Member.{Member}
use Rattle.sets.specs.declared.members.Members.{Members}
use Rattle.sets.specs.declared.names.SetName.{SetName}
use Rattle.sets.specs.declared.names.SetName.TheVariants.{Calling, Contacted, IncomingSessions, OutgoingSessions, LostSessions}
use Rattle.sets.specs.declared.six.SixSets.{SixSets}
use Rattle.sets.specs.declared.state.SetState.{SetState}
use Rattle.sets.specs.declared.start.SetStarted.{SetStarted}
use Rattle.sets.proofs.MemberLaws.{those-few}
use Rattle.sets.proofs.Packing.{members-set, set-members, set-tidy, tidy-count, tidy-length, six-tidy}

-- the six counts, added up
abbrev pub counts : SixSets → ℕ
counts x =
    x.calling.count
    + (x.contacted.count
    + (x.incoming.count + (x.outgoing.count + (x.lost.count + x.terminating.count))))

-- each of the six counts is four at most
pub record CountEach (x : SixSets) : Type 0 where
  pub calling : x.calling.count ≤ most_members
  pub contacted : x.contacted.count ≤ most_members
  pub incoming : x.incoming.count ≤ most_members
  pub outgoing : x.outgoing.count ≤ most_members
  pub lost : x.lost.count ≤ most_members
  pub terminating : x.terminating.count ≤ most_members

-- of a tidy set it is
pub count-each : (x : SixSets) → tidy_six x ≡ true → CountEach x
count-each x ok =
    let each = six-tidy x ok in
    record {
      calling = tidy-count x.calling each.calling;
      contacted = tidy-count x.contacted each.contacted;
      incoming = tidy-count x.incoming each.incoming;
      outgoing = tidy-count x.outgoing each.outgoing;
      lost = tidy-count x.lost each.lost;
      terminating = tidy-count x.terminating each.terminating;
    }

-- and all of them are no more than six times four
pub counts-few : (x : SixSets) → tidy_six x ≡ true → counts x ≤ 24
counts-few x ok =
    let each = count-each x ok in
    omega (arith, each.calling, each.contacted, each.incoming, each.outgoing, each.lost, each.terminating)

-- what is counted is listed
pub counts-size : (x : SixSets) → tidy_six x ≡ true → counts x ≡ size (unpacked_six x)
unfolding size
counts-size x ok =
    let each = six-tidy x ok in
    omega (
      arith,
      tidy-length x.calling each.calling,
      tidy-length x.contacted each.contacted,
      tidy-length x.incoming each.incoming,
      tidy-length x.outgoing each.outgoing,
      tidy-length x.lost each.lost,
      tidy-length x.terminating each.terminating,
    )

-- what the sum of the counts needs
pub ruleset counted = (counts-few, counts-size)

-- those that pass a test and those that do not are all
those-parts : (test : Member → Bool) (ms : List Member)
    → length (those test ms) + length (those (λ m. not (test m)) ms) ≡ length ms
those-parts test [] = refl
those-parts test (m ∷ ms) = by (test m) (those (λ m. not (test m)) ms) (those-parts test ms)
  where
    by : (b : Bool) (others : List Member)
        → length (those test ms) + length others ≡ length ms
        → length (cond b (m ∷ those test ms) (those test ms)) + length (cond (not b) (m ∷ others) others) ≡ suc (length ms)
    by true others all = omega arith
    by false others all = omega arith

-- those in session that a closing is for, by their own call, by ours, and all of them
abbrev pub theirs : Closing → Six → List Member
theirs which x = goers which IncomingSessions x.incoming

abbrev pub ours : Closing → Six → List Member
ours which x = goers which OutgoingSessions x.outgoing

abbrev pub ended : Closing → Six → List Member
ended which x = theirs which x ++ ours which x

-- a closing adds no member
pub closed-size : (which : Closing) (x : Six) → size (closed_six which x) ≤ size x
unfolding size closed_six
closed-size which x =
    omega (
      arith,
      those-few (λ m. not (shuts which Calling m)) x.calling,
      those-few (λ m. not (shuts which Contacted m)) x.contacted,
      those-parts (shuts which IncomingSessions) x.incoming,
      those-parts (shuts which OutgoingSessions) x.outgoing,
      those-few (λ m. not (shuts which LostSessions m)) x.lost,
      length-append x.terminating (map (tried first_try) (ended which x)),
      length-map (ended which x) (tried first_try),
      length-append (theirs which x) (ours which x),
    )

-- a set's actions in a closing, no more than its members, before the others
sent-more : (which : Closing) (w : SetName) (number : ℕ) (ms : List Member) (acts : List Action) (n : ℕ)
    → length acts ≤ n
    → length (sent_all number (goers which w ms) ++ acts) ≤ length ms + n
sent-more which w number ms acts n few =
    omega (
      arith,
      length-append (sent_all number (goers which w ms)) acts,
      length-map (goers which w ms) (λ m. act m.partner number),
      those-few (shuts which w) ms,
    )

-- no member is sent two actions in a closing
pub sent-size : (which : Closing) (x : Six) → length (closing_sent which x) ≤ size x
unfolding size closing_sent
sent-size which x =
    sent-more which Calling release x.calling _ _
    (sent-more which Contacted release x.contacted _ _
    (sent-more which IncomingSessions terminate x.incoming _ _
    (sent-more which OutgoingSessions terminate x.outgoing _ _
    (omega (
      arith,
      length-map (goers which LostSessions x.lost) (λ m. act m.partner release),
      those-few (shuts which LostSessions) x.lost,
    )))))

-- a set that the code holds for a list has the list's members
pub set-lists : (s : Members) (ms : List Member) → s ≡ set_of ms → length ms ≤ most_members → members_of s ≡ ms
set-lists s ms is few = ap members_of is ∙ members-set ms few

-- and counts as many
pub set-count : (s : Members) (ms : List Member) → s ≡ set_of ms → s.count ≡ length ms
unfolding set_of
set-count s ms is = ap (λ r. r.count) is

-- two sets for lists can be joined: there is room, and the union is the one of the lists
abbrev pub Joins : Members → Members → List Member → List Member → Type 0
Joins s r ms ns =
    ((tidy s ≡ true) × (tidy r ≡ true) × (s.count + r.count ≤ most_members))
    × ((all : Members) → all ≡ set_of (members_of s ++ members_of r) → all ≡ set_of (ms ++ ns))

-- they can where they fit together
pub joins : (s r : Members) (ms ns : List Member)
    → s ≡ set_of ms
    → r ≡ set_of ns
    → length ms + length ns ≤ most_members
    → Joins s r ms ns
joins s r ms ns is are few = (
  (
    ap tidy is ∙ set-tidy ms (omega arith),
    ap tidy are ∙ set-tidy ns (omega arith),
    omega (arith, set-count s ms is, set-count r ns are),
  ),
  λ all joined.
      joined ∙ ap₂ (λ l k. set_of (l ++ k)) (set-lists s ms is (omega arith)) (set-lists r ns are (omega arith)),
)

-- so can a tidy set with the one for a list
pub onto : (s r : Members) (ms : List Member)
    → tidy s ≡ true
    → r ≡ set_of ms
    → length (members_of s) + length ms ≤ most_members
    → Joins s r (members_of s) ms
onto s r ms ok is few = joins s r (members_of s) ms (sym (set-members s ok)) is few

-- the union of the six has as many members as they have in all
pub everyone-size : (x : Six) → length (everyone x) ≡ size x
unfolding size everyone
everyone-size x =
    let fifth = x.lost ++ x.terminating in
    let fourth = x.outgoing ++ fifth in
    let third = x.incoming ++ fourth in
    omega (
      arith,
      length-append x.calling (x.contacted ++ third),
      length-append x.contacted third,
      length-append x.incoming fourth,
      length-append x.outgoing fifth,
      length-append x.lost x.terminating,
    )

-- soundness of the six by the outcomes of the first three tests
pub sound-by : (l : Limits) (x : SixSets) (a b c : Bool)
    → tidy_six x ≡ a
    → leb (size (unpacked_six x)) most_members ≡ b
    → members_ok l (unpacked_six x) ≡ c
    → (a && (b && (c && apart (everyone (unpacked_six x))))) ≡ sound_six l x
unfolding sound_six
sound-by l x a b c tidied few each = sym (λ i. tidied i && (few i && (each i && apart (everyone (unpacked_six x)))))

-- those in session that a closing is for are no more than four, and neither are they with those that terminate
pub record GoingFew (which : Closing) (x : Six) : Type 0 where
  pub both : length (theirs which x) + length (ours which x) ≤ most_members
  pub ending : length x.terminating + length (ended which x) ≤ most_members

-- since no more go than there are
pub going-few : (which : Closing) (x : Six) → size x ≤ most_members → GoingFew which x
unfolding size
going-few which x few =
    let h₁ = those-few (shuts which IncomingSessions) x.incoming in
    let h₂ = those-few (shuts which OutgoingSessions) x.outgoing in
    let h₃ = length-append (theirs which x) (ours which x) in
    record { both = omega arith; ending = omega arith }

-- the sessions that end in a closing, as the code makes their union and puts it behind those that terminate
module _ (which : Closing) (x : SixSets) (ok : tidy_six x ≡ true) (few : size (unpacked_six x) ≤ most_members)
    (called own : Members)
    (called_is : called ≡ set_of (theirs which (unpacked_six x)))
    (own_is : own ≡ set_of (ours which (unpacked_six x))) where
  -- the union of both directions can be made
  pub ended-joins : Joins called own (theirs which (unpacked_six x)) (ours which (unpacked_six x))
  ended-joins =
      joins called own (theirs which (unpacked_six x)) (ours which (unpacked_six x)) called_is own_is
      (going-few which (unpacked_six x) few).both

  module _ (union : Members) (made : union ≡ set_of (members_of called ++ members_of own)) where
    abbrev all_ended : List Member
    all_ended = ended which (unpacked_six x)

    ended-few : length (unpacked_six x).terminating + length all_ended ≤ most_members
    ended-few = (going-few which (unpacked_six x) few).ending

    union-is : union ≡ set_of all_ended
    union-is = ended-joins.1 union made

    -- it is in its form
    pub ended-tidy : tidy union ≡ true
    ended-tidy = ap tidy union-is ∙ set-tidy all_ended (omega (arith, ended-few))

    -- and with its first tries it can be put behind those that terminate
    pub ended-onto : (afresh : Members)
        → afresh ≡ set_of (map (tried first_try) (members_of union))
        → Joins x.terminating afresh (unpacked_six x).terminating (map (tried first_try) all_ended)
    ended-onto afresh is =
        onto x.terminating afresh (map (tried first_try) all_ended) (six-tidy x ok).terminating
        (is
        ∙ ap (λ ms. set_of (map (tried first_try) ms)) (set-lists union all_ended union-is (omega (arith, ended-few))))
        (omega (arith, ended-few, length-map all_ended (tried first_try)))

-- the sets may be tested after the rest of the state
pub ready-parts : (b : SetState)
    → (limits_ok b.limits
    && (train_ok b.train && (marks_ok b.marks && (last_ok b.last && sound_six b.limits b.sets))))
    ≡ set_ready b
unfolding set_ready sound_sets unpacked sound_six
ready-parts b = last-first (limits_ok b.limits) (train_ok b.train) (marks_ok b.marks) (last_ok b.last) (tidy_six b.sets) _
  where
    past : (a e f : Bool) → (a && (e && f)) ≡ (e && (a && f))
    past true e f = refl
    past false true f = refl
    past false false f = refl

    last-first : (a b c d e f : Bool) → (a && (b && (c && (d && (e && f))))) ≡ (e && (a && (b && (c && (d && f)))))
    last-first a b c d e f =
        ap (λ z. a && (b && (c && z))) (past d e f)
        ∙ ap (λ z. a && (b && z)) (past c e (d && f))
        ∙ ap (λ z. a && z) (past b e (c && (d && f)))
        ∙ past a e (b && (c && (d && f)))

-- the box's cold start with six sets for its places
abbrev pub with_sets : Started → SixSets → SetStarted
with_sets r x =
    record {
      code = r.code;
      state =
          record { limits = r.state.limits; train = r.state.train; marks = r.state.marks; sets = x; last = r.state.last };
    }

-- and with six empty ones it is the cold start of sets
pub start-sets : (l : Limits) (r : Started) (x : SixSets) → r ≡ cold_start l → x ≡ packed_six no_sets → with_sets r x
    ≡ set_start l
unfolding cold_start cold set_start set_cold packed_sets
start-sets l r x is none = ap₂ with_sets is none ∙ by (limits_ok l)
  where
    by : (b : Bool)
        → with_sets (cond b (record { code = accepted; state = cold l }) (record { code = bad_limits; state = cold no_limits }))
        (packed_six no_sets)
        ≡ cond b (record { code = accepted; state = set_cold l }) (record { code = bad_limits; state = set_cold no_limits })
    by true = refl
    by false = refl
