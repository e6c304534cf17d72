-- The six sets by their names, as the code walks over them: tested, asked for a partner, joined, and sent the actions of a closing.
-- Defines: union_to, next, closing_order, sent_at, sent_to, turn.
-- Proves: held-tidy, held-members, tidy-names, sound-names, found-names, union-joins, union-next, union-all, goers-held, sends-next,
-- sent-next, sent-last.
use Rattle.std.specs.Prelude.{find, flat_map}
use Rattle.std.specs.List.{list_all}
use Rattle.std.proofs.lemmas.List.{take_more}
use Rattle.std.proofs.lemmas.List.Folds.{length-flat_map-take}
use Rattle.std.proofs.lemmas.Grind.{flat_map-append}
use mathlib.Core.Path.{◌≡◌, refl, sym, ap, ◌∙◌}
use mathlib.Core.Bool.{true, ◌&&◌}
use mathlib.Core.List.{List, [], ◌∷◌, ◌++◌, append-nil}
use Prim.Native.Nat.{ℕ, ◌+◌, ◌≤◌, ◌<◌}
use native.Mathlib.Omega.{arith}
use lib.ListN.{length, get_or, take}
use Rattle.history.proofs.Counted.{and-true}
use Rattle.record.specs.declared.partner.Partner.{Partner}
use Rattle.place.specs.Table.{release, terminate}
use Rattle.place.specs.declared.limits.Limits.{Limits}
use Rattle.place.specs.declared.turn.Closing.{Closing}
use Rattle.unit.specs.Forms.{listed}
use Rattle.unit.specs.declared.answer.Action.{Action}
use Rattle.unit.specs.declared.answer.Actions.{Actions}
use Rattle.sets.specs.Members.{most_members, has_member, all_of, members_of, set_of, tidy}
use Rattle.sets.specs.SixSets.{Six, set_in, size, everyone, whereabouts, member_ok, members_ok, unpacked_six, tidy_six}
use Rattle.sets.specs.SetSteps.{goers, sent_all, closing_sent}
use Rattle.sets.specs.Holding.{six_names, held_set}
use Rattle.sets.specs.declared.members.Member.{Member}
use Rattle.sets.specs.declared.members.Members.{Members}
use Rattle.sets.specs.declared.names.SetName.{SetName}
use Rattle.sets.specs.declared.names.SetName.TheVariants.{Calling, Contacted, IncomingSessions, OutgoingSessions, LostSessions}
use Rattle.sets.specs.declared.names.SetName.TheVariants.{TerminatingSessions}
use Rattle.sets.specs.declared.six.SixSets.{SixSets}
use Rattle.sets.proofs.Packing.{set-members, six-tidy}
use Rattle.sets.proofs.SixLaws.{Joins, joins, everyone-size, sent-size}
use Rattle.sets.proofs.SentLaws.{Sends, all-length, sends}

-- each held set is tidy
pub held-tidy : (w : SetName) (x : SixSets) → tidy_six x ≡ true → tidy (held_set w x) ≡ true
held-tidy Calling x ok = (six-tidy x ok).calling
held-tidy Contacted x ok = (six-tidy x ok).contacted
held-tidy IncomingSessions x ok = (six-tidy x ok).incoming
held-tidy OutgoingSessions x ok = (six-tidy x ok).outgoing
held-tidy LostSessions x ok = (six-tidy x ok).lost
held-tidy TerminatingSessions x ok = (six-tidy x ok).terminating

-- the members of a held set are those of the list
pub held-members : (w : SetName) (x : SixSets) → members_of (held_set w x) ≡ set_in w (unpacked_six x)
held-members Calling x = refl
held-members Contacted x = refl
held-members IncomingSessions x = refl
held-members OutgoingSessions x = refl
held-members LostSessions x = refl
held-members TerminatingSessions x = refl

-- that each passes is told by the tests of one after the other
pub tidy-names : (x : SixSets) → list_all (λ w. tidy (held_set w x)) six_names ≡ tidy_six x
unfolding tidy_six
tidy-names x =
    ap
    (λ last. tidy x.calling && (tidy x.contacted && (tidy x.incoming && (tidy x.outgoing && (tidy x.lost && last)))))
    (and-true (tidy x.terminating))

pub sound-names : (l : Limits) (x : SixSets)
    → list_all (λ w. all_of (member_ok l w) (members_of (held_set w x))) six_names ≡ members_ok l (unpacked_six x)
unfolding members_ok
sound-names l x =
    let good = λ (w : SetName). all_of (member_ok l w) (members_of (held_set w x)) in
    ap
    (λ last.
    good Calling
    && (good Contacted && (good IncomingSessions && (good OutgoingSessions && (good LostSessions && last)))))
    (and-true (good TerminatingSessions))

-- the first that has the partner is where it stands
pub found-names : (p : Partner) (x : SixSets)
    → find (λ w. has_member p (members_of (held_set w x))) six_names ≡ whereabouts p (unpacked_six x)
unfolding whereabouts
found-names p x = refl

-- the union of the first so many sets
abbrev pub union_to : SixSets → ℕ → List Member
union_to x i = flat_map (λ w. set_in w (unpacked_six x)) (take i six_names)

-- of all six
pub union-all : (x : SixSets) → flat_map (λ w. set_in w (unpacked_six x)) six_names ≡ everyone (unpacked_six x)
unfolding everyone
union-all x =
    let y = unpacked_six x in
    ap (λ ms. y.calling ++ (y.contacted ++ (y.incoming ++ (y.outgoing ++ (y.lost ++ ms))))) (append-nil y.terminating)

module _ (x : SixSets) (i : ℕ) (below : i < length six_names) where
  -- the set that comes next
  abbrev pub next : SetName
  next = get_or six_names i Calling

  -- stands behind those before it
  pub union-next : union_to x i ++ set_in next (unpacked_six x) ≡ union_to x (i + 1)
  union-next =
      let one = λ (w : SetName). set_in w (unpacked_six x) in
      sym
      (ap (flat_map one) (take_more six_names i Calling below)
      ∙ flat_map-append one (take i six_names) (next ∷ [])
      ∙ ap (λ ms. union_to x i ++ ms) (append-nil (one next)))

  -- and has room there
  pub union-joins : (all one : Members)
      → tidy_six x ≡ true
      → size (unpacked_six x) ≤ most_members
      → all ≡ set_of (union_to x i)
      → one ≡ held_set next x
      → Joins all one (union_to x i) (set_in next (unpacked_six x))
  union-joins all one ok few so_far is =
      joins all one (union_to x i) (set_in next (unpacked_six x)) so_far
      (is ∙ sym (set-members (held_set next x) (held-tidy next x ok)) ∙ ap set_of (held-members next x))
      (omega (
        arith,
        length-flat_map-take (λ w. set_in w (unpacked_six x)) six_names i Calling below,
        ap length (union-all x),
        everyone-size (unpacked_six x),
      ))

-- the sets that a closing sends actions, with their numbers, in the order of the actions
abbrev pub closing_order : List (SetName × ℕ)
closing_order =
    (Calling, release)
    ∷ (Contacted, release)
    ∷ (IncomingSessions, terminate)
    ∷ (OutgoingSessions, terminate)
    ∷ (LostSessions, release)
    ∷ []

-- those of a held set that a closing is for
pub goers-held : (which : Closing) (w : SetName) (x : SixSets) (one gone : Members)
    → one ≡ held_set w x
    → gone ≡ set_of (goers which w (members_of one))
    → gone ≡ set_of (goers which w (set_in w (unpacked_six x)))
goers-held which w x one gone is are =
    are ∙ ap (λ ms. set_of (goers which w ms)) (ap members_of is ∙ held-members w x)

module _ (which : Closing) (x : Six) where
  -- the actions for one of them, and for the first so many
  abbrev pub sent_at : SetName × ℕ → List Action
  sent_at one = sent_all one.1 (goers which one.0 (set_in one.0 x))

  abbrev pub sent_to : ℕ → List Action
  sent_to i = flat_map sent_at (take i closing_order)

  -- for all of them they are the closing's
  pub sent-last : flat_map sent_at closing_order ≡ closing_sent which x
  unfolding closing_sent
  sent-last =
      ap
      (λ acts.
      sent_at (Calling, release)
      ++ (sent_at (Contacted, release)
      ++ (sent_at (IncomingSessions, terminate) ++ (sent_at (OutgoingSessions, terminate) ++ acts))))
      (append-nil (sent_at (LostSessions, release)))

  module _ (i : ℕ) (below : i < length closing_order) where
    -- the one that comes next
    abbrev pub turn : SetName × ℕ
    turn = get_or closing_order i (Calling, 0)

    -- its actions come last
    pub sent-next : sent_to i ++ sent_at turn ≡ sent_to (i + 1)
    sent-next =
        sym
        (ap (flat_map sent_at) (take_more closing_order i (Calling, 0) below)
        ∙ flat_map-append sent_at (take i closing_order) (turn ∷ [])
        ∙ ap (λ acts. sent_to i ++ acts) (append-nil (sent_at turn)))

    -- and there is room for them
    pub sends-next : (sent : Actions) (gone : Members)
        → size x ≤ most_members
        → sent ≡ listed (sent_to i)
        → gone ≡ set_of (goers which turn.0 (set_in turn.0 x))
        → Sends sent gone (sent_to i) (goers which turn.0 (set_in turn.0 x))
    sends-next sent gone few so_far are =
        sends sent gone (sent_to i) (goers which turn.0 (set_in turn.0 x)) so_far are
        (omega (
          arith,
          length-flat_map-take sent_at closing_order i (Calling, 0) below,
          ap length sent-last,
          sent-size which x,
          all-length turn.1 (goers which turn.0 (set_in turn.0 x)),
        ))
