-- A search over places and the six tests over sets find the same.
-- Proves: nowhere-none, found-same, stands-there, is_within, member-there, room-left, no_room.
use Rattle.std.specs.Prelude.{Option, Some, None}
use mathlib.Core.Path.{◌≡◌, refl, sym, ap, ◌∙◌, subst}
use mathlib.Core.Bool.{Bool, true, false, ◌&&◌, not}
use mathlib.Core.List.{List, [], ◌∷◌}
use Prim.Native.Nat.{ℕ, ◌+◌, ◌≤◌, ◌<◌}
use native.Mathlib.Omega.{arith}
use lib.Dec.{eqb}
use lib.ListN.{length, get_or}
use borrow.Author.Tests.{eqb-true, eq-eqb}
use Rattle.wire.proofs.Tests.{and_left, and_right, and_both, true-false}
use Rattle.record.specs.Partners.{same_partner}
use Rattle.record.specs.declared.partner.Partner.{Partner}
use Rattle.record.proofs.Partners.{same_refl, same-eq}
use Rattle.place.specs.Places.{direction_number, tries, vacant, is_free, holds}
use Rattle.place.proofs.Holdings.{holds_in}
use Rattle.place.specs.declared.phase.Phase.{Phase}
use Rattle.place.specs.declared.place.Direction.{Direction}
use Rattle.place.specs.declared.place.Direction.TheVariants.{Outgoing, Incoming}
use Rattle.place.specs.declared.place.Holding.{Holding}
use Rattle.place.specs.declared.place.Holding.TheVariants.{Free, Held}
use Rattle.place.specs.declared.place.Place.{Place}
use Rattle.unit.specs.Kept.{here}
use Rattle.wire.specs.Sums.{sum}
use Rattle.wire.specs.Bytes.{as_bit}
use Rattle.unit.proofs.Weights.{weigh-at}
use Rattle.sets.specs.Members.{is_for, has_member, member_for}
use Rattle.sets.specs.SixSets.{Six, set_in, size, whereabouts}
use Rattle.sets.specs.SetSteps.{new_member}
use Rattle.sets.specs.SameSets.{name_of, place_passes, many}
use Rattle.sets.specs.declared.members.Member.{Member}
use Rattle.sets.specs.declared.names.SetName.{SetName}
use Rattle.sets.specs.declared.names.SetName.TheVariants.{Calling, Contacted, IncomingSessions, OutgoingSessions, LostSessions}
use Rattle.sets.specs.declared.names.SetName.TheVariants.{TerminatingSessions}
use Rattle.sets.proofs.Counting.{within-counted, member_is, count_in-without, many-in, many-both, many-size, WhereOk, where-ok}
use Rattle.sets.proofs.Counting.{stands-within}
use Rattle.sets.proofs.Meaning.{Same}

-- the six sets have different numbers
abbrev name_number : SetName → ℕ
name_number Calling = 0
name_number Contacted = 1
name_number IncomingSessions = 2
name_number OutgoingSessions = 3
name_number LostSessions = 4
name_number TerminatingSessions = 5

-- by which they are told apart
name-at : ℕ → SetName
name-at n = get_or (Calling ∷ Contacted ∷ IncomingSessions ∷ OutgoingSessions ∷ LostSessions ∷ TerminatingSessions
    ∷ []) n Calling

-- each set has the name of its number
name_back : (w : SetName) → name-at (name_number w) ≡ w
unfolding name-at
name_back Calling = refl
name_back Contacted = refl
name_back IncomingSessions = refl
name_back OutgoingSessions = refl
name_back LostSessions = refl
name_back TerminatingSessions = refl

-- a direction is told by its number
direction-back : (d e : Direction) → direction_number d ≡ direction_number e → d ≡ e
direction-back Outgoing Outgoing same = refl
direction-back Outgoing Incoming same = absurd (omega arith)
direction-back Incoming Outgoing same = absurd (omega arith)
direction-back Incoming Incoming same = refl

-- the same member of the same set
abbrev alike : SetName → Member → SetName → Member → Bool
alike w m v n =
    eqb (name_number w) (name_number v)
    && (same_partner m.partner n.partner
    && (eqb m.tries n.tries && eqb (direction_number m.direction) (direction_number n.direction)))

-- a member is the same as itself
alike-itself : (w : SetName) (m : Member) → alike w m w m ≡ true
alike-itself w m =
    and_both _ _ (eq-eqb (name_number w) (name_number w) refl)
    (and_both _ _ (same_refl m.partner)
    (and_both _ _ (eq-eqb m.tries m.tries refl) (eq-eqb (direction_number m.direction) (direction_number m.direction) refl)))

-- and what is the same is one
alike_same : (w : SetName) (m : Member) (v : SetName) (n : Member) → alike w m v n ≡ true → (w ≡ v) × (m ≡ n)
alike_same w m v n ok =
    let a = eqb (name_number w) (name_number v) in
    let b = same_partner m.partner n.partner in
    let c = eqb m.tries n.tries in
    let d = eqb (direction_number m.direction) (direction_number n.direction) in
    let h₁ : (b && (c && d)) ≡ true = and_right a (b && (c && d)) ok in
    let h₂ : (c && d) ≡ true = and_right b (c && d) h₁ in
    let number : name_number w ≡ name_number v = eqb-true (name_number w) (name_number v) (and_left a (b && (c && d)) ok) in (
      sym (name_back w) ∙ ap name-at number ∙ name_back v,
      λ i.
          record {
            partner = same-eq m.partner n.partner (and_left b (c && d) h₁) i;
            tries = eqb-true m.tries n.tries (and_left c d h₂) i;
            direction =
                direction-back m.direction n.direction
                (eqb-true (direction_number m.direction) (direction_number n.direction) (and_right c d h₂)) i;
          },
    )

module _ (p : Partner) (ps : List Place) (x : Six) (same : Same ps x) where
  -- a partner with no place stands nowhere
  pub nowhere-none : sum (here (holds p)) ps ≡ 0 → whereabouts p x ≡ None
  nowhere-none none = by (whereabouts p x) refl (where-ok p x)
    where
      by : (o : Option SetName) → whereabouts p x ≡ o → WhereOk p x o → whereabouts p x ≡ None
      by (Some w) is ok =
          let held = same (λ w. is_for p) in
          let one = within-counted p (set_in w x) ok in
          let all = many-in (λ w. is_for p) w x in
          absurd (omega arith)
      by None is ok = is

  -- one with a place stands in the set of its phase, as its member
  module _ (one : sum (here (holds p)) ps ≤ 1) (i : ℕ) (below : i < length ps) (d : Direction) (ph : Phase)
      (at : (get_or ps i vacant).holding ≡ Held d ph p) where
    -- the member that the place holds
    abbrev there : Member
    there = new_member d (tries ph) p

    -- the members that are the partner and not the one found
    abbrev others : SetName → SetName → Member → Bool
    others v w m = is_for p m && not (alike w m v (member_for p (set_in v x)))

    -- and the one found itself
    abbrev found : SetName → SetName → Member → Bool
    found v w m = is_for p m && alike w m v (member_for p (set_in v x))

    -- whoever is the partner is one or the other
    split : (a b : Bool) → as_bit (a && not b) + as_bit (a && b) ≡ as_bit a
    split true true = refl
    split true false = refl
    split false b = refl

    -- nobody else is the partner
    alone : (v : SetName) → has_member p (set_in v x) ≡ true → many (others v) x ≡ 0
    alone v is =
        let held = same (λ w. is_for p) in
        let m = member_for p (set_in v x) in
        let sum = many-both (others v) (found v) (λ w. is_for p)
        (λ w m. split (is_for p m) (alike w m v (member_for p (set_in v x)))) x in
        let taken = count_in-without (found v v) p (set_in v x) is in
        let itself : as_bit (found v v m) ≡ 1 = ap as_bit (and_both _ _ (member_is p (set_in v x) is) (alike-itself v m)) in
        let some = many-in (found v) v x in
        omega arith

    -- so the place holds that one
    not-other : (v : SetName) → has_member p (set_in v x) ≡ true → place_passes (others v) (get_or ps i vacant) ≡ false
    not-other v is =
        let none = alone v is in
        let all = same (others v) in
        let least = weigh-at (here (place_passes (others v))) ps i below in
        by (place_passes (others v) (get_or ps i vacant)) (omega arith)
      where
        by : (b : Bool) → as_bit b ≡ 0 → b ≡ false
        by true h = absurd (omega arith)
        by false h = refl

    -- read off what the place holds
    held-other : (v : SetName) (k : Holding)
        → k ≡ Held d ph p
        → place_passes (others v) (record { holding = k }) ≡ false
        → (is_for p there && not (alike (name_of d ph) there v (member_for p (set_in v x)))) ≡ false
    held-other v k is none = subst (λ h. place_passes (others v) (record { holding = h }) ≡ false) is none

    -- the member that a set has for the partner is the one that the place holds, and it is that set
    pub found-same : (v : SetName)
        → has_member p (set_in v x) ≡ true
        → (name_of d ph ≡ v) × (there ≡ member_for p (set_in v x))
    found-same v is =
        alike_same (name_of d ph) there v (member_for p (set_in v x))
        (by (is_for p there) (alike (name_of d ph) there v (member_for p (set_in v x))) (same_refl p)
        (held-other v (get_or ps i vacant).holding at (not-other v is)))
      where
        by : (a b : Bool) → a ≡ true → (a && not b) ≡ false → b ≡ true
        by a true h g = refl
        by true false h g = true-false true refl g
        by false false h g = true-false false h refl

    -- where it stands
    pub stands-there : whereabouts p x ≡ Some (name_of d ph)
    stands-there = by (whereabouts p x) refl (where-ok p x)
      where
        by : (o : Option SetName) → whereabouts p x ≡ o → WhereOk p x o → whereabouts p x ≡ Some (name_of d ph)
        by (Some v) is ok = is ∙ ap Some (sym (found-same v ok).0)
        by None is ok =
            let held = same (λ w. is_for p) in
            let least = weigh-at (here (holds p)) ps i below in
            let itself : here (holds p) (get_or ps i vacant) ≡ 1 =
            ap (λ k. as_bit (holds_in p k)) at ∙ ap as_bit (same_refl p) in
            absurd (omega arith)

    -- so it is a member there
    pub is_within : has_member p (set_in (name_of d ph) x) ≡ true
    is_within = stands-within p x (name_of d ph) stands-there

    -- and the member is the one that the place holds
    pub member-there : member_for p (set_in (name_of d ph) x) ≡ there
    member-there = sym (found-same (name_of d ph) is_within).1

-- places that are held, and places that are free
held-free : (ps : List Place) → sum (here (place_passes (λ w m. true))) ps + sum (here is_free) ps ≡ length ps
unfolding sum
held-free [] = refl
held-free (p ∷ ps) = by p.holding (held-free ps)
  where
    by : (k : Holding)
        → sum (here (place_passes (λ w m. true))) ps + sum (here is_free) ps ≡ length ps
        → (here (place_passes (λ w m. true)) (record { holding = k }) + sum (here (place_passes (λ w m. true))) ps)
        + (here is_free (record { holding = k }) + sum (here is_free) ps)
        ≡ length (p ∷ ps)
    by Free rest = omega arith
    by (Held d ph q) rest = omega arith

-- there is room for one more member where a place is free
pub room-left : (ps : List Place) (x : Six) (i : ℕ)
    → Same ps x
    → i < length ps
    → is_free (get_or ps i vacant) ≡ true
    → size x < length ps
room-left ps x i same below free =
    let sum = held-free ps in
    let all = same (λ w m. true) in
    let members = many-size x in
    let least = weigh-at (here is_free) ps i below in
    let one : here is_free (get_or ps i vacant) ≡ 1 = ap as_bit free in
    omega arith

-- and none where no place is
pub no_room : (ps : List Place) (x : Six) → Same ps x → sum (here is_free) ps ≡ 0 → size x ≡ length ps
no_room ps x same full =
    let sum = held-free ps in
    let all = same (λ w m. true) in
    let members = many-size x in
    omega arith
