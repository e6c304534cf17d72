-- A set as the code holds it and the list of its members are the same thing: each reads back as the other.
-- Defines: TidyEach, FewEach, SetFacts.
-- Proves: members-set, set-tidy, tidy-items, tidy-count, tidy-length, set-members, six-tidy, packed-six, unpacked-six, packed-tidy,
-- ready-tidy, ready-sound, sets-facts, facts-sets, ready-size, packed-ready, unpacked-few, ready-packed.
use mathlib.Core.Path.{◌≡◌, refl, sym, ap, ap₂, ◌∙◌}
use mathlib.Core.Bool.{true, false, ◌&&◌}
use mathlib.Core.List.{List, [], ◌∷◌, ◌++◌}
use Prim.Native.Nat.{ℕ, zero, suc, ◌+◌, ◌≤◌}
use native.Mathlib.Nat.{le_of_suc-le-suc}
use native.Mathlib.Omega.{arith}
use lib.Dec.{eqb, leb}
use lib.ListN.{length, take, drop, replicate, length-append}
use lib.Seq.{length-take-le}
use borrow.Author.Tests.{eqb-true, leb-true, eq-eqb, le-leb}
use Rattle.wire.proofs.Tests.{and_left, and_right, and_both, true-false}
use Rattle.wire.proofs.Padded.{padded-take}
use Rattle.record.proofs.Partners.{same-eq}
use Rattle.place.specs.Places.{direction_number}
use Rattle.place.specs.declared.place.Direction.{Direction}
use Rattle.place.specs.declared.place.Direction.TheVariants.{Outgoing, Incoming}
use Rattle.unit.specs.Lasts.{last_ok}
use Rattle.unit.specs.States.{limits_ok, train_ok, marks_ok}
use Rattle.sets.specs.Members.{most_members, no_member, is_for, all_of, apart, is_no_member, members_of, set_of, tidy}
use Rattle.sets.specs.SixSets.{Six, Sets, size, everyone, members_ok, sound_sets, unpacked_six, unpacked, packed_six, packed_sets}
use Rattle.sets.specs.SixSets.{tidy_six, set_ready}
use Rattle.sets.specs.declared.members.Member.{Member}
use Rattle.sets.specs.declared.members.Members.{Members}
use Rattle.sets.specs.declared.six.SixSets.{SixSets}
use Rattle.sets.specs.declared.state.SetState.{SetState}

-- no more members than a set has room for read back
pub members-set : (ms : List Member) → length ms ≤ most_members → members_of (set_of ms) ≡ ms
unfolding members_of set_of
members-set ms few = padded-take most_members no_member ms few

-- the padded list, from its length on: nothing but zeros
padded-after : (n k : ℕ) (ms : List Member)
    → length ms ≤ n
    → all_of is_no_member (drop (length ms) (take n (ms ++ replicate k no_member))) ≡ true
padded-after n k [] few = by n k
  where
    by : (n k : ℕ) → all_of is_no_member (take n (replicate k no_member)) ≡ true
    by zero k = refl
    by (suc n) zero = refl
    by (suc n) (suc k) = by n k
padded-after zero k (m ∷ ms) few = absurd (omega arith)
padded-after (suc n) k (m ∷ ms) few = padded-after n k ms (le_of_suc-le-suc few)

-- and such a set is tidy
pub set-tidy : (ms : List Member) → length ms ≤ most_members → tidy (set_of ms) ≡ true
unfolding tidy set_of
set-tidy ms few =
    and_both _ _
    (eq-eqb _ _
    (length-take-le most_members (ms ++ replicate most_members no_member)
    (let e = length-append ms (replicate most_members no_member) in omega arith)))
    (and_both _ _ (le-leb (length ms) most_members few) (padded-after most_members most_members ms few))

-- a tidy set has room for four
pub tidy-items : (s : Members) → tidy s ≡ true → length s.items ≡ most_members
unfolding tidy
tidy-items s ok = eqb-true (length s.items) most_members (and_left _ _ ok)

-- its count is four at most
pub tidy-count : (s : Members) → tidy s ≡ true → s.count ≤ most_members
unfolding tidy
tidy-count s ok =
    leb-true s.count most_members
    (and_left (leb s.count most_members) _ (and_right (eqb (length s.items) most_members) _ ok))

-- and it is how many members there are
pub tidy-length : (s : Members) → tidy s ≡ true → length (members_of s) ≡ s.count
unfolding members_of
tidy-length s ok =
    let long = tidy-items s ok in
    let few = tidy-count s ok in
    length-take-le s.count s.items (omega arith)

-- zeros are one member only
none_is : (m : Member) → is_no_member m ≡ true → m ≡ no_member
none_is m ok =
    let whom = is_for no_member.partner m in
    let first = eqb m.tries 0 in
    let second = eqb (direction_number m.direction) 0 in
    let rest = and_right whom (first && second) ok in
    λ i.
    record {
      partner = sym (same-eq no_member.partner m.partner (and_left whom (first && second) ok)) i;
      tries = eqb-true m.tries 0 (and_left first second rest) i;
      direction = by m.direction (and_right first second rest) i;
    }
  where
    by : (d : Direction) → eqb (direction_number d) 0 ≡ true → d ≡ Outgoing
    by Outgoing h = refl
    by Incoming h = true-false false h refl

-- a list whose end is zeros is its front, filled up
filled : (n c : ℕ) (ms : List Member)
    → length ms ≡ n
    → c ≤ n
    → all_of is_no_member (drop c ms) ≡ true
    → (k : ℕ)
    → n ≤ k + c
    → take n (take c ms ++ replicate k no_member) ≡ ms
filled n zero ms long few none k enough = padded ms n long none k enough
  where
    padded : (ms : List Member) (n : ℕ)
        → length ms ≡ n
        → all_of is_no_member ms ≡ true
        → (k : ℕ)
        → n ≤ k + 0
        → take n (replicate k no_member) ≡ ms
    padded [] zero long none k enough = refl
    padded [] (suc n) long none k enough = absurd (omega arith)
    padded (m ∷ ms) zero long none k enough = absurd (omega arith)
    padded (m ∷ ms) (suc n) long none zero enough = absurd (omega arith)
    padded (m ∷ ms) (suc n) long none (suc k) enough =
        ap₂ ◌∷◌ (sym (none_is m (and_left (is_no_member m) _ none)))
        (padded ms n (omega arith) (and_right (is_no_member m) (all_of is_no_member ms) none) k (omega arith))
filled zero (suc c) ms long few none k enough = absurd (omega arith)
filled (suc n) (suc c) [] long few none k enough = absurd (omega arith)
filled (suc n) (suc c) (m ∷ ms) long few none k enough =
    ap (◌∷◌ m) (filled n c ms (omega arith) (omega arith) none k (omega arith))

-- a tidy set is the one of its members
pub set-members : (s : Members) → tidy s ≡ true → set_of (members_of s) ≡ s
unfolding members_of set_of tidy
set-members s ok =
    let after =
    and_right (leb s.count most_members) (all_of is_no_member (drop s.count s.items))
    (and_right (eqb (length s.items) most_members) _ ok) in
    λ i.
    record {
      items =
          filled most_members s.count s.items (tidy-items s ok) (tidy-count s ok) after most_members (omega arith) i;
      count = tidy-length s ok i;
    }

-- each of the six sets is tidy
pub record TidyEach (x : SixSets) : Type 0 where
  pub calling : tidy x.calling ≡ true
  pub contacted : tidy x.contacted ≡ true
  pub incoming : tidy x.incoming ≡ true
  pub outgoing : tidy x.outgoing ≡ true
  pub lost : tidy x.lost ≡ true
  pub terminating : tidy x.terminating ≡ true

-- it is where the six are
pub six-tidy : (x : SixSets) → tidy_six x ≡ true → TidyEach x
unfolding tidy_six
six-tidy x ok =
    let fifth = tidy x.lost && tidy x.terminating in
    let fourth = tidy x.outgoing && fifth in
    let third = tidy x.incoming && fourth in
    let second = tidy x.contacted && third in
    let h₁ = and_right (tidy x.calling) second ok in
    let h₂ = and_right (tidy x.contacted) third h₁ in
    let h₃ = and_right (tidy x.incoming) fourth h₂ in
    let h₄ = and_right (tidy x.outgoing) fifth h₃ in
    record {
      calling = and_left (tidy x.calling) second ok;
      contacted = and_left (tidy x.contacted) third h₁;
      incoming = and_left (tidy x.incoming) fourth h₂;
      outgoing = and_left (tidy x.outgoing) fifth h₃;
      lost = and_left (tidy x.lost) (tidy x.terminating) h₄;
      terminating = and_right (tidy x.lost) (tidy x.terminating) h₄;
    }

-- and the six are where each is
tidy-six : (x : SixSets) → TidyEach x → tidy_six x ≡ true
unfolding tidy_six
tidy-six x each =
    and_both _ _ each.calling
    (and_both _ _ each.contacted
    (and_both _ _ each.incoming
    (and_both _ _ each.outgoing (and_both _ _ each.lost each.terminating))))

-- six tidy sets are those of their lists
pub packed-six : (x : SixSets) → tidy_six x ≡ true → packed_six (unpacked_six x) ≡ x
packed-six x ok =
    let each = six-tidy x ok in
    λ i.
    record {
      calling = set-members x.calling each.calling i;
      contacted = set-members x.contacted each.contacted i;
      incoming = set-members x.incoming each.incoming i;
      outgoing = set-members x.outgoing each.outgoing i;
      lost = set-members x.lost each.lost i;
      terminating = set-members x.terminating each.terminating i;
    }

-- with no more than four in all there is room for each
pub record FewEach (x : Six) : Type 0 where
  pub calling : length x.calling ≤ most_members
  pub contacted : length x.contacted ≤ most_members
  pub incoming : length x.incoming ≤ most_members
  pub outgoing : length x.outgoing ≤ most_members
  pub lost : length x.lost ≤ most_members
  pub terminating : length x.terminating ≤ most_members

-- since one set is no more than all
size_few : (x : Six) → size x ≤ most_members → FewEach x
unfolding size
size_few x few =
    record {
      calling = omega arith;
      contacted = omega arith;
      incoming = omega arith;
      outgoing = omega arith;
      lost = omega arith;
      terminating = omega arith;
    }

-- six lists of no more than four members in all read back
pub unpacked-six : (x : Six) → size x ≤ most_members → unpacked_six (packed_six x) ≡ x
unpacked-six x few =
    let each = size_few x few in
    λ i.
    record {
      calling = members-set x.calling each.calling i;
      contacted = members-set x.contacted each.contacted i;
      incoming = members-set x.incoming each.incoming i;
      outgoing = members-set x.outgoing each.outgoing i;
      lost = members-set x.lost each.lost i;
      terminating = members-set x.terminating each.terminating i;
    }

-- and what the code holds for them is tidy
pub packed-tidy : (x : Six) → size x ≤ most_members → tidy_six (packed_six x) ≡ true
packed-tidy x few =
    let each = size_few x few in
    tidy-six (packed_six x) (
    record {
      calling = set-tidy x.calling each.calling;
      contacted = set-tidy x.contacted each.contacted;
      incoming = set-tidy x.incoming each.incoming;
      outgoing = set-tidy x.outgoing each.outgoing;
      lost = set-tidy x.lost each.lost;
      terminating = set-tidy x.terminating each.terminating;
    }
    )

-- a state that is ready has tidy sets
pub ready-tidy : (b : SetState) → set_ready b ≡ true → tidy_six b.sets ≡ true
unfolding set_ready
ready-tidy b ok = and_left (tidy_six b.sets) (sound_sets (unpacked b)) ok

-- and its lists are sound
pub ready-sound : (b : SetState) → set_ready b ≡ true → sound_sets (unpacked b) ≡ true
unfolding set_ready
ready-sound b ok = and_right (tidy_six b.sets) (sound_sets (unpacked b)) ok

-- what soundness says, part by part
pub record SetFacts (z : Sets) : Type 0 where
  pub limits : limits_ok z.limits ≡ true
  pub train : train_ok z.train ≡ true
  pub marks : marks_ok z.marks ≡ true
  pub last : last_ok z.last ≡ true
  pub few : size z.six ≤ most_members
  pub members : members_ok z.limits z.six ≡ true
  pub lone : apart (everyone z.six) ≡ true

-- a sound state has them
pub sets-facts : (z : Sets) → sound_sets z ≡ true → SetFacts z
unfolding sound_sets
sets-facts z ok =
    let sixth = members_ok z.limits z.six && apart (everyone z.six) in
    let fifth = leb (size z.six) most_members && sixth in
    let fourth = last_ok z.last && fifth in
    let third = marks_ok z.marks && fourth in
    let second = train_ok z.train && third in
    let h₁ = and_right (limits_ok z.limits) second ok in
    let h₂ = and_right (train_ok z.train) third h₁ in
    let h₃ = and_right (marks_ok z.marks) fourth h₂ in
    let h₄ = and_right (last_ok z.last) fifth h₃ in
    let h₅ = and_right (leb (size z.six) most_members) sixth h₄ in
    record {
      limits = and_left (limits_ok z.limits) second ok;
      train = and_left (train_ok z.train) third h₁;
      marks = and_left (marks_ok z.marks) fourth h₂;
      last = and_left (last_ok z.last) fifth h₃;
      few = leb-true (size z.six) most_members (and_left (leb (size z.six) most_members) sixth h₄);
      members = and_left (members_ok z.limits z.six) (apart (everyone z.six)) h₅;
      lone = and_right (members_ok z.limits z.six) (apart (everyone z.six)) h₅;
    }

-- and a state that has them is sound
pub facts-sets : (z : Sets) → SetFacts z → sound_sets z ≡ true
unfolding sound_sets
facts-sets z f =
    and_both (limits_ok z.limits) _ f.limits
    (and_both (train_ok z.train) _ f.train
    (and_both (marks_ok z.marks) _ f.marks
    (and_both (last_ok z.last) _ f.last
    (and_both (leb (size z.six) most_members) _ (le-leb (size z.six) most_members f.few)
    (and_both (members_ok z.limits z.six) (apart (everyone z.six)) f.members f.lone)))))

-- a state that is ready has four members at most
pub ready-size : (b : SetState) → set_ready b ≡ true → size (unpacked_six b.sets) ≤ most_members
unfolding unpacked
ready-size b ok = (sets-facts (unpacked b) (ready-sound b ok)).few

-- a state that is ready is the one of its lists
pub packed-ready : (b : SetState) → set_ready b ≡ true → packed_sets (unpacked b) ≡ b
unfolding packed_sets unpacked
packed-ready b ok =
    λ i.
    record {
      limits = b.limits;
      train = b.train;
      marks = b.marks;
      sets = packed-six b.sets (ready-tidy b ok) i;
      last = b.last;
    }

-- and lists of no more than four members read back
pub unpacked-few : (z : Sets) → size z.six ≤ most_members → unpacked (packed_sets z) ≡ z
unfolding packed_sets unpacked
unpacked-few z few =
    λ i.
    record { limits = z.limits; train = z.train; marks = z.marks; six = unpacked-six z.six few i; last = z.last }

-- what the code holds for a sound state is ready
pub ready-packed : (z : Sets) → sound_sets z ≡ true → set_ready (packed_sets z) ≡ true
unfolding set_ready packed_sets
ready-packed z ok =
    and_both _ _ (packed-tidy z.six (sets-facts z ok).few) (ap sound_sets (unpacked-few z (sets-facts z ok).few) ∙ ok)
