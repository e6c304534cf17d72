-- How many members pass a test: the accounts of a store, a removal and a choice; what the six tests say of where a partner stands.
-- Defines: WhereOk.
-- Proves: count_in-append, count_in-map, count_in-none, count_in-all, count_in-same, count_in-parts, none-fails, all_pass, within-counted,
-- counted-within, member_is, count_in-without, many-set, many-in, member-many, many-everyone, many-size, many-both, where-ok,
-- stands-within.
use Rattle.std.specs.Prelude.{Option, Some, None}
use mathlib.Core.Path.{◌≡◌, refl, ap, ap₂, subst}
use mathlib.Core.Bool.{Bool, true, false, cond, ◌&&◌, ◌||◌, not}
use mathlib.Core.List.{List, [], ◌∷◌, ◌++◌, map}
use Prim.Native.Nat.{◌+◌, ◌≤◌}
use native.Mathlib.Omega.{arith}
use lib.ListN.{length}
use Rattle.wire.proofs.Tests.{and_left, and_right, cond-case, true-false}
use Rattle.record.specs.declared.partner.Partner.{Partner}
use Rattle.wire.specs.Bytes.{as_bit}
use Rattle.sets.specs.Members.{is_for, has_member, member_for, without, joining, those, all_of}
use Rattle.sets.specs.SixSets.{Six, set_in, with_set, size, everyone, whereabouts}
use Rattle.sets.specs.SetSteps.{with_member}
use Rattle.sets.specs.SameSets.{count_in, many}
use Rattle.sets.specs.declared.members.Member.{Member}
use Rattle.sets.specs.declared.names.SetName.{SetName}
use Rattle.sets.specs.declared.names.SetName.TheVariants.{Calling, Contacted, IncomingSessions, OutgoingSessions, LostSessions}
use Rattle.sets.specs.declared.names.SetName.TheVariants.{TerminatingSessions}

-- of two lists as many pass as of the one and of the other
pub count_in-append : (test : Member → Bool) (xs ys : List Member) → count_in test (xs ++ ys) ≡ count_in test xs + count_in test ys
unfolding count_in
count_in-append test [] ys = omega arith
count_in-append test (m ∷ xs) ys =
    let rest = count_in-append test xs ys in
    omega arith

-- of changed members as many pass as of the members by the test of the change
pub count_in-map : (test : Member → Bool) (f : Member → Member) (ms : List Member)
    → count_in test (map f ms) ≡ count_in (λ m. test (f m)) ms
unfolding count_in
count_in-map test f [] = refl
count_in-map test f (m ∷ ms) = ap (λ k. as_bit (test (f m)) + k) (count_in-map test f ms)

-- none passes the test that nobody passes
pub count_in-none : (ms : List Member) → count_in (λ m. false) ms ≡ 0
unfolding count_in
count_in-none [] = refl
count_in-none (m ∷ ms) =
    let rest = count_in-none ms in
    omega arith

-- and all pass the one that everybody passes
pub count_in-all : (ms : List Member) → count_in (λ m. true) ms ≡ length ms
unfolding count_in
count_in-all [] = refl
count_in-all (m ∷ ms) =
    let rest = count_in-all ms in
    omega arith

-- two tests that say the same count the same
pub count_in-same : (test other : Member → Bool) → ((m : Member) → test m ≡ other m) → (ms : List Member)
    → count_in test ms ≡ count_in other ms
unfolding count_in
count_in-same test other same [] = refl
count_in-same test other same (m ∷ ms) = ap₂ (λ b k. as_bit b + k) (same m) (count_in-same test other same ms)

-- those that pass a first test are counted by one, the others by another
pub count_in-parts : (test passed failed : Member → Bool) (ms : List Member)
    → count_in (λ m. cond (test m) (passed m) (failed m)) ms
    ≡ count_in passed (those test ms) + count_in failed (those (λ m. not (test m)) ms)
unfolding count_in
count_in-parts test passed failed [] = refl
count_in-parts test passed failed (m ∷ ms) = by (test m) (count_in-parts test passed failed ms)
  where
    by : (b : Bool)
        → count_in (λ m. cond (test m) (passed m) (failed m)) ms
        ≡ count_in passed (those test ms) + count_in failed (those (λ m. not (test m)) ms)
        → as_bit (cond b (passed m) (failed m)) + count_in (λ m. cond (test m) (passed m) (failed m)) ms
        ≡ count_in passed (cond b (m ∷ those test ms) (those test ms))
        + count_in failed (cond (not b) (m ∷ those (λ m. not (test m)) ms) (those (λ m. not (test m)) ms))
    by true rest = omega arith
    by false rest = omega arith

-- no member fails a test exactly where all pass it
pub none-fails : (test : Member → Bool) (ms : List Member) → count_in (λ m. not (test m)) ms ≡ 0 → all_of test ms ≡ true
unfolding count_in
none-fails test [] none = refl
none-fails test (m ∷ ms) none = by (test m) (none-fails test ms) none
  where
    by : (b : Bool)
        → (count_in (λ m. not (test m)) ms ≡ 0 → all_of test ms ≡ true)
        → as_bit (not b) + count_in (λ m. not (test m)) ms ≡ 0
        → (b && all_of test ms) ≡ true
    by true rest none = rest (omega arith)
    by false rest none = absurd (omega arith)

-- and the other way round
pub all_pass : (test : Member → Bool) (ms : List Member) → all_of test ms ≡ true → count_in (λ m. not (test m)) ms ≡ 0
unfolding count_in
all_pass test [] ok = refl
all_pass test (m ∷ ms) ok =
    ap₂ (λ b k. as_bit (not b) + k) (and_left (test m) (all_of test ms) ok) (all_pass test ms (and_right (test m) (all_of test ms) ok))

-- a partner that is a member is counted, and one that is none is not
pub within-counted : (p : Partner) (ms : List Member) → has_member p ms ≡ true → 1 ≤ count_in (is_for p) ms
unfolding count_in
within-counted p [] is = true-false false is refl
within-counted p (m ∷ ms) is = by (is_for p m) (within-counted p ms) is
  where
    by : (b : Bool)
        → (has_member p ms ≡ true → 1 ≤ count_in (is_for p) ms)
        → (b || has_member p ms) ≡ true
        → 1 ≤ as_bit b + count_in (is_for p) ms
    by true rest is = omega arith
    by false rest is =
        let more = rest is in
        omega arith

-- and where nobody is the partner none is counted
pub counted-within : (p : Partner) (ms : List Member) → has_member p ms ≡ false → count_in (is_for p) ms ≡ 0
unfolding count_in
counted-within p [] none = refl
counted-within p (m ∷ ms) none = by (is_for p m) (counted-within p ms) none
  where
    by : (b : Bool)
        → (has_member p ms ≡ false → count_in (is_for p) ms ≡ 0)
        → (b || has_member p ms) ≡ false
        → as_bit b + count_in (is_for p) ms ≡ 0
    by true rest none = true-false true refl none
    by false rest none =
        let nobody = rest none in
        omega arith

-- the member found is the partner
pub member_is : (p : Partner) (ms : List Member) → has_member p ms ≡ true → is_for p (member_for p ms) ≡ true
unfolding member_for
member_is p [] is = true-false false is refl
member_is p (m ∷ ms) is = by (is_for p m) refl (member_is p ms) is
  where
    by : (b : Bool)
        → is_for p m ≡ b
        → (has_member p ms ≡ true → is_for p (member_for p ms) ≡ true)
        → (b || has_member p ms) ≡ true
        → is_for p (cond b m (member_for p ms)) ≡ true
    by true here rest is = here
    by false here rest is = rest is

-- a removal takes it out, and no other
pub count_in-without : (test : Member → Bool) (p : Partner) (ms : List Member)
    → has_member p ms ≡ true
    → count_in test (without p ms) + as_bit (test (member_for p ms)) ≡ count_in test ms
unfolding count_in member_for without
count_in-without test p [] is = true-false false is refl
count_in-without test p (m ∷ ms) is = by (is_for p m) (count_in-without test p ms) is
  where
    by : (b : Bool)
        → (has_member p ms ≡ true → count_in test (without p ms) + as_bit (test (member_for p ms)) ≡ count_in test ms)
        → (b || has_member p ms) ≡ true
        → count_in test (cond b ms (m ∷ without p ms)) + as_bit (test (cond b m (member_for p ms))) ≡ as_bit (test m)
        + count_in test ms
    by true rest is = omega arith
    by false rest is =
        let less = rest is in
        omega arith

-- another set of a name: its members for those that stood there
pub many-set : (test : SetName → Member → Bool) (w : SetName) (ms : List Member) (x : Six)
    → many test (with_set w ms x) + count_in (test w) (set_in w x) ≡ many test x + count_in (test w) ms
unfolding many
many-set test Calling ms x = omega arith
many-set test Contacted ms x = omega arith
many-set test IncomingSessions ms x = omega arith
many-set test OutgoingSessions ms x = omega arith
many-set test LostSessions ms x = omega arith
many-set test TerminatingSessions ms x = omega arith

-- one set is no more than the six
pub many-in : (test : SetName → Member → Bool) (w : SetName) (x : Six) → count_in (test w) (set_in w x) ≤ many test x
unfolding many
many-in test Calling x = omega arith
many-in test Contacted x = omega arith
many-in test IncomingSessions x = omega arith
many-in test OutgoingSessions x = omega arith
many-in test LostSessions x = omega arith
many-in test TerminatingSessions x = omega arith

-- a member that enters is one more
pub member-many : (test : SetName → Member → Bool) (w : SetName) (m : Member) (x : Six)
    → many test (with_member w m x) ≡ many test x + as_bit (test w m)
unfolding count_in
member-many test w m x =
    let store = many-set test w (joining (set_in w x) m) x in
    let joined = count_in-append (test w) (set_in w x) (m ∷ []) in
    omega arith

-- a test that does not ask for the set is one on everyone
pub many-everyone : (test : Member → Bool) (x : Six) → many (λ w. test) x ≡ count_in test (everyone x)
unfolding many everyone
many-everyone test x =
    let fifth = x.lost ++ x.terminating in
    let fourth = x.outgoing ++ fifth in
    let third = x.incoming ++ fourth in
    let second = x.contacted ++ third in
    let a = count_in-append test x.calling second in
    let b = count_in-append test x.contacted third in
    let c = count_in-append test x.incoming fourth in
    let d = count_in-append test x.outgoing fifth in
    let e = count_in-append test x.lost x.terminating in
    omega arith

-- all are as many as there are members
pub many-size : (x : Six) → many (λ w m. true) x ≡ size x
unfolding many size
many-size x =
    let a = count_in-all x.calling in
    let b = count_in-all x.contacted in
    let c = count_in-all x.incoming in
    let d = count_in-all x.outgoing in
    let e = count_in-all x.lost in
    let f = count_in-all x.terminating in
    omega arith

-- two tests of which a third is the sum
count_in-both : (test other all : Member → Bool)
    → ((m : Member) → as_bit (test m) + as_bit (other m) ≡ as_bit (all m))
    → (ms : List Member)
    → count_in test ms + count_in other ms ≡ count_in all ms
unfolding count_in
count_in-both test other all sum [] = refl
count_in-both test other all sum (m ∷ ms) =
    let first = sum m in
    let rest = count_in-both test other all sum ms in
    omega arith

-- and so over the six sets
pub many-both : (test other all : SetName → Member → Bool)
    → ((w : SetName) (m : Member) → as_bit (test w m) + as_bit (other w m) ≡ as_bit (all w m))
    → (x : Six)
    → many test x + many other x ≡ many all x
unfolding many
many-both test other all sum x =
    let a = count_in-both (test Calling) (other Calling) (all Calling) (sum Calling) x.calling in
    let b = count_in-both (test Contacted) (other Contacted) (all Contacted) (sum Contacted) x.contacted in
    let c = count_in-both (test IncomingSessions) (other IncomingSessions) (all IncomingSessions) (sum IncomingSessions) x.incoming in
    let d = count_in-both (test OutgoingSessions) (other OutgoingSessions) (all OutgoingSessions) (sum OutgoingSessions) x.outgoing in
    let e = count_in-both (test LostSessions) (other LostSessions) (all LostSessions) (sum LostSessions) x.lost in
    let f =
    count_in-both (test TerminatingSessions) (other TerminatingSessions) (all TerminatingSessions) (sum TerminatingSessions)
    x.terminating in
    omega arith

-- what the six tests say of where a partner stands
abbrev pub WhereOk : Partner → Six → Option SetName → Type 0
WhereOk p x (Some w) = has_member p (set_in w x) ≡ true
WhereOk p x None = many (λ w. is_for p) x ≡ 0

-- they do say it
pub where-ok : (p : Partner) (x : Six) → WhereOk p x (whereabouts p x)
unfolding whereabouts many
where-ok p x =
    cond-case (WhereOk p x) (has_member p x.calling) _ _ (λ is. is)
    (λ a.
    cond-case (WhereOk p x) (has_member p x.contacted) _ _ (λ is. is)
    (λ b.
    cond-case (WhereOk p x) (has_member p x.incoming) _ _ (λ is. is)
    (λ c.
    cond-case (WhereOk p x) (has_member p x.outgoing) _ _ (λ is. is)
    (λ d.
    cond-case (WhereOk p x) (has_member p x.lost) _ _ (λ is. is)
    (λ e.
    cond-case (WhereOk p x) (has_member p x.terminating) _ _ (λ is. is)
    (λ f.
    let none-a = counted-within p x.calling a in
    let none-b = counted-within p x.contacted b in
    let none-c = counted-within p x.incoming c in
    let none-d = counted-within p x.outgoing d in
    let none-e = counted-within p x.lost e in
    let none-f = counted-within p x.terminating f in
    omega arith))))))

-- a partner is a member of the set that it stands in
pub stands-within : (p : Partner) (x : Six) (w : SetName) → whereabouts p x ≡ Some w → has_member p (set_in w x) ≡ true
stands-within p x w found = subst (WhereOk p x) found (where-ok p x)
