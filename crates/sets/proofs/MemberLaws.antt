-- Lists of members: what the first of one says of it, what is found in it by a number, and those of it that pass a test.
-- Proves: apart-here, apart-not, found-at, found-none, member-first, without-first, those-append, those-few.
use mathlib.Core.Path.{◌≡◌, refl, sym, ap, ◌∙◌}
use mathlib.Core.Bool.{Bool, true, false, cond, ◌&&◌, not}
use mathlib.Core.List.{List, [], ◌∷◌, ◌++◌}
use Prim.Native.Nat.{ℕ, suc, ◌+◌, ◌≤◌, ◌<◌}
use native.Mathlib.Omega.{arith}
use lib.ListN.{length, get_or, take, drop}
use Rattle.std.specs.Prelude.{Option, Some, None, MatchOption, nat_lt, position}
use Rattle.std.specs.List.{position_or_len}
use borrow.Author.Tests.{ltb-true, ltb-false}
use Rattle.wire.proofs.Tests.{cond-case}
use Rattle.record.specs.declared.partner.Partner.{Partner}
use Rattle.sets.specs.Members.{no_member, is_for, has_member, member_for, without, those, apart}
use Rattle.sets.specs.declared.members.Member.{Member}

-- a list by its first member
module _ (l rest : List Member) (m : Member) (is : l ≡ m ∷ rest) where
  -- no partner stands twice where this one's does not, nor any of the others'
  pub apart-here : has_member m.partner rest ≡ false → apart l ≡ apart rest
  unfolding apart
  apart-here absent = ap apart is ∙ ap (λ b. not b && apart rest) absent

  -- and one does where this one's does
  pub apart-not : has_member m.partner rest ≡ true → apart l ≡ false
  unfolding apart
  apart-not there = ap apart is ∙ ap (λ b. not b && apart rest) there

-- a search finds the number before which the partner is not
module _ (p : Partner) (ms : List Member) where
  abbrev number : ℕ
  number = position_or_len (is_for p) ms

  sought : (b : Bool) (found : Option ℕ)
      → nat_lt number (length ms) ≡ b
      → cond b (Some number) None ≡ found
      → MatchOption found (length ms ≤ number) (λ k. (k ≡ number) × (k < length ms))
  sought true (Some k) within is =
      let same : k ≡ number = cc in
      let below : number < length ms = ltb-true number (length ms) within in
      (same, omega arith)
  sought true None within is = absurd cc
  sought false (Some k) past is = absurd cc
  sought false None past is = ltb-false number (length ms) past

  -- where one is found
  pub found-at : (k : ℕ) → Some k ≡ position (is_for p) ms → (k ≡ number) × (k < length ms)
  found-at k found = sought _ (Some k) refl (sym found)

  -- where none is
  pub found-none : None ≡ position (is_for p) ms → length ms ≤ number
  found-none none = sought _ None refl (sym none)

-- the member of that number is the partner's
pub member-first : (p : Partner) (ms : List Member) → get_or ms (position_or_len (is_for p) ms) no_member ≡ member_for p ms
unfolding member_for
member-first p [] = refl
member-first p (m ∷ ms) = by (is_for p m) (member-first p ms)
  where
    by : (b : Bool)
        → get_or ms (position_or_len (is_for p) ms) no_member ≡ member_for p ms
        → get_or (m ∷ ms) (cond (not b) (1 + position_or_len (is_for p) ms) 0) no_member ≡ cond b m (member_for p ms)
    by true rest = refl
    by false rest =
        let n = position_or_len (is_for p) ms in
        let next : 1 + n ≡ suc n = omega arith in
        ap (λ k. get_or (m ∷ ms) k no_member) next ∙ rest

-- without it the others are left
pub without-first : (p : Partner) (ms : List Member)
    → without p ms ≡ take (position_or_len (is_for p) ms) ms ++ drop (suc (position_or_len (is_for p) ms)) ms
unfolding without
without-first p [] = refl
without-first p (m ∷ ms) = by (is_for p m) (without-first p ms)
  where
    by : (b : Bool)
        → without p ms ≡ take (position_or_len (is_for p) ms) ms ++ drop (suc (position_or_len (is_for p) ms)) ms
        → cond b ms (m ∷ without p ms)
        ≡ take (cond (not b) (1 + position_or_len (is_for p) ms) 0) (m ∷ ms)
        ++ drop (suc (cond (not b) (1 + position_or_len (is_for p) ms) 0)) (m ∷ ms)
    by true rest = refl
    by false rest =
        let n = position_or_len (is_for p) ms in
        let next : suc n ≡ 1 + n = omega arith in
        ap (◌∷◌ m) rest ∙ ap (λ k. take k (m ∷ ms) ++ drop (suc k) (m ∷ ms)) next

-- those of two lists are those of the one, then those of the other
pub those-append : (test : Member → Bool) (ms ns : List Member) → those test (ms ++ ns) ≡ those test ms ++ those test ns
those-append test [] ns = refl
those-append test (m ∷ ms) ns = by (test m) (those-append test ms ns)
  where
    by : (b : Bool)
        → those test (ms ++ ns) ≡ those test ms ++ those test ns
        → cond b (m ∷ those test (ms ++ ns)) (those test (ms ++ ns)) ≡ cond b (m ∷ those test ms) (those test ms) ++ those test ns
    by true rest = ap (◌∷◌ m) rest
    by false rest = rest

-- and no more than the list has
pub those-few : (test : Member → Bool) (ms : List Member) → length (those test ms) ≤ length ms
those-few test [] = omega arith
those-few test (m ∷ ms) =
    cond-case (λ l. length l ≤ suc (length ms)) (test m) (m ∷ those test ms) (those test ms)
    (λ passes. omega (arith, those-few test ms))
    (λ fails. omega (arith, those-few test ms))
