-- A set as the code walks over its members, and as it adds one or takes one out.
-- Proves: held-few, held-most, held-member, rest_lent, tidy-by, with-last, found-below, without_at, without-none, grown-room, grown,
-- grown-form, joined-next, changed-next, those-next, those-left.
use mathlib.Core.Path.{◌≡◌, refl, sym, ap, ap₂, subst⁻¹, ◌∙◌}
use mathlib.Core.Bool.{Bool, true, false, cond, ◌&&◌}
use mathlib.Core.List.{List, [], ◌∷◌, ◌++◌, map, map-append, append_assoc, append-nil}
use Prim.Native.Nat.{ℕ, zero, suc, ◌+◌, ◌-◌, ◌≤◌, ◌<◌}
use native.Mathlib.Omega.{arith}
use lib.Dec.{leb}
use lib.ListN.{length, length-append, length-drop, get_or, take, drop, set, drop_of_length-le}
use lib.Seq.{get_or-take, take_all}
use Rattle.std.proofs.lemmas.List.{length-take}
use borrow.Author.Tests.{eq-eqb}
use Rattle.std.specs.Prelude.{Some, None, position}
use Rattle.std.specs.List.{position_or_len, copy_within}
use Rattle.wire.proofs.Padded.{padded-push}
use Rattle.record.specs.declared.partner.Partner.{Partner}
use Rattle.sets.specs.Members.{most_members, no_member, is_for, without, joining, those, all_of, is_no_member}
use Rattle.sets.specs.Members.{members_of, set_of, tidy}
use Rattle.sets.specs.declared.members.Member.{Member}
use Rattle.sets.specs.declared.members.Members.{Members}
use Rattle.sets.proofs.Packing.{members-set, set-tidy, set-members, tidy-count, tidy-length}
use Rattle.sets.proofs.MemberLaws.{found-at, found-none, without-first, those-append}

-- the members are no more than the count
pub held-few : (s : Members) → length (members_of s) ≤ s.count
unfolding members_of
held-few s = omega (arith, length-take s.count s.items)

-- nor more than there is room for
pub held-most : (s : Members) → length s.items ≡ most_members → length (members_of s) ≤ most_members
unfolding members_of
held-most s long = omega (arith, length-take s.count s.items)

-- a member is the item of its number
pub held-member : (s : Members) (i : ℕ) → i < s.count → get_or (members_of s) i no_member ≡ get_or s.items i no_member
unfolding members_of
held-member s i below = get_or-take s.count s.items i no_member below

-- what is lent of a list from a number on is the rest of it
pub rest_lent : (l : List Member) (i : ℕ) → take (length l - i) (drop i l) ≡ drop i l
rest_lent l i = take_all (length l - i) (drop i l) (omega (arith, length-drop i l))

-- how the code tests what stands after the count
pub tidy-by : (s : Members) (few none : Bool)
    → length s.items ≡ most_members
    → leb s.count most_members ≡ few
    → all_of is_no_member (drop s.count s.items) ≡ none
    → tidy s ≡ (few && none)
unfolding tidy
tidy-by s few none long of-count of-rest =
    let rest = all_of is_no_member (drop s.count s.items) in
    ap (λ b. b && (leb s.count most_members && rest)) (eq-eqb (length s.items) most_members long) ∙ ap₂ ◌&&◌ of-count of-rest

-- a set with one more at its end
pub with-last : (s : Members) (m : Member)
    → tidy s ≡ true
    → s.count < most_members
    → record { items = set s.items s.count m; count = s.count + 1 } ≡ set_of (joining (members_of s) m)
unfolding set_of
with-last s m ok room =
    ap (λ x. record { items = set x.items x.count m; count = x.count + 1 }) (sym (set-members s ok))
    ∙ by (members_of s) (omega (arith, tidy-length s ok))
  where
    by : (ms : List Member)
        → length ms < most_members
        → record { items = set (set_of ms).items (set_of ms).count m; count = (set_of ms).count + 1 } ≡ set_of (joining ms m)
    by ms few = λ i. record { items = padded-push 3 no_member m ms few i; count = sym (length-append ms (m ∷ [])) i }

-- a set without the member of this number, as the code moves up the items after it
spared-is : (ms : List Member) (k : ℕ)
    → k < length ms
    → length ms ≤ most_members
    → record { items = set (copy_within (set_of ms).items (k + 1) most_members k) 3 no_member; count = length ms - 1 }
    ≡ set_of (take k ms ++ drop (suc k) ms)
unfolding set_of
spared-is [] k below few = absurd (omega arith)
spared-is (a ∷ []) zero below few = refl
spared-is (a ∷ []) (suc k) below few = absurd (omega arith)
spared-is (a ∷ b ∷ []) zero below few = refl
spared-is (a ∷ b ∷ []) (suc zero) below few = refl
spared-is (a ∷ b ∷ []) (suc (suc k)) below few = absurd (omega arith)
spared-is (a ∷ b ∷ c ∷ []) zero below few = refl
spared-is (a ∷ b ∷ c ∷ []) (suc zero) below few = refl
spared-is (a ∷ b ∷ c ∷ []) (suc (suc zero)) below few = refl
spared-is (a ∷ b ∷ c ∷ []) (suc (suc (suc k))) below few = absurd (omega arith)
spared-is (a ∷ b ∷ c ∷ d ∷ []) zero below few = refl
spared-is (a ∷ b ∷ c ∷ d ∷ []) (suc zero) below few = refl
spared-is (a ∷ b ∷ c ∷ d ∷ []) (suc (suc zero)) below few = refl
spared-is (a ∷ b ∷ c ∷ d ∷ []) (suc (suc (suc zero))) below few = refl
spared-is (a ∷ b ∷ c ∷ d ∷ []) (suc (suc (suc (suc k)))) below few = absurd (omega arith)
spared-is (a ∷ b ∷ c ∷ d ∷ e ∷ ms) k below few = absurd (omega arith)

-- a set in its form, and where a search for a partner in it ends
module _ (s : Members) (p : Partner) (ok : tidy s ≡ true) where
  -- at one of its members: it is left with the others
  module _ (k : ℕ) (found : Some k ≡ position (is_for p) (members_of s)) where
    pub found-below : k < s.count
    found-below = omega (arith, (found-at p (members_of s) k found).1, tidy-length s ok)

    pub without_at : (moved : List Member) (none : Member)
        → moved ≡ copy_within s.items (k + 1) most_members k
        → none ≡ no_member
        → record { items = set moved 3 none; count = s.count - 1 } ≡ set_of (without p (members_of s))
    unfolding set_of
    without_at moved none is zeros =
        let ms = members_of s in
        let at = found-at p ms k found in
        ap₂ (λ l m. record { items = set l 3 m; count = s.count - 1 }) is zeros
        ∙ ap (λ x. record { items = set (copy_within x.items (k + 1) most_members k) 3 no_member; count = x.count - 1 })
        (sym (set-members s ok))
        ∙ spared-is ms k at.1 (omega (arith, tidy-count s ok, tidy-length s ok))
        ∙ ap set_of (ap (λ n. take n ms ++ drop (suc n) ms) at.0 ∙ sym (without-first p ms))

  -- or at none: it stays as it is
  pub without-none : None ≡ position (is_for p) (members_of s) → s ≡ set_of (without p (members_of s))
  without-none none =
      let ms = members_of s in
      let k = position_or_len (is_for p) ms in
      let over : length ms ≤ k = found-none p ms none in
      let past : length ms ≤ suc k = omega arith in
      sym (set-members s ok)
      ∙ ap set_of (sym (without-first p ms ∙ ap₂ ◌++◌ (take_all k ms over) (drop_of_length-le ms past) ∙ append-nil ms))

-- a set that has grown to these members, while there is room for one more
module _ (s : Members) (ms : List Member) (is : s ≡ set_of ms) (few : length ms < most_members) where
  -- the code may add it
  pub grown-room : (tidy s ≡ true) × (s.count < most_members)
  unfolding set_of
  grown-room = subst⁻¹ (λ x. (tidy x ≡ true) × (x.count < most_members)) is (set-tidy ms (omega arith), few)

  -- and then the set has it too
  pub grown : (m : Member) (r : Members) → r ≡ set_of (joining (members_of s) m) → r ≡ set_of (ms ++ (m ∷ []))
  grown m r more = more ∙ ap (λ l. set_of (joining l m)) (ap members_of is ∙ members-set ms (omega arith))

-- a set that has got one more is in its form, and counts one more
pub grown-form : (s r : Members) (m : Member)
    → tidy s ≡ true
    → s.count < most_members
    → r ≡ set_of (joining (members_of s) m)
    → (tidy r ≡ true) × (r.count ≡ s.count + 1)
unfolding set_of
grown-form s r m ok room is =
    let many = length-append (members_of s) (m ∷ []) in
    let all = tidy-length s ok in (
      ap tidy is ∙ set-tidy (joining (members_of s) m) (omega arith),
      ap (λ x. x.count) is ∙ many ∙ ap (λ n. n + 1) all,
    )

-- a list of which one member more was walked over
module _ (xs ys : List Member) (m : Member) (is : ys ≡ xs ++ (m ∷ [])) where
  -- it follows what stands before the list
  pub joined-next : (ms : List Member) → (ms ++ xs) ++ (m ∷ []) ≡ ms ++ ys
  joined-next ms = append_assoc ms xs (m ∷ []) ∙ ap (◌++◌ ms) (sym is)

  -- and so where each is changed
  pub changed-next : (f : Member → Member) → map f xs ++ (f m ∷ []) ≡ map f ys
  changed-next f = sym (ap (map f) is ∙ map-append f xs (m ∷ []))

  -- it is one of those that pass
  pub those-next : (test : Member → Bool) → test m ≡ true → those test ys ≡ those test xs ++ (m ∷ [])
  those-next test passes =
      ap (those test) is ∙ those-append test xs (m ∷ []) ∙ ap (λ b. those test xs ++ cond b (m ∷ []) []) passes

  -- or it is not
  pub those-left : (test : Member → Bool) → test m ≡ false → those test ys ≡ those test xs
  those-left test fails =
      ap (those test) is
      ∙ those-append test xs (m ∷ [])
      ∙ ap (λ b. those test xs ++ cond b (m ∷ []) []) fails
      ∙ append-nil (those test xs)
