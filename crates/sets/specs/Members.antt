-- Request Q-7: one set of partners "with tries beside the members", as the list of its members.
-- Defines: most_members, session_tries, no_member, is_for, has_member, member_for, without, joining, those, all_of, apart, is_no_member,
-- members_of, set_of, tidy.
use Rattle.std.specs.Prelude.{ℕ, Bool, true, cond, ◌&&◌, not, List, [], ◌∷◌, ◌++◌, eqb, leb, length, take}
use Rattle.std.specs.Prelude.{drop, replicate, filter}
use Rattle.std.specs.List.{list_any, list_all}
use Rattle.record.specs.Partners.{same_partner}
use Rattle.record.specs.declared.partner.Partner.{Partner}
use Rattle.place.specs.Places.{direction_number}
use Rattle.place.specs.declared.place.Direction.TheVariants.{Outgoing}
use Rattle.sets.specs.declared.members.Member.{Member}
use Rattle.sets.specs.declared.members.Members.{Members}

-- "at most four members in all"
abbrev pub most_members : ℕ
most_members = 4

-- 01: tries are "0 in Open"
abbrev pub session_tries : ℕ
session_tries = 0

-- what stands after the last member of a set: zeros
abbrev pub no_member : Member
no_member = record { partner = record { kind = 0; high = 0; middle = 0; low = 0 }; tries = 0; direction = Outgoing }

-- the member is this partner
abbrev pub is_for : Partner → Member → Bool
is_for p m = same_partner p m.partner

-- p ∈ S
abbrev pub has_member : Partner → List Member → Bool
has_member p ms = list_any (is_for p) ms

-- the member that is this partner, where there is one
unfoldable pub member_for : Partner → List Member → Member
member_for p [] = no_member
member_for p (m ∷ ms) = cond (is_for p m) m (member_for p ms)

-- S \ {p}: the first that is p, and a sound state has no second
unfoldable pub without : Partner → List Member → List Member
without p [] = []
without p (m ∷ ms) = cond (is_for p m) ms (m ∷ without p ms)

-- S ∪ {m}, of a member that is not in S
abbrev pub joining : List Member → Member → List Member
joining ms m = ms ++ (m ∷ [])

-- S ∩ T, T being those that pass a test
abbrev pub those : (Member → Bool) → List Member → List Member
those test ms = filter test ms

-- every member passes a test
abbrev pub all_of : (Member → Bool) → List Member → Bool
all_of test ms = list_all test ms

-- no partner stands twice
unfoldable pub apart : List Member → Bool
apart [] = true
apart (m ∷ ms) = not (has_member m.partner ms) && apart ms

-- nothing but zeros stands there
abbrev pub is_no_member : Member → Bool
is_no_member m = is_for no_member.partner m && (eqb m.tries 0 && eqb (direction_number m.direction) 0)

-- the members of a set as the code holds it, and the set that the code holds for these members
unfoldable pub members_of : Members → List Member
members_of s = take s.count s.items

unfoldable pub set_of : List Member → Members
set_of ms = record { items = take most_members (ms ++ replicate most_members no_member); count = length ms }

-- a set as the code holds it has no more than four members, and "something stands after a count" is not so
unfoldable pub tidy : Members → Bool
tidy s = eqb (length s.items) most_members && (leb s.count most_members && all_of is_no_member (drop s.count s.items))
