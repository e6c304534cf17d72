-- The members passed stand after those of the set.
use Rattle.std.proofs.Common.{arith, ap, sym, true, ◌≡◌, ◌∙◌, ◌+◌, ◌<◌, ◌≤◌, ◌++◌, ℕ, List}
use Rattle.std.proofs.Common.{length, take, length-append, append-nil}
use Rattle.std.proofs.lemmas.List.{take_more, length-take-le}
use Rattle.sets.specs.Members.{most_members, no_member, members_of, set_of, tidy}
use Rattle.sets.specs.declared.members.Members.{Members}
use Rattle.sets.specs.declared.members.Member.{Member}
use Rattle.sets.proofs.Packing.{set-members, tidy-length}
use Rattle.sets.proofs.MemberLoops.{grown-room, grown, joined-next}
use Rattle.sets.proofs.members.Members.joined.Goals as goal

pub loop-member-init : goal.loop-member-init
loop-member-init c = sym (ap set_of (append-nil (members_of c.args.self)) ∙ set-members c.args.self c.requires.0)

-- there is room for the next one
room : (self other : Members) (items : List Member) (i : ℕ)
    → tidy self ≡ true
    → tidy other ≡ true
    → self.count + other.count ≤ most_members
    → items ≡ members_of other
    → i < length items
    → length (members_of self ++ take i items) < most_members
room self other items i ok right few is below =
    omega (
      arith,
      length-append (members_of self) (take i items),
      length-take-le i items (omega arith),
      tidy-length self ok,
      tidy-length other right,
      ap length is,
    )

pub with-all-requires : goal.with-all-requires
with-all-requires c =
    let items = c.held-member-items.result.now in
    let few =
    room c.args.self c.args.other items c.loop-member.member-index c.requires.0 c.requires.1 c.requires.2 c.held-member-items.ensures
    c.loop-member-test.true in
    grown-room c.loop-member.all (members_of c.args.self ++ take c.loop-member.member-index items) c.loop-member.invariant few

pub loop-member-preserved : goal.loop-member-preserved
loop-member-preserved c =
    let items = c.held-member-items.result.now in
    let i = c.loop-member.member-index in
    let few =
    room c.args.self c.args.other items i c.requires.0 c.requires.1 c.requires.2 c.held-member-items.ensures
    c.loop-member-test.true in
    grown c.loop-member.all (members_of c.args.self ++ take i items) c.loop-member.invariant few _ _ c.with-all.ensures
    ∙ ap set_of (joined-next (take i items) _ _ (take_more items i no_member c.loop-member-test.true) (members_of c.args.self))
