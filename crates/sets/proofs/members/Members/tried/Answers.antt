-- The members passed, each with so many tries.
use Rattle.std.proofs.Common.{arith, ap, ◌∙◌, ◌<◌, ◌++◌, ◌∷◌, [], List, length, map, take}
use Rattle.std.proofs.lemmas.List.{take_more, length-take-le}
use lib.ListN.{length-map}
use Rattle.sets.specs.Members.{most_members, no_member, set_of}
use Rattle.sets.specs.SetSteps.{tried}
use Rattle.sets.specs.declared.members.Member.{Member}
use Rattle.sets.proofs.Packing.{tidy-count, tidy-length}
use Rattle.sets.proofs.MemberLoops.{grown-room, grown, changed-next}
use Rattle.sets.proofs.members.Members.tried.Goals.{After-tried}
use Rattle.sets.proofs.members.Members.tried.Goals as goal

-- the members gathered so far, and that there is room for the next one
module _ (c : After-tried) where
  abbrev so_far : List Member
  so_far = map (tried c.args.tries) (take c.loop-member.member-index c.held-member-items.result.now)

  room : length so_far < most_members
  room =
      let items = c.held-member-items.result.now in
      let i = c.loop-member.member-index in
      omega (
        arith,
        length-map (take i items) (tried c.args.tries),
        length-take-le i items (omega arith),
        tidy-count c.args.self c.requires,
        tidy-length c.args.self c.requires,
        ap length c.held-member-items.ensures,
      )

pub with-all-requires : goal.with-all-requires
with-all-requires c = grown-room c.loop-member.all (so_far c) c.loop-member.invariant (room c)

pub loop-member-preserved : goal.loop-member-preserved
loop-member-preserved c =
    let items = c.held-member-items.result.now in
    let i = c.loop-member.member-index in
    let before = (goal.at.loop-member-preserved c).After-tried in
    let more = take_more items i no_member c.loop-member-test.true in
    grown c.loop-member.all (so_far before) c.loop-member.invariant (room before) _ _ c.with-all.ensures
    ∙ ap (λ m. set_of (so_far before ++ (m ∷ []))) c.tried.ensures
    ∙ ap set_of (changed-next (take i items) _ _ more (tried c.args.tries))
