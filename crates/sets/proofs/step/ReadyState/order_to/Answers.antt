-- The reserved number, then where the partner stands, then the room.
use Rattle.sets.specs.declared.names.SetName.{SetName}
use Rattle.std.specs.Prelude.{Option, find}
use Rattle.std.proofs.Common.{◌≡◌, ℕ, Bool, true, false, ltb, refl, sym, ap, ◌∙◌}
use borrow.Author.Tests.{lt-ltb, le-ltb}
use Rattle.sets.specs.Members.{most_members, has_member, members_of}
use Rattle.sets.specs.Holding.{six_names, held_set}
use Rattle.sets.specs.SixSets.{size, unpacked_six, unpacked}
use Rattle.sets.specs.SetSteps.{set_joined, set_ordered_to}
use Rattle.sets.specs.declared.six.SixSets.{SixSets}
use Rattle.sets.proofs.Packing.{ready-tidy}
use Rattle.sets.proofs.SixByName.{found-names}
use Rattle.sets.proofs.StepLaws.{answering, admits, admitted-is, ordered-is}
use Rattle.sets.proofs.step.ReadyState.order_to.Goals.{After-whereabouts}
use Rattle.sets.proofs.step.ReadyState.order_to.Goals as goal

-- where the partner was looked for
module _ (c : After-whereabouts) where
  abbrev six : SixSets
  six = c.args.self.state.sets

  -- the answer goes by where it stands, and by the room
  by : (found : Option SetName) (k : ℕ) (t : Bool)
      → found ≡ find (λ w. has_member c.args.partner (members_of (held_set w six))) six_names
      → k ≡ size (unpacked_six six)
      → ltb k most_members ≡ t
      → answering
      (admits found t (set_joined (unpacked c.args.self.state) c.args.partner c.args.accepting c.args.cause) (unpacked c.args.self.state))
      ≡ answering (set_ordered_to (unpacked c.args.self.state) c.args.partner c.args.accepting c.args.cause)
  by found k t told many test =
      let a = c.args in
      let known = sym c.is_reserved.ensures ∙ c.if-is_reserved.false in
      ap answering
      (admitted-is a.self.state a.partner found k t _ (sym (told ∙ found-names a.partner a.self.state.sets)) many test
      ∙ ordered-is a.self.state a.partner a.accepting a.cause false known)

pub size-requires : goal.size-requires
size-requires c = ready-tidy c.args.self.state c.args.self.is_ready

pub returns-in-Some : goal.returns-in-Some
returns-in-Some c =
    c.refuse_in.ensures ∙ by (goal.at.returns-in-Some c).After-whereabouts _ _ _ c.in-Some.ensures refl refl

pub returns-then-size-lt-MOST_MEMBERS : goal.returns-then-size-lt-MOST_MEMBERS
returns-then-size-lt-MOST_MEMBERS c =
    c.join.ensures
    ∙ by (goal.at.returns-then-size-lt-MOST_MEMBERS c).After-whereabouts _ _ true c.in-None.ensures c.size.ensures
    (lt-ltb _ _ c.if-size-lt-MOST_MEMBERS.true)

pub returns-else-size-lt-MOST_MEMBERS : goal.returns-else-size-lt-MOST_MEMBERS
returns-else-size-lt-MOST_MEMBERS c =
    c.refuse-else-size-lt-MOST_MEMBERS.ensures
    ∙ by (goal.at.returns-else-size-lt-MOST_MEMBERS c).After-whereabouts _ _ false c.in-None.ensures c.size.ensures
    (le-ltb _ _ c.if-size-lt-MOST_MEMBERS.false)
