-- The member is taken out of its set, and put into the one that it enters.
use Rattle.std.proofs.Common.{◌≡◌, ℕ, true, ◌<◌, sym, ap, ◌∙◌, arith}
use mathlib.Core.Logic.{inl, inr}
use Rattle.sets.specs.Members.{most_members, member_for, tidy}
use Rattle.sets.specs.SixSets.{Six, set_in, size, unpacked_six, packed_six, tidy_six}
use Rattle.sets.specs.Moves.{on_move}
use Rattle.sets.specs.SetSteps.{tried, with_member, moved}
use Rattle.sets.specs.declared.members.Member.{Member}
use Rattle.sets.specs.declared.moves.Move.{Move}
use Rattle.sets.specs.declared.names.SetName.{SetName}
use Rattle.sets.specs.declared.six.SixSets.{SixSets}
use Rattle.sets.proofs.Packing.{packed-six}
use Rattle.sets.proofs.StepLaws.{member-held, packed-room, packed-enter, rest_of, rest-is, rest-room}
use Rattle.sets.proofs.StepLaws.{moved-is}
use Rattle.sets.proofs.SixByName.{held-tidy}
use Rattle.sets.proofs.six.SixSets.moved.Goals as goal
use Rattle.sets.proofs.six.SixSets.moved.Goals.{After-with_set-rest}

pub without-requires : goal.without-requires
without-requires c = ap tidy c.set-from.ensures ∙ held-tidy c.args.name c.args.self c.requires.0

-- where the member was taken out
module _ (c : After-with_set-rest) where
  abbrev six : Six
  six = unpacked_six c.args.self

  abbrev rest : Six
  rest = rest_of c.args.partner c.args.name six

  abbrev member : Member
  member = member_for c.args.partner (set_in c.args.name six)

  abbrev left : SixSets
  left = c.with_set-rest.result

  rests : left ≡ packed_six rest
  rests =
      c.with_set-rest.ensures
      ∙ rest-is c.args.self c.args.partner c.args.name _ _ c.requires.0 c.set-from.ensures c.without.ensures

  room : size rest < most_members
  room = rest-room six c.args.partner c.args.name c.requires.1 c.requires.2

  ready : (tidy_six left ≡ true) × (size (unpacked_six left) < most_members)
  ready = packed-room rest _ rests room

  -- what is answered goes by the move
  by : (mv : Move) (sets : SixSets)
      → c.args.step ≡ mv
      → sets ≡ packed_six (on_move six rest (λ sent v t. with_member v (tried t member) rest) mv)
      → sets ≡ packed_six (moved c.args.partner c.args.name c.args.step six)
  by mv sets told is =
      let a = c.args in
      is
      ∙ ap packed_six (sym (moved-is a.partner a.name mv six) ∙ ap (λ m. moved a.partner a.name m six) (sym told))

  -- the member enters a set
  enters : (v : SetName) (t : ℕ) (m : Member)
      → m ≡ tried t c.member-member.result
      → packed_six (with_member v m (unpacked_six left)) ≡ packed_six (with_member v (tried t member) rest)
  enters v t m is =
      let a = c.args in
      let whom = c.member-member.ensures ∙ member-held a.name a.self a.partner _ c.set-from.ensures in
      packed-enter rest _ v m rests (omega (arith, room))
      ∙ ap (λ who. packed_six (with_member v who rest)) (is ∙ ap (tried t) whom)

pub enter-requires : goal.enter-requires
enter-requires c = ready (goal.at.enter-requires c).After-with_set-rest

pub returns-in-Stays : goal.returns-in-Stays
returns-in-Stays c =
    by (goal.at.returns-in-Stays c).After-with_set-rest _ _ c.in-Stays.is (sym (packed-six c.args.self c.requires.0))

pub returns-in-Leaves : goal.returns-in-Leaves
returns-in-Leaves c =
    let out = (goal.at.returns-in-Leaves c).After-with_set-rest in
    by out _ _ c.in-Leaves.is (rests out)

pub returns-in-Enters : goal.returns-in-Enters
returns-in-Enters c =
    let out = (goal.at.returns-in-Enters c).After-with_set-rest in
    let entered = c.enter.ensures ∙ enters out c.in-Enters.set _ _ c.tried.ensures in
    elim c.in-Enters.is [
      | inl is ↦ by out _ _ is entered
      | inr (inl (number, is)) ↦ by out _ _ is entered
      | inr (inr (first, second, is)) ↦ by out _ _ is entered
    ]
