-- The sets are tested, up to the first thing that is not as it should be.
use Rattle.std.proofs.Common.{arith, refl, ap, sym, ◌∙◌, ◌≡◌, ◌≤◌, true, false}
use borrow.Author.Tests.{le-leb, lt-leb}
use Rattle.sets.specs.Members.{most_members, apart}
use Rattle.sets.specs.SixSets.{size, unpacked_six, tidy_six}
use Rattle.sets.proofs.SixLaws.{set-lists, everyone-size, sound-by}
use Rattle.sets.proofs.SixByName.{tidy-names, sound-names}
use Rattle.sets.proofs.six.SixSets.is_sound.Goals.{Then-are_tidy, Then-size-le-MOST_MEMBERS}
use Rattle.sets.proofs.six.SixSets.is_sound.Goals as goal

-- what the tests of their form and of their size showed
module _ (c : Then-are_tidy) where
  tidied : tidy_six c.args.self ≡ true
  tidied = sym (c.are_tidy.ensures ∙ tidy-names c.args.self) ∙ c.if-are_tidy.true

pub size-requires : goal.size-requires
size-requires c = tidied c

-- and what of the size
module _ (c : Then-size-le-MOST_MEMBERS) where
  few : size (unpacked_six c.args.self) ≤ most_members
  few = omega (arith, c.size.ensures)

pub everyone-requires : goal.everyone-requires
everyone-requires c =
    (tidied (goal.at.everyone-requires c).Then-are_tidy, few (goal.at.everyone-requires c).Then-size-le-MOST_MEMBERS)

pub returns-then-are_sound : goal.returns-then-are_sound
returns-then-are_sound c =
    let small = few (goal.at.returns-then-are_sound c).Then-size-le-MOST_MEMBERS in
    c.are_apart.ensures
    ∙ ap apart (set-lists _ _ c.everyone.ensures (omega (arith, everyone-size (unpacked_six c.args.self))))
    ∙ sound-by c.args.limits c.args.self true true true (tidied (goal.at.returns-then-are_sound c).Then-are_tidy) (le-leb _ _ small)
    (sym (c.are_sound.ensures ∙ sound-names c.args.limits c.args.self) ∙ c.if-are_sound.true)

pub returns-else-are_sound : goal.returns-else-are_sound
returns-else-are_sound c =
    c.if-are_sound.false
    ∙ sound-by c.args.limits c.args.self true true false (tidied (goal.at.returns-else-are_sound c).Then-are_tidy)
    (le-leb _ _ (few (goal.at.returns-else-are_sound c).Then-size-le-MOST_MEMBERS))
    (sym (c.are_sound.ensures ∙ sound-names c.args.limits c.args.self) ∙ c.if-are_sound.false)

pub returns-else-size-le-MOST_MEMBERS : goal.returns-else-size-le-MOST_MEMBERS
returns-else-size-le-MOST_MEMBERS c =
    lt-leb c.size.result most_members (omega arith)
    ∙ sound-by c.args.limits c.args.self true false _ (tidied (goal.at.returns-else-size-le-MOST_MEMBERS c).Then-are_tidy)
    (lt-leb (size (unpacked_six c.args.self)) most_members (omega (arith, c.size.ensures))) refl

pub returns-else-are_tidy : goal.returns-else-are_tidy
returns-else-are_tidy c =
    c.if-are_tidy.false
    ∙ sound-by c.args.limits c.args.self false _ _ (sym (c.are_tidy.ensures ∙ tidy-names c.args.self) ∙ c.if-are_tidy.false) refl refl
