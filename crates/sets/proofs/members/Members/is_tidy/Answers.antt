-- The count, then what stands after it.
use Rattle.std.proofs.Common.{true, false, sym, refl, ap, ◌∙◌}
use borrow.Author.Tests.{le-leb, lt-leb}
use Rattle.sets.specs.Members.{most_members, all_of, is_no_member}
use Rattle.sets.proofs.MemberLoops.{tidy-by, rest_lent}
use Rattle.sets.proofs.FourItems.{four-items}
use Rattle.sets.proofs.members.Members.is_tidy.Goals as goal

pub returns-then-self-gt-MOST_MEMBERS : goal.returns-then-self-gt-MOST_MEMBERS
returns-then-self-gt-MOST_MEMBERS c =
    let s = c.args.self in
    sym (tidy-by s false _ (four-items s c.well_formed.0) (lt-leb s.count most_members c.if-self-gt-MOST_MEMBERS.true) refl)

pub returns : goal.returns
returns c =
    let s = c.args.self in
    let few = le-leb s.count most_members c.if-self-gt-MOST_MEMBERS.false in
    let rest = c.are_none.ensures ∙ ap (all_of is_no_member) (rest_lent s.items s.count) in
    sym (tidy-by s true _ (four-items s c.well_formed.0) few (sym rest))
