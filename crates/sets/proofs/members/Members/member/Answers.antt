-- The member of the number found, or zeros.
use Rattle.std.proofs.Common.{arith, ap, sym, ◌∙◌, get_or}
use lib.ListN.{get_or-eq_default}
use Rattle.sets.specs.Members.{no_member, members_of}
use Rattle.sets.proofs.MemberLaws.{found-at, found-none, member-first}
use Rattle.sets.proofs.MemberLoops.{held-few, held-most, held-member}
use Rattle.sets.proofs.FourItems.{four-items}
use Rattle.sets.proofs.members.Members.member.Goals as goal

pub offset_bounds-self-at : goal.offset_bounds-self-at
offset_bounds-self-at c =
    let at = found-at c.args.partner (members_of c.args.self) c.in-Some.at c.in-Some.ensures in
    omega (arith, at.1, held-most c.args.self (four-items c.args.self c.well_formed.0))

pub bounds-self-at : goal.bounds-self-at
bounds-self-at c =
    let at = found-at c.args.partner (members_of c.args.self) c.in-Some.at c.in-Some.ensures in
    omega (arith, at.1, held-most c.args.self (four-items c.args.self c.well_formed.0))

pub returns-in-Some : goal.returns-in-Some
returns-in-Some c =
    let self = c.args.self in
    let ms = members_of self in
    let at = found-at c.args.partner ms _ c.in-Some.ensures in
    sym (held-member self c.in-Some.at (omega (arith, at.1, held-few self)))
    ∙ ap (λ k. get_or ms k no_member) at.0
    ∙ member-first c.args.partner ms

pub returns-in-None : goal.returns-in-None
returns-in-None c =
    let ms = members_of c.args.self in
    c.none.ensures
    ∙ sym (get_or-eq_default ms no_member (found-none c.args.partner ms c.in-None.ensures))
    ∙ member-first c.args.partner ms
