-- The partners passed stand no second time.
use Rattle.std.proofs.Common.{ap, sym, ◌∙◌, ◌+◌, ◌∷◌, drop, get_or, add-one}
use Rattle.std.proofs.Math.ListN.{drop_of_length-le}
use Rattle.std.proofs.Math.Seq.{drop-cons}
use Rattle.sets.specs.Members.{no_member, has_member, apart}
use Rattle.sets.proofs.MemberLaws.{apart-here, apart-not}
use Rattle.sets.proofs.MemberLoops.{rest_lent}
use Rattle.sets.proofs.members.Members.are_apart.Goals as goal

pub returns-then-is_among : goal.returns-then-is_among
returns-then-is_among c =
    let held = c.held-members.result.now in
    let i = c.loop-i.i in
    let m = get_or held i no_member in
    let rest = drop-cons held i no_member c.loop-i-test.true ∙ ap (λ k. m ∷ drop k held) (sym (add-one i)) in
    let there = ap (has_member m.partner) (sym (rest_lent held (i + 1))) ∙ sym c.is_among.ensures ∙ c.if-is_among.true in
    sym (ap apart (sym c.held-members.ensures) ∙ c.loop-i.invariant ∙ apart-not _ _ m rest there)

pub loop-i-preserved : goal.loop-i-preserved
loop-i-preserved c =
    let held = c.held-members.result.now in
    let i = c.loop-i.i in
    let m = get_or held i no_member in
    let rest = drop-cons held i no_member c.loop-i-test.true ∙ ap (λ k. m ∷ drop k held) (sym (add-one i)) in
    let absent = ap (has_member m.partner) (sym (rest_lent held (i + 1))) ∙ sym c.is_among.ensures ∙ c.if-is_among.false in
    c.loop-i.invariant ∙ apart-here _ _ m rest absent

pub returns : goal.returns
unfolding apart
returns c =
    let held = c.held-members.result.now in
    sym (ap apart (sym c.held-members.ensures)
    ∙ c.loop-i.invariant
    ∙ ap apart (drop_of_length-le held c.loop-i-test.false))
