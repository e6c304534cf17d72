-- Of the members passed those that the test chooses.
use Rattle.std.proofs.Common.{arith, sym, ap, ◌∙◌, ◌<◌, [], length, take}
use Rattle.std.proofs.lemmas.List.{take_more, length-take}
use Rattle.sets.specs.Members.{most_members, no_member, those, set_of, tidy}
use Rattle.sets.proofs.Packing.{set-tidy}
use Rattle.sets.proofs.MemberLaws.{those-few}
use Rattle.sets.proofs.MemberLoops.{held-most, grown, grown-form, those-next, those-left}
use Rattle.sets.proofs.FourItems.{four-items}
use Rattle.sets.proofs.members.Members.those.Goals.{then-test, else-test}
use Rattle.sets.proofs.members.Members.those.Goals as goal

pub loop-member-init : goal.loop-member-init
unfolding set_of
loop-member-init g c = record {
  in_form = ap tidy c.none-kept.ensures ∙ set-tidy [] (omega arith);
  few = omega (arith, ap (λ s. s.count) c.none-kept.ensures);
  chosen = λ passes by. c.none-kept.ensures;
}

pub with-kept-requires : goal.with-kept-requires
with-kept-requires g c = (
  c.loop-member.invariant.in_form,
  omega (
    arith,
    ap length c.held-member-items.ensures,
    held-most c.args.self (four-items c.args.self c.well_formed.0),
  ),
)

pub loop-member-preserved : goal.loop-member-preserved
loop-member-preserved g c =
    let items = c.held-member-items.result.now in
    let i = c.loop-member.member-index in
    let more = take_more items i no_member c.loop-member-test.true in
    let inv = c.loop-member.invariant in
    let most = held-most c.args.self (four-items c.args.self c.well_formed.0) in
    let room : i < most_members = omega (arith, ap length c.held-member-items.ensures) in
    elim c.if-test.branch [
      | then-test w ↦
          let grown-so = grown-form c.loop-member.kept w.with-kept.result _ inv.in_form (omega arith) w.with-kept.ensures in
          record {
            in_form = ap tidy w.kept-is ∙ grown-so.0;
            few = omega (arith, ap (λ s. s.count) w.kept-is, grown-so.1);
            chosen = λ passes by.
                let few = those-few passes (take i items) in
                w.kept-is
                ∙ grown c.loop-member.kept (those passes (take i items)) (inv.chosen passes by)
                (omega (arith, length-take i items)) _ _ w.with-kept.ensures
                ∙ ap set_of (sym (those-next (take i items) _ _ more passes (sym (by _ _ c.test.ensures) ∙ w.if-test.true)));
          }
      | else-test w ↦
          record {
            in_form = ap tidy w.kept-is ∙ inv.in_form;
            few = omega (arith, ap (λ s. s.count) w.kept-is);
            chosen = λ passes by.
                w.kept-is
                ∙ inv.chosen passes by
                ∙ ap set_of (sym (those-left (take i items) _ _ more passes (sym (by _ _ c.test.ensures) ∙ w.if-test.false)));
          }
    ]
