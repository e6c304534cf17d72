-- By the number found.
use Rattle.std.proofs.Common.{arith, ap, ◌∙◌, ◌+◌}
use Rattle.std.specs.List.{copy_within}
use Rattle.sets.proofs.Packing.{tidy-count}
use Rattle.sets.proofs.MemberLoops.{found-below, without_at, without-none}
use Rattle.sets.proofs.FourItems.{four-items}
use Rattle.sets.proofs.members.Members.without.Goals as goal

pub returns-in_default : goal.returns-in_default
returns-in_default c = without-none c.args.self c.args.partner c.requires c.in_default.ensures

pub overflow_add-at : goal.overflow_add-at
overflow_add-at c =
    omega (arith, found-below c.args.self c.args.partner c.requires _ c.in-Some.ensures, tidy-count c.args.self c.requires)

pub copy_within-requires-clause-start_le_end : goal.copy_within-requires-clause-start_le_end
copy_within-requires-clause-start_le_end c =
    omega (
      arith,
      found-below c.args.self c.args.partner c.requires _ c.in-Some.ensures,
      tidy-count c.args.self c.requires,
      four-items c.args.self c.well_formed.0,
    )

pub copy_within-requires-clause-dest_in_bounds : goal.copy_within-requires-clause-dest_in_bounds
copy_within-requires-clause-dest_in_bounds c =
    omega (
      arith,
      found-below c.args.self c.args.partner c.requires _ c.in-Some.ensures,
      tidy-count c.args.self c.requires,
      four-items c.args.self c.well_formed.0,
    )

pub overflow_sub-result : goal.overflow_sub-result
overflow_sub-result c = omega (arith, found-below c.args.self c.args.partner c.requires _ c.in-Some.ensures)

pub returns : goal.returns
returns c =
    let self = c.args.self in
    let at = c.in-Some.at in
    let moved =
    c.copy_within.ensures.after ∙ ap (λ n. copy_within self.items (at + 1) n at) (four-items self c.well_formed.0) in
    without_at self c.args.partner c.requires at c.in-Some.ensures _ _ moved c.none.ensures
