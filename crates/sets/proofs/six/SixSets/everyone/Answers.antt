-- The union of the sets passed.
use Rattle.std.proofs.Common.{◌<◌, [], ap, ◌∙◌, flat_map, length, slice_index_or, arith}
use Rattle.std.proofs.lemmas.List as lists
use lib.Seq.{take_all}
use Rattle.sets.specs.Members.{set_of}
use Rattle.sets.specs.SixSets.{set_in, unpacked_six}
use Rattle.sets.specs.Holding.{six_names, held_set}
use Rattle.sets.specs.declared.names.SetName.TheVariants.{Calling}
use Rattle.sets.proofs.SixLaws.{Joins}
use Rattle.sets.proofs.SixByName.{union_to, next, union-joins, union-next, union-all}
use Rattle.sets.proofs.six.SixSets.everyone.Goals.{After-members-1}
use Rattle.sets.proofs.six.SixSets.everyone.Goals as goal

-- a set that is still to be joined
module _ (c : After-members-1) where
  below : c.loop-members.members-index < length six_names
  below = omega (arith, c.loop-members-test.true)

  joining : Joins c.loop-members.all
      (slice_index_or c.in_order-members-items.result c.loop-members.members-index record { items = []; count = 0 })
      (union_to c.args.self c.loop-members.members-index)
      (set_in (next c.args.self c.loop-members.members-index below) (unpacked_six c.args.self))
  joining =
      let i = c.loop-members.members-index in
      union-joins c.args.self i below c.loop-members.all _ c.requires.0 c.requires.1 c.loop-members.invariant
      (ap (λ l. slice_index_or l i record { items = []; count = 0 }) c.in_order-members-items.ensures
      ∙ lists.get_or-map (λ w. held_set w c.args.self) six_names i Calling _ below)

pub joined-all-requires : goal.joined-all-requires
joined-all-requires c = (joining c).0

pub loop-members-preserved : goal.loop-members-preserved
loop-members-preserved c =
    (joining (goal.at.loop-members-preserved c).After-members-1).1 c.joined-all.result c.joined-all.ensures
    ∙ ap set_of
    (union-next c.args.self c.loop-members.members-index (below (goal.at.loop-members-preserved c).After-members-1))

pub returns : goal.returns
returns c =
    c.loop-members.invariant
    ∙ ap set_of
    (ap (flat_map (λ w. set_in w (unpacked_six c.args.self)))
    (take_all c.loop-members.members-index six_names (omega (arith, c.loop-members-test.false)))
    ∙ union-all c.args.self)
