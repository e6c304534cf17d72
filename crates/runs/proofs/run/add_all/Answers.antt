-- The actions passed are counted.
use Rattle.std.proofs.Common.{◌≡◌, length, sym, ap, ◌∙◌, rules, arith}
use Rattle.std.proofs.lemmas.List.{get_or-take}
use Rattle.unit.specs.Counting.{added}
use Rattle.unit.specs.Forms.{no_action}
use Rattle.unit.proofs.Runs.Tallies.{totalled_none, below_more, added-below}
use Rattle.runs.proofs.Counts.{totalled-next}
use Rattle.runs.proofs.run.add_all.Goals as goal

pub loop-action-init : goal.loop-action-init
loop-action-init c = (omega arith, below_more (omega arith) c.requires.0, sym (totalled_none c.args.counted))

pub loop-action-preserved : goal.loop-action-preserved
loop-action-preserved c =
    let items = c.args.actions.items in
    let four : length items ≡ 4 = search rules in
    let i = c.loop-action.action-index in
    let inv = c.loop-action.invariant in
    let more = c.add-totals.ensures in (
      omega arith,
      rw more (below_more (omega arith) (added-below _ _ _ inv.1)),
      more ∙ ap (λ a. added c.loop-action.totals a.number) (get_or-take c.args.actions.count items i no_action (omega arith))
          ∙ totalled-next c.args.counted c.loop-action.totals items i (omega (arith, four, c.requires.1)) inv.2,
    )
