-- The marks passed are written, the run taken up at each where the one before it came to.
use Rattle.std.proofs.Common.{◌≡◌, ap, ◌∙◌, true, List, ℕ, ◌+◌, ◌≤◌, length, drop, arith}
use Rattle.unit.specs.States.{sound}
use Rattle.unit.specs.declared.run.Tally.{Tally}
use Rattle.marks.specs.Marks.{mark_every, after_many}
use Rattle.marks.proofs.Running.{run-many, many-within, many-sound}
use Rattle.marks.proofs.Filling.{filling-end, filling-next}
use Rattle.marks.proofs.build.fill.Goals as goal
use Rattle.marks.proofs.build.fill.Goals.{After-run-report}

-- the run to the next mark
module _ (c : After-run-report) where
  abbrev log : List ℕ
  log = c.args.log.now

  abbrev at : ℕ
  at = c.loop-i.at

  abbrev tally : Tally
  tally = c.run-report.result.tally

  ran : tally ≡ after_many c.loop-i.state (drop at log) mark_every
  ran = run-many c.loop-i.state log at mark_every c.loop-i.invariant.2 c.requires.0 _ c.run-report.ensures

  -- it ends in the log, with a sound state
  within : at + tally.offset ≤ length log
  within =
      let end = many-within c.loop-i.state log at mark_every c.loop-i.invariant.2 c.requires.0 c.loop-i.invariant.1 in
      omega (arith, end, ap (λ (t : Tally). t.offset) ran)

  good : sound tally.state ≡ true
  good =
      ap (λ (t : Tally). sound t.state) ran
      ∙ many-sound c.loop-i.state log at mark_every c.loop-i.invariant.2 c.requires.0

pub overflow_add-at : goal.overflow_add-at
overflow_add-at c =
    let inside = within (goal.at.overflow_add-at c).After-run-report in
    omega (arith, inside, c.requires.0)

pub put_mark-requires : goal.put_mark-requires
put_mark-requires c =
    let run = (goal.at.put_mark-requires c).After-run-report in
    let inside = within run in
    (omega (arith, c.requires.3, c.loop-i.invariant.3), omega (arith, inside, c.requires.0), good run)

pub loop-i-preserved : goal.loop-i-preserved
loop-i-preserved c =
    let run = (goal.at.loop-i-preserved c).After-run-report in
    let begun = c.args.begun in
    filling-next (log run) c.requires.0 _ _ _ begun.state begun.offset _ _ _ _ c.loop-i.invariant c.loop-i-test.true _ (ran run) _
    c.put_mark.ensures

pub returns : goal.returns
returns c =
    let begun = c.args.begun in
    filling-end c.args.log.now c.requires.0 _ _ _ begun.state begun.offset _ _ _ _ c.loop-i.invariant c.requires.1 c.requires.2
    c.requires.3 c.loop-i-test.false
