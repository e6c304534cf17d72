-- The refusals in their order, then the records.
use Rattle.std.proofs.Common.{sym, ◌∙◌}
use Rattle.unit.proofs.Runs.Starting.{run_long, run-unsound, run_sound}
use Rattle.unit.proofs.run.run.Goals as goal

pub returns-then-log-gt-LONGEST_LOG : goal.returns-then-log-gt-LONGEST_LOG
returns-then-log-gt-LONGEST_LOG c =
    (λ i. record { code = c.number.ensures i; stop = 0; tally = c.fresh.ensures i })
    ∙ run_long c.args.state c.args.log.now c.args.budget c.if-log-gt-LONGEST_LOG.true

pub returns-then-is_sound : goal.returns-then-is_sound
returns-then-is_sound c =
    c.go.ensures
    ∙ run_sound c.args.state c.args.log.now c.args.budget c.if-log-gt-LONGEST_LOG.false (sym c.is_sound.ensures ∙ c.if-is_sound.true)

pub returns-else-is_sound : goal.returns-else-is_sound
returns-else-is_sound c =
    (λ i. record { code = c.number-else-is_sound.ensures i; stop = 0; tally = c.fresh-else-is_sound.ensures i })
    ∙ run-unsound c.args.state c.args.log.now c.args.budget c.if-log-gt-LONGEST_LOG.false (sym c.is_sound.ensures ∙ c.if-is_sound.false)
