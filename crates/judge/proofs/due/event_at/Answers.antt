-- By what was taken.
use Rattle.std.proofs.Common.{sym, ap, ◌∙◌}
use Rattle.record.specs.Takes.{on_taken}
use Rattle.record.specs.Stops.{told_front}
use Rattle.judge.specs.Judging.{stopped_as, stands_at}
use Rattle.judge.specs.declared.due.Finding.TheVariants.{Right}
use Rattle.judge.proofs.due.event_at.Goals as goal

pub returns-in-Next : goal.returns-in-Next
unfolding stands_at
returns-in-Next c = ap (λ t. on_taken t stopped_as (λ k. Right)) (sym (ap told_front c.in-Next.is) ∙ c.front_at.ensures)

pub returns-in-Stop : goal.returns-in-Stop
unfolding stands_at
returns-in-Stop c =
    c.stopped_as.ensures ∙ ap (λ t. on_taken t stopped_as (λ k. Right)) (sym (ap told_front c.in-Stop.is) ∙ c.front_at.ensures)
