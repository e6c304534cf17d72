-- An end all, by the rule of closings; the other events by the definition alone.
use Rattle.std.proofs.Common.{◌≡◌, sym, ap, ◌∙◌}
use Rattle.record.specs.declared.event.Event.{Event}
use Rattle.sets.specs.SixSets.{unpacked}
use Rattle.sets.specs.SetSteps.{set_step}
use Rattle.sets.specs.declared.state.SetState.{SetState}
use Rattle.sets.proofs.StepLaws.{answering, end_is}
use Rattle.sets.proofs.step.ReadyState.step.Goals as goal

-- what is answered goes by the event
by-event : (b : SetState) {e f : Event} → e ≡ f → answering (set_step (unpacked b) f) ≡ answering (set_step (unpacked b) e)
by-event b told = ap (λ e. answering (set_step (unpacked b) e)) (sym told)

pub returns-in-EndAll : goal.returns-in-EndAll
returns-in-EndAll c =
    c.close_all.ensures ∙ ap answering (end_is c.args.self.state) ∙ by-event c.args.self.state c.in-EndAll.is
