-- By who waits: nobody, one or two.
use Rattle.std.proofs.Common.{not, ◌&&◌, eqb, leb, sym, ap, ap₂, ◌∙◌}
use Rattle.shunter.specs.Queues.{modem_count, no_place, just_ordered}
use Rattle.shunter.proofs.Waits.{rules-none, rules-one, rules-two}
use Rattle.shunter.proofs.state.Shunter.rules_hold.Goals as goal

pub returns-then-first-eq-NO_PLACE : goal.returns-then-first-eq-NO_PLACE
returns-then-first-eq-NO_PLACE c =
    ap (λ held. eqb c.args.self.queue.second no_place && leb held modem_count) c.modems-held.ensures
    ∙ sym (rules-none c.args.self.state.places c.args.self.queue c.if-first-eq-NO_PLACE.true)

pub returns-then-second-eq-NO_PLACE : goal.returns-then-second-eq-NO_PLACE
returns-then-second-eq-NO_PLACE c =
    ap₂ ◌&&◌ (c.just_ordered-front.ensures ∙ ap just_ordered c.place_at.ensures)
    (ap (λ held. eqb held modem_count) c.modems-held.ensures)
    ∙ sym (rules-one c.args.self.state.places c.args.self.queue c.if-first-eq-NO_PLACE.false c.if-second-eq-NO_PLACE.true)

pub returns : goal.returns
returns c =
    ap₂ ◌&&◌
    (ap₂ ◌&&◌ (c.just_ordered-front.ensures ∙ ap just_ordered c.place_at.ensures)
    (c.just_ordered-behind.ensures ∙ ap just_ordered c.place_at-2.ensures))
    (ap (λ held. not (eqb c.args.self.queue.first c.args.self.queue.second) && eqb held modem_count) c.modems-held.ensures)
    ∙ sym (rules-two c.args.self.state.places c.args.self.queue c.if-first-eq-NO_PLACE.false c.if-second-eq-NO_PLACE.false)
