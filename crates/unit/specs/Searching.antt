-- Only private contracts and laws use what stands here: a step by what the search for its partner found.
-- Defines: admitted, ordered_to, turned, named_at.
use Rattle.std.specs.Prelude.{Bool, cond, ℕ}
use Rattle.wire.specs.Refusals as refusal
use Rattle.record.specs.Partners.{reserved}
use Rattle.record.specs.declared.partner.Partner.{Partner}
use Rattle.record.specs.declared.event.Cause.{Cause}
use Rattle.record.specs.declared.event.PartnerEvent.{PartnerEvent}
use Rattle.place.specs.Table.{turn, takes}
use Rattle.place.specs.declared.phase.Phase.{Phase}
use Rattle.place.specs.declared.turn.Turn.{Turn}
use Rattle.unit.specs.States.{seek, standing}
use Rattle.unit.specs.Steps.{Outcome, refused_at, refused, ordered_at, turned_at}
use Rattle.unit.specs.declared.state.State.{State}
use Rattle.unit.specs.declared.search.Found.{Found}
use Rattle.unit.specs.declared.search.Found.TheVariants.{At, Vacant, Full}

-- "5, 8" of an order and of 38: refused, or taken in at the lowest free place
abbrev pub admitted : State → (ℕ → Outcome) → Found → Outcome
admitted s taken (At i ph) = refused_at refusal.has_place (standing (At i ph)) s
admitted s taken (Vacant i) = taken i
admitted s taken Full = refused_at refusal.all_taken (standing Full) s

-- an order whose cause is in force
abbrev pub ordered_to : State → Partner → Bool → Cause → Outcome
ordered_to s p accepting cause =
    cond (reserved p) (refused refusal.none_known s) (admitted s (ordered_at s p accepting cause) (seek p s.places))

-- a turn that the place takes, or does not
abbrev pub turned : State → ℕ → Phase → Partner → Turn → Outcome
turned s i ph p t = cond (takes t) (turned_at s i p t) (refused_at refusal.not_taken (standing (At i ph)) s)

-- "6, 7" of the other events that name a partner
abbrev pub named_at : State → Partner → PartnerEvent → Found → Outcome
named_at s p e (At i ph) = turned s i ph p (turn s.limits ph e)
named_at s p e (Vacant i) = refused_at refusal.has_none (standing (Vacant i)) s
named_at s p e Full = refused_at refusal.has_none (standing Full) s
