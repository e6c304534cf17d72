-- What is said of a place, said of what it holds.
-- Defines: is_free_holding, partner_held, phase_held, holds_in, holding_ok, holding_turn, holding_closed_by.
use mathlib.Core.Bool.{Bool}
use Rattle.record.specs.declared.partner.Partner.{Partner}
use Rattle.record.specs.declared.event.PartnerEvent.{PartnerEvent}
use Rattle.place.specs.Places.{is_free, partner_of, held_phase, holds, place_ok, on_holding}
use Rattle.place.specs.Table.{turn, closed_by}
use Rattle.place.specs.declared.phase.Phase.{Phase}
use Rattle.place.specs.declared.place.Holding.{Holding}
use Rattle.place.specs.declared.limits.Limits.{Limits}
use Rattle.place.specs.declared.turn.Turn.{Turn}
use Rattle.place.specs.declared.turn.Turn.TheVariants.{Stays}
use Rattle.place.specs.declared.turn.Closing.{Closing}

abbrev pub is_free_holding : Holding → Bool
is_free_holding k = is_free (record { holding = k })

abbrev pub partner_held : Holding → Partner
partner_held k = partner_of (record { holding = k })

abbrev pub phase_held : Holding → Phase
phase_held k = held_phase (record { holding = k })

abbrev pub holds_in : Partner → Holding → Bool
holds_in p k = holds p (record { holding = k })

abbrev pub holding_ok : Limits → Holding → Bool
holding_ok l k = place_ok l (record { holding = k })

-- what an event that names the partner makes of its place
abbrev pub holding_turn : Limits → Holding → PartnerEvent → Turn
holding_turn l k e = on_holding Stays (λ d ph p. turn l ph e) k

abbrev pub holding_closed_by : Closing → Holding → Turn
holding_closed_by which k = closed_by which (record { holding = k })
