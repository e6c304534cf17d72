-- Whom an event and a record concern; and what the promises of request Q-6 speak of: where a partner stands, and what an answer says
-- of it.
-- Defines: Concern, by_concern, concern, concern_of, Numbered, Stands, Says.
use Rattle.std.specs.Prelude.{ℕ, ◌<◌, true, ◌≡◌, ◌⊎◌, List, get_or}
use Rattle.wire.specs.Refusals as refusal
use Rattle.record.specs.declared.partner.Partner.{Partner}
use Rattle.record.specs.declared.event.PartnerEvent.{PartnerEvent}
use Rattle.record.specs.declared.event.Event.{Event}
use Rattle.record.specs.declared.event.Event.TheVariants.{Level, Mission, Mode, Hole, Order, EndAll, Call, Named}
use Rattle.record.specs.Readings.{Reading}
use Rattle.record.specs.Readings.{Meant, Refused}
use Rattle.place.specs.Places.{phase_number, vacant, held_phase, holds}
use Rattle.place.specs.declared.place.Place.{Place}
use Rattle.unit.specs.Lasts.{meant}
use Rattle.unit.specs.States.{place_count}
use Rattle.unit.specs.declared.last.Last.{Last}
use Rattle.unit.specs.declared.search.Standing.{Standing}

-- nobody, the partner of an order, the partner that calls, or the one that another event names
pub data Concern : Type 0 where
  nobody : Concern
  order_to : Partner → Concern
  call_of : Partner → Concern
  naming : Partner → PartnerEvent → Concern

-- an answer for nobody, for an order to a partner, for a call of a partner, and for another event that names a partner
abbrev pub by_concern : {A : Type 0} → A → (Partner → A) → (Partner → A) → (Partner → PartnerEvent → A) → Concern → A
by_concern at_nobody at_order at_call at_naming nobody = at_nobody
by_concern at_nobody at_order at_call at_naming (order_to p) = at_order p
by_concern at_nobody at_order at_call at_naming (call_of p) = at_call p
by_concern at_nobody at_order at_call at_naming (naming p e) = at_naming p e

-- whom an event concerns; an order with the reserved number the one that it means
abbrev pub concern : Last → Event → Concern
concern last (Level level manual) = nobody
concern last (Mission mission) = nobody
concern last Mode = nobody
concern last (Hole entered) = nobody
concern last (Order p accepting cause) = order_to (meant last p)
concern last EndAll = nobody
concern last (Call p) = call_of p
concern last (Named p e) = naming p e

-- whom a record concerns, as it reads
abbrev pub concern_of : Last → Reading → Concern
concern_of last (Meant e) = concern last e
concern_of last (Refused r) = nobody

-- "Refusals 5 and 7"
abbrev pub Numbered : ℕ → Type 0
Numbered r = (r ≡ refusal.has_place) ⊎ (r ≡ refusal.not_taken)

-- the partner has this place, in this phase
abbrev pub Stands : List Place → Partner → Standing → Type 0
Stands ps p w =
    (w.place < place_count)
    × (holds p (get_or ps w.place vacant) ≡ true)
    × (w.phase ≡ phase_number (held_phase (get_or ps w.place vacant)))

-- the answer says where the partner of its order, call or other event stands
abbrev pub Says : List Place → Concern → Standing → Type 0
Says ps nobody w = ⊥
Says ps (order_to p) w = Stands ps p w
Says ps (call_of p) w = Stands ps p w
Says ps (naming p e) w = Stands ps p w
