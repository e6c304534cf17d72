-- Cross-checks only: nobody has to believe what stands here.
-- The ranges of an event's fields, told of the event instead of the record's bytes: what the laws on a reading and on a step ask for.
-- Defines: reading_number, partner_event_ok, event_ok, reading_ok, Ranged.
use Rattle.std.specs.Prelude.{ℕ, ◌≡◌, Bool, true, ◌&&◌, leb}
use Rattle.record.specs.Partners.{partner_ok, named_ok}
use Rattle.record.specs.Events.{by_event}
use Rattle.record.specs.Records.{highest_level, mission_under_way, highest_version}
use Rattle.wire.specs.Refusals.{accepted, wrong_length, out_of_range}
use Rattle.record.specs.declared.event.PartnerEvent.{PartnerEvent}
use Rattle.record.specs.declared.event.Event.{Event}
use Rattle.record.specs.declared.event.Event.TheVariants.{Level, Mission, Mode, Hole, Order, EndAll, Call, Named}
use Rattle.record.specs.Readings.{Reading}
use Rattle.record.specs.Readings.{Meant, Refused}

-- 01's number for a reading: 0 for an event that is meant, else the refusal
abbrev pub reading_number : Reading → ℕ
reading_number (Meant e) = accepted
reading_number (Refused r) = r

-- the ranges of an event's fields that its type leaves open
abbrev pub partner_event_ok : PartnerEvent → Bool
partner_event_ok = by_event true true true true (λ v. leb v highest_version) true

abbrev pub event_ok : Event → Bool
event_ok (Level level manual) = leb level highest_level
event_ok (Mission mission) = leb mission mission_under_way
event_ok Mode = true
event_ok (Hole entered) = true
event_ok (Order p accepting cause) = partner_ok p
event_ok EndAll = true
event_ok (Call p) = named_ok p
event_ok (Named p e) = named_ok p && partner_event_ok e

-- what a reading may be: an event in its ranges, or refusal 1, 2 or 3
abbrev pub reading_ok : Reading → Bool
reading_ok (Meant e) = event_ok e
reading_ok (Refused r) = leb wrong_length r && leb r out_of_range

-- a reading means this event where its fields are in their ranges, and is refusal 3 where they are not
abbrev pub Ranged : Type 0 → Reading → Event → Type 0
Ranged P r e = (P → r ≡ Meant e) × ((P → ⊥) → r ≡ Refused 3)
