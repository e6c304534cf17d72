-- Request Q-11: "Our radio layer delivers events of different partners in whichever order they come."
-- Defines: Delivered, Differ, versions, Compared, Reply, answer_of, next, alone, Alike.
use Rattle.std.specs.Prelude.{ℕ, ◌≤◌, false, ◌≡◌, List}
use Rattle.record.specs.Partners.{same_partner}
use Rattle.record.specs.Records.{reading}
use Rattle.record.specs.declared.partner.Partner.{Partner}
use Rattle.record.specs.declared.event.PartnerEvent.{PartnerEvent}
use Rattle.record.specs.declared.event.Event.TheVariants.{Named}
use Rattle.record.specs.Readings.{Meant}
use Rattle.unit.specs.Steps.{Outcome}
use Rattle.unit.specs.Kept.{is_version}
use Rattle.wire.specs.Bytes.{as_bit}
use Rattle.wire.specs.Sums.{sum}
use Rattle.unit.specs.OnRecords.{action_room, on_record}
use Rattle.unit.specs.declared.state.State.{State}
use Rattle.unit.specs.declared.search.Standing.{Standing}
use Rattle.unit.specs.declared.answer.Action.{Action}

-- "well-formed events of kinds 6, 8, 9, 10, or 11 with 32 or 39": a record that reads as an event of the phase table, with its partner
pub record Delivered : Type 0 where
  pub bytes : List ℕ
  pub partner : Partner
  pub event : PartnerEvent
  pub means : reading bytes ≡ Meant (Named partner event)

-- "naming two different partners"
abbrev pub Differ : Delivered → Delivered → Type 0
Differ x y = same_partner x.partner y.partner ≡ false

-- how many are message 32
abbrev pub versions : List Delivered → ℕ
versions = sum (λ x. as_bit (is_version x.event))

-- "If both are message 32 the last known RBC .. is left out": it is compared where at most one is
abbrev pub Compared : List Delivered → Type 0
Compared xs = versions xs ≤ 1

-- "each its own same number and actions", and of Q-6 place and phase
pub record Reply : Type 0 where
  pub code : ℕ
  pub standing : Standing
  pub actions : List Action

abbrev pub answer_of : Outcome → Reply
answer_of o = record { code = o.code; standing = o.standing; actions = o.actions }

-- the state after one of them, and what it gets, from this state
abbrev pub next : State → Delivered → State
next s x = (on_record s x.bytes action_room).state

abbrev pub alone : State → Delivered → Reply
alone s x = answer_of (on_record s x.bytes action_room)

-- "the same state", the last known RBC "left out of the comparison"
abbrev pub Alike : State → State → Type 0
Alike s t = (s.limits ≡ t.limits) × (s.train ≡ t.train) × (s.marks ≡ t.marks) × (s.places ≡ t.places)
