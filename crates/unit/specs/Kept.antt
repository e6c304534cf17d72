-- What is counted in a step, and message 32.
-- Defines: count, here, is_version.
use Rattle.wire.specs.Bytes.{as_bit}
use Rattle.wire.specs.Sums.{sum}
use Rattle.record.specs.Events.{by_event}
use Rattle.record.specs.declared.event.PartnerEvent.{PartnerEvent}
use Rattle.place.specs.declared.place.Place.{Place}
use Rattle.unit.specs.declared.answer.Action.{Action}
use Rattle.std.specs.Prelude.{ℕ, Bool, true, false, List}

-- how many actions pass a test
unfoldable pub count : (Action → Bool) → List Action → ℕ
unfolding sum
count test acts = sum (λ a. as_bit (test a)) acts

-- 1 for a place that passes a test
abbrev pub here : (Place → Bool) → Place → ℕ
here test p = as_bit (test p)

-- message 32
abbrev pub is_version : PartnerEvent → Bool
is_version = by_event false false false false (λ v. true) false
