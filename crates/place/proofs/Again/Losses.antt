-- No message goes over a lost connection: a place in Lost asks for the connection or releases it.
-- Proves: lost-sends, lost-closes.
use mathlib.Core.Path.{◌≡◌, refl}
use mathlib.Core.Bool.{true}
use Prim.Native.Nat.{ℕ, ◌+◌}
use lib.Dec.{ltb}
use Rattle.record.specs.declared.event.PartnerEvent.{PartnerEvent}
use Rattle.record.specs.declared.event.PartnerEvent.TheVariants.{Drop, Up, Loss, Timeout, Version, Ended}
use Rattle.wire.proofs.Tests.{cond-holds}
use Rattle.place.specs.Table.{request, closing, turn, numbers}
use Rattle.place.specs.declared.phase.Phase.TheVariants.{Lost}
use Rattle.place.specs.declared.limits.Limits.{Limits}
use Rattle.place.specs.declared.turn.Turn.TheVariants.{Released, Sends}
use Rattle.place.specs.Turns.{own_numbers}

-- "Sending 156 on a Lost connection" does not happen, whatever the event
-- promise
pub lost-sends : (l : Limits) (t : ℕ) (e : PartnerEvent) → own_numbers (numbers (turn l (Lost t) e)) ≡ true
unfolding turn
lost-sends l t Drop = refl
lost-sends l t Up = refl
lost-sends l t Loss = refl
lost-sends l t Timeout =
    cond-holds (λ x. own_numbers (numbers x) ≡ true) (ltb t l.tries) (Sends request (Lost (t + 1))) Released refl refl
lost-sends l t (Version v) = refl
lost-sends l t Ended = refl

-- nor at a closing
-- promise
pub lost-closes : (t : ℕ) → own_numbers (numbers (closing (Lost t))) ≡ true
lost-closes t = refl
