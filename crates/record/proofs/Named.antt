-- Cross-checks only: rules told a second time.
-- The kinds that go by a name stand in the table of kinds at that number.
-- Proves: row_of-kinds.
use mathlib.Core.Path.{◌≡◌, refl}
use mathlib.Core.List.{List}
use Prim.Native.Nat.{ℕ}
use mathlib.Core.Bool.{◌&&◌}
use lib.Dec.{ltb}
use Rattle.wire.specs.Bytes.{byte, bit, flag}
use Rattle.record.specs.Partners.{partner_ok, named_ok}
use Rattle.record.specs.Records.{kind_order, kind_loss, kind_message, partner_in, cause_of, partner_row, message_ok, message_means, row_of}
use Rattle.record.specs.declared.event.PartnerEvent.TheVariants.{Loss}
use Rattle.record.specs.declared.event.Event.TheVariants.{Order}

-- "5 order", "9 connection lost", "11 message"
-- promise
pub row_of-kinds : (s : List ℕ)
    → ((row_of kind_order).ranges s ≡ (partner_ok (partner_in s) && (bit (byte s 5) && ltb (byte s 6) 5)))
    × ((row_of kind_order).means s ≡ Order (partner_in s) (flag (byte s 5)) (cause_of (byte s 6)))
    × (row_of kind_loss ≡ partner_row Loss)
    × ((row_of kind_message).ranges s ≡ (named_ok (partner_in s) && message_ok (byte s 5) (byte s 6)))
    × ((row_of kind_message).means s ≡ message_means (byte s 5) (byte s 6) (partner_in s))
row_of-kinds s = (refl, refl, refl, refl, refl)
