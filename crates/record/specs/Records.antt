-- Document 01, "Event records": the table of kinds, and reading one record.
-- Defines: highest_level, mission_ended, mission_starting, mission_under_way, message_version, message_call, message_ended,
-- highest_version,
-- kind_order, kind_loss, kind_message, partner_in, causes, cause_of, KindRow, row, partner_row, message_ok, message_means, no_row, kinds,
-- row_of, length_of, known, reading.
use Rattle.std.specs.Prelude.{ℕ, Bool, true, false, cond, ◌&&◌, ◌||◌, not, List, [], ◌∷◌, eqb, leb, ltb, length, get_or}
use Rattle.record.specs.Partners.{partner_ok, named_ok, partner_at}
use Rattle.wire.specs.Bytes.{byte, is_empty, bit, flag}
use Rattle.wire.specs.Orders.{first_that_applies}
use Rattle.wire.specs.Refusals.{wrong_length, unknown_kind, out_of_range}
use Rattle.record.specs.declared.partner.Partner.{Partner}
use Rattle.record.specs.declared.event.Cause.{Cause}
use Rattle.record.specs.declared.event.Cause.TheVariants.{StartOfMission, Trackside, ModeChange, ManualLevel, HoleEnd}
use Rattle.record.specs.declared.event.PartnerEvent.{PartnerEvent}
use Rattle.record.specs.declared.event.PartnerEvent.TheVariants.{Drop, Up, Loss, Timeout, Version, Ended}
use Rattle.record.specs.declared.event.Event.{Event}
use Rattle.record.specs.declared.event.Event.TheVariants.{Level, Mission, Mode, Hole, Order, EndAll, Call, Named}
use Rattle.record.specs.Readings.{Reading}
use Rattle.record.specs.Readings.{Meant, Refused}

-- the largest level, 4, which is NTC
abbrev pub highest_level : ℕ
highest_level = 4

-- missions: 0 ended, 1 starting, 2 under way
abbrev pub mission_ended : ℕ
mission_ended = 0

abbrev pub mission_starting : ℕ
mission_starting = 1

abbrev pub mission_under_way : ℕ
mission_under_way = 2

-- the messages that a partner sends: "number 32, 38 or 39"
abbrev pub message_version : ℕ
message_version = 32

abbrev pub message_call : ℕ
message_call = 38

abbrev pub message_ended : ℕ
message_ended = 39

-- "Version is 0..127 for message 32"
abbrev pub highest_version : ℕ
highest_version = 127

-- the kinds that demand 3 counts by, as their byte stands in a record
abbrev pub kind_order : ℕ
kind_order = 5

abbrev pub kind_loss : ℕ
kind_loss = 9

abbrev pub kind_message : ℕ
kind_message = 11

-- "Partner = type byte, three number bytes": it follows the kind
abbrev pub partner_in : List ℕ → Partner
partner_in = partner_at 1

-- "cause 0..4", in the order of the rules of an order
abbrev pub causes : List Cause
causes = StartOfMission ∷ Trackside ∷ ModeChange ∷ ManualLevel ∷ HoleEnd ∷ []

abbrev pub cause_of : ℕ → Cause
cause_of b = get_or causes b StartOfMission

-- a row of the table of kinds: the record's length, the ranges of its fields, and the event that they mean
pub record KindRow : Type 0 where
  pub size : ℕ
  pub ranges : List ℕ → Bool
  pub means : List ℕ → Event

abbrev pub row : ℕ → (List ℕ → Bool) → (List ℕ → Event) → KindRow
row size ranges means = record { size = size; ranges = ranges; means = means }

-- "partner", for an event that names one; Q-2: "3 for other events that name it"
abbrev pub partner_row : PartnerEvent → KindRow
partner_row e = row 5 (λ s. named_ok (partner_in s)) (λ s. Named (partner_in s) e)

-- "number 32, 38 or 39"; "Version is 0..127 for message 32 (16·X + Y) and must be 0 for 38 and 39"
abbrev pub message_ok : ℕ → ℕ → Bool
message_ok number version =
    cond (eqb number message_version) (leb version highest_version) ((eqb number message_call || eqb number message_ended) && eqb version 0)

abbrev pub message_means : ℕ → ℕ → Partner → Event
message_means number version p =
    cond (eqb number message_version) (Named p (Version version)) (cond (eqb number message_call) (Call p) (Named p Ended))

-- a number that no kind has
abbrev pub no_row : KindRow
no_row = row 0 (λ s. false) (λ s. Mode)

-- the table of 01: a row for each kind, 1 to 11; 0 is no kind
abbrev pub kinds : List KindRow
kinds =
    no_row
    -- 1 level: level, manual 0/1
    ∷ row 3 (λ s. leb (byte s 1) highest_level && bit (byte s 2)) (λ s. Level (byte s 1) (flag (byte s 2)))
    -- 2 mission: 0..2
    ∷ row 2 (λ s. leb (byte s 1) mission_under_way) (λ s. Mission (byte s 1))
    -- 3 mode change: none
    ∷ row 1 (λ s. true) (λ s. Mode)
    -- 4 hole: 1 entered, 0 left
    ∷ row 2 (λ s. bit (byte s 1)) (λ s. Hole (flag (byte s 1)))
    -- 5 order: partner, accepting 0/1, cause 0..4 (Q-2: an order may name 16,383)
    ∷ row 7 (λ s. partner_ok (partner_in s) && (bit (byte s 5) && ltb (byte s 6) (length causes)))
    (λ s. Order (partner_in s) (flag (byte s 5)) (cause_of (byte s 6)))
    -- 6 drop: partner
    ∷ partner_row Drop
    -- 7 end all: 0 desk closed, 1 error
    ∷ row 2 (λ s. bit (byte s 1)) (λ s. EndAll)
    -- 8 connection up: partner
    ∷ partner_row Up
    -- 9 connection lost: partner
    ∷ partner_row Loss
    -- 10 timeout: partner
    ∷ partner_row Timeout
    -- 11 message: partner, number 32, 38 or 39, version
    ∷ row 7 (λ s. named_ok (partner_in s) && message_ok (byte s 5) (byte s 6)) (λ s. message_means (byte s 5) (byte s 6) (partner_in s))
    ∷ []

abbrev pub row_of : ℕ → KindRow
row_of kind = get_or kinds kind no_row

-- "The kind fixes the length"; 0 where no kind has that number
abbrev pub length_of : ℕ → ℕ
length_of kind = (row_of kind).size

-- the kind is one of the table
abbrev pub known : ℕ → Bool
known kind = ltb 0 (length_of kind)

-- "1 (empty), 2, 1 (length), 3": the first refusal that applies, or the event
unfoldable pub reading : List ℕ → Reading
reading s =
    first_that_applies Refused
    ((not (is_empty s), wrong_length)
    ∷ (known (byte s 0), unknown_kind)
    ∷ (eqb (length s) (length_of (byte s 0)), wrong_length)
    ∷ ((row_of (byte s 0)).ranges s, out_of_range)
    ∷ [])
    (Meant ((row_of (byte s 0)).means s))
