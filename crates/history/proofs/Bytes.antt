-- The bytes by which demand 3 counts a record tell the event that it reads as: kind 5 is an order, 38 of kind 11 a call, kind 9 a loss.
-- Defines: is_order_event, is_call_event, is_lost, is_loss_event, TellsEvent, Tells, Unread.
-- Proves: reading-tells, unread.
use mathlib.Core.Path.{◌≡◌, refl, ap, ◌∙◌}
use mathlib.Core.Bool.{Bool, true, false, cond}
use mathlib.Core.List.{List, [], ◌∷◌}
use Prim.Native.Nat.{ℕ}
use native.Mathlib.Omega.{arith}
use lib.Dec.{eqb, leb}
use lib.ListN.{length}
use borrow.Author.Tests.{eqb-true, ne_eqb, leb-true}
use Rattle.record.specs.Records.{message_version, message_call, message_means, partner_in, known, length_of, reading, row_of, KindRow}
use Rattle.record.specs.Records.{partner_row, kinds, no_row}
use Rattle.record.specs.Ranges.{reading_ok}
use Rattle.wire.specs.Bytes.{byte}
use Rattle.wire.specs.Refusals.{accepted, wrong_length, unknown_kind, out_of_range, not_sound}
use Rattle.record.specs.declared.partner.Partner.{Partner}
use Rattle.record.specs.declared.event.PartnerEvent.{PartnerEvent}
use Rattle.record.specs.declared.event.PartnerEvent.TheVariants.{Drop, Up, Loss, Timeout, Version, Ended}
use Rattle.record.specs.declared.event.Event.{Event}
use Rattle.record.specs.declared.event.Event.TheVariants.{Level, Mission, Mode, Hole, Order, EndAll, Call, Named}
use Rattle.record.specs.Readings.{Reading}
use Rattle.record.specs.Readings.{Meant, Refused}
use Rattle.wire.proofs.Tests.{and_left, cond-case, cond-holds, true-false}
use Rattle.record.proofs.Ranges.{reading-ok}
use Rattle.unit.specs.States.{sound}
use Rattle.unit.specs.Steps.{Outcome, refused}
use Rattle.unit.specs.OnRecords.{action_room, on_reading, on_record}
use Rattle.unit.specs.declared.state.State.{State}
use Rattle.history.specs.Histories.{is_order, is_call, is_loss}
use Rattle.unit.proofs.Rows.{◌▹◌, Numbered, numbered-at}

-- the events that are counted
abbrev pub is_order_event : Event → Bool
is_order_event (Level level manual) = false
is_order_event (Mission mission) = false
is_order_event Mode = false
is_order_event (Hole entered) = false
is_order_event (Order p accepting cause) = true
is_order_event EndAll = false
is_order_event (Call p) = false
is_order_event (Named p e) = false

abbrev pub is_call_event : Event → Bool
is_call_event (Level level manual) = false
is_call_event (Mission mission) = false
is_call_event Mode = false
is_call_event (Hole entered) = false
is_call_event (Order p accepting cause) = false
is_call_event EndAll = false
is_call_event (Call p) = true
is_call_event (Named p e) = false

abbrev pub is_lost : PartnerEvent → Bool
is_lost Drop = false
is_lost Up = false
is_lost Loss = true
is_lost Timeout = false
is_lost (Version v) = false
is_lost Ended = false

abbrev pub is_loss_event : Event → Bool
is_loss_event (Level level manual) = false
is_loss_event (Mission mission) = false
is_loss_event Mode = false
is_loss_event (Hole entered) = false
is_loss_event (Order p accepting cause) = false
is_loss_event EndAll = false
is_loss_event (Call p) = false
is_loss_event (Named p e) = is_lost e

-- what the bytes say of an event
abbrev pub TellsEvent : List ℕ → Event → Type 0
TellsEvent bytes e = (is_order bytes ≡ is_order_event e) × (is_call bytes ≡ is_call_event e) × (is_loss bytes ≡ is_loss_event e)

abbrev pub Tells : List ℕ → Reading → Type 0
Tells bytes (Meant e) = TellsEvent bytes e
Tells bytes (Refused r) = Unit

-- number 38 and no other is a call
message-tells : (number version : ℕ) (p : Partner) (bytes : List ℕ)
    → is_order bytes ≡ false
    → is_call bytes ≡ eqb number message_call
    → is_loss bytes ≡ false
    → TellsEvent bytes (message_means number version p)
message-tells number version p bytes order call loss =
    cond-case (TellsEvent bytes) (eqb number message_version) (Named p (Version version))
    (cond (eqb number message_call) (Call p) (Named p Ended))
    (λ is. (order, call ∙ ap (λ k. eqb k message_call) (eqb-true number message_version is), loss))
    (λ other.
    cond-case (TellsEvent bytes) (eqb number message_call) (Call p) (Named p Ended)
    (λ is. (order, call ∙ is, loss))
    (λ neither. (order, call ∙ neither, loss)))

-- what a row of the table of kinds says of the bytes of its records
abbrev RowTells : ℕ → KindRow → Type 0
RowTells kind body = (s : List ℕ) → byte s 0 ≡ kind → body.ranges s ≡ true → TellsEvent s (body.means s)

-- the kind's byte decides, and for a call the number's
by_first : (kind : ℕ) (body : KindRow) (s : List ℕ)
    → byte s 0 ≡ kind
    → body.ranges s ≡ true
    → (is_order s ≡ is_order (kind ∷ []))
    × (is_call s ≡ is_call (kind ∷ 0 ∷ 0 ∷ 0 ∷ 0 ∷ byte s 5 ∷ []))
    × (is_loss s ≡ is_loss (kind ∷ []))
by_first kind body s e ok = (
  ap (λ k. is_order (k ∷ [])) e,
  ap (λ k. is_call (k ∷ 0 ∷ 0 ∷ 0 ∷ 0 ∷ byte s 5 ∷ [])) e,
  ap
      (λ k. is_loss (k ∷ [])) e,
)

-- the table of kinds, row by row
rows_tell : Numbered RowTells 0 kinds
rows_tell =
    (λ s e ok. true-false false ok refl)
    ▹ by_first 1 (row_of 1)
    ▹ by_first 2 (row_of 2)
    ▹ by_first 3 (row_of 3)
    ▹ by_first 4 (row_of 4)
    ▹ by_first 5 (row_of 5)
    ▹ by_first 6 (partner_row Drop)
    ▹ by_first 7 (row_of 7)
    ▹ by_first 8 (partner_row Up)
    ▹ by_first 9 (partner_row Loss)
    ▹ by_first 10 (partner_row Timeout)
    ▹ (λ s e ok.
    let told = by_first 11 (row_of 11) s e ok in
    message-tells (byte s 5) (byte s 6) (partner_in s) s told.0 told.1 told.2)
    ▹ tt

-- so every record that is read
pub reading-tells : (bytes : List ℕ) → Tells bytes (reading bytes)
unfolding reading
reading-tells [] = tt
reading-tells (kind ∷ body) =
    let s = kind ∷ body in
    let row = numbered-at RowTells 0 kinds no_row rows_tell (λ i s e ok. true-false false ok refl) kind s (omega arith) in
    let ranged = cond-case (Tells s) ((row_of kind).ranges s) (Meant ((row_of kind).means s)) (Refused out_of_range) row (λ outside. tt) in
    let sized = cond-holds (Tells s) (eqb (length s) (length_of kind)) _ (Refused wrong_length) ranged tt in
    cond-holds (Tells s) (known kind) _ (Refused unknown_kind) sized tt

-- a record that reads as no event is not accepted
abbrev pub Unread : Outcome → Reading → Type 0
Unread o (Meant e) = Unit
Unread o (Refused r) = eqb o.code accepted ≡ false

pub unread : (s : State) (bytes : List ℕ) → Unread (on_record s bytes action_room) (reading bytes)
unfolding on_record
unread s bytes = by (reading bytes) (reading-ok bytes)
  where
    by : (r : Reading) → reading_ok r ≡ true → Unread (cond (sound s) (on_reading s r) (refused not_sound s)) r
    by (Meant e) ok = tt
    by (Refused r) ok =
        let some = leb-true wrong_length r (and_left (leb wrong_length r) (leb r out_of_range) ok) in
        cond-holds (λ o. Unread o (Refused r)) (sound s) (refused r s) (refused not_sound s) (ne_eqb r accepted (λ e. omega arith)) refl
