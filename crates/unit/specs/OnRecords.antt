-- Document 01, "Rules of one step" on bytes: the step on a record, and the bytes of its actions.
-- Defines: action_room, action_size, on_reading, applied, on_record, on_record_unchecked, trace, bytes_of, action_bytes, written.
use Rattle.std.specs.Prelude.{ℕ, ◌*◌, List, [], ◌∷◌, ◌++◌, leb, length, drop}
use Rattle.wire.specs.Blocks.{blocks}
use Rattle.wire.specs.Orders.{first_that_applies}
use Rattle.record.specs.Partners.{partner_bytes}
use Rattle.record.specs.Records.{reading}
use Rattle.wire.specs.Refusals.{no_room, not_sound}
use Rattle.record.specs.Readings.{Reading}
use Rattle.record.specs.Readings.{Meant, Refused}
use Rattle.unit.specs.States.{sound}
use Rattle.unit.specs.Steps.{Outcome, refused, step}
use Rattle.unit.specs.declared.state.State.{State}
use Rattle.unit.specs.declared.answer.Action.{Action}

-- "action buffer under 20 bytes"
abbrev pub action_room : ℕ
action_room = 20

-- "Actions are five bytes: number, partner"
abbrev pub action_size : ℕ
action_size = 5

-- a record that is refused changes nothing; one that means an event is stepped
abbrev pub on_reading : State → Reading → Outcome
on_reading s (Meant e) = step s e
on_reading s (Refused r) = refused r s

-- "11, then 1 (empty), 2, 1 (length), 3; then .."
abbrev pub applied : State → List ℕ → Outcome
applied s bytes = first_that_applies (λ r. refused r s) ((sound s, not_sound) ∷ []) (on_reading s (reading bytes))

-- "First that applies, in these orders. Step: 10, 11, ..": room is the length of the action buffer
unfoldable pub on_record : State → List ℕ → ℕ → Outcome
on_record s bytes room = first_that_applies (λ r. refused r s) ((leb action_room room, no_room) ∷ []) (applied s bytes)

-- the same where it was asked before whether the state is sound: of a sound state it is `on_record` (`unchecked-sound`)
unfoldable pub on_record_unchecked : State → List ℕ → ℕ → Outcome
on_record_unchecked s bytes room = first_that_applies (λ r. refused r s) ((leb action_room room, no_room) ∷ [])
    (on_reading s (reading bytes))

-- the outcomes of a history, "a row of event records, each given 20 bytes for its actions"
unfoldable pub trace : State → List (List ℕ) → List Outcome
trace s [] = []
trace s (bytes ∷ history) =
    let o : Outcome = on_record s bytes action_room in
    o ∷ trace o.state history

-- "Actions are five bytes: number, partner"
abbrev pub bytes_of : Action → List ℕ
bytes_of a = a.number ∷ partner_bytes a.partner

-- the bytes of a step's actions, one after the other
abbrev pub action_bytes : List Action → List ℕ
action_bytes = blocks bytes_of

-- "An accepted call writes only its actions ..; later bytes stay"
unfoldable pub written : List Action → List ℕ → List ℕ
written acts buffer = action_bytes acts ++ drop (action_size * length acts) buffer
