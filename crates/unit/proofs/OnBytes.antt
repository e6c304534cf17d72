-- The step on a record by what the code's tests showed.
-- Proves: bytes-unsound, bytes-reading, on_room, on-enough, on-reading, unchecked-room, unchecked-reading, unchecked-sound.
use mathlib.Core.Path.{◌≡◌, ◌∙◌}
use mathlib.Core.Bool.{true, false}
use mathlib.Core.List.{List}
use Prim.Native.Nat.{ℕ, ◌≤◌, ◌<◌}
use borrow.Author.Tests.{le-leb, lt-leb}
use Rattle.record.specs.Records.{reading}
use Rattle.wire.specs.Refusals.{no_room, not_sound}
use Rattle.record.specs.Readings.{Reading}
use Rattle.unit.specs.States.{sound}
use Rattle.unit.specs.Steps.{refused}
use Rattle.unit.specs.OnRecords.{action_room, on_reading, applied, on_record, on_record_unchecked}
use Rattle.unit.specs.declared.state.State.{State}

module _ (s : State) (bytes : List ℕ) where
  pub bytes-unsound : sound s ≡ false → applied s bytes ≡ refused not_sound s
  bytes-unsound bad = simp bad

  pub bytes-reading : (r : Reading) → sound s ≡ true → reading bytes ≡ r → applied s bytes ≡ on_reading s r
  bytes-reading r good means = simp (good, means)

  module _ (room : ℕ) where
    pub on_room : room < action_room → on_record s bytes room ≡ refused no_room s
    unfolding on_record
    on_room small = simp (lt-leb action_room room small)

    pub on-enough : action_room ≤ room → on_record s bytes room ≡ applied s bytes
    unfolding on_record
    on-enough enough = simp (le-leb action_room room enough)

    pub on-reading :
        action_room ≤ room
        → (r : Reading)
        → sound s ≡ true
        → reading bytes ≡ r
        → on_record s bytes room ≡ on_reading s r
    on-reading enough r good means = on-enough enough ∙ bytes-reading r good means

    -- where nobody asks whether the state is sound
    pub unchecked-room : room < action_room → on_record_unchecked s bytes room ≡ refused no_room s
    unfolding on_record_unchecked
    unchecked-room small = simp (lt-leb action_room room small)

    pub unchecked-reading :
        action_room ≤ room
        → (r : Reading)
        → reading bytes ≡ r
        → on_record_unchecked s bytes room ≡ on_reading s r
    unfolding on_record_unchecked
    unchecked-reading enough r means = simp (le-leb action_room room enough, means)

    -- of a sound state it is the step on a record
    -- promise
    pub unchecked-sound : sound s ≡ true → on_record_unchecked s bytes room ≡ on_record s bytes room
    unfolding on_record_unchecked on_record
    unchecked-sound good = simp good
