-- What reading a record answers, in the numbers of document 01, and how the code says it.
-- Defines: Reading, told.
use Rattle.std.specs.Prelude.{ℕ, Result, Ok, Err}
use Rattle.wire.specs.Refusals.{number}
use Rattle.wire.specs.declared.refusal.Refusal.{Refusal}
use Rattle.record.specs.declared.event.Event.{Event}

-- a record's event, or the number of the refusal
pub data Reading : Type 0 where
  Meant : Event → Reading
  Refused : ℕ → Reading

-- what the code answers, in these numbers: "Where an answer is an enum, the promises use a definition"
abbrev pub told_reading : Result Event Refusal → Reading
told_reading (Ok e) = Meant e
told_reading (Err r) = Refused (number r)
