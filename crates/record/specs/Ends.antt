-- Only private contracts use what stands here: a stop that is told by its number.
-- Defines: Stops.
use Rattle.std.specs.Prelude.{ℕ, ◌≡◌, Result, Ok, Err}
use Rattle.record.specs.Stops.{stop_number}
use Rattle.record.specs.declared.stop.Stop.{Stop}
use Rattle.record.specs.declared.stop.NoStop.{NoStop}

-- a stop that is told by its number; none is, exactly where no stop has it
abbrev pub Stops : ℕ → Result Stop NoStop → Type 0
Stops n (Ok s) = stop_number s ≡ n
Stops n (Err e) = (s : Stop) → stop_number s ≡ n → ⊥
