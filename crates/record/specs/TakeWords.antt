-- Cross-checks only: nobody has to believe what stands here.
-- What taking one record off a log may answer.
-- Defines: TakenOk.
use Rattle.std.specs.Prelude.{ℕ, ◌≤◌, ◌<◌, ◌≡◌, ◌⊎◌, List, length, take}
use Rattle.wire.specs.Refusals.{log_too_long}
use Rattle.record.specs.Records.{reading}
use Rattle.record.specs.Takes.{nothing_left, record_short, kind_unknown, longest_log}
use Rattle.record.specs.Takes.{Taken}
use Rattle.record.specs.Takes.{Whole, Stopped, Overlong}

-- what taking may answer: a record that stands there whole; "stop 0, 2 or 3"; 12
abbrev pub TakenOk : List ℕ → Taken → Type 0
TakenOk log (Whole k r) = (1 ≤ k) × (k ≤ length log) × (r ≡ reading (take k log))
TakenOk log (Stopped stop) = (stop ≡ nothing_left) ⊎ ((stop ≡ record_short) ⊎ (stop ≡ kind_unknown))
TakenOk log (Overlong r) = (r ≡ log_too_long) × (longest_log < length log)
