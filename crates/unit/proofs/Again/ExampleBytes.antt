-- The marked examples P1 to P10 of document 01 hold of the bytes that a step leaves in the action buffer.
-- Proves: marked-written.
use mathlib.Core.Path.{◌≡◌, refl}
use mathlib.Core.List.{map}
use Rattle.wire.specs.Blocks.{blocks}
use Rattle.record.specs.Records.{reading}
use Rattle.place.specs.Table.{turn}
use Rattle.unit.specs.Lasts.{recalled}
use Rattle.unit.specs.States.{first, seek, places_ok, sound, cold, cold_start, some}
use Rattle.unit.specs.Steps.{closed, closing_actions, step}
use Rattle.unit.specs.OnRecords.{on_record, trace, written}
use Rattle.unit.specs.Examples.{examples}
use Rattle.unit.specs.ExampleBytes.{sent_bytes, got_bytes, want_bytes}

-- promise
pub marked-written : map got_bytes examples ≡ map want_bytes sent_bytes
unfolding reading turn first seek places_ok sound cold cold_start closed closing_actions step on_record trace some recalled
    blocks written examples sent_bytes got_bytes want_bytes
marked-written = refl
