-- The marked examples P1 to P10 of document 01, and lines on the meant partner of request Q-2, hold of the defined step on records.
-- Proves: marked-hold, meant-hold.
use mathlib.Core.Path.{◌≡◌, refl}
use mathlib.Core.List.{map}
use Rattle.record.specs.Records.{reading}
use Rattle.place.specs.Table.{turn}
use Rattle.unit.specs.Lasts.{recalled}
use Rattle.unit.specs.States.{first, seek, places_ok, sound, cold, cold_start, some}
use Rattle.unit.specs.Steps.{closed, closing_actions, step}
use Rattle.unit.specs.OnRecords.{on_record, trace}
use Rattle.unit.specs.Examples.{examples, meant_lines, got, want}

-- promise
pub marked-hold : map got examples ≡ map want examples
unfolding reading turn first seek places_ok sound cold cold_start closed closing_actions step on_record trace examples got want
    some recalled
marked-hold = refl

-- promise
pub meant-hold : map got meant_lines ≡ map want meant_lines
unfolding reading turn first seek places_ok sound cold cold_start closed closing_actions step on_record trace meant_lines got want
    some recalled
meant-hold = refl
