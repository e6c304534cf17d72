-- Request Q-11: orders, calls and two messages 32 do differ with their order, by computation.
-- Proves: both_ways-differ, last_both_ways-differ.
use mathlib.Core.Path.{◌≡◌, refl}
use mathlib.Core.List.{[], ◌∷◌, map}
use Rattle.record.specs.Records.{reading}
use Rattle.place.specs.Table.{turn}
use Rattle.unit.specs.Lasts.{recalled}
use Rattle.unit.specs.States.{first, seek, places_ok, sound, cold, cold_start, some}
use Rattle.unit.specs.Steps.{closed, closing_actions, step}
use Rattle.unit.specs.OnRecords.{on_record}
use Rattle.unit.specs.declared.last.Last.TheVariants.{Known}
use Rattle.history.specs.Histories.{after}
use Rattle.history.specs.OrderMatters.{both_ways, pairs, last_both_ways, two_versions}

-- an order and a partner's event: 156 and 22 for RBC 5, or 21 and 22; two orders, and a call and an order: the last place goes to the first
-- promise
pub both_ways-differ :
    map both_ways pairs
    ≡ (((0 ∷ 156 ∷ 21 ∷ []) ∷ (0 ∷ 22 ∷ []) ∷ []) ∷ ((0 ∷ 22 ∷ 21 ∷ []) ∷ (0 ∷ 21 ∷ []) ∷ []) ∷ [])
    ∷ (((0 ∷ 21 ∷ []) ∷ (8 ∷ []) ∷ []) ∷ ((8 ∷ []) ∷ (0 ∷ 21 ∷ []) ∷ []) ∷ [])
    ∷ (((0 ∷ 159 ∷ []) ∷ (8 ∷ []) ∷ []) ∷ ((8 ∷ []) ∷ (0 ∷ 21 ∷ []) ∷ []) ∷ [])
    ∷ []
unfolding reading turn first seek places_ok sound cold cold_start closed closing_actions step on_record
    after some recalled both_ways pairs
both_ways-differ = refl

-- two messages 32: "the later one sets it"
-- promise
pub last_both_ways-differ : last_both_ways two_versions ≡ Known 0 0 2 ∷ Known 0 0 1 ∷ []
unfolding reading turn first seek places_ok sound cold cold_start closed closing_actions step on_record
    after some recalled last_both_ways two_versions
last_both_ways-differ = refl
