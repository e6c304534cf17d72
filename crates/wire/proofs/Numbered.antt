-- Cross-checks only: rules told a second time.
-- The numbers of refusal, as document 01 and the requests give them.
-- Proves: refusals-numbered.
use mathlib.Core.Path.{◌≡◌, refl}
use mathlib.Core.List.{[], ◌∷◌}
use Rattle.wire.specs.Refusals.{accepted, wrong_length, unknown_kind, out_of_range, not_in_force, has_place, has_none, not_taken, all_taken}
use Rattle.wire.specs.Refusals.{call_from_riu, no_room, not_sound, log_too_long, bad_limits, none_known, not_in_a1}

-- "Numbers of refusal": 0 where nothing is refused, 1 to 13; Q-2: 15; Q-4: 16
-- promise
pub refusals-numbered :
    (accepted ∷ wrong_length ∷ unknown_kind ∷ out_of_range ∷ not_in_force ∷ has_place ∷ has_none ∷ not_taken ∷ []
    ≡ 0 ∷ 1 ∷ 2 ∷ 3 ∷ 4 ∷ 5 ∷ 6 ∷ 7 ∷ [])
    × (all_taken ∷ call_from_riu ∷ no_room ∷ not_sound ∷ log_too_long ∷ bad_limits ∷ none_known ∷ not_in_a1 ∷ []
    ≡ 8 ∷ 9 ∷ 10 ∷ 11 ∷ 12 ∷ 13 ∷ 15 ∷ 16 ∷ [])
refusals-numbered = (refl, refl)
