-- Document 01, "What the box remembers", with what requests Q-2 and Q-3 add to it: soundness of a state, and the cold starts.
-- Defines: place_count, some, first, seek, nowhere, standing, highest_x, limits_ok, train_ok, marks_ok, absent_from, places_ok, sound,
-- no_marks, cold, no_limits, cold_start, one_to_two, default_start.
use Rattle.std.specs.Prelude.{ℕ, suc, Bool, true, false, cond, ◌&&◌, not, ◌||◌, List, [], ◌∷◌, eqb, leb, length, get_or}
use Rattle.std.specs.Prelude.{replicate}
use Rattle.wire.specs.Orders.{first_that_applies}
use Rattle.record.specs.Records.{highest_level, mission_ended, mission_under_way}
use Rattle.wire.specs.Refusals.{accepted, bad_limits}
use Rattle.record.specs.declared.partner.Partner.{Partner}
use Rattle.place.specs.Places.{phase_number, most_tries, default_tries, fleet_tries, vacant, is_free, held_phase, holds, place_ok}
use Rattle.place.specs.Places.{on_holding}
use Rattle.place.specs.declared.place.Holding.{Holding}
use Rattle.place.specs.declared.place.Place.{Place}
use Rattle.place.specs.declared.limits.Limits.{Limits}
use Rattle.unit.specs.Lasts.{last_ok}
use Rattle.unit.specs.declared.last.Last.TheVariants.{Unknown}
use Rattle.unit.specs.declared.state.Train.{Train}
use Rattle.unit.specs.declared.state.Marks.{Marks}
use Rattle.unit.specs.declared.state.State.{State}
use Rattle.unit.specs.declared.search.Found.{Found}
use Rattle.unit.specs.declared.search.Found.TheVariants.{At, Vacant, Full}
use Rattle.unit.specs.declared.search.Standing.{Standing}
use Rattle.unit.specs.declared.start.Started.{Started}

-- "Four places, 0 to 3"
abbrev pub place_count : ℕ
place_count = 4

-- some place passes a test
unfoldable pub some : (Place → Bool) → List Place → Bool
some test [] = false
some test (p ∷ ps) = test p || some test ps

-- the number of the lowest place that passes a test, where some place does
unfoldable pub first : (Place → Bool) → List Place → ℕ
first test [] = 0
first test (p ∷ ps) = cond (test p) 0 (suc (first test ps))

-- Q-6: "Finding a partner shall answer its place and its phase, or the lowest free place, or that there is none"
unfoldable pub seek : Partner → List Place → Found
seek p ps =
    cond (some (holds p) ps) (At (first (holds p) ps) (held_phase (get_or ps (first (holds p) ps) vacant)))
    (cond (some is_free ps) (Vacant (first is_free ps)) Full)

-- "place 4 and phase 0"
abbrev pub nowhere : Standing
nowhere = record { place = place_count; phase = 0 }

-- the numbers of what is found: the place and the phase of the partner, where it has a place
abbrev pub standing : Found → Standing
standing (At i ph) = record { place = i; phase = phase_number ph }
standing (Vacant i) = nowhere
standing Full = nowhere

-- the largest X, 7
abbrev pub highest_x : ℕ
highest_x = 7

-- "Lowest and highest supported version X, 0 to 7, lowest ≤ highest"; Q-3: "a number of tries n, 1 to 9"
abbrev pub limits_ok : Limits → Bool
limits_ok l = leb l.lowest l.highest && (leb l.highest highest_x && (leb 1 l.tries && leb l.tries most_tries))

-- "Level 0 to 4 (4 is NTC). Mission: 0 ended, 1 starting, 2 under way"
abbrev pub train_ok : Train → Bool
train_ok t = leb t.level highest_level && leb t.mission mission_under_way

-- "'inside a hole' and 'hole end' are not both 1"
abbrev pub marks_ok : Marks → Bool
marks_ok m = not (m.inside && m.end)

-- the partner has none of these places
abbrev pub absent_from : List Place → Holding → Bool
absent_from ps k = on_holding true (λ d ph p. not (some (holds p) ps)) k

-- each place is sound by itself, and "no partner has two places"
unfoldable pub places_ok : Limits → List Place → Bool
places_ok l [] = true
places_ok l (p ∷ ps) = place_ok l p && (absent_from ps p.holding && places_ok l ps)

-- "A state is sound when all these ranges hold"; Q-2: "11 for a state that holds" the reserved number, in a place or as the last known
unfoldable pub sound : State → Bool
sound s =
    limits_ok s.limits
    && (train_ok s.train
    && (marks_ok s.marks && (eqb (length s.places) place_count && (places_ok s.limits s.places && last_ok s.last))))

-- no mark set
abbrev pub no_marks : Marks
no_marks = record { inside = false; mode = false; manual = false; end = false }

-- "mission ended, level 0, marks 0, places free"; Q-2: "a cold start knows none"
unfoldable pub cold : Limits → State
cold l =
    record {
      limits = l;
      train = record { level = 0; mission = mission_ended };
      marks = no_marks;
      places = replicate place_count vacant;
      last = Unknown;
    }

-- the limits of a refused cold start or image read: "X from 0 to 0"; Q-3: it "holds n = 3"
abbrev pub no_limits : Limits
no_limits = record { lowest = 0; highest = 0; tries = fleet_tries }

-- "Cold start takes the two X numbers", and of Q-3 "a number of tries n, 1 to 9"; 13 for "an X over 7 or lowest over highest", and
-- "also for n outside 1 to 9"
unfoldable pub cold_start : Limits → Started
cold_start l =
    first_that_applies (λ r. record { code = r; state = cold no_limits }) ((limits_ok l, bad_limits) ∷ [])
    (record { code = accepted; state = cold l })

-- "X 1 to 2", of `sheet` and of the marked examples, and n tries
abbrev pub one_to_two : ℕ → Limits
one_to_two n = record { lowest = 1; highest = 2; tries = n }

-- Q-3: "Where no number is given the default was 3 and becomes 5"
abbrev pub default_start : ℕ → ℕ → Started
default_start lowest highest = cold_start (record { lowest = lowest; highest = highest; tries = default_tries })
