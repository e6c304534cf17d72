-- Cross-checks only: rules told a second time.
-- The cold starts: the default number of tries, what a start holds, and what a refused one does.
-- Proves: default_start-five, cold_start-accepted, cold_start-three, cold_start-refused, cold_start-limits, cold_start-holds.
use mathlib.Core.Path.{◌≡◌, refl, ap}
use mathlib.Core.Logic.{◌↔◌}
use mathlib.Core.Bool.{Bool, true, false, cond, ◌&&◌}
use Prim.Native.Nat.{ℕ, ◌≤◌}
use native.Mathlib.Omega.{arith}
use lib.Dec.{leb}
use lib.ListN.{replicate}
use borrow.Author.Tests.{leb-true, le-leb}
use Rattle.wire.specs.Refusals.{accepted, bad_limits}
use Rattle.wire.proofs.Tests.{and_left, and_right, and_both, cond-case}
use Rattle.place.specs.Places.{most_tries, vacant}
use Rattle.place.specs.declared.limits.Limits.{Limits}
use Rattle.unit.specs.States.{highest_x, limits_ok, cold, no_limits, cold_start, default_start}
use Rattle.unit.specs.declared.last.Last.TheVariants.{Unknown}
use Rattle.unit.specs.declared.start.Started.{Started}
use Rattle.unit.proofs.Facts.{limits-tries}

-- "Where no number is given the default was 3 and becomes 5": the start without a number is the one with 5
-- promise
pub default_start-five : (lowest highest : ℕ)
    → default_start lowest highest ≡ cold_start (record { lowest = lowest; highest = highest; tries = 5 })
default_start-five lowest highest = refl

-- a start by what the test of its limits shows
abbrev start_by : Limits → Bool → Started
start_by l b = cond b (record { code = accepted; state = cold l }) (record { code = bad_limits; state = cold no_limits })

-- "X, 0 to 7, lowest ≤ highest"; "a number of tries n, 1 to 9": a cold start is accepted exactly with these
-- promise
pub cold_start-accepted : (l : Limits)
    → ((cold_start l).code ≡ accepted)
    ↔ ((l.lowest ≤ l.highest) × (l.highest ≤ 7) × (1 ≤ l.tries) × (l.tries ≤ 9))
unfolding cold_start
cold_start-accepted l = (
  cond-case (λ (o : Started). o.code ≡ accepted → Within) (limits_ok l) (record { code = accepted; state = cold l })
      (record { code = bad_limits; state = cold no_limits })
      (λ ok h.
      let x = leb l.highest highest_x in
      let n = leb 1 l.tries && leb l.tries most_tries in
      let ordered = leb l.lowest l.highest in
      let tries = limits-tries l ok in (
        leb-true l.lowest l.highest (and_left ordered (x && n) ok),
        leb-true l.highest highest_x (and_left x n (and_right ordered (x && n) ok)),
        tries.0,
        tries.1,
      ))
      (λ bad h. absurd (omega arith)),
  λ h.
      ap (λ b. (start_by l b).code)
      (and_both _ _ (le-leb l.lowest l.highest h.0)
      (and_both _ _ (le-leb l.highest highest_x h.1)
      (and_both _ _ (le-leb 1 l.tries h.2) (le-leb l.tries most_tries h.3)))),
)
  where
    Within : Type 0
    Within = (l.lowest ≤ l.highest) × (l.highest ≤ 7) × (1 ≤ l.tries) × (l.tries ≤ 9)

-- "a refused cold start .. holds n = 3"
-- promise
pub cold_start-three : (l : Limits) → limits_ok l ≡ false → (cold_start l).state.limits.tries ≡ 3
unfolding cold_start cold
cold_start-three l bad =
    ap (λ b. (start_by l b).state.limits.tries) bad

-- and has number 13
-- promise
pub cold_start-refused : (l : Limits) → limits_ok l ≡ false → (cold_start l).code ≡ 13
unfolding cold_start
cold_start-refused l bad =
    ap (λ b. (start_by l b).code) bad

-- "Cold start takes the two X numbers", Q-3: "a number of tries n .., kept in the state"; a refused one has "X from 0 to 0"
-- promise
pub cold_start-limits : (l : Limits)
    → (limits_ok l ≡ true → (cold_start l).state.limits ≡ l)
    × (limits_ok l ≡ false → (cold_start l).state.limits ≡ record { lowest = 0; highest = 0; tries = 3 })
unfolding cold_start cold
cold_start-limits l = ((λ good. ap (λ b. (start_by l b).state.limits) good), (λ bad. ap (λ b. (start_by l b).state.limits) bad))

-- "mission ended, level 0, marks 0, places free"; Q-2: "a cold start knows none"
-- promise
pub cold_start-holds : (l : Limits)
    → ((cold_start l).state.train ≡ record { level = 0; mission = 0 })
    × ((cold_start l).state.marks ≡ record { inside = false; mode = false; manual = false; end = false })
    × ((cold_start l).state.places ≡ replicate 4 vacant)
    × ((cold_start l).state.last ≡ Unknown)
unfolding cold_start cold
cold_start-holds l = by (limits_ok l)
  where
    by : (b : Bool)
        → ((start_by l b).state.train ≡ record { level = 0; mission = 0 })
        × ((start_by l b).state.marks ≡ record { inside = false; mode = false; manual = false; end = false })
        × ((start_by l b).state.places ≡ replicate 4 vacant)
        × ((start_by l b).state.last ≡ Unknown)
    by true = (refl, refl, refl, refl)
    by false = (refl, refl, refl, refl)
