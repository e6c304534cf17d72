-- The cold start by what the test of its limits showed, and what it gives.
-- Proves: started-by, cold-sound, cold-limits, cold-vacant.
use mathlib.Core.Path.{◌≡◌, refl, sym, ap, ◌∙◌}
use mathlib.Core.Bool.{Bool, true, false, cond}
use Prim.Native.Nat.{ℕ, zero, suc}
use native.Mathlib.Omega.{arith}
use lib.ListN.{get_or, replicate}
use Rattle.wire.specs.Refusals.{accepted, bad_limits}
use Rattle.wire.proofs.Tests.{and_both, cond-case, cond-holds}
use Rattle.place.specs.Places.{vacant}
use Rattle.place.specs.declared.limits.Limits.{Limits}
use Rattle.unit.specs.States.{place_count, limits_ok, places_ok, sound, no_limits, cold, cold_start}
use Rattle.unit.specs.declared.state.State.{State}
use Rattle.unit.specs.declared.start.Started.{Started}

abbrev code : Bool → ℕ
code ok = cond ok accepted bad_limits

abbrev start : Bool → Limits → Limits
start ok l = cond ok l no_limits

pub started-by : (l : Limits) (b t : Bool)
    → b ≡ limits_ok l
    → b ≡ t
    → (s : State)
    → s ≡ cold (start t l)
    → ◌≡◌ {A = Started} (record { code = code t; state = s }) (cold_start l)
unfolding cold_start
started-by l b t test known s fresh =
    ap (λ x. record { code = code t; state = x }) fresh ∙ by t ∙ ap (λ u. cond u taken refused) (sym known ∙ test)
  where
    taken : Started
    taken = record { code = accepted; state = cold l }

    refused : Started
    refused = record { code = bad_limits; state = cold no_limits }

    by : (t : Bool) → ◌≡◌ {A = Started} (record { code = code t; state = cold (start t l) }) (cond t taken refused)
    by true = refl
    by false = refl

-- a cold start is sound, a refused one too
-- promise
pub cold-sound : (l : Limits) → sound (cold_start l).state ≡ true
unfolding cold_start cold sound places_ok
cold-sound l =
    cond-case (λ (o : Started). sound o.state ≡ true) (limits_ok l) (record { code = accepted; state = cold l })
    (record { code = bad_limits; state = cold no_limits })
    (λ ok. and_both (limits_ok l) true ok refl)
    (λ bad. refl)

-- one that is accepted has the limits that it was given
pub cold-limits : (l : Limits) → (cold_start l).code ≡ accepted → ((cold_start l).state.limits ≡ l) × (limits_ok l ≡ true)
unfolding cold_start cold
cold-limits l =
    cond-case (λ (o : Started). o.code ≡ accepted → (o.state.limits ≡ l) × (limits_ok l ≡ true)) (limits_ok l)
    (record { code = accepted; state = cold l })
    (record { code = bad_limits; state = cold no_limits })
    (λ ok given. (refl, ok))
    (λ bad given. absurd (omega arith))

-- its places are vacant
pub cold-vacant : (l : Limits) (i : ℕ) → get_or (cold_start l).state.places i vacant ≡ vacant
unfolding cold_start cold
cold-vacant l i =
    cond-holds (λ (o : Started). get_or o.state.places i vacant ≡ vacant) (limits_ok l) (record { code = accepted; state = cold l })
    (record { code = bad_limits; state = cold no_limits })
    (all place_count i)
    (all place_count i)
  where
    all : (k i : ℕ) → get_or (replicate k vacant) i vacant ≡ vacant
    all zero i = refl
    all (suc k) zero = refl
    all (suc k) (suc i) = all k i
