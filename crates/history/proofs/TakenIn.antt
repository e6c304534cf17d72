-- Demand 3: the partners taken in are those released and those that still hold a place.
-- Proves: taken_in.
use mathlib.Core.Path.{◌≡◌, refl, ap₂}
use mathlib.Core.Bool.{true, not}
use mathlib.Core.List.{List, [], ◌∷◌}
use Prim.Native.Nat.{ℕ, ◌+◌}
use native.Mathlib.Omega.{arith}
use Rattle.record.specs.Records.{reading}
use Rattle.wire.specs.Refusals.{accepted}
use Rattle.place.proofs.Holdings.{is_free_holding}
use Rattle.place.specs.declared.place.Holding.{Holding}
use Rattle.place.specs.declared.place.Holding.TheVariants.{Free, Held}
use Rattle.place.specs.declared.place.Place.{Place}
use Rattle.place.specs.declared.limits.Limits.{Limits}
use Rattle.unit.specs.States.{cold_start}
use Rattle.unit.specs.declared.answer.Action.{Action}
use Rattle.wire.specs.Sums.{sum}
use Rattle.history.specs.Histories.{after, orders, calls, is_release, releases, places_held}
use Rattle.wire.specs.Bytes.{as_bit}
use Rattle.unit.proofs.Balances.{exactly}
use Rattle.unit.proofs.Scales.{weight_in, counted}
use Rattle.unit.proofs.Seats.{seats, seats-balanced}
use Rattle.unit.proofs.StepAccounts.{total}
use Rattle.history.proofs.Counted.{whose-any, rated-account}
use Rattle.history.proofs.Along.{cold-light}

-- the places weighed are those held
held-count : (ps : List Place) → total seats (λ p. true) ps ≡ places_held ps
unfolding sum places_held
held-count [] = refl
held-count (p ∷ ps) = ap₂ ◌+◌ (by p.holding) (held-count ps)
  where
    by : (k : Holding) → weight_in seats (λ p. true) k ≡ as_bit (not (is_free_holding k))
    by Free = refl
    by (Held d ph p) = refl

-- the actions counted are the releases
counts-release : (a : Action) → counted seats (λ p. true) a ≡ is_release a
counts-release a = refl

-- from a cold start, whatever its limits
-- promise
pub taken_in : (l : Limits)
    → (cold_start l).code ≡ accepted
    → (history : List (List ℕ))
    → orders (cold_start l).state history + calls (cold_start l).state history
    ≡ releases (cold_start l).state history + places_held (after (cold_start l).state history).places
taken_in l started history =
    let s = (cold_start l).state in
    let account =
    rated-account (λ ph. 1) seats.counts 1 1 0 (λ p. true) (λ s bytes. true) (λ s bytes. whose-any s.last (reading bytes))
    exactly s.limits (seats-balanced s.limits) is_release counts-release s refl history in
    let none = cold-light seats (λ p. true) l in
    let held = held-count (after s history).places in
    omega arith
