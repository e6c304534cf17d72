-- Demand 3: no place is ever past its last try, so that no history holds a channel for ever.
-- Proves: never-past, cold-never-past, demand-never-past.
use mathlib.Core.Path.{◌≡◌, refl, ap, subst}
use mathlib.Core.Bool.{true, ◌&&◌}
use mathlib.Core.List.{List}
use Prim.Native.Nat.{ℕ, ◌≤◌, ◌<◌}
use native.Mathlib.Omega.{arith}
use lib.Dec.{leb}
use lib.ListN.{get_or}
use borrow.Author.Tests.{leb-true}
use Rattle.record.specs.Partners.{named_ok}
use Rattle.wire.specs.Refusals.{accepted, bad_limits}
use Rattle.wire.proofs.Tests.{and_left, and_right, cond-holds}
use Rattle.place.specs.Places.{fleet_tries, tries, vacant, phase_ok, fits}
use Rattle.place.proofs.Holdings.{holding_ok}
use Rattle.place.specs.declared.phase.Phase.{Phase}
use Rattle.place.specs.declared.phase.Phase.TheVariants.{Connecting, Contacting, Open, Lost, Ending}
use Rattle.place.specs.declared.place.Holding.{Holding}
use Rattle.place.specs.declared.place.Holding.TheVariants.{Free, Held}
use Rattle.place.specs.declared.limits.Limits.{Limits}
use Rattle.unit.specs.States.{place_count, limits_ok, sound, no_limits, cold, cold_start}
use Rattle.unit.specs.declared.start.Started.{Started}
use Rattle.unit.specs.declared.state.State.{State}
use Rattle.unit.proofs.Facts.{sound-facts, place_at}
use Rattle.history.specs.Histories.{after}
use Rattle.history.specs.PerEvent.{held_tries}
use Rattle.unit.proofs.Starts.{cold-sound, cold-limits}
use Rattle.history.proofs.Along.{after-sound, after-limits}

-- a cold start with three tries holds three, a refused one too
cold-three : (l : Limits) → l.tries ≡ fleet_tries → (cold_start l).state.limits.tries ≡ 3
unfolding cold_start cold
cold-three l three =
    cond-holds (λ (o : Started). o.state.limits.tries ≡ 3) (limits_ok l) (record { code = accepted; state = cold l })
    (record { code = bad_limits; state = cold no_limits })
    three
    refl

-- a phase in its range
phase-within : (l : Limits) (ph : Phase) → phase_ok l ph ≡ true → tries ph ≤ l.tries
phase-within l (Connecting t) h = leb-true t l.tries (and_right (leb 1 t) (leb t l.tries) h)
phase-within l (Contacting t) h = leb-true t l.tries (and_right (leb 1 t) (leb t l.tries) h)
phase-within l Open h = omega arith
phase-within l (Lost t) h = leb-true t l.tries (and_right (leb 1 t) (leb t l.tries) h)
phase-within l (Ending t) h = leb-true t l.tries (and_right (leb 1 t) (leb t l.tries) h)

-- so a sound place
tries-within : (l : Limits) (k : Holding) → holding_ok l k ≡ true → held_tries (record { holding = k }) ≤ l.tries
tries-within l Free h = omega arith
tries-within l (Held d ph p) h =
    phase-within l ph (and_left (phase_ok l ph) (fits d ph p) (and_right (named_ok p) (phase_ok l ph && fits d ph p) h))

-- after every history of a sound state, at every place
pub never-past : (s : State)
    → sound s ≡ true
    → (history : List (List ℕ)) (i : ℕ)
    → i < place_count
    → held_tries (get_or (after s history).places i vacant) ≤ s.limits.tries
never-past s ok history i below =
    let end = after s history in
    let facts = sound-facts end (after-sound s ok history) in
    let four = facts.four in
    let same = ap (λ l. l.tries) (after-limits s history) in
    let placed = place_at end.limits end.places i facts.places (omega arith) in
    let within = tries-within end.limits (get_or end.places i vacant).holding placed in
    omega arith

-- and of a cold start with so many tries
-- promise
pub cold-never-past : (l : Limits)
    → (cold_start l).code ≡ accepted
    → (history : List (List ℕ)) (i : ℕ)
    → i < place_count
    → held_tries (get_or (after (cold_start l).state history).places i vacant) ≤ l.tries
cold-never-past l started history i below =
    subst (λ x. held_tries (get_or (after (cold_start l).state history).places i vacant) ≤ x.tries) (cold-limits l started).0
    (never-past (cold_start l).state (cold-sound l) history i below)

-- with the three tries of document 01, also where the start is refused
-- promise
pub demand-never-past : (l : Limits)
    → l.tries ≡ fleet_tries
    → (history : List (List ℕ)) (i : ℕ)
    → i < place_count
    → held_tries (get_or (after (cold_start l).state history).places i vacant) ≤ 3
demand-never-past l three history i below =
    let most = never-past (cold_start l).state (cold-sound l) history i below in
    let tries : (cold_start l).state.limits.tries ≡ 3 = cold-three l three in
    omega arith
