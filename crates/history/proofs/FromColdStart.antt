-- Demand 3, the waiting partner, in any history from a cold start.
-- Proves: cold-waiting, cold-released-once.
use mathlib.Core.Path.{◌≡◌, ap, ◌∙◌}
use mathlib.Core.Bool.{true, false}
use mathlib.Core.List.{List, ◌++◌}
use Prim.Native.Nat.{ℕ, ◌≤◌}
use native.Mathlib.Omega.{arith}
use Rattle.wire.specs.Refusals.{accepted}
use Rattle.record.specs.declared.partner.Partner.{Partner}
use Rattle.place.specs.declared.limits.Limits.{Limits}
use Rattle.unit.specs.States.{sound, cold_start}
use Rattle.unit.proofs.Starts.{cold-limits, cold-sound}
use Rattle.history.specs.Histories.{after, silent, timeouts, holds_place, waits, releases_of}
use Rattle.history.specs.PerEvent.{timeouts_to_release}
use Rattle.history.proofs.Along.{after-sound, after-limits}
use Rattle.history.proofs.Leads.{after-append}
use Rattle.history.proofs.Waiting.{waiting, released-once}

-- in a history from a cold start, a partner that waits after it and is named by nothing but timeouts in the rest
module _
    (l : Limits)
    (started : (cold_start l).code ≡ accepted)
    (history : List (List ℕ))
    (p : Partner)
    (waiting-then : waits p (after (cold_start l).state history).places ≡ true)
    (later : List (List ℕ))
    (quiet-on : silent p (after (cold_start l).state history) later ≡ true)
    (enough : timeouts_to_release l.tries ≤ timeouts p later)
  where
    good : sound (after (cold_start l).state history) ≡ true
    good = after-sound (cold_start l).state (cold-sound l) history

    as_many : timeouts_to_release (after (cold_start l).state history).limits.tries ≤ timeouts p later
    as_many =
        let same = ap (λ x. x.tries) (after-limits (cold_start l).state history ∙ (cold-limits l started).0) in
        omega arith

    -- holds no place after its n-th timeout
    -- promise
    pub cold-waiting : holds_place p (after (cold_start l).state (history ++ later)).places ≡ false
    cold-waiting =
        ap (λ s. holds_place p s.places) (after-append (cold_start l).state history later)
        ∙ waiting (after (cold_start l).state history) good p waiting-then later quiet-on as_many

    -- and was released once in that rest
    -- promise
    pub cold-released-once : releases_of p (after (cold_start l).state history) later ≡ 1
    cold-released-once = released-once (after (cold_start l).state history) good p waiting-then later quiet-on as_many
