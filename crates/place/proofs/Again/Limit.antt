-- Cross-checks only: rules told a second time.
-- At the limit of tries, and past it, a timeout releases: a count that passes the limit is not tried again.
-- Proves: again-released.
use mathlib.Core.Path.{◌≡◌, ap}
use mathlib.Core.Bool.{cond}
use Prim.Native.Nat.{ℕ, ◌≤◌}
use borrow.Author.Tests.{le-ltb}
use Rattle.place.specs.Places.{tries}
use Rattle.place.specs.Table.{one_more, again}
use Rattle.place.specs.declared.phase.Phase.{Phase}
use Rattle.place.specs.declared.limits.Limits.{Limits}
use Rattle.place.specs.declared.turn.Turn.TheVariants.{Released, Sends}

-- "at 3 it gives 22 and frees the place", and so at every number above
-- promise
pub again-released : (l : Limits) (number : ℕ) (ph : Phase)
    → l.tries ≤ tries ph
    → again l number ph ≡ Released
again-released l number ph reached = ap (λ b. cond b (Sends number (one_more ph)) Released) (le-ltb (tries ph) l.tries reached)
