-- The places weighed: the sum of a weight over all of them. One account of a store and of a closing serves every law that counts places.
-- Proves: weigh-same, weigh-less, weigh-set, weigh-closed, weigh-few, weigh-at, length-closed, closed_at.
use mathlib.Core.Path.{◌≡◌, refl, ap, ap₂}
use mathlib.Core.List.{List, [], ◌∷◌}
use Prim.Native.Nat.{ℕ, zero, suc, ◌+◌, ◌≤◌, ◌<◌}
use native.Mathlib.Nat.{le_of_suc-le-suc}
use native.Mathlib.Omega.{arith}
use lib.ListN.{length, get_or, set}
use Rattle.place.specs.Places.{vacant}
use Rattle.place.specs.Table.{place_after, closed_by}
use Rattle.place.specs.declared.place.Place.{Place}
use Rattle.place.specs.declared.turn.Closing.{Closing}
use Rattle.unit.specs.Steps.{closed}
use Rattle.wire.specs.Sums.{sum}

-- weights that agree at each place agree at all
pub weigh-same : (f g : Place → ℕ) → ((p : Place) → f p ≡ g p) → (ps : List Place) → sum f ps ≡ sum g ps
unfolding sum
weigh-same f g same [] = refl
weigh-same f g same (p ∷ ps) = ap₂ ◌+◌ (same p) (weigh-same f g same ps)

-- and one that is less at each is less at all
pub weigh-less : (f g : Place → ℕ) → ((p : Place) → f p ≤ g p) → (ps : List Place) → sum f ps ≤ sum g ps
unfolding sum
weigh-less f g less [] = omega arith
weigh-less f g less (p ∷ ps) =
    let first = less p in
    let rest = weigh-less f g less ps in
    omega arith

-- a store takes the old place's weight out and puts the new one's in
pub weigh-set : (f : Place → ℕ) (ps : List Place) (i : ℕ) (x : Place)
    → i < length ps
    → sum f (set ps i x) + f (get_or ps i vacant) ≡ sum f ps + f x
unfolding sum
weigh-set f [] i x h = absurd (omega arith)
weigh-set f (p ∷ ps) zero x h = omega arith
weigh-set f (p ∷ ps) (suc i) x h =
    let e = weigh-set f ps i x (le_of_suc-le-suc h) in
    omega arith

-- a closing adds no weight that it adds to no place
pub weigh-closed : (f : Place → ℕ) (which : Closing) (ps : List Place)
    → ((p : Place) → f (place_after p (closed_by which p)) ≤ f p)
    → sum f (closed which ps) ≤ sum f ps
unfolding sum closed
weigh-closed f which [] h = omega arith
weigh-closed f which (p ∷ ps) h =
    let first = h p in
    let rest = weigh-closed f which ps h in
    omega arith

-- no more than one for each place
pub weigh-few : (f : Place → ℕ) (ps : List Place) → ((p : Place) → f p ≤ 1) → sum f ps ≤ length ps
unfolding sum
weigh-few f [] h = omega arith
weigh-few f (p ∷ ps) h =
    let first = h p in
    let rest = weigh-few f ps h in
    omega arith

-- one place weighs no more than all
pub weigh-at : (f : Place → ℕ) (ps : List Place) (i : ℕ) → i < length ps → f (get_or ps i vacant) ≤ sum f ps
unfolding sum
weigh-at f [] i h = absurd (omega arith)
weigh-at f (p ∷ ps) zero h = omega arith
weigh-at f (p ∷ ps) (suc i) h =
    let rest = weigh-at f ps i (le_of_suc-le-suc h) in
    omega arith

pub length-closed : (which : Closing) (ps : List Place) → length (closed which ps) ≡ length ps
unfolding closed
length-closed which [] = refl
length-closed which (p ∷ ps) = ap suc (length-closed which ps)

-- each place after a closing is its own after its own turn
pub closed_at : (which : Closing) (ps : List Place) (i : ℕ)
    → get_or (closed which ps) i vacant ≡ place_after (get_or ps i vacant) (closed_by which (get_or ps i vacant))
unfolding closed
closed_at which [] i = refl
closed_at which (p ∷ ps) zero = refl
closed_at which (p ∷ ps) (suc i) = closed_at which ps i
