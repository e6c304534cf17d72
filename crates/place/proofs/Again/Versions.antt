-- Cross-checks only: rules told a second time.
-- A version is judged by its X.
-- Proves: judged-x.
use mathlib.Core.Path.{◌≡◌, ap}
use mathlib.Core.Bool.{cond, ◌&&◌}
use Prim.Native.Nat.{ℕ, ◌/◌}
use lib.Dec.{leb}
use Rattle.place.specs.Table.{judged, established, incompatible, terminate, first_try}
use Rattle.place.specs.declared.phase.Phase.TheVariants.{Open, Ending}
use Rattle.place.specs.declared.limits.Limits.{Limits}
use Rattle.place.specs.declared.turn.Turn.TheVariants.{Sends, SendsBoth}

-- versions with the same X are judged alike
-- promise
pub judged-x : (l : Limits) (v w : ℕ)
    → v / 16 ≡ w / 16
    → judged l v ≡ judged l w
judged-x l v w same =
    let good = Sends established Open in
    let bad = SendsBoth incompatible terminate (Ending first_try) in
    ap (λ x. cond (leb l.lowest x && leb x l.highest) good bad) same
