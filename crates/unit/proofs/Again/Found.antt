-- Cross-checks only: rules told a second time.
-- Request Q-6: "Finding a partner shall answer its place and its phase, or the lowest free place, or that there is none".
-- Proves: seek-held, seek-free, seek-none.
use mathlib.Core.Path.{◌≡◌}
use mathlib.Core.Bool.{true, false}
use mathlib.Core.List.{List}
use Prim.Native.Nat.{ℕ, ◌<◌}
use lib.ListN.{length, get_or}
use Rattle.record.specs.declared.partner.Partner.{Partner}
use Rattle.place.specs.Places.{vacant, is_free, held_phase, holds}
use Rattle.place.specs.declared.phase.Phase.{Phase}
use Rattle.place.specs.declared.place.Place.{Place}
use Rattle.unit.specs.States.{seek}
use Rattle.unit.specs.Kept.{here}
use Rattle.wire.specs.Sums.{sum}
use Rattle.unit.specs.declared.search.Found.TheVariants.{At, Vacant, Full}
use Rattle.unit.proofs.Searches.{found_ok, seek-lowest}

module _ (p : Partner) (ps : List Place) where
  -- "its place and its phase"
  -- promise
  pub seek-held : (i : ℕ) (ph : Phase)
      → seek p ps ≡ At i ph
      → (i < length ps) × (holds p (get_or ps i vacant) ≡ true) × (held_phase (get_or ps i vacant) ≡ ph)
  seek-held i ph found = found_ok p ps (At i ph) found

  -- "or the lowest free place": no place holds the partner then
  -- promise
  pub seek-free : (i : ℕ)
      → seek p ps ≡ Vacant i
      → (i < length ps)
      × (is_free (get_or ps i vacant) ≡ true)
      × (sum (here (holds p)) ps ≡ 0)
      × ((j : ℕ) → j < i → is_free (get_or ps j vacant) ≡ false)
  seek-free i found =
      let ok = found_ok p ps (Vacant i) found in
      (ok.0, ok.1, ok.2, (λ j below. seek-lowest p ps i j found below))

  -- "or that there is none": no place holds the partner, and none is free
  -- promise
  pub seek-none : seek p ps ≡ Full → (sum (here is_free) ps ≡ 0) × (sum (here (holds p)) ps ≡ 0)
  seek-none found = found_ok p ps Full found
