-- The scale of the places held: each weighs one, and a release counts one, so that what comes in goes out or stays.
-- Defines: seats.
-- Proves: seats-balanced, seats-weigh, seats-brought, own-places.
use mathlib.Core.Path.{◌≡◌, refl}
use mathlib.Core.Bool.{Bool}
use mathlib.Core.List.{List, [], ◌∷◌}
use Prim.Native.Nat.{ℕ}
use lib.Dec.{eqb}
use Rattle.record.specs.Partners.{same_partner}
use Rattle.record.specs.declared.partner.Partner.{Partner}
use Rattle.record.specs.declared.event.PartnerEvent.{PartnerEvent}
use Rattle.record.specs.declared.event.PartnerEvent.TheVariants.{Drop, Up, Loss, Timeout, Version, Ended}
use Rattle.place.specs.Places.{holds}
use Rattle.place.proofs.Holdings.{holds_in}
use Rattle.place.specs.Table.{release, table, closing}
use Rattle.place.specs.declared.phase.Phase.{Phase}
use Rattle.place.specs.declared.phase.Phase.TheVariants.{Connecting, Contacting, Open, Lost, Ending}
use Rattle.place.specs.declared.place.Holding.{Holding}
use Rattle.place.specs.declared.place.Holding.TheVariants.{Free, Held}
use Rattle.place.specs.declared.place.Place.{Place}
use Rattle.place.specs.declared.limits.Limits.{Limits}
use Rattle.place.proofs.ByRow.{judged-case}
use Rattle.unit.specs.Concerns.{takes_in, held_by, place_of}
use Rattle.unit.specs.Standings.{Concern, nobody, order_to, call_of, naming}
use Rattle.unit.proofs.Weights.{weigh-same}
use Rattle.unit.specs.Kept.{here}
use Rattle.wire.specs.Bytes.{as_bit}
use Rattle.wire.specs.Sums.{sum}
use Rattle.unit.proofs.Counts.{nothing}
use Rattle.unit.proofs.Rows.{◌▹◌, Beside}
use Rattle.unit.proofs.Balances.{exactly}
use Rattle.unit.proofs.Scales.{Scale, Turned, Balanced, weight_in, weight_of, turns-by-row, again-turned}
use Rattle.unit.proofs.StepAccounts.{total, brought_to}

-- an order and a call take one partner in
abbrev pub seats : Scale
seats =
    record {
      weight = λ ph. 1;
      counts = λ number. eqb number release;
      order = 1;
      call = 1;
      columns = 0 ∷ 0 ∷ 0 ∷ 0 ∷ 0 ∷ 0 ∷ [];
    }

module _ (l : Limits) where
  -- a closing releases or keeps
  closings : (ph : Phase) → Turned exactly seats ph 0 (closing ph)
  closings (Connecting t) = refl
  closings (Contacting t) = refl
  closings Open = refl
  closings (Lost t) = refl
  closings (Ending t) = refl

  -- so does every entry of the table
  rows : (ph : Phase) (v : ℕ) → Beside (λ t b. Turned exactly seats ph b t) (table l v ph) seats.columns
  rows (Connecting t) v =
      refl ▹ refl ▹ refl ▹ again-turned exactly l seats 21 (Connecting t) 0 (λ more. refl) (λ last. refl) ▹ refl ▹ refl ▹ tt
  rows (Contacting t) v =
      refl
      ▹ refl
      ▹ refl
      ▹ again-turned exactly l seats 155 (Contacting t) 0 (λ more. refl) (λ last. refl)
      ▹ judged-case (Turned exactly seats (Contacting t) 0) l v refl refl
      ▹ refl
      ▹ tt
  rows Open v = refl ▹ refl ▹ refl ▹ refl ▹ refl ▹ refl ▹ tt
  rows (Lost t) v =
      refl ▹ refl ▹ refl ▹ again-turned exactly l seats 21 (Lost t) 0 (λ more. refl) (λ last. refl) ▹ refl ▹ refl ▹ tt
  rows (Ending t) v =
      refl ▹ refl ▹ refl ▹ again-turned exactly l seats 156 (Ending t) 0 (λ more. refl) (λ last. refl) ▹ refl ▹ refl ▹ tt

  pub seats-balanced : Balanced exactly l seats
  seats-balanced = record { ordered = refl; called = refl; closings = closings; turns = turns-by-row exactly l seats rows }

module _ (mine : Partner → Bool) where
  -- what weighs is the places that these partners have
  pub seats-weigh : (ps : List Place) → total seats mine ps ≡ sum (here (place_of mine)) ps
  seats-weigh = weigh-same (weight_of seats mine) (here (place_of mine)) (λ place. by place.holding)
    where
      by : (k : Holding) → weight_in seats mine k ≡ as_bit (held_by mine k)
      by Free = refl
      by (Held d ph p) = refl

  -- and what is brought is the partner taken in
  pub seats-brought : (c : Concern) → brought_to seats mine c ≡ as_bit (takes_in mine c)
  seats-brought nobody = refl
  seats-brought (order_to p) = refl
  seats-brought (call_of p) = refl
  seats-brought (naming p e) = by e
    where
      by : (e : PartnerEvent) → brought_to seats mine (naming p e) ≡ 0
      by Drop = nothing (mine p)
      by Up = nothing (mine p)
      by Loss = nothing (mine p)
      by Timeout = nothing (mine p)
      by (Version v) = nothing (mine p)
      by Ended = nothing (mine p)

-- a partner's places are those that hold it
pub own-places : (p : Partner) (ps : List Place) → sum (here (place_of (same_partner p))) ps ≡ sum (here (holds p)) ps
own-places p = weigh-same (here (place_of (same_partner p))) (here (holds p)) (λ place. by place.holding)
  where
    by : (k : Holding) → as_bit (held_by (same_partner p) k) ≡ as_bit (holds_in p k)
    by Free = refl
    by (Held d ph q) = refl
