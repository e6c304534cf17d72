-- Cross-checks only: nobody has to believe what stands here.
-- Further words of laws on a step: what a refusal leaves, whom a closing is for, and that a place was free.
-- Defines: Kept, is_closed_by, WasFree.
use Rattle.wire.specs.Refusals as refusal
use Rattle.record.specs.declared.partner.Partner.{Partner}
use Rattle.place.specs.Places.{vacant, is_free, holds, on_holding}
use Rattle.place.specs.Table.{closes}
use Rattle.place.specs.declared.place.Place.{Place}
use Rattle.place.specs.declared.turn.Closing.{Closing}
use Rattle.unit.specs.Steps.{Outcome}
use Rattle.unit.specs.declared.state.State.{State}
use Rattle.std.specs.Prelude.{ℕ, Bool, true, false, ◌≡◌, [], get_or}

-- "A refused step .. returns its number, the state as given, counts 0"
abbrev pub Kept : State → Outcome → Type 0
Kept s o = (o.code ≡ refusal.accepted → ⊥) → (o.state ≡ s) × (o.actions ≡ [])

-- a place that a closing is for
abbrev pub is_closed_by : Closing → Place → Bool
is_closed_by which place = on_holding false (λ d ph p. closes which ph p) place.holding

-- every place that the partner has after an accepted step was free before it
abbrev pub WasFree : State → Partner → Outcome → Type 0
WasFree s p o =
    o.code ≡ refusal.accepted
    → (i : ℕ)
    → holds p (get_or o.state.places i vacant) ≡ true
    → is_free (get_or s.places i vacant) ≡ true
