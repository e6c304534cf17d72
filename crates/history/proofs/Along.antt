-- What holds all along a history: a cold start is sound and holds nobody, and every history keeps a state sound and its limits.
-- Proves: cold-light, after-sound, after-limits.
use mathlib.Core.Path.{◌≡◌, refl, ◌∙◌}
use mathlib.Core.Bool.{Bool, true}
use mathlib.Core.List.{List, [], ◌∷◌}
use Prim.Native.Nat.{ℕ}
use Rattle.wire.specs.Refusals.{accepted, bad_limits}
use Rattle.record.specs.declared.partner.Partner.{Partner}
use Rattle.wire.proofs.Tests.{cond-holds}
use Rattle.place.specs.declared.limits.Limits.{Limits}
use Rattle.unit.specs.States.{limits_ok, sound, no_limits, cold, cold_start}
use Rattle.unit.specs.OnRecords.{action_room, on_record}
use Rattle.unit.specs.declared.state.State.{State}
use Rattle.unit.specs.declared.start.Started.{Started}
use Rattle.wire.specs.Sums.{sum}
use Rattle.unit.proofs.Effects.{on_record-limits}
use Rattle.unit.proofs.Sound.{on_record-sound}
use Rattle.history.specs.Histories.{after}
use Rattle.unit.proofs.Scales.{Scale}
use Rattle.unit.proofs.StepAccounts.{total}

-- the places of a cold start weigh nothing, on any scale
pub cold-light : (σ : Scale) (mine : Partner → Bool) (l : Limits) → total σ mine (cold_start l).state.places ≡ 0
unfolding cold_start cold sum
cold-light σ mine l =
    cond-holds (λ (o : Started). total σ mine o.state.places ≡ 0) (limits_ok l) (record { code = accepted; state = cold l })
    (record { code = bad_limits; state = cold no_limits })
    refl
    refl

-- every state after a sound one is sound
pub after-sound : (s : State)
    → sound s ≡ true
    → (history : List (List ℕ))
    → sound (after s history) ≡ true
unfolding after
after-sound s ok [] = ok
after-sound s ok (bytes ∷ history) =
    after-sound (on_record s bytes action_room).state (on_record-sound s bytes action_room ok) history

-- and has its limits
pub after-limits : (s : State) (history : List (List ℕ)) → (after s history).limits ≡ s.limits
unfolding after
after-limits s [] = refl
after-limits s (bytes ∷ history) = after-limits (on_record s bytes action_room).state history ∙ on_record-limits s bytes action_room
