-- Request Q-2 along a history: the last known RBC is that of the most recent 159 to an RBC, and the reserved number is never held and
-- never named.
-- Proves: last-recent, last_none, reserved-never-held, reserved-never-known, reserved-never-named.
use mathlib.Core.Path.{◌≡◌, refl, sym, ap, ◌∙◌}
use mathlib.Core.Bool.{true, false, cond}
use mathlib.Core.List.{List, [], ◌∷◌, ◌++◌}
use Prim.Native.Nat.{ℕ, ◌<◌}
use native.Mathlib.Omega.{arith}
use lib.ListN.{get_or}
use Rattle.record.specs.Partners.{reserved}
use Rattle.wire.specs.Refusals.{accepted, bad_limits}
use Rattle.wire.proofs.Tests.{cond-holds}
use Rattle.place.specs.Places.{vacant, partner_of}
use Rattle.place.specs.declared.limits.Limits.{Limits}
use Rattle.unit.specs.Lasts.{to_rbc, recalled_by, recalled}
use Rattle.unit.specs.States.{place_count, limits_ok, sound, no_limits, cold, cold_start}
use Rattle.unit.specs.OnRecords.{action_room, on_record}
use Rattle.unit.specs.Kept.{count}
use Rattle.unit.specs.declared.last.Last.TheVariants.{Unknown, Known}
use Rattle.unit.specs.declared.start.Started.{Started}
use Rattle.unit.specs.declared.state.State.{State}
use Rattle.unit.specs.declared.answer.Action.{Action}
use Rattle.unit.proofs.Counts.{count-append}
use Rattle.unit.proofs.Again.Meant.{sound-places, sound-last}
use Rattle.unit.proofs.Recalled.{recalled-append, recalled-none, on_record-last, on_record-named}
use Rattle.unit.proofs.Sound.{on_record-sound}
use Rattle.unit.proofs.Starts.{cold-sound}
use Rattle.history.specs.Histories.{after, sent}
use Rattle.history.proofs.Along.{after-sound}

-- what is known after a history is what its actions left
recalled-along : (s : State) (history : List (List ℕ)) → (after s history).last ≡ recalled s.last (sent s history)
unfolding after sent recalled
recalled-along s [] = refl
recalled-along s (bytes ∷ history) =
    let o = on_record s bytes action_room in
    recalled-along o.state history
    ∙ ap (λ last. recalled last (sent o.state history)) (on_record-last s bytes action_room)
    ∙ sym (recalled-append s.last o.actions (sent o.state history))

-- the cold start knows none
cold-unknown : (l : Limits) → (cold_start l).state.last ≡ Unknown
unfolding cold_start cold
cold-unknown l =
    cond-holds (λ (o : Started). o.state.last ≡ Unknown) (limits_ok l) (record { code = accepted; state = cold l })
    (record { code = bad_limits; state = cold no_limits })
    refl
    refl

module _ (l : Limits) (history : List (List ℕ)) where
  -- "the RBC of the most recent 159 sent to an RBC": a 159 to an RBC among the actions of a history, and none such after it
  -- promise
  pub last-recent : (before : List Action) (a : Action) (later : List Action)
      → sent (cold_start l).state history ≡ before ++ (a ∷ later)
      → to_rbc a ≡ true
      → count to_rbc later ≡ 0
      → (after (cold_start l).state history).last ≡ Known a.partner.high a.partner.middle a.partner.low
  unfolding recalled
  last-recent before a later is to-rbc none =
      let first = recalled (cold_start l).state.last before in
      recalled-along (cold_start l).state history
      ∙ ap (recalled (cold_start l).state.last) is
      ∙ recalled-append (cold_start l).state.last before (a ∷ later)
      ∙ recalled-none (recalled_by first a) later none
      ∙ ap (λ b. cond b (Known a.partner.high a.partner.middle a.partner.low) first) to-rbc

  -- and none where there was none
  -- promise
  pub last_none :
      count to_rbc (sent (cold_start l).state history) ≡ 0
      → (after (cold_start l).state history).last ≡ Unknown
  last_none none =
      recalled-along (cold_start l).state history
      ∙ recalled-none (cold_start l).state.last (sent (cold_start l).state history) none
      ∙ cold-unknown l

module _ (l : Limits) (history : List (List ℕ)) where
  end-sound : sound (after (cold_start l).state history) ≡ true
  end-sound = after-sound (cold_start l).state (cold-sound l) history

  -- "No RBC in a place .. may have that value": no state reached from a cold start has one
  -- promise
  pub reserved-never-held : (i : ℕ)
      → i < place_count
      → reserved (partner_of (get_or (after (cold_start l).state history).places i vacant)) ≡ false
  reserved-never-held = sound-places (after (cold_start l).state history) end-sound

  -- nor as the last known
  -- promise
  pub reserved-never-known : (high middle low : ℕ)
      → (after (cold_start l).state history).last ≡ Known high middle low
      → reserved (record { kind = 0; high = high; middle = middle; low = low }) ≡ false
  reserved-never-known = sound-last (after (cold_start l).state history) end-sound

-- no action from a sound state names it
named-along : (s : State)
    → sound s ≡ true
    → (history : List (List ℕ))
    → count (λ a. reserved a.partner) (sent s history) ≡ 0
unfolding sent count
named-along s ok [] = refl
named-along s ok (bytes ∷ history) =
    let o = on_record s bytes action_room in
    let joined = count-append (λ a. reserved a.partner) o.actions (sent o.state history) in
    let first = on_record-named s ok bytes action_room in
    let rest = named-along o.state (on_record-sound s bytes action_room ok) history in
    omega arith

-- nor from a cold start
-- promise
pub reserved-never-named : (l : Limits) (history : List (List ℕ))
    → count (λ a. reserved a.partner) (sent (cold_start l).state history) ≡ 0
reserved-never-named l = named-along (cold_start l).state (cold-sound l)
