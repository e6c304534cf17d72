-- A step of the engine of sets has at most four actions, so that the code's array of four holds them all.
-- Proves: apply-few.
use Rattle.std.specs.Prelude.{Option, Some, None}
use mathlib.Core.Path.{◌≡◌}
use mathlib.Core.Bool.{Bool, true}
use mathlib.Core.List.{List, [], ◌∷◌, map}
use Prim.Native.Nat.{ℕ, ◌≤◌, ◌<◌}
use native.Mathlib.Omega.{arith}
use lib.Dec.{eqb, ltb}
use lib.ListN.{length, length-append}
use borrow.Author.Tests.{ltb-true}
use Rattle.wire.specs.Refusals as refusal
use Rattle.wire.proofs.Tests.{cond-case, cond-holds}
use Rattle.record.specs.Partners.{is_rbc, reserved}
use Rattle.record.specs.Records.{mission_ended, reading}
use Rattle.record.specs.declared.event.Cause.{Cause}
use Rattle.record.specs.declared.event.Event.{Event}
use Rattle.record.specs.declared.event.Event.TheVariants.{Level, Mission, Mode, Hole, Order, EndAll, Call, Named}
use Rattle.record.specs.declared.event.PartnerEvent.{PartnerEvent}
use Rattle.record.specs.Readings.{Reading}
use Rattle.record.specs.Readings.{Meant, Refused}
use Rattle.record.specs.declared.partner.Partner.{Partner}
use Rattle.place.specs.Table.{request, established}
use Rattle.place.specs.declared.turn.Closing.TheVariants.{Every}
use Rattle.unit.specs.Forms.{most_actions}
use Rattle.unit.specs.Lasts.{meant}
use Rattle.unit.specs.Steps.{act, hole_taken, in_force, displaced}
use Rattle.unit.specs.declared.answer.Action.{Action}
use Rattle.sets.specs.Members.{most_members, member_for}
use Rattle.sets.specs.Moves.{move_of, moves, sent_in}
use Rattle.sets.specs.OnSets.{set_reading, apply_sets}
use Rattle.sets.specs.SetSteps.{SetOutcome, set_refused_at, set_refused, set_done, closing_sent, set_closed, set_moved, set_named}
use Rattle.sets.specs.SetSteps.{admitted_to, set_joined, set_ordered, set_received, set_called, set_step}
use Rattle.sets.specs.SixSets.{Sets, set_in, size, whereabouts, on_whereabouts, unpacked, set_ready}
use Rattle.sets.specs.declared.moves.Move.{Move}
use Rattle.sets.specs.declared.moves.Move.TheVariants.{Stays, Leaves, Enters, Sends, SendsBoth}
use Rattle.sets.specs.declared.names.SetName.{SetName}
use Rattle.sets.specs.declared.state.SetState.{SetState}
use Rattle.sets.proofs.Packing.{ready-size}
use Rattle.sets.proofs.SixLaws.{sent-size}
use Rattle.sets.proofs.StepLaws.{admits}

-- an outcome with at most four actions
unfoldable Few : SetOutcome Sets → Type 0
Few o = length o.actions ≤ most_actions

-- a refusal has none
refused-few : (r ph : ℕ) (z : Sets) → Few (set_refused_at r ph z)
unfolding Few
refused-few r ph z = omega arith

-- an accepted step has those that it is said to have
done-few : (z : Sets) (acts : List Action) → length acts ≤ most_actions → Few (set_done z acts)
unfolding Few
done-few z acts few = few

-- one may have none
silent-few : (z : Sets) → Few (set_done z [])
silent-few z = done-few z [] (omega arith)

-- a move has at most two
move-few : (p : Partner) (mv : Move) → length (map (act p) (sent_in mv)) ≤ most_actions
move-few p Stays = omega arith
move-few p Leaves = omega arith
move-few p (Enters w t) = omega arith
move-few p (Sends number w t) = omega arith
move-few p (SendsBoth first second w t) = omega arith

module _ (z : Sets) where
  -- a member that an event names
  moved-few : (p : Partner) (w : SetName) (mv : Move) → Few (set_moved z p w mv)
  unfolding set_moved
  moved-few p w mv = cond-holds Few (moves mv) _ _ (done-few _ (map (act p) (sent_in mv)) (move-few p mv)) (refused-few _ _ z)

  -- and a partner, that may be none
  named-few : (p : Partner) (e : PartnerEvent) → Few (set_named z p e)
  unfolding set_named
  named-few p e = by (whereabouts p z.six)
    where
      by : (w : Option SetName)
          → Few (
          on_whereabouts w (λ v. set_moved z p v (move_of z.limits e v (member_for p (set_in v z.six))))
          (set_refused refusal.has_none z)
          )
      by (Some w) = moved-few p w _
      by None = refused-few _ _ z

  -- a newcomer is let in where there are fewer than four members
  admitted-few : (p : Partner) (joins : SetOutcome Sets) → (size z.six < most_members → Few joins) → Few (admitted_to z p joins)
  admitted-few p joins few = by (whereabouts p z.six)
    where
      by : (w : Option SetName) → Few (admits w (ltb (size z.six) most_members) joins z)
      by (Some w) = refused-few _ _ z
      by None = cond-case Few _ _ _ (λ lt. few (ltb-true _ _ lt)) (λ ge. refused-few _ _ z)

  -- an order closes no more than were there, and has one action of its own
  joined-few : (p : Partner) (accepting : Bool) (cause : Cause) → size z.six < most_members → Few (set_joined z p accepting cause)
  unfolding set_joined
  joined-few p accepting cause room =
      let which = displaced p accepting in
      let long = length-append (closing_sent which z.six) (act p request ∷ []) in
      done-few _ _ (omega (arith, long, sent-size which z.six))

  -- every order
  ordered-few : (p : Partner) (accepting : Bool) (cause : Cause) → Few (set_ordered z p accepting cause)
  unfolding set_ordered
  ordered-few p accepting cause =
      let q = meant z.last p in
      cond-holds Few (in_force cause z.train z.marks) _ _
      (cond-holds Few (reserved q) _ _ (refused-few _ _ z) (admitted-few q _ (joined-few q accepting cause))) (refused-few _ _ z)

  -- message 38 has one
  called-few : (p : Partner) → Few (set_called z p)
  unfolding set_called set_received
  called-few p =
      let one = done-few _ (act p established ∷ []) (omega arith) in
      cond-holds Few (is_rbc p) _ _ (admitted-few p (set_received z p) (λ room. one)) (refused-few _ _ z)

-- a closing has an action for each member at most
closed-few : (z : Sets) → size z.six ≤ most_members → Few (set_closed Every z)
unfolding set_closed
closed-few z small = done-few _ _ (omega (arith, sent-size Every z.six))

-- each step
step-few : (z : Sets) (e : Event) → size z.six ≤ most_members → Few (set_step z e)
unfolding set_step
step-few z (Level level manual) small = silent-few _
step-few z (Mission mission) small = cond-holds Few (eqb mission mission_ended) _ _ (closed-few _ small) (silent-few _)
step-few z Mode small = silent-few _
step-few z (Hole entered) small = cond-holds Few (hole_taken z.marks entered) _ _ (silent-few _) (refused-few _ _ z)
step-few z (Order p accepting cause) small = ordered-few z p accepting cause
step-few z EndAll small = closed-few z small
step-few z (Call p) small = called-few z p
step-few z (Named p e) small = named-few z p e

-- a step on a record, of whatever state: one that is not sound is refused
-- promise
pub apply-few : (b : SetState) (bytes : List ℕ) → length (apply_sets b bytes).actions ≤ most_actions
unfolding apply_sets unpacked Few
apply-few b bytes =
    cond-case (λ (o : SetOutcome SetState). length o.actions ≤ most_actions) (set_ready b) _ _ (λ ready. by ready (reading bytes))
    (λ bad. omega arith)
  where
    by : set_ready b ≡ true → (r : Reading) → Few (set_reading (unpacked b) r)
    by ready (Meant e) = step-few (unpacked b) e (ready-size b ready)
    by ready (Refused r) = refused-few r 0 (unpacked b)
