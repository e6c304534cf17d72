-- The refusals of the engine of sets are the box's: 10 and 11 exactly as said, all others by `same-refusal`; a refusal changes nothing.
-- Proves: sets-kept, sets-ten, sets-eleven, sets-run-twelve, sets-run-eleven.
use Rattle.std.specs.Prelude.{Option, Some, None}
use mathlib.Core.Path.{◌≡◌, refl, ap, ◌∙◌}
use mathlib.Core.Bool.{true, false, cond}
use mathlib.Core.List.{List, []}
use Prim.Native.Nat.{ℕ, ◌≤◌, ◌<◌}
use lib.Dec.{eqb, leb, ltb}
use lib.ListN.{length}
use borrow.Author.Tests.{le-leb, lt-leb}
use Rattle.wire.specs.Refusals as refusal
use Rattle.wire.proofs.Tests.{cond-case, cond-holds}
use Rattle.record.specs.Partners.{is_rbc, reserved}
use Rattle.record.specs.Records.{mission_ended, reading}
use Rattle.record.specs.Takes.{longest_log}
use Rattle.record.specs.declared.partner.Partner.{Partner}
use Rattle.record.specs.declared.event.Event.{Event}
use Rattle.record.specs.declared.event.Event.TheVariants.{Level, Mission, Mode, Hole, Order, EndAll, Call, Named}
use Rattle.record.specs.Readings.{Reading}
use Rattle.record.specs.Readings.{Meant, Refused}
use Rattle.unit.specs.Lasts.{meant}
use Rattle.unit.specs.OnRecords.{action_room}
use Rattle.unit.specs.Steps.{in_force, hole_taken}
use Rattle.unit.specs.declared.answer.Action.{Action}
use Rattle.sets.specs.Members.{most_members, member_for}
use Rattle.sets.specs.SixSets.{Sets, set_in, size, whereabouts, on_whereabouts, phase_in, unpacked, packed_sets, set_ready}
use Rattle.sets.specs.Moves.{move_of, moves}
use Rattle.sets.specs.SetSteps.{SetOutcome, set_refused_at, set_refused, set_done, set_closed, set_moved, set_named, admitted_to}
use Rattle.sets.specs.SetSteps.{set_joined}
use Rattle.sets.specs.SetSteps.{set_ordered, set_received, set_called, set_step}
use Rattle.sets.specs.OnSets.{set_reading, boxed, apply_sets, on_sets}
use Rattle.runs.specs.MachineRuns.{machine_run}
use Rattle.sets.specs.SetRuns.{set_run}
use Rattle.sets.specs.SetGoings.{set_run_refused}
use Rattle.sets.specs.declared.moves.Move.{Move}
use Rattle.sets.specs.declared.names.SetName.{SetName}
use Rattle.sets.specs.declared.state.SetState.{SetState}
use Rattle.sets.proofs.Packing.{packed-ready}

-- a refused outcome leaves the sets as they were, with no action
abbrev KeptSets : {A : Type 0} → A → SetOutcome A → Type 0
KeptSets z o = (o.code ≡ refusal.accepted → ⊥) → (o.state ≡ z) × (o.actions ≡ [])

refused-kept : {A : Type 0} (r ph : ℕ) (z : A) → KeptSets z (set_refused_at r ph z)
refused-kept r ph z other = (refl, refl)

done-kept : {A : Type 0} (z y : A) (acts : List Action) → KeptSets z (set_done y acts)
done-kept z y acts other = absurd (other refl)

module _ (z : Sets) where
  admitted-kept : (p : Partner) (joins : SetOutcome Sets) → KeptSets z joins → KeptSets z (admitted_to z p joins)
  admitted-kept p joins kept = by (whereabouts p z.six)
    where
      by : (o : Option SetName)
          → KeptSets z
          (on_whereabouts o (λ w. set_refused_at refusal.has_place (phase_in w) z)
          (cond (ltb (size z.six) most_members) joins (set_refused refusal.all_taken z)))
      by (Some w) = refused-kept refusal.has_place (phase_in w) z
      by None =
          cond-holds (KeptSets z) (ltb (size z.six) most_members) joins (set_refused refusal.all_taken z) kept
          (refused-kept refusal.all_taken 0 z)

  moved-kept : (p : Partner) (w : SetName) (mv : Move) → KeptSets z (set_moved z p w mv)
  unfolding set_moved
  moved-kept p w mv =
      cond-holds (KeptSets z) (moves mv) _ _ (done-kept z _ _) (refused-kept refusal.not_taken (phase_in w) z)

  step_kept : (e : Event) → KeptSets z (set_step z e)
  unfolding set_step set_closed set_ordered set_joined set_called set_received set_named
  step_kept (Level level manual) = done-kept z _ _
  step_kept (Mission mission) = cond-holds (KeptSets z) (eqb mission mission_ended) _ _ (done-kept z _ _) (done-kept z _ _)
  step_kept Mode = done-kept z _ _
  step_kept (Hole entered) =
      cond-holds (KeptSets z) (hole_taken z.marks entered) _ _ (done-kept z _ _) (refused-kept refusal.not_taken 0 z)
  step_kept (Order p accepting cause) =
      let q = meant z.last p in
      cond-holds (KeptSets z) (in_force cause z.train z.marks) _ _
      (cond-holds (KeptSets z) (reserved q) _ _ (refused-kept refusal.none_known 0 z)
      (admitted-kept q (set_joined z q accepting cause) (done-kept z _ _)))
      (refused-kept refusal.not_in_force 0 z)
  step_kept EndAll = done-kept z _ _
  step_kept (Call p) =
      cond-holds (KeptSets z) (is_rbc p) _ _ (admitted-kept p (set_received z p) (done-kept z _ _))
      (refused-kept refusal.call_from_riu 0 z)
  step_kept (Named p e) = by (whereabouts p z.six)
    where
      by : (o : Option SetName)
          → KeptSets z
          (on_whereabouts o (λ w. set_moved z p w (move_of z.limits e w (member_for p (set_in w z.six))))
          (set_refused refusal.has_none z))
      by (Some w) = moved-kept p w (move_of z.limits e w (member_for p (set_in w z.six)))
      by None = refused-kept refusal.has_none 0 z

-- "Each refusal has its number; it leaves the state .. as they were"
-- promise
pub sets-kept : (b : SetState) (bytes : List ℕ) (room : ℕ)
    → ((on_sets b bytes room).code ≡ 0 → ⊥)
    → ((on_sets b bytes room).state ≡ b) × ((on_sets b bytes room).actions ≡ [])
unfolding on_sets apply_sets
sets-kept b bytes room =
    cond-holds (KeptSets b) (leb action_room room) _ _
    (cond-case (KeptSets b) (set_ready b) _ _ (λ ready. by ready (reading bytes)) (λ bad. refused-kept refusal.not_sound 0 b))
    (refused-kept refusal.no_room 0 b)
  where
    by : set_ready b ≡ true → (r : Reading) → KeptSets b (boxed (set_reading (unpacked b) r))
    by ready (Meant e) other =
        let kept = step_kept (unpacked b) e other in
        (ap packed_sets kept.0 ∙ packed-ready b ready, kept.1)
    by ready (Refused r) other = (packed-ready b ready, refl)

module _ (b : SetState) (bytes : List ℕ) (room : ℕ) where
  -- 10, before everything
  -- promise
  pub sets-ten : room < 20 → on_sets b bytes room ≡ set_refused 10 b
  unfolding on_sets
  sets-ten small = simp (lt-leb action_room room small)

  -- 11 for a state that is not sound
  -- promise
  pub sets-eleven : 20 ≤ room → set_ready b ≡ false → on_sets b bytes room ≡ set_refused 11 b
  unfolding on_sets apply_sets
  sets-eleven enough bad = simp (le-leb action_room room enough, bad)

-- a run: 12, then 11
module _ (b : SetState) (log : List ℕ) (budget : ℕ) where
  -- promise
  pub sets-run-twelve : 1_048_576 < length log → set_run b log budget ≡ set_run_refused 12 b
  unfolding machine_run
  sets-run-twelve long = simp (lt-leb (length log) longest_log long)

  -- promise
  pub sets-run-eleven : length log ≤ 1_048_576 → set_ready b ≡ false → set_run b log budget ≡ set_run_refused 11 b
  unfolding machine_run
  sets-run-eleven short bad = simp (le-leb (length log) longest_log short, bad)
