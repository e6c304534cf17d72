-- The step of the shunter by cases, in the order of its refusals; what it keeps; and that it keeps the state sound.
-- Proves: by-case, sends-waiting, shunt-ready, shunt-kept, cold-ready, fit-code.
use mathlib.Core.Path.{◌≡◌, refl, ap}
use mathlib.Core.Bool.{true, false, ◌&&◌, not}
use mathlib.Core.List.{List, []}
use Prim.Native.Nat.{ℕ, ◌≤◌}
use native.Mathlib.Omega.{arith}
use lib.Dec.{eqb, leb}
use borrow.Author.Tests.{eqb-true, eqb-false}
use Rattle.wire.specs.Refusals as refusal
use Rattle.wire.proofs.Tests.{cond-case}
use Rattle.place.specs.Places.{is_free}
use Rattle.place.specs.declared.limits.Limits.{Limits}
use Rattle.wire.specs.Bytes.{as_bit}
use Rattle.unit.specs.OnRecords.{action_room}
use Rattle.unit.specs.Standings.{Concern}
use Rattle.unit.specs.States.{place_count, cold_start}
use Rattle.unit.specs.Steps.{Outcome}
use Rattle.unit.proofs.Facts.{sound-facts}
use Rattle.unit.proofs.Sound.{on_record-sound}
use Rattle.unit.proofs.Starts.{cold-sound, cold-vacant}
use Rattle.shunter.specs.Queues.{modem_count, waiting, queued, among, every, distinct, place_at}
use Rattle.shunter.specs.Queues.{just_ordered, has_modem, modems_held, ready}
use Rattle.shunter.specs.Queues.{cold_shunter}
use Rattle.shunter.specs.Shunting.{Shunting, modem_missing, place_waits, shunt_refused_at, shunt_refused, unserved, line_of, sends}
use Rattle.shunter.specs.Shunting.{call_too_many, passed, stirs_waiting, on_concern, concern_in, core_step, applying, shunt}
use Rattle.shunter.specs.declared.state.Shunter.{Shunter}
use Rattle.shunter.proofs.InRow.{sum_to-none}
use Rattle.shunter.proofs.Ready.{Queued, ready-sound, ready-queued, facts-ready}
use Rattle.shunter.proofs.Balance.{queue-after, left-few}
use Rattle.shunter.proofs.Goods.{moved, acted}

-- what holds in each case holds of the step
module _ (P : Shunting → Type 0) (h : Shunter) (bytes : List ℕ) (room : ℕ) where
  abbrev about : Concern
  about = concern_in h bytes

  abbrev core : Outcome
  core = core_step h bytes

  -- past each refusal: with room; and ready; and nobody stirred who waits; and taken by the core
  abbrev Roomy : Type 0 → Type 0
  Roomy X = leb action_room room ≡ true → X

  abbrev Ready : Type 0 → Type 0
  Ready X = Roomy (ready h ≡ true → X)

  abbrev Calm : Type 0 → Type 0
  Calm X = Ready (stirs_waiting h about ≡ false → X)

  abbrev Taken : Type 0 → Type 0
  Taken X = Calm (core.code ≡ refusal.accepted → X)

  pub by-case : (leb action_room room ≡ false → P (shunt_refused refusal.no_room h))
      → Roomy (ready h ≡ false → P (shunt_refused refusal.not_sound h))
      → Ready (stirs_waiting h about ≡ true → P (shunt_refused place_waits h))
      → Calm ((core.code ≡ refusal.accepted → ⊥) → P (shunt_refused_at core.code core.standing h))
      → Taken (call_too_many h about ≡ true → P (shunt_refused modem_missing h))
      → Taken (call_too_many h about ≡ false → P (sends h about core))
      → P (shunt h bytes room)
  unfolding shunt applying on_concern passed
  by-case ten eleven eighteen other seventeen sent =
      cond-case P (leb action_room room) (applying h bytes) _
      (λ enough.
      cond-case P (ready h) (on_concern h about core) _
      (λ good.
      cond-case P (stirs_waiting h about) _ (passed h about core)
      (eighteen enough good)
      (λ calm.
      cond-case P (eqb core.code refusal.accepted) _ _
      (λ taken.
      let accepted = eqb-true core.code refusal.accepted taken in
      cond-case P (call_too_many h about) _ (sends h about core)
      (seventeen enough good calm accepted)
      (sent enough good calm accepted))
      (λ refused. other enough good calm (eqb-false core.code refusal.accepted refused))))
      (eleven enough))
      ten

module _ (h : Shunter) (bytes : List ℕ) (good : ready h ≡ true) (calm : stirs_waiting h (concern_in h bytes) ≡ false)
    (accepted : (core_step h bytes).code ≡ refusal.accepted)
    (free : call_too_many h (concern_in h bytes) ≡ false) where
  abbrev c : Concern
  c = concern_in h bytes

  abbrev o : Outcome
  o = core_step h bytes

  -- the rules hold of those that go on waiting
  left-queued : Queued o.state.places (unserved o.state.places (line_of h c o))
  left-queued =
      queue-after c h.state.places o.state.places (waiting h.queue) o.actions
      (moved h bytes good calm accepted)
      (acted h bytes good calm accepted)
      (ready-queued h good)
      free

  both : (waiting (sends h c o).shunter.queue ≡ unserved o.state.places (line_of h c o)) × (ready (sends h c o).shunter ≡ true)
  unfolding sends
  both =
      let still = on_record-sound h.state bytes action_room (ready-sound h good) in
      facts-ready (sends h c o).shunter (unserved o.state.places (line_of h c o)) still (sound-facts o.state still).four refl
      (left-few c h.state.places o.state.places (waiting h.queue) o.actions
      (moved h bytes good calm accepted)
      (acted h bytes good calm accepted)
      (ready-queued h good)
      free)
      left-queued

  -- an accepted step leaves the shunter sound
  sends-ready : ready (sends h c o).shunter ≡ true
  sends-ready = both.1

  -- and those wait that no modem was free for
  pub sends-waiting : waiting (sends h c o).shunter.queue ≡ unserved o.state.places (line_of h c o)
  sends-waiting = both.0

-- "soundness is kept": a sound shunter steps to a sound one, whatever the record and the room
-- promise
pub shunt-ready : (h : Shunter) (bytes : List ℕ) (room : ℕ)
    → ready h ≡ true
    → ready (shunt h bytes room).shunter ≡ true
shunt-ready h bytes room good =
    by-case (λ x. ready x.shunter ≡ true) h bytes room (λ short. good) (λ enough bad. good) (λ enough ok stirred. good)
    (λ enough ok calm other. good)
    (λ enough ok calm taken full. good)
    (λ enough ok calm taken free. sends-ready h bytes ok calm taken free)

-- a refused step changes nothing, the queue included, and sends nothing
-- promise
pub shunt-kept : (h : Shunter) (bytes : List ℕ) (room : ℕ)
    → ((shunt h bytes room).code ≡ refusal.accepted → ⊥)
    → ((shunt h bytes room).shunter ≡ h) × ((shunt h bytes room).actions ≡ [])
unfolding sends
shunt-kept h bytes room =
    by-case (λ x. (x.code ≡ refusal.accepted → ⊥) → (x.shunter ≡ h) × (x.actions ≡ [])) h bytes room
    (λ short other. (refl, refl))
    (λ enough bad other. (refl, refl))
    (λ enough ok stirred other. (refl, refl))
    (λ enough ok calm no other. (refl, refl))
    (λ enough ok calm taken full other. (refl, refl))
    (λ enough ok calm taken free other. absurd (other refl))

-- a cold start is sound, a refused one too
-- promise
pub cold-ready : (l : Limits) → ready (cold_shunter l).shunter ≡ true
unfolding cold_shunter every distinct modems_held among
cold-ready l =
    let s = (cold_start l).state in
    let good = cold-sound l in
    (facts-ready (cold_shunter l).shunter [] good (sound-facts s good).four refl (omega arith)
    (record { fresh = every-none; apart = distinct_none; most = none; busy = λ some. absurd (omega arith) })).1
  where
    every-none : every (λ i. just_ordered (place_at (cold_start l).state.places i)) [] ≡ true
    every-none = refl

    distinct_none : distinct [] ≡ true
    distinct_none = refl

    none : modems_held (cold_start l).state.places [] ≤ modem_count
    none =
        let nobody = sum_to-none (λ i. as_bit (has_modem (cold_start l).state.places [] i)) place_count
        (λ i below. ap (λ place. as_bit (not (is_free place) && true)) (cold-vacant l i)) in
        omega arith

-- "13 for the cold start": the box's own number, with the box of a cold start, refused or not, and nobody waiting
-- promise
pub fit-code : (l : Limits)
    → ((cold_shunter l).code ≡ (cold_start l).code)
    × ((cold_shunter l).shunter.state ≡ (cold_start l).state)
    × (waiting (cold_shunter l).shunter.queue ≡ [])
unfolding cold_shunter waiting queued
fit-code l = (refl, refl, refl)
