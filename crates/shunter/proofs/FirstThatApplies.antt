-- Cross-checks only: rules told a second time.
-- "First that applies": each refusal of a step exactly when, and the numbers.
-- Proves: shunter-numbered, shunt-ten, shunt-eleven, shunt-eighteen, shunt-core, shunt-seventeen, shunt-sends, shunt-unread, only-eleven,
-- only-eighteen, only-seventeen, shunt-few, waiting-unreached.
use mathlib.Core.Path.{◌≡◌, refl, sym, ap, ◌∙◌}
use mathlib.Core.Bool.{true, false}
use mathlib.Core.Logic.{◌⊎◌, inl, inr}
use mathlib.Core.List.{List, [], ◌∷◌}
use Prim.Native.Nat.{ℕ, ◌≤◌, ◌<◌}
use native.Mathlib.Omega.{arith}
use lib.Dec.{leb}
use lib.ListN.{length}
use borrow.Author.Tests.{le-leb, lt-leb, eq-eqb, ne_eqb}
use Rattle.wire.specs.Refusals as refusal
use Rattle.wire.proofs.Tests.{and_both, cond-holds}
use Rattle.record.specs.Records.{reading}
use Rattle.record.specs.Readings.{Meant, Refused}
use Rattle.record.specs.declared.event.Event.TheVariants.{Named}
use Rattle.record.specs.declared.event.PartnerEvent.{PartnerEvent}
use Rattle.record.specs.declared.event.PartnerEvent.TheVariants.{Up, Loss, Timeout}
use Rattle.record.specs.declared.partner.Partner.{Partner}
use Rattle.shunter.specs.Shunting.{up_lost_timeout}
use Rattle.unit.specs.Standings.{concern_of}
use Rattle.unit.specs.OnRecords.{action_room}
use Rattle.unit.proofs.Effects.{on_record-number}
use Rattle.unit.proofs.Shapes.{StepRefusal, RecordRefusal}
use Rattle.shunter.specs.Queues.{modem_count, no_place, ready}
use Rattle.shunter.specs.Shunting.{Shunting, modem_missing, place_waits, shunt_refused, call_too_many, stirs_waiting, concern_in, core_step}
use Rattle.shunter.specs.Shunting.{sends, passed, on_concern, applying, shunt}
use Rattle.shunter.specs.ShunterSums.{partner_waits}
use Rattle.shunter.specs.declared.state.Shunter.{Shunter}
use Rattle.shunter.proofs.Goods.{few}
use Rattle.shunter.proofs.Applies.{sound-number}
use Rattle.shunter.proofs.Cases.{by-case}
use Rattle.shunter.proofs.Ready.{ready-sound}
use Rattle.unit.proofs.OnBytes.{on-enough}

-- two modems; 17, 18; place 4 stands for nobody
-- promise
pub shunter-numbered : modem_count ∷ modem_missing ∷ place_waits ∷ no_place ∷ [] ≡ 2 ∷ 17 ∷ 18 ∷ 4 ∷ []
shunter-numbered = refl

module _ (h : Shunter) (bytes : List ℕ) (room : ℕ) where
  -- "Step: 10, .."
  -- promise
  pub shunt-ten : room < 20 → shunt h bytes room ≡ shunt_refused 10 h
  unfolding shunt
  shunt-ten short = simp (lt-leb action_room room short)

  module _ (enough : 20 ≤ room) where
    -- "11 also for a queue or holding that breaks these rules"
    -- promise
    pub shunt-eleven : ready h ≡ false → shunt h bytes room ≡ shunt_refused 11 h
    unfolding shunt applying
    shunt-eleven bad = simp (le-leb action_room room enough, bad)

    module _ (good : ready h ≡ true) where
      -- "18, up, lost or timeout for a waiting place, after 3 and before 7"
      -- promise
      pub shunt-eighteen : stirs_waiting h (concern_in h bytes) ≡ true → shunt h bytes room ≡ shunt_refused 18 h
      unfolding shunt applying on_concern
      shunt-eighteen stirred = simp (le-leb action_room room enough, good, stirred)

      module _ (calm : stirs_waiting h (concern_in h bytes) ≡ false) where
        -- the core's own refusals otherwise, with the place and phase that they carry
        -- promise
        pub shunt-core : ((core_step h bytes).code ≡ 0 → ⊥)
            → ((shunt h bytes room).code ≡ (core_step h bytes).code)
            × ((shunt h bytes room).standing ≡ (core_step h bytes).standing)
        unfolding shunt applying on_concern passed
        shunt-core other =
            let tested = ne_eqb (core_step h bytes).code refusal.accepted other in
            (simp (le-leb action_room room enough, good, calm, tested), simp (le-leb action_room room enough, good, calm, tested))

        module _ (accepted : (core_step h bytes).code ≡ 0) where
          -- "17, last, a 38 that the core would accept with no modem free"
          -- promise
          pub shunt-seventeen : call_too_many h (concern_in h bytes) ≡ true → shunt h bytes room ≡ shunt_refused 17 h
          unfolding shunt applying on_concern passed
          shunt-seventeen full =
              simp (le-leb action_room room enough, good, calm, eq-eqb (core_step h bytes).code refusal.accepted accepted, full)

          -- every other step is accepted
          -- promise
          pub shunt-sends : call_too_many h (concern_in h bytes) ≡ false
              → (shunt h bytes room ≡ sends h (concern_in h bytes) (core_step h bytes)) × ((shunt h bytes room).code ≡ 0)
          unfolding shunt applying on_concern passed sends
          shunt-sends free =
              let tested = eq-eqb (core_step h bytes).code refusal.accepted accepted in (
                simp (le-leb action_room room enough, good, calm, tested, free),
                simp (le-leb action_room room enough, good, calm, tested, free),
              )

-- a record that is refused with 1, 2 or 3 concerns nobody: 18 comes after them
-- promise
pub shunt-unread : (h : Shunter) (bytes : List ℕ) (r : ℕ)
    → reading bytes ≡ Refused r
    → stirs_waiting h (concern_in h bytes) ≡ false
shunt-unread h bytes r unread = rw unread refl

-- the numbers of the core are none of the shunter's own
core-number : (h : Shunter) (bytes : List ℕ)
    → ((core_step h bytes).code ≡ modem_missing → ⊥) × ((core_step h bytes).code ≡ place_waits → ⊥)
core-number h bytes = by (on_record-number h.state bytes action_room)
  where
    code : ℕ
    code = (core_step h bytes).code

    step : StepRefusal code → (code ≡ modem_missing → ⊥) × (code ≡ place_waits → ⊥)
    step (inl within) = ((λ e. omega arith), (λ e. omega arith))
    step (inr is) = ((λ e. omega arith), (λ e. omega arith))

    by : (code ≡ refusal.accepted) ⊎ (RecordRefusal code ⊎ StepRefusal code)
        → (code ≡ modem_missing → ⊥) × (code ≡ place_waits → ⊥)
    by (inl taken) = ((λ e. omega arith), (λ e. omega arith))
    by (inr (inl unread)) = ((λ e. omega arith), (λ e. omega arith))
    by (inr (inr may)) = step may

module _ (h : Shunter) (bytes : List ℕ) (room : ℕ) where
  -- 11 is given for nothing else
  -- promise
  pub only-eleven : (shunt h bytes room).code ≡ 11 → ready h ≡ false
  unfolding sends
  only-eleven =
      by-case (λ x. x.code ≡ 11 → ready h ≡ false) h bytes room
      (λ short e. absurd (omega arith))
      (λ enough bad e. bad)
      (λ enough good stirred e. absurd (omega arith))
      (λ enough good calm other e.
      absurd (
      sound-number h.state bytes (ready-sound h good)
      (sym (ap (λ o. o.code) (on-enough h.state bytes action_room (omega arith))) ∙ e)
      ))
      (λ enough good calm taken full e. absurd (omega arith))
      (λ enough good calm taken free e. absurd (omega arith))

  -- 18 is given for nothing else
  -- promise
  pub only-eighteen : (shunt h bytes room).code ≡ 18 → (ready h ≡ true) × (stirs_waiting h (concern_in h bytes) ≡ true)
  unfolding sends
  only-eighteen =
      by-case (λ x. x.code ≡ 18 → (ready h ≡ true) × (stirs_waiting h (concern_in h bytes) ≡ true)) h bytes room
      (λ short e. absurd (omega arith))
      (λ enough bad e. absurd (omega arith))
      (λ enough good stirred e. (good, stirred))
      (λ enough good calm other e. absurd ((core-number h bytes).1 e))
      (λ enough good calm taken full e. absurd (omega arith))
      (λ enough good calm taken free e. absurd (omega arith))

  -- 17 is given for nothing else
  -- promise
  pub only-seventeen : (shunt h bytes room).code ≡ 17
      → (ready h ≡ true)
      × (stirs_waiting h (concern_in h bytes) ≡ false)
      × ((core_step h bytes).code ≡ 0)
      × (call_too_many h (concern_in h bytes) ≡ true)
  unfolding sends
  only-seventeen =
      by-case
      (λ x. x.code ≡ 17
      → (ready h ≡ true)
      × (stirs_waiting h (concern_in h bytes) ≡ false)
      × ((core_step h bytes).code ≡ 0)
      × (call_too_many h (concern_in h bytes) ≡ true)) h bytes room
      (λ short e. absurd (omega arith))
      (λ enough bad e. absurd (omega arith))
      (λ enough good stirred e. absurd (omega arith))
      (λ enough good calm other e. absurd ((core-number h bytes).0 e))
      (λ enough good calm taken full e. (good, calm, taken, full))
      (λ enough good calm taken free e. absurd (omega arith))

  -- "the 20 bytes stay enough": no step sends more than four actions
  -- promise
  pub shunt-few : length (shunt h bytes room).actions ≤ 4
  unfolding shunt
  shunt-few =
      cond-holds (λ (x : Shunting). length x.actions ≤ 4) (leb action_room room) (applying h bytes) (shunt_refused refusal.no_room h)
      (few h bytes)
      (omega arith)

-- an up, lost or timeout of a partner that waits never reaches the core: it gets 18
-- promise
pub waiting-unreached : (h : Shunter) (bytes : List ℕ) (room : ℕ) (p : Partner) (e : PartnerEvent)
    → 20 ≤ room
    → ready h ≡ true
    → partner_waits p h ≡ true
    → reading bytes ≡ Meant (Named p e)
    → (e ≡ Up) ⊎ ((e ≡ Loss) ⊎ (e ≡ Timeout))
    → shunt h bytes room ≡ shunt_refused 18 h
waiting-unreached h bytes room p e enough good waits means which =
    shunt-eighteen h bytes room enough good
    (ap (λ r. stirs_waiting h (concern_of h.state.last r)) means ∙ and_both (partner_waits p h) (up_lost_timeout e) waits (by which))
  where
    by : (e ≡ Up) ⊎ ((e ≡ Loss) ⊎ (e ≡ Timeout)) → up_lost_timeout e ≡ true
    by (inl up) = ap up_lost_timeout up
    by (inr (inl lost)) = ap up_lost_timeout lost
    by (inr (inr timeout)) = ap up_lost_timeout timeout
