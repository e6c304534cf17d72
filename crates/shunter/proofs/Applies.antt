-- The step on a record, by what the code's tests showed.
-- Proves: sound-number, applied-unruled, applied-eleven, applied-on.
use mathlib.Core.Path.{◌≡◌, refl, sym, ap, ap₂, subst, ◌∙◌}
use mathlib.Core.Bool.{true, false, cond, ◌&&◌}
use mathlib.Core.List.{List}
use mathlib.Core.Logic.{⊎_elim}
use Prim.Native.Nat.{ℕ, ◌≤◌}
use native.Mathlib.Omega.{arith}
use borrow.Table.Steps.{cases}
use Rattle.record.specs.Records.{reading}
use Rattle.record.specs.Ranges.{reading_number}
use Rattle.record.specs.Readings.{Reading}
use Rattle.record.specs.Readings.{Meant, Refused}
use Rattle.record.proofs.Ranges.{reading-number}
use Rattle.wire.specs.Refusals.{out_of_range, not_sound}
use Rattle.unit.specs.Forms.{packed}
use Rattle.unit.specs.OnRecords.{action_room, on_reading, applied, on_record}
use Rattle.unit.specs.Standings.{concern_of}
use Rattle.unit.specs.States.{sound}
use Rattle.unit.specs.Steps.{Outcome}
use Rattle.unit.specs.declared.answer.Answer.{Answer}
use Rattle.unit.specs.declared.state.State.{State}
use Rattle.unit.proofs.Effects.{step-number}
use Rattle.unit.proofs.OnBytes.{bytes-unsound, bytes-reading, on-enough}
use Rattle.shunter.specs.Queues.{rules_hold, ready}
use Rattle.shunter.specs.Shunting.{shunt_refused, on_concern, applying, shunted}
use Rattle.shunter.specs.Sending.{Good}
use Rattle.shunter.specs.declared.answer.Shunted.{Shunted}
use Rattle.shunter.specs.declared.state.Shunter.{Shunter}
use Rattle.shunter.proofs.TwoTests.{and_none}
use Rattle.shunter.proofs.Goods.{good}

-- the number of an outcome of a sound state is not 11
pub sound-number : (s : State) (bytes : List ℕ) → sound s ≡ true → (applied s bytes).code ≡ not_sound → ⊥
sound-number s bytes ok eleven =
    by (reading bytes) (reading-number bytes) (sym (ap (λ o. o.code) (bytes-reading s bytes (reading bytes) ok refl)) ∙ eleven)
  where
    by : (r : Reading) → reading_number r ≤ out_of_range → (on_reading s r).code ≡ not_sound → ⊥
    by (Meant e) low is =
        ⊎_elim (λ accepts. omega arith) (λ may. ⊎_elim (λ within. omega arith) (λ none. omega arith) may) (step-number s e)
    by (Refused r) low is = omega arith

module _ (h : Shunter) (bytes : List ℕ) where
  -- the core's state
  abbrev s : State
  s = h.state

  -- a state that is not ready is refused
  unready : ready h ≡ false → applying h bytes ≡ shunt_refused not_sound h
  unfolding applying
  unready bad =
      ap (λ b. cond b (on_concern h (concern_of s.last (reading bytes)) (on_record s bytes action_room)) (shunt_refused not_sound h)) bad

  -- the rules of the queue or of the holding are broken
  pub applied-unruled : rules_hold s.places h.queue ≡ false → applying h bytes ≡ shunt_refused not_sound h
  unfolding ready
  applied-unruled bad = unready (ap (◌&&◌ (sound s)) bad ∙ and_none (sound s))

  module _ (answer : Answer) (is : answer ≡ packed (applied s bytes)) where
    -- the number of the core's answer
    code : answer.code ≡ (applied s bytes).code
    unfolding packed
    code = ap (λ a. a.code) is

    -- the core says 11: its state is not sound
    pub applied-eleven : answer.code ≡ not_sound → applying h bytes ≡ shunt_refused not_sound h
    unfolding ready
    applied-eleven eleven =
        cases (sound s)
        (λ ok. absurd (sound-number s bytes ok (sym code ∙ eleven)))
        (λ bad. unready (ap (λ b. b && rules_hold s.places h.queue) bad))

    -- the core says something else: its state is sound
    sound-then : (answer.code ≡ not_sound → ⊥) → sound s ≡ true
    sound-then other =
        cases (sound s) (λ ok. ok) (λ bad. absurd (other (code ∙ ap (λ o. o.code) (bytes-unsound s bytes bad))))

    -- the answer of a ready shunter is the one to whom the record concerns
    pub applied-on : (read : Reading) (r : Shunted)
        → rules_hold s.places h.queue ≡ true
        → (answer.code ≡ not_sound → ⊥)
        → reading bytes ≡ read
        → ((o : Outcome)
        → answer ≡ packed o
        → Good h (concern_of s.last read) o
        → r ≡ shunted (on_concern h (concern_of s.last read) o))
        → r ≡ shunted (applying h bytes)
    unfolding ready applying
    applied-on read r rules other means answers =
        let o = on_record s bytes action_room in
        let ok = ap₂ ◌&&◌ (sound-then other) rules in
        let there = is ∙ ap packed (sym (on-enough s bytes action_room (omega arith))) in
        answers o there (subst (λ x. Good h (concern_of s.last x) o) means (good h bytes ok))
        ∙ ap shunted
        (ap (λ x. on_concern h (concern_of s.last x) o) (sym means)
        ∙ ap (λ b. cond b (on_concern h (concern_of s.last (reading bytes)) o) (shunt_refused not_sound h)) (sym ok))
