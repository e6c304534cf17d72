-- "kind 30 with one byte (0 or the refusal 3 to 9, or 15) and then its actions as five-byte records": the numbers in a sheet of ours.
-- Proves: answers-numbered, answer-numbered, action-numbered, due-long, answer-no-event.
use mathlib.Core.Path.{◌≡◌, refl, sym, ap, subst}
use mathlib.Core.Logic.{◌⊎◌, inl, inr, ⊎_elim}
use mathlib.Core.Bool.{true, false}
use mathlib.Core.List.{List, [], ◌∷◌, map}
use Prim.Native.Nat.{ℕ}
use lib.ListN.{length}
use Rattle.wire.specs.Bytes.{byte}
use Rattle.wire.proofs.Tests.{and_left, and_right, and_both, All}
use Rattle.record.specs.Records.{known}
use Rattle.place.specs.declared.limits.Limits.{Limits}
use Rattle.unit.specs.States.{limits_ok, sound, cold}
use Rattle.unit.specs.OnRecords.{action_room, on_record, trace}
use Rattle.unit.specs.RunWords.{run_code, all_codes}
use Rattle.unit.specs.declared.state.State.{State}
use Rattle.unit.specs.declared.answer.Action.{Action}
use Rattle.unit.proofs.Sound.{on_record-sound}
use Rattle.judge.specs.declared.due.Due.{Due}
use Rattle.judge.specs.declared.due.Due.TheVariants.{AnEvent, TheAnswer, TheAction}
use Rattle.judge.specs.declared.due.Finding.TheVariants.{Wrong}
use Rattle.judge.specs.Sheets.{due_bytes, is_record, are_records, row_end}
use Rattle.judge.specs.Judging.{against}
use Rattle.judge.specs.Fronts.{DueAfter}
use Rattle.judge.specs.FrontWords.{sendable, length_by}
use Rattle.judge.proofs.Fronts.{is_due, among}
use Rattle.judge.proofs.Numbers.{Sendable, on_record-sendable, six, cold-good, on_record-coded}
use Rattle.judge.proofs.Standing.{after-measured}
use Rattle.judge.proofs.Again.Meanings.{event-wrong}

row-codes : (s : State) (row : List (List ℕ)) → sound s ≡ true → are_records row ≡ true → all_codes (trace s row) ≡ true
unfolding are_records all_codes trace
row-codes s [] good whole = refl
row-codes s (bytes ∷ row) good whole =
    let o = on_record s bytes action_room in
    and_both (run_code o.code) (all_codes (trace o.state row))
    (on_record-coded s bytes good (and_left (is_record bytes) (are_records row) whole))
    (row-codes o.state row (on_record-sound s bytes action_room good) (and_right (is_record bytes) (are_records row) whole))

-- the answers of a row of event records from a cold start: "0 or the refusal 3 to 9, or 15"
-- promise
pub answers-numbered : (l : Limits) (row : List (List ℕ))
    → limits_ok l ≡ true
    → are_records row ≡ true
    → all_codes (trace (cold l) row) ≡ true
answers-numbered l row good whole = row-codes (cold l) row (cold-good l good) whole

-- the state after a row stays sound
row-sound : (s : State) (row : List (List ℕ)) → sound s ≡ true → sound (row_end s row) ≡ true
unfolding row_end
row-sound s [] good = good
row-sound s (bytes ∷ row) good = row-sound (on_record s bytes action_room).state row (on_record-sound s bytes action_room good)

-- what may be due, the answers as is asked
module _ (Code : ℕ → Type 0) where
  abbrev Fine : Due → Type 0
  Fine AnEvent = Unit
  Fine (TheAnswer code) = Code code
  Fine (TheAction a) = sendable a.number ≡ true

  due-fine : (s : State) (front : List ℕ) (d : Due)
      → ((row : List (List ℕ)) (bytes : List ℕ) → is_record bytes ≡ true
      → Code (on_record (row_end s row) bytes action_room).code)
      → DueAfter s front d
      → Fine d
  due-fine s front d coded (inl (row, whole, due)) = subst Fine (sym due) tt
  due-fine s front d coded (inr (row, bytes, met, left, whole, is, of, ends)) =
      let there = row_end s row in
      among Fine met d left
      (subst (All Fine) of (
        coded row bytes is,
        by (on_record there bytes action_room).actions
            (on_record-sendable there bytes action_room),
      ))
    where
      by : (acts : List Action) → Sendable acts → All Fine (map TheAction acts)
      by [] all = tt
      by (a ∷ acts) all = (all.0, by acts all.1)

-- wherever an answer is due in a sheet of ours, its byte is one of those
-- promise
pub answer-numbered : (l : Limits) (front : List ℕ) (code : ℕ)
    → limits_ok l ≡ true
    → DueAfter (cold l) front (TheAnswer code)
    → run_code code ≡ true
answer-numbered l front code good =
    due-fine (λ n. run_code n ≡ true) (cold l) front (TheAnswer code)
    (λ row bytes is. on_record-coded (row_end (cold l) row) bytes (row-sound (cold l) row (cold-good l good)) is)

-- and wherever an action is due, from whatever state, its number is one of the six
-- promise
pub action-numbered : (s : State) (front : List ℕ) (a : Action)
    → DueAfter s front (TheAction a)
    → sendable a.number ≡ true
action-numbered s front a = due-fine (λ n. Unit) s front (TheAction a) (λ row bytes is. tt)

-- a record that is due behind a front, other than an event, is as long as its kind says
-- promise
pub due-long : (s : State) (front : List ℕ) (d : Due)
    → DueAfter s front d
    → (d ≡ AnEvent → ⊥)
    → length_by (byte (due_bytes d) 0) ≡ length (due_bytes d)
due-long s front d due other = after-measured s front d due (is d other)
  where
    is : (d : Due) → (d ≡ AnEvent → ⊥) → is_due d ≡ true
    is AnEvent other = absurd (other refl)
    is (TheAnswer code) other = refl
    is (TheAction a) other = refl

-- where an event record is due, the kind of an answer and the number of an action are wrong: no answer and no action reads as an event
-- promise
pub answer-no-event : (kind : ℕ) (rest : List ℕ)
    → (kind ≡ 30) ⊎ (sendable kind ≡ true)
    → against AnEvent (kind ∷ rest) ≡ Wrong
answer-no-event kind rest is = (event-wrong kind rest).1 (⊎_elim (ap known) none is)
  where
    none : sendable kind ≡ true → known kind ≡ false
    none = six (λ n. known n ≡ false) refl refl refl refl refl refl kind
