-- The loop that writes a sheet: what is written and what is still to come stay the whole.
-- Defines: Filling.
-- Proves: filling-end, filling-room, filling-next.
use mathlib.Core.Path.{◌≡◌, refl, sym, ap, ap₂, ◌∙◌}
use mathlib.Core.Logic.{◌⊎◌, inl}
use mathlib.Core.List.{List, ◌∷◌, ◌++◌}
use Prim.Native.Nat.{ℕ, ◌+◌, ◌*◌, ◌≤◌}
use native.Mathlib.Omega.{arith}
use lib.ListN.{length, take, drop, length-append}
use lib.Seq.{sets, length-sets}
use Rattle.record.specs.Takes.{longest_log, take_one}
use Rattle.std.specs.Prelude.{Result}
use Rattle.wire.specs.declared.refusal.Refusal.{Refusal}
use Rattle.record.specs.Readings.{Reading}
use Rattle.record.specs.Stops.{stop_number, told_front}
use Rattle.record.specs.declared.event.Event.{Event}
use Rattle.record.specs.declared.take.Front.{Front}
use Rattle.record.specs.declared.take.Front.TheVariants.{Next, Stop}
use Rattle.record.specs.Takes.{Whole, Stopped, Overlong}
use Rattle.unit.specs.OnRecords.{action_room, action_size, on_record, written}
use Rattle.unit.specs.Forms.{stepped}
use Rattle.unit.specs.declared.state.State.{State}
use Rattle.unit.specs.declared.answer.Stepped.{Stepped}
use Rattle.judge.specs.Sheets.{answer_kind}
use Rattle.judge.specs.FrontWords.{answer_size}
use Rattle.judge.specs.Producing.{course_sheet}
use Rattle.judge.proofs.Courses.{ahead, stop-ahead, whole_part, step-ahead}
use Rattle.judge.proofs.Entries.{entry-sent}
use Rattle.judge.proofs.Putting.{sets_more, sets-front}

-- what is still to come has room, and with it the room is the same as with the whole sheet at its front
abbrev pub Filling : List ℕ → List ℕ → State → List ℕ → State → ℕ → ℕ → Type 0
Filling log room₀ s₀ room s at used =
    (at ≤ length log)
    × (length room ≡ length room₀)
    × (used + length (course_sheet (ahead s (drop at log))) ≤ length room)
    × (sets room₀ 0 (course_sheet (ahead s₀ log)) ≡ sets room used (course_sheet (ahead s (drop at log))))

module _ (log : List ℕ) (short : length log ≤ longest_log) (room₀ : List ℕ) (s₀ : State)
    (room : List ℕ) (s : State) (at used : ℕ) (so_far : Filling log room₀ s₀ room s at used) where
  -- at a stop all is written
  all-written : length (course_sheet (ahead s₀ log)) ≤ length room₀
      → (stop : ℕ)
      → (take_one (drop at log) ≡ Stopped stop) ⊎ (take_one (drop at log) ≡ Overlong stop)
      → room ≡ course_sheet (ahead s₀ log) ++ drop (length (course_sheet (ahead s₀ log))) room₀
  unfolding course_sheet
  all-written fits stop e =
      sym (so_far.3 ∙ ap (λ x. sets room used (course_sheet x)) (stop-ahead log short s at stop e))
      ∙ sets-front room₀ (course_sheet (ahead s₀ log)) fits

  -- and what is no whole record is a stop
  pub filling-end : length (course_sheet (ahead s₀ log)) ≤ length room₀
      → (f : Front)
      → told_front f ≡ take_one (drop at log)
      → ((k : ℕ) (r : Result Event Refusal) → f ≡ Next k r → ⊥)
      → room ≡ course_sheet (ahead s₀ log) ++ drop (length (course_sheet (ahead s₀ log))) room₀
  filling-end fits (Next k r) is other = absurd (other k r refl)
  filling-end fits (Stop stop) is other = all-written fits (stop_number stop) (inl (sym is))

  -- a whole record, what the step on it answers, and the bytes of its actions
  module _ (k : ℕ) (r : Reading) (e : take_one (drop at log) ≡ Whole k r) (bytes : List ℕ) (lent : bytes ≡ take k (drop at log))
      (answer : Stepped) (made : answer ≡ stepped (on_record s bytes action_room)) (before after : List ℕ)
      (wrote : after ≡ written (on_record s bytes action_room).actions before) where
    sent : List ℕ
    sent = take (action_size * answer.count) after

    entry : List ℕ
    entry = bytes ++ (answer_kind ∷ answer.code ∷ sent)

    onward : List ℕ
    onward = course_sheet (ahead answer.state (drop (at + k) log))

    comes : course_sheet (ahead s (drop at log)) ≡ entry ++ onward
    unfolding course_sheet entry sent onward
    comes =
        ap course_sheet (step-ahead log short s at k r e bytes lent answer made)
        ∙ ap (λ l. l ++ course_sheet (ahead answer.state (drop (at + k) log))) (entry-sent s bytes answer made before after wrote)

    size : length entry ≡ length bytes + (answer_size + length sent)
    unfolding entry
    size = length-append bytes (answer_kind ∷ answer.code ∷ sent) ∙ omega arith

    left : used + (length entry + length onward) ≤ length room
    left = omega (arith, so_far.2, ap length comes, length-append entry onward)

    -- they have room
    pub filling-room : used + (length bytes + (answer_size + length (take (action_size * answer.count) after))) ≤ length room
    unfolding sent
    filling-room = omega (arith, left, size)

    -- and the sheet goes on behind them
    pub filling-next : (next : List ℕ) (end : ℕ)
        → end ≡ used + (length bytes + (answer_size + length (take (action_size * answer.count) after)))
        → next ≡ sets room used (bytes ++ (answer_kind ∷ answer.code ∷ take (action_size * answer.count) after))
        → Filling log room₀ s₀ next answer.state (at + k) end
    unfolding entry sent onward
    filling-next next end ends put =
        let same = ap length put ∙ length-sets room used entry in
        let to : used + length entry ≡ end = omega (arith, ends, size) in (
          (whole_part log short s at k r e).1,
          same ∙ so_far.1,
          omega (arith, left, same, to),
          so_far.3
              ∙ ap (sets room used) comes
              ∙ sets_more room used entry onward
              ∙ ap₂ (λ l n. sets l n onward) (sym put) to,
        )
