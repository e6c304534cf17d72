-- The loop that counts a sheet: what is counted and what is still to come stay the whole.
-- Defines: Measuring.
-- Proves: measuring-end, measuring-next.
use mathlib.Core.Path.{◌≡◌, sym, ap, ◌∙◌}
use mathlib.Core.Logic.{◌⊎◌}
use mathlib.Core.List.{List}
use Prim.Native.Nat.{ℕ, ◌+◌, ◌*◌, ◌≤◌}
use native.Mathlib.Nat.{add-zero}
use native.Mathlib.Omega.{arith}
use lib.ListN.{length, take, drop, length-append}
use Rattle.record.specs.Takes.{longest_log, take_one}
use Rattle.record.specs.Readings.{Reading}
use Rattle.record.specs.Takes.{Whole, Stopped, Overlong}
use Rattle.unit.specs.OnRecords.{action_room, action_size, on_record}
use Rattle.unit.specs.Forms.{most_actions, stepped}
use Rattle.unit.specs.declared.state.State.{State}
use Rattle.unit.specs.declared.answer.Stepped.{Stepped}
use Rattle.judge.specs.Sheets.{entry_of}
use Rattle.judge.specs.FrontWords.{answer_size}
use Rattle.judge.specs.Producing.{course_sheet, course_records, course_stop}
use Rattle.judge.specs.Buffers.{measured}
use Rattle.judge.proofs.Courses.{ahead, stop-ahead, whole_part, step-ahead}
use Rattle.judge.proofs.Entries.{answer-few, entry_length}

-- the most bytes of a sheet for each byte of its log: a record of one byte, its answer, and the most actions
abbrev most_bytes : ℕ
most_bytes = 1 + (answer_size + action_size * most_actions)

-- with what is still to come the sheet is as long as from the start, and has as many records and the same stop
abbrev pub Measuring : List ℕ → State → State → ℕ → ℕ → ℕ → Type 0
Measuring log s₀ s at size records =
    (at ≤ length log)
    × (records ≤ at)
    × (size ≤ most_bytes * at)
    × (length (course_sheet (ahead s₀ log)) ≡ size + length (course_sheet (ahead s (drop at log))))
    × (course_records (ahead s₀ log) ≡ records + course_records (ahead s (drop at log)))
    × (course_stop (ahead s₀ log) ≡ course_stop (ahead s (drop at log)))

module _ (log : List ℕ) (short : length log ≤ longest_log) (s₀ s : State) (at size records : ℕ)
    (so_far : Measuring log s₀ s at size records) where
  -- at a stop all is counted
  pub measuring-end : (stop : ℕ)
      → (take_one (drop at log) ≡ Stopped stop) ⊎ (take_one (drop at log) ≡ Overlong stop)
      → record { size = size; records = records; stop = stop } ≡ measured (ahead s₀ log)
  unfolding course_sheet course_records course_stop
  measuring-end stop e =
      let last = stop-ahead log short s at stop e in
      let bytes = so_far.3 ∙ ap (λ x. size + length (course_sheet x)) last ∙ add-zero size in
      let all = so_far.4 ∙ ap (λ x. records + course_records x) last ∙ add-zero records in
      let end = so_far.5 ∙ ap course_stop last in
      sym (λ i. record { size = bytes i; records = all i; stop = end i })

  -- behind a whole record and what follows it the sheet goes on
  pub measuring-next : (k : ℕ) (r : Reading)
      → take_one (drop at log) ≡ Whole k r
      → (bytes : List ℕ)
      → bytes ≡ take k (drop at log)
      → (answer : Stepped)
      → answer ≡ stepped (on_record s bytes action_room)
      → Measuring log s₀ answer.state (at + k) (size + (k + answer_size + action_size * answer.count)) (records + 1)
  unfolding course_sheet course_records course_stop
  measuring-next k r e bytes lent answer made =
      let comes = step-ahead log short s at k r e bytes lent answer made in
      let part = whole_part log short s at k r e in
      let long : length bytes ≡ k = ap length lent ∙ part.2 in
      let few = answer-few s bytes answer made in
      let entry = entry_length s bytes answer made in
      let onward = ahead answer.state (drop (at + k) log) in
      let joined = length-append (entry_of bytes (on_record s bytes action_room)) (course_sheet onward) in (
        part.1,
        omega (arith, part.0, so_far.1),
        omega (arith, part.0, few, so_far.2),
        so_far.3 ∙ ap (λ x. size + length (course_sheet x)) comes ∙ omega (arith, joined, entry, long),
        so_far.4 ∙ ap (λ x. records + course_records x) comes ∙ omega arith,
        so_far.5 ∙ ap course_stop comes,
      )
