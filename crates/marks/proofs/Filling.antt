-- The loop that writes marks: what is written and what is still to come stay the whole.
-- Defines: Filling.
-- Proves: filling-first, filling-end, filling-next.
use mathlib.Core.Path.{◌≡◌, refl, sym, ap, ap₂, ◌∙◌}
use mathlib.Core.Bool.{true}
use mathlib.Core.List.{List, ◌++◌, append_assoc}
use Prim.Native.Nat.{ℕ, zero, suc, ◌+◌, ◌*◌, ◌-◌, ◌≤◌, ◌<◌}
use native.Mathlib.Omega.{arith}
use lib.ListN.{length, take, drop, length-append}
use lib.Seq.{sets, sets-eq, length-sets}
use Rattle.wire.specs.Blocks.{blocks}
use Rattle.record.specs.Takes.{longest_log}
use Rattle.unit.specs.States.{sound}
use Rattle.unit.specs.declared.state.State.{State}
use Rattle.unit.specs.declared.run.Tally.{Tally}
use Rattle.marks.specs.Marks.{mark_size, mark_every, mark_of, after_many, marks_from}
use Rattle.marks.proofs.Running.{many-within, many-sound}
use Rattle.marks.proofs.Putting.{sets_more, mark-length}

-- the bytes of so many marks
abbrev bytes : ℕ → State → ℕ → List ℕ → List ℕ
bytes count s at log = blocks (λ mark. mark) (marks_from count s at log)

-- so many marks are written, and with those still to come the room is the same as with all of them behind the marks held
abbrev pub Filling : List ℕ → List ℕ → ℕ → ℕ → State → ℕ → List ℕ → State → ℕ → ℕ → Type 0
Filling log room₀ held count s₀ at₀ room s at i =
    (i ≤ count)
    × (at ≤ length log)
    × (sound s ≡ true)
    × (length room ≡ length room₀)
    × (sets room₀ (mark_size * held) (bytes count s₀ at₀ log) ≡ sets room (mark_size * (held + i)) (bytes (count - i) s at log))

-- none is written yet
pub filling-first : (log room : List ℕ) (held count : ℕ) (s : State) (at : ℕ)
    → at ≤ length log
    → sound s ≡ true
    → Filling log room held count s at room s at 0
filling-first log room held count s at inside good =
    let from : mark_size * held ≡ mark_size * (held + 0) = omega arith in
    let left : count ≡ count - 0 = omega arith in
    (omega arith, inside, good, refl, ap₂ (λ m n. sets room m (bytes n s at log)) from left)

module _ (log : List ℕ) (short : length log ≤ longest_log) where
  -- the marks have 47 bytes each
  bytes-length : (count : ℕ) (s : State) (at : ℕ)
      → at ≤ length log
      → sound s ≡ true
      → length (bytes count s at log) ≡ mark_size * count
  unfolding blocks marks_from
  bytes-length zero s at inside good = refl
  bytes-length (suc count) s at inside good =
      let t : Tally = after_many s (drop at log) mark_every in
      let end = many-within s log at mark_every good short inside in
      let sure = many-sound s log at mark_every good short in
      let first = mark-length (at + t.offset) t.state sure in
      let later = bytes-length count t.state (at + t.offset) end sure in
      length-append (mark_of (at + t.offset) t.state) (bytes count t.state (at + t.offset) log) ∙ omega arith

  module _ (room₀ : List ℕ) (held count : ℕ) (s₀ : State) (at₀ : ℕ)
      (room : List ℕ) (s : State) (at i : ℕ) (so_far : Filling log room₀ held count s₀ at₀ room s at i) where
    -- all of them are written
    pub filling-end : at₀ ≤ length log
        → sound s₀ ≡ true
        → mark_size * (held + count) ≤ length room₀
        → count ≤ i
        → room ≡ take (mark_size * held) room₀ ++ (bytes count s₀ at₀ log ++ drop (mark_size * (held + count)) room₀)
    unfolding blocks marks_from
    filling-end inside good fits done =
        let none : count - i ≡ 0 = omega (arith, so_far.0) in
        let all = bytes count s₀ at₀ log in
        let size = bytes-length count s₀ at₀ inside good in
        let end : mark_size * held + length all ≡ mark_size * (held + count) = omega arith in
        sym (so_far.4 ∙ ap (λ n. sets room (mark_size * (held + i)) (bytes n s at log)) none)
        ∙ sets-eq all room₀ (mark_size * held) (omega arith)
        ∙ append_assoc (take (mark_size * held) room₀) all (drop (mark_size * held + length all) room₀)
        ∙ ap (λ n. take (mark_size * held) room₀ ++ (all ++ drop n room₀)) end

    -- one more is written
    pub filling-next : i < count
        → (t : Tally)
        → t ≡ after_many s (drop at log) mark_every
        → (next : List ℕ)
        → next ≡ sets room (mark_size * (held + i)) (mark_of (at + t.offset) t.state)
        → Filling log room₀ held count s₀ at₀ next t.state (at + t.offset) (i + 1)
    unfolding blocks marks_from
    filling-next below t ran next put =
        let good = so_far.2 in
        let sure = ap (λ (x : Tally). sound x.state) ran ∙ many-sound s log at mark_every good short in
        let end = many-within s log at mark_every good short so_far.1 in
        let mark = mark_of (at + t.offset) t.state in
        let size = mark-length (at + t.offset) t.state sure in
        let more : count - i ≡ suc (count - (i + 1)) = omega arith in
        let to : mark_size * (held + i) + length mark ≡ mark_size * (held + (i + 1)) = omega arith in
        let later = bytes (count - (i + 1)) t.state (at + t.offset) log in (
          omega arith,
          omega (arith, end, ap (λ (x : Tally). x.offset) ran),
          sure,
          ap length put ∙ length-sets room (mark_size * (held + i)) mark ∙ so_far.3,
          so_far.4
              ∙ ap (λ n. sets room (mark_size * (held + i)) (bytes n s at log)) more
              ∙ ap
              (λ (x : Tally).
              sets room (mark_size * (held + i))
              (mark_of (at + x.offset) x.state ++ bytes (count - (i + 1)) x.state (at + x.offset) log))
              (sym ran)
              ∙ sets_more room (mark_size * (held + i)) mark later
              ∙ ap₂ (λ l n. sets l n later) (sym put) to,
        )
