-- The marks of a log, one after the other.
-- Proves: marks-length, marks-at, marks-join, marks-longer.
use mathlib.Core.Path.{◌≡◌, refl, sym, ap, ap₂, ◌∙◌}
use mathlib.Core.List.{List, [], ◌∷◌, ◌++◌}
use Prim.Native.Nat.{ℕ, zero, suc, ◌+◌, ◌*◌, ◌≤◌, ◌<◌}
use native.Mathlib.Omega.{arith}
use native.Mathlib.Nat.{add-zero}
use lib.ListN.{length, get_or, drop, length-append, length-drop}
use lib.Seq.{drop-drop, drop-append-le}
use Rattle.record.specs.Takes.{longest_log}
use Rattle.unit.specs.declared.state.State.{State}
use Rattle.unit.specs.declared.run.Tally.{Tally}
use Rattle.marks.specs.Marks.{mark_every, mark_of, whole_records, after_many, marks_from}
use Rattle.marks.proofs.Ran.{many-none, many-within, many-longer, many-split, many-left}

pub marks-length : (count : ℕ) (s : State) (at : ℕ) (log : List ℕ) → length (marks_from count s at log) ≡ count
unfolding marks_from
marks-length zero s at log = refl
marks-length (suc count) s at log =
    let t = after_many s (drop at log) mark_every in
    ap suc (marks-length count t.state (at + t.offset) log)

-- a run that goes on from where one of m records stands
onward : (s : State) (at m b : ℕ) (log : List ℕ)
    → ((after_many (after_many s (drop at log) m).state (drop (at + (after_many s (drop at log) m).offset) log) b).state
    ≡ (after_many s (drop at log) (m + b)).state)
    × (at + (after_many s (drop at log) m).offset
    + (after_many (after_many s (drop at log) m).state (drop (at + (after_many s (drop at log) m).offset) log) b).offset
    ≡ at + (after_many s (drop at log) (m + b)).offset)
onward s at m b log =
    let t = after_many s (drop at log) m in
    let split = many-split s (drop at log) m b in
    let rest = drop-drop t.offset at log in (
      ap (λ l. (after_many t.state l b).state) (sym rest) ∙ sym split.0,
      omega (arith, ap (λ l. (after_many t.state l b).offset) rest, split.1),
    )

-- mark i + 1 stands after 256 * (i + 1) records
pub marks-at : (i count : ℕ) (s : State) (at : ℕ) (log : List ℕ)
    → i < count
    → get_or (marks_from count s at log) i []
    ≡ mark_of (at + (after_many s (drop at log) (256 * suc i)).offset) (after_many s (drop at log) (256 * suc i)).state
unfolding marks_from
marks-at i zero s at log below = absurd (omega arith)
marks-at zero (suc count) s at log below = refl
marks-at (suc i) (suc count) s at log below =
    let t = after_many s (drop at log) mark_every in
    let on = onward s at 256 (256 * suc i) log in
    let all : 256 + 256 * suc i ≡ 256 * suc (suc i) = omega arith in
    marks-at i count t.state (at + t.offset) log (omega arith)
    ∙ ap₂ mark_of on.1 on.0
    ∙ ap (λ n. mark_of (at + (after_many s (drop at log) n).offset) (after_many s (drop at log) n).state) all

-- a + b marks are a marks, and then b from there
pub marks-join : (a b : ℕ) (s : State) (at : ℕ) (log : List ℕ)
    → marks_from (a + b) s at log
    ≡ marks_from a s at log
    ++ marks_from b (after_many s (drop at log) (256 * a)).state (at + (after_many s (drop at log) (256 * a)).offset) log
unfolding marks_from
marks-join zero b s at log =
    let none = many-none s (drop at log) in
    let all : 0 + b ≡ b = omega arith in
    ap (λ n. marks_from n s at log) all
    ∙ ap (λ n. marks_from b s n log) (sym (add-zero at))
    ∙ ap (λ (t : Tally). marks_from b t.state (at + t.offset) log) (sym none)
marks-join (suc a) b s at log =
    let t = after_many s (drop at log) mark_every in
    let all : suc a + b ≡ suc (a + b) = omega arith in
    let steps : 256 + 256 * a ≡ 256 * suc a = omega arith in
    let on = onward s at 256 (256 * a) log in
    ap (λ n. marks_from n s at log) all
    ∙ ap (◌∷◌ (mark_of (at + t.offset) t.state))
    (marks-join a b t.state (at + t.offset) log
    ∙ ap (◌++◌ (marks_from a t.state (at + t.offset) log))
    (ap₂ (λ u n. marks_from b u n log) on.0 on.1
    ∙ ap (λ n. marks_from b (after_many s (drop at log) n).state (at + (after_many s (drop at log) n).offset) log) steps))

-- the marks of the records before the stop stay where bytes are appended
pub marks-longer : (count : ℕ) (s : State) (at : ℕ) (log more : List ℕ)
    → length (log ++ more) ≤ longest_log
    → at ≤ length log
    → 256 * count ≤ whole_records (drop at log)
    → marks_from count s at (log ++ more) ≡ marks_from count s at log
unfolding marks_from
marks-longer zero s at log more short within few = refl
marks-longer (suc count) s at log more short within few =
    let rest = drop at log in
    let t = after_many s rest mark_every in
    let size = length-append log more in
    let left = length-drop at log in
    let cut = drop-append-le at log more within in
    let long = ap length cut in
    let joined = length-append rest more in
    let same = ap (λ l. after_many s l 256) cut ∙ many-longer s rest more 256 (omega arith) (omega arith) in
    let others = many-left s rest 256 (omega arith) (omega arith) in
    let behind = ap whole_records (drop-drop t.offset at log) in
    let standing = many-within s rest (omega arith) 256 in
    ap (λ (u : Tally). mark_of (at + u.offset) u.state ∷ marks_from count u.state (at + u.offset) (log ++ more)) same
    ∙ ap (◌∷◌ (mark_of (at + t.offset) t.state))
    (marks-longer count t.state (at + t.offset) log more short (omega arith) (omega arith))
