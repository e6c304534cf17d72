-- The run of so many records: what it reads, where it stands, and that it goes on from there.
-- Proves: many-none, many_read, many-within, many-bytes, many-run, many-sound, many-longer, many-split, many-left.
use mathlib.Core.Path.{◌≡◌, refl, sym, ap, ap₂, subst, ◌∙◌}
use mathlib.Core.Logic.{inl, inr}
use mathlib.Core.Bool.{true}
use mathlib.Core.List.{List, ◌++◌}
use Prim.Native.Nat.{ℕ, zero, suc, ◌+◌, ◌-◌, ◌≤◌, min}
use native.Mathlib.Omega.{arith}
use native.Mathlib.Nat.{add-zero}
use lib.ListN.{length, take, drop, length-append, length-drop}
use lib.Seq.{take-append-le, drop-append-le}
use Rattle.record.specs.Takes.{longest_log, take_one}
use Rattle.record.specs.Readings.{Reading}
use Rattle.record.specs.Takes.{Taken}
use Rattle.record.specs.Takes.{Whole, Stopped, Overlong}
use Rattle.record.proofs.Takes.{taken-short}
use Rattle.unit.specs.States.{sound}
use Rattle.unit.specs.OnRecords.{action_room, on_record}
use Rattle.unit.specs.Runs.{Course, stops, applies, course, counted, fresh, tallied, go, run}
use Rattle.unit.specs.declared.state.State.{State}
use Rattle.unit.specs.declared.run.Tally.{Tally}
use Rattle.unit.proofs.Sound.{on_record-sound}
use Rattle.unit.proofs.Runs.Takes.{go-refused}
use Rattle.unit.proofs.Runs.Starting.{run_sound}
use Rattle.unit.proofs.Runs.InTurn.{counted-offset, counted-read, some, go-suc, go-ends, go-split}
use Rattle.marks.specs.Marks.{records_in, whole_records, after_many}
use Rattle.marks.proofs.Records.{front-whole, front-longer, records-next, records-stop, records-min, whole-few}

-- a fact about the rest of a run, by what stands at the front: it goes on behind a whole record, and stops at anything else
module _ (P : ℕ → Tally → List ℕ → Tally → Type 0)
    (none : (t : Tally) (log : List ℕ) → P 0 t log t)
    (stop : (b : ℕ) (t : Tally) (log : List ℕ) → records_in (suc b) log ≡ 0 → P (suc b) t log t)
    (next : (b : ℕ) (t : Tally) (log : List ℕ) (k : ℕ) (r : Reading) (v : Tally)
    → take_one log ≡ Whole k r
    → P b (counted t k (on_record t.state (take k log) action_room)) (drop k log) v
    → P (suc b) t log v) where
  go-along : (b : ℕ) (t : Tally) (log : List ℕ) → length log ≤ longest_log → P b t log (go b t log).tally
  go-along zero t log short = subst (P 0 t log) (sym (go-ends t log).0) (none t log)
  go-along (suc b) t log short = by (take_one log) refl (go-along b)
    where
      by : (front : Taken)
          → take_one log ≡ front
          → ((u : Tally) (l : List ℕ) → length l ≤ longest_log → P b u l (go b u l).tally)
          → P (suc b) t log (go (suc b) t log).tally
      by (Whole k r) e later =
          let u = counted t k (on_record t.state (take k log) action_room) in
          let size = length-drop k log in
          subst (P (suc b) t log) (sym (ap (λ x. x.tally) (go-suc b t log k r (taken-short log short ∙ e))))
          (next b t log k r (go b u (drop k log)).tally e (later u (drop k log) (omega arith)))
      by (Stopped code) e later =
          subst (P (suc b) t log) (sym ((go-ends t log).1 b code (taken-short log short ∙ e)).0)
          (stop b t log (records-stop b log code (inl e)))
      by (Overlong code) e later =
          subst (P (suc b) t log) (ap (λ x. x.tally) (go-refused t (suc b) (some b) log code (taken-short log short ∙ e)))
          (stop b t log (records-stop b log code (inr e)))

-- the records read are those before the stop, up to the budget
go-read : (b : ℕ) (t : Tally) (log : List ℕ) → length log ≤ longest_log → (go b t log).tally.read ≡ t.read + records_in b log
unfolding records_in
go-read =
    go-along (λ b t log v. v.read ≡ t.read + records_in b log)
    (λ t log. omega arith)
    (λ b t log is. omega arith)
    (λ b t log k r v e later.
    let o = on_record t.state (take k log) action_room in
    omega (arith, counted-read t k o, records-next b log k r e))

-- a run stays within its log
go-within : (b : ℕ) (t : Tally) (log : List ℕ) → length log ≤ longest_log → (go b t log).tally.offset ≤ t.offset + length log
go-within =
    go-along (λ b t log v. v.offset ≤ t.offset + length log)
    (λ t log. omega arith)
    (λ b t log is. omega arith)
    (λ b t log k r v e later.
    let o = on_record t.state (take k log) action_room in
    let ok = front-whole log k r e in
    omega (arith, counted-offset t k o, length-drop k log, ok.1))

-- each record that is read has a byte of its own
go-bytes : (b : ℕ) (t : Tally) (log : List ℕ)
    → length log ≤ longest_log
    → (go b t log).tally.read + t.offset ≤ (go b t log).tally.offset + t.read
go-bytes =
    go-along (λ b t log v. v.read + t.offset ≤ v.offset + t.read)
    (λ t log. omega arith)
    (λ b t log is. omega arith)
    (λ b t log k r v e later.
    let o = on_record t.state (take k log) action_room in
    let ok = front-whole log k r e in
    omega (arith, counted-offset t k o, counted-read t k o, ok.0))

go-sound : (b : ℕ) (t : Tally) (log : List ℕ)
    → length log ≤ longest_log
    → sound t.state ≡ true
    → sound (go b t log).tally.state ≡ true
unfolding counted
go-sound =
    go-along (λ b t log v. sound t.state ≡ true → sound v.state ≡ true)
    (λ t log good. good)
    (λ b t log is good. good)
    (λ b t log k r v e later good. later (on_record-sound t.state (take k log) action_room good))

-- what is appended changes nothing before the stop
go-longer : (more : List ℕ) (b : ℕ) (t : Tally) (log : List ℕ)
    → length log ≤ longest_log
    → length (log ++ more) ≤ longest_log
    → b ≤ records_in b log
    → (go b t (log ++ more)).tally ≡ (go b t log).tally
go-longer more =
    go-along
    (λ b t log v. length (log ++ more) ≤ longest_log → b ≤ records_in b log → (go b t (log ++ more)).tally ≡ v)
    (λ t log short less. (go-ends t (log ++ more)).0)
    (λ b t log is short less. absurd (omega arith))
    (λ b t log k r v e later short less.
    let ok = front-whole log k r e in
    let whole = taken-short (log ++ more) short ∙ front-longer log more k r e in
    let front = take-append-le k log more ok.1 in
    let behind = drop-append-le k log more ok.1 in
    let size = ap length behind in
    let left = length-drop k (log ++ more) in
    let fewer = records-next b log k r e in
    ap (λ x. x.tally) (go-suc b t (log ++ more) k r whole)
    ∙ ap₂ (λ l m. (go b (counted t k (on_record t.state l action_room)) m).tally) front behind
    ∙ later (omega arith) (omega arith))

-- the run of so many records
module _ (s : State) (log : List ℕ) where
  pub many-none : after_many s log 0 ≡ fresh s
  many-none = (go-ends (fresh s) log).0

  module _ (short : length log ≤ longest_log) where
    pub many_read : (n : ℕ) → (after_many s log n).read ≡ min n (whole_records log)
    many_read n = omega (arith, go-read n (fresh s) log short, records-min n log)

    pub many-within : (n : ℕ) → (after_many s log n).offset ≤ length log
    many-within n = omega (arith, go-within n (fresh s) log short)

    pub many-bytes : (n : ℕ) → (after_many s log n).read ≤ (after_many s log n).offset
    many-bytes n = omega (arith, go-bytes n (fresh s) log short)

    module _ (good : sound s ≡ true) (n : ℕ) where
      pub many-run : after_many s log n ≡ (run s log n).tally
      many-run = ap (λ r. r.tally) (run_sound s log n short good)

      pub many-sound : sound (after_many s log n).state ≡ true
      many-sound = go-sound n (fresh s) log short good

  pub many-longer : (more : List ℕ) (n : ℕ)
      → length (log ++ more) ≤ longest_log
      → n ≤ whole_records log
      → after_many s (log ++ more) n ≡ after_many s log n
  many-longer more n short less =
      let size = length-append log more in
      go-longer more n (fresh s) log (omega arith) short (omega (arith, records-min n log))

-- two runs of one course from one state: what they had counted before stays apart
tallied-apart : (t u : Tally) (c : Course)
    → t.state ≡ u.state
    → ((tallied t c).tally.state ≡ (tallied u c).tally.state)
    × ((tallied t c).tally.offset + u.offset ≡ (tallied u c).tally.offset + t.offset)
    × ((tallied t c).tally.read + u.read ≡ (tallied u c).tally.read + t.read)
unfolding tallied counted
tallied-apart t u (stops stop) same = (same, omega arith, omega arith)
tallied-apart t u (applies bytes o rest) same =
    let later = tallied-apart (counted t (length bytes) o) (counted u (length bytes) o) rest refl in
    (later.0, omega (arith, later.1), omega (arith, later.2))

-- the run of m + b records is the run of m, then of b from there
pub many-split : (s : State) (log : List ℕ) (m b : ℕ)
    → ((after_many s log (m + b)).state
    ≡ (after_many (after_many s log m).state (drop (after_many s log m).offset log) b).state)
    × ((after_many s log (m + b)).offset
    ≡ (after_many s log m).offset + (after_many (after_many s log m).state (drop (after_many s log m).offset log) b).offset)
    × ((after_many s log (m + b)).read
    ≡ (after_many s log m).read + (after_many (after_many s log m).state (drop (after_many s log m).offset log) b).read)
many-split s log m zero =
    let t = after_many s log m in
    let none = many-none t.state (drop t.offset log) in
    let whole = ap (after_many s log) (add-zero m) in (
      ap (λ x. x.state) whole ∙ sym (ap (λ x. x.state) none),
      omega (arith, ap (λ x. x.offset) whole, ap (λ x. x.offset) none),
      omega (arith, ap (λ x. x.read) whole, ap (λ x. x.read) none),
    )
many-split s log m (suc b) =
    let t = after_many s log m in
    let rest = drop t.offset log in
    let here : t.offset - 0 ≡ t.offset = omega arith in
    let whole =
    ap (λ r. r.tally) (go-split m b (fresh s) log)
    ∙ ap (λ k. (go (suc b) t (drop k log)).tally) here in
    let apart = tallied-apart t (fresh t.state) (course (suc b) t.state rest) refl in (
      ap (λ x. x.state) whole ∙ apart.0,
      omega (arith, ap (λ x. x.offset) whole, apart.1),
      omega (arith, ap (λ x. x.read) whole, apart.2),
    )

-- the records behind m of them are the others
pub many-left : (s : State) (log : List ℕ) (m : ℕ)
    → length log ≤ longest_log
    → m ≤ whole_records log
    → m + whole_records (drop (after_many s log m).offset log) ≡ whole_records log
many-left s log m short less =
    let t = after_many s log m in
    let rest = drop t.offset log in
    let size = length-drop t.offset log in
    let b = length log in
    let read = (many-split s log m b).2 in
    let small : length rest ≤ longest_log = omega arith in
    omega (
      arith,
      many_read s log short m,
      many_read s log short (m + b),
      many_read t.state rest small b,
      whole-few rest,
      whole-few log,
    )
