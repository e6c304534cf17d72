-- Line i of a sheet is that of step i: the header, a line for each record read, the last line, and no more.
-- Proves: sheet-header, sheet-line, sheet-last, sheet-lines.
use mathlib.Core.Path.{◌≡◌, refl, sym, ap, ap₂, subst, ◌∙◌}
use mathlib.Core.Bool.{true}
use mathlib.Core.List.{List, [], ◌∷◌}
use Prim.Native.Nat.{ℕ, zero, suc, ◌+◌, ◌-◌, ◌≤◌, ◌<◌}
use native.Mathlib.Omega.{arith}
use lib.ListN.{length, get_or, take, drop}
use lib.Seq.{get_or-take, get_or-drop}
use Rattle.wire.specs.Bytes.{byte}
use Rattle.record.specs.Takes.{taken}
use Rattle.record.specs.TakeWords.{TakenOk}
use Rattle.record.specs.Readings.{Reading}
use Rattle.record.specs.Takes.{Taken}
use Rattle.record.specs.Takes.{Whole, Stopped, Overlong}
use Rattle.record.proofs.Takes.{taken-ok}
use Rattle.unit.specs.States.{sound, cold_start}
use Rattle.unit.specs.Steps.{Outcome}
use Rattle.unit.specs.OnRecords.{action_room, on_record}
use Rattle.unit.specs.Runs.{Course, applies, course, counted, fresh, go, run}
use Rattle.unit.specs.RunWords.{steps_of, steps}
use Rattle.unit.specs.declared.state.State.{State}
use Rattle.unit.specs.declared.run.Tally.{Tally}
use Rattle.unit.specs.declared.run.Report.{Report}
use Rattle.unit.proofs.Starts.{cold-sound}
use Rattle.unit.proofs.Runs.Starting.{run_sound}
use Rattle.unit.proofs.Runs.Steps.{run-read}
use Rattle.unit.proofs.Runs.Stops.{run-taken}
use Rattle.unit.proofs.Runs.InTurn.{course-next, tallied-offset, go-next, go-ends}
use Rattle.text.specs.Texts.{line_text, end_text}
use Rattle.text.specs.Sheets.{header_text, course_text, sheet_text}
use Rattle.text.specs.Lines.{begun, lines_of}
use Rattle.text.proofs.Sheets.{sheet-runs}
use Rattle.text.proofs.Lines.{lines-applies, lines-count, lines-last}

-- where a run stands after so many records, from where it stood
reached : ℕ → Tally → List ℕ → ℕ
reached i t log = (go i t log).tally.offset - t.offset

-- the line of a step of a run that has read some records
line_at : Tally → List ℕ → List Outcome → Outcome → ℕ → List ℕ
line_at t log os d i =
    line_text (t.read + i + 1) (byte log (reached i t log)) (get_or os i d).code (get_or os i d).actions

none-reached : (t : Tally) (log : List ℕ) → reached 0 t log ≡ 0
unfolding reached
none-reached t log =
    let here = ap (λ u. u.offset) (go-ends t log).0 in
    omega arith

-- a record that is taken, and what comes after it
module _ (b : ℕ) (t : Tally) (log : List ℕ) (k : ℕ) (r : Reading) (e : taken log ≡ Whole k r) where
  o : Outcome
  o = on_record t.state (take k log) action_room

  next : Tally
  next = counted t k o

  later : Course
  later = course b o.state (drop k log)

  is-applies : course (suc b) t.state log ≡ applies (take k log) o later
  unfolding o later
  is-applies = course-next b t.state log k r e

  some_byte : 1 ≤ k
  some_byte = (subst (TakenOk log) e (taken-ok log)).0

  -- the byte where the next record begins
  further : (i : ℕ) → byte (drop k log) (reached i next (drop k log)) ≡ byte log (reached (suc i) t log)
  unfolding reached o next
  further i =
      let goes = go-next i t log k r e in
      let off = ap (λ (x : Report). x.tally.offset) goes.0 in
      let grown = tallied-offset next (course i next.state (drop k log)) in
      let sum : k + ((go i next (drop k log)).tally.offset - next.offset) ≡ (go (suc i) t log).tally.offset - t.offset =
      omega (arith, off, grown, goes.2) in
      get_or-drop k log ((go i next (drop k log)).tally.offset - next.offset) 0 ∙ ap (byte log) sum

  -- its line, and those of the later steps
  line-here : (d : Outcome)
      → get_or (lines_of (course_text t.read (applies (take k log) o later))) 0 []
      ≡ line_at t log (steps_of (applies (take k log) o later)) d 0
  unfolding line_at steps_of
  line-here d =
      let number : t.read + 1 ≡ t.read + 0 + 1 = omega arith in
      let kind = get_or-take k log 0 0 some_byte ∙ ap (byte log) (sym (none-reached t log)) in
      ap (λ ls. get_or ls 0 []) (lines-applies t.read (take k log) o later)
      ∙ ap₂ (λ n b. line_text n b o.code o.actions) number kind

  line-later : (d : Outcome) (i : ℕ)
      → get_or (lines_of (course_text next.read later)) i [] ≡ line_at next (drop k log) (steps_of later) d i
      → get_or (lines_of (course_text t.read (applies (take k log) o later))) (suc i) []
      ≡ line_at t log (steps_of (applies (take k log) o later)) d (suc i)
  unfolding line_at steps_of next counted
  line-later d i then =
      let number : t.read + 1 + i + 1 ≡ t.read + suc i + 1 = omega arith in
      let step = get_or (steps_of later) i d in
      ap (λ ls. get_or ls (suc i) []) (lines-applies t.read (take k log) o later)
      ∙ then
      ∙ ap₂ (λ n b. line_text n b step.code step.actions) number (further i)

-- the line of step i of what a run goes on with
abbrev Told : Tally → List ℕ → Outcome → ℕ → Course → Type 0
Told t log d i c = i < length (steps_of c) → get_or (lines_of (course_text t.read c)) i [] ≡ line_at t log (steps_of c) d i

line-at : (b i : ℕ) (t : Tally) (log : List ℕ) (d : Outcome) → Told t log d i (course b t.state log)
unfolding course o next later counted steps_of
line-at zero i t [] d = λ below. absurd (omega arith)
line-at zero i t (kind ∷ rest) d = λ below. absurd (omega arith)
line-at (suc b) i t log d = by (taken log) refl i (λ j u rest. line-at b j u rest d)
  where
    by : (front : Taken)
        → taken log ≡ front
        → (i : ℕ)
        → ((j : ℕ) (u : Tally) (rest : List ℕ) → Told u rest d j (course b u.state rest))
        → Told t log d i (course (suc b) t.state log)
    by (Stopped stop) e i then = rw e (λ below. absurd (omega arith))
    by (Overlong r) e i then = rw e (λ below. absurd (omega arith))
    by (Whole k r) e zero then = subst (Told t log d 0) (sym (is-applies b t log k r e)) (λ below. line-here b t log k r e d)
    by (Whole k r) e (suc i) then =
        subst (Told t log d (suc i)) (sym (is-applies b t log k r e))
        (λ below. line-later b t log k r e d i (then i (next b t log k r e) (drop k log) (omega arith)))

-- the sheet of a run that begins cold
module _ (input : List ℕ) (short : length input ≤ 4096) where
  -- "prints a header": `rec kind code actions`
  -- promise
  pub sheet-header :
      get_or (lines_of (sheet_text input)) 0 []
      ≡ 114 ∷ 101 ∷ 99 ∷ 32 ∷ 107 ∷ 105 ∷ 110 ∷ 100 ∷ 32
      ∷ 99 ∷ 111 ∷ 100 ∷ 101 ∷ 32 ∷ 97 ∷ 99 ∷ 116 ∷ 105 ∷ 111 ∷ 110 ∷ 115 ∷ 10 ∷ []
  unfolding lines_of begun
  sheet-header = ap (λ text. get_or (lines_of text) 0 []) (sheet-runs input short)

  module _ (s : State) (cold : s ≡ (cold_start (record { lowest = 1; highest = 2; tries = 3 })).state) where
    good : sound s ≡ true
    good = ap sound cold ∙ cold-sound (record { lowest = 1; highest = 2; tries = 3 })

    goes : (b : ℕ) → go b (fresh s) input ≡ run s input b
    goes b = run_sound s input b (omega arith) good

    counts : (run s input 4096).tally.read ≡ length (steps 4096 s input)
    counts = run-read s input 4096 (run-taken s input 4096 (omega arith) good)

    its-lines : lines_of (sheet_text input) ≡ header_text ∷ lines_of (course_text 0 (course 4096 s input))
    unfolding lines_of begun
    its-lines =
        ap lines_of (sheet-runs input short)
        ∙ ap (λ x. header_text ∷ lines_of (course_text 0 (course 4096 x input))) (sym cold)

    -- "one line a record (number from 1, kind, 0 or refusal, each action ..)": of record i its number, the byte where the run of the i
    -- records before it came to, and what its step gave
    -- promise
    pub sheet-line : (i : ℕ) (none : Outcome)
        → i < (run s input 4096).tally.read
        → get_or (lines_of (sheet_text input)) (i + 1) []
        ≡ line_text (i + 1) (byte input (run s input i).tally.offset) (get_or (steps 4096 s input) i none).code
        (get_or (steps 4096 s input) i none).actions
    unfolding line_at reached
    sheet-line i none below =
        let step = get_or (steps 4096 s input) i none in
        let number : 0 + i + 1 ≡ i + 1 = omega arith in
        let all : (go i (fresh s) input).tally.offset - 0 ≡ (go i (fresh s) input).tally.offset = omega arith in
        let kind = ap (byte input) (all ∙ ap (λ (r : Report). r.tally.offset) (goes i)) in
        let next : i + 1 ≡ suc i = omega arith in
        ap₂ (λ ls n. get_or ls n []) its-lines next
        ∙ line-at 4096 i (fresh s) input none (omega (arith, counts))
        ∙ ap₂ (λ n k. line_text n k step.code step.actions) number kind

    -- "and `end`, stop, records read", as the run answers them
    -- promise
    pub sheet-last :
        get_or (lines_of (sheet_text input)) ((run s input 4096).tally.read + 1) []
        ≡ end_text (run s input 4096).stop (run s input 4096).tally.read
    sheet-last =
        let place : (run s input 4096).tally.read + 1 ≡ suc (length (steps 4096 s input)) = omega (arith, counts) in
        ap₂ (λ ls n. get_or ls n []) its-lines place
        ∙ lines-last (fresh s) (course 4096 s input)
        ∙ ap (λ (r : Report). end_text r.stop r.tally.read) (goes 4096)

    -- and no more
    -- promise
    pub sheet-lines : length (lines_of (sheet_text input)) ≡ (run s input 4096).tally.read + 2
    sheet-lines =
        let lines = ap length its-lines ∙ ap suc (lines-count 0 (course 4096 s input)) in
        omega (arith, counts)
