-- "Marks cover the records before the run's stop": the whole records that a log begins with are those that its run reads, and a mark
-- stands after each 256th of them.
-- Proves: records-run, records-within, records-past, records-stop, marks-count, marks-bytes, mark-at, mark-stands.
use mathlib.Core.Path.{◌≡◌, sym, ap, ◌∙◌}
use mathlib.Core.Logic.{⊎_elim}
use mathlib.Core.Bool.{true}
use mathlib.Core.List.{List, [], ◌∷◌, append-nil}
use Prim.Native.Nat.{ℕ, suc, ◌*◌, ◌-◌, ◌/◌, ◌≤◌, ◌<◌}
use native.Mathlib.Nat.{zero-add}
use native.Mathlib.Omega.{arith}
use lib.ListN.{length, get_or, take, drop, length-drop}
use Rattle.place.specs.declared.limits.Limits.{Limits}
use Rattle.unit.specs.States.{limits_ok, sound, cold}
use Rattle.unit.specs.Runs.{run}
use Rattle.unit.specs.RunWords.{StopsBy}
use Rattle.unit.specs.declared.state.State.{State}
use Rattle.unit.specs.declared.run.Report.{Report}
use Rattle.unit.proofs.Runs.Stops.{run-stops, run-taken}
use Rattle.marks.specs.Marks.{mark_of, whole_records, after_many, marks_from, mark_count}
use Rattle.marks.specs.LogMarks.{marks_of}
use Rattle.marks.specs.MarkWords.{ran_to}
use Rattle.marks.proofs.Records.{whole-few}
use Rattle.marks.proofs.Ran.{many_read, many-bytes, many-run}
use Rattle.marks.proofs.MarkRows.{marks-length, marks-at}
use Rattle.marks.proofs.MarkBytes.{marks-size, mark-block}
use Rattle.marks.proofs.Leads.{cold-good}

module _ (s : State) (log : List ℕ)
    (good : sound s ≡ true)
    (short : length log ≤ 1_048_576) where
  -- "the records before the run's stop": the run over the whole log reads them
  -- promise
  pub records-run : (run s log (length log)).tally.read ≡ whole_records log
  records-run =
      let ran = many-run s log short good (length log) in
      omega (arith, ap (λ t. t.read) ran, many_read s log short (length log), whole-few log)

  -- a run of no more of them reads as many as it is given
  -- promise
  pub records-within : (n : ℕ) → n ≤ whole_records log → (run s log n).tally.read ≡ n
  records-within n few = omega (arith, ap (λ t. t.read) (many-run s log short good n), many_read s log short n)

  -- and a run of more reads no more
  -- promise
  pub records-past : (n : ℕ) → whole_records log ≤ n → (run s log n).tally.read ≡ whole_records log
  records-past n many = omega (arith, ap (λ t. t.read) (many-run s log short good n), many_read s log short n)

  -- the run over the whole log stops there by itself, and not for its budget, stop 1
  -- promise
  pub records-stop : (run s log (length log)).stop ≡ 1 → ⊥
  records-stop =
      let t = ran.tally in
      let same = many-run s log short good (length log) in
      let bytes = many-bytes s log short (length log) in
      let own : t.read ≤ t.offset = omega (arith, ap (λ u. u.read) same, ap (λ u. u.offset) same) in
      by (drop t.offset log) (length-drop t.offset log) own
      (run-stops s log (length log) (run-taken s log (length log) short good))
    where
      ran : Report
      ran = run s log (length log)

      by : (rest : List ℕ)
          → length rest ≡ length log - ran.tally.offset
          → ran.tally.read ≤ ran.tally.offset
          → StopsBy (length log) ran.tally.read ran.stop rest
          → ran.stop ≡ 1
          → ⊥
      by [] size own stands = λ is. omega arith
      by (kind ∷ rest) size own stands =
          ⊎_elim
          (λ spent is. omega (arith, size, spent.1))
          (λ left. ⊎_elim (λ other is. omega (arith, other.0)) (λ other is. omega (arith, other.0)) left.1)
          stands

module _ (l : Limits) (log : List ℕ) where
  -- "after each 256th record": as many marks as there are 256 records
  -- promise
  pub marks-count : length (marks_from (mark_count 0 log) (cold l) 0 log) ≡ whole_records log / 256
  marks-count = marks-length (mark_count 0 log) (cold l) 0 log

  module _ (good : limits_ok l ≡ true) (short : length log ≤ 1_048_576) where
    -- "47 bytes in all"
    -- promise
    pub marks-bytes : length (marks_of l log) ≡ 47 * (whole_records log / 256)
    marks-bytes = marks-size (whole_records log / 256) (cold l) 0 log short (cold-good l good)

    module _ (i : ℕ) (below : i < whole_records log / 256) where
      -- mark i + 1 holds the offset and the state of the run of 256 * (i + 1) records
      -- promise
      pub mark-at :
          get_or (marks_from (whole_records log / 256) (cold l) 0 log) i []
          ≡ mark_of (ran_to l log (256 * suc i)).offset (ran_to l log (256 * suc i)).state
      mark-at =
          let ran = many-run (cold l) log short (cold-good l good) (256 * suc i) in
          marks-at i (whole_records log / 256) (cold l) 0 log below
          ∙ ap (λ n. mark_of n (after_many (cold l) log (256 * suc i)).state) (zero-add (after_many (cold l) log (256 * suc i)).offset)
          ∙ ap (λ t. mark_of t.offset t.state) ran

      -- and stands at byte 47 * i
      -- promise
      pub mark-stands :
          take 47 (drop (47 * i) (marks_of l log))
          ≡ mark_of (ran_to l log (256 * suc i)).offset (ran_to l log (256 * suc i)).state
      mark-stands =
          ap (λ x. take 47 (drop (47 * i) x)) (sym (append-nil (marks_of l log)))
          ∙ mark-block (whole_records log / 256) (cold l) 0 log short (cold-good l good) [] i below
          ∙ mark-at
