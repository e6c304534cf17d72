-- A lookup by what the tests before it showed: the refusals in their order, then the state after the record.
-- Proves: first-refused, record-inside, stop-refused, record-found.
use mathlib.Core.Path.{◌≡◌, sym, ap, ◌∙◌}
use mathlib.Core.Bool.{true, false, cond}
use mathlib.Core.List.{List}
use Prim.Native.Nat.{ℕ, ◌+◌, ◌-◌, ◌/◌, ◌%◌, ◌≤◌}
use native.Mathlib.Omega.{arith}
use lib.Dec.{eqb}
use lib.ListN.{length, take, drop}
use borrow.Author.Tests.{eq-eqb, ne_eqb}
use Rattle.wire.specs.Refusals.{accepted}
use Rattle.record.specs.Takes.{longest_log}
use Rattle.place.specs.declared.limits.Limits.{Limits}
use Rattle.unit.specs.States.{sound}
use Rattle.unit.specs.Runs.{run}
use Rattle.unit.specs.declared.run.Tally.{Tally}
use Rattle.unit.specs.declared.run.Report.{Report}
use Rattle.marks.specs.Marks.{mark_every}
use Rattle.marks.specs.Beginning.{begins_at}
use Rattle.marks.specs.Lookup.{no_mark, look_refused, mark_for, to_record, look_code, looked_up}
use Rattle.marks.specs.declared.mark.Begun.{Begun}
use Rattle.marks.specs.declared.lookup.Looked.{Looked}
use Rattle.marks.proofs.Running.{run-many, many-within}
use Rattle.marks.proofs.Starting.{begins-good, begins-fine, number-refused, number-last}

module _ (l : Limits) (log marks : List ℕ) (n : ℕ) where
  refuses : (code : ℕ) → look_code l log marks n ≡ code → (code ≡ accepted → ⊥) → look_refused code
      ≡ looked_up l log marks n
  unfolding looked_up
  refuses code is other =
      let test : eqb (look_code l log marks n) accepted ≡ false = ap (λ k. eqb k accepted) is ∙ ne_eqb code accepted other in
      ap look_refused (sym is) ∙ simp test

  -- the number by how many records are read
  abbrev by_read : ℕ → ℕ
  by_read read = cond (eqb read (n % mark_every)) accepted no_mark

  abbrev last : ℕ
  last = by_read (to_record (mark_for l log marks n) log n).read

  -- what the mark for the record leads to
  module _ (b : Begun) (begins : b ≡ begins_at l log marks (n / mark_every) no_mark) where
    -- a refusal on the way there
    pub first-refused : (b.code ≡ accepted → ⊥) → look_refused b.code ≡ looked_up l log marks n
    unfolding look_code
    first-refused other = refuses b.code (number-refused l log marks (n / mark_every) no_mark b begins last other) other

    fine : (b.offset ≤ length log) × (sound b.state ≡ true)
    fine = begins-fine l log marks (n / mark_every) no_mark b begins

    module _ (is : b.code ≡ accepted) where
      good : (length log ≤ longest_log) × (b ≡ mark_for l log marks n)
      good = begins-good l log marks (n / mark_every) no_mark b begins is

      -- the run from there
      module _ (report : Report)
          (ran : report ≡ run b.state (take (length log - b.offset) (drop b.offset log)) (n % mark_every)) where
        goes : report.tally ≡ to_record b log n
        goes = run-many b.state log b.offset (n % mark_every) fine.1 good.0 report ran

        -- the offset reached is in the log
        pub record-inside : b.offset + report.tally.offset ≤ length log
        record-inside =
            let within = many-within b.state log b.offset (n % mark_every) fine.1 good.0 fine.0 in
            omega (arith, ap (λ (t : Tally). t.offset) goes)

        by_read_lem : look_code l log marks n ≡ by_read report.tally.read
        unfolding look_code
        by_read_lem =
            number-last l log marks (n / mark_every) no_mark b begins last is
            ∙ sym (ap by_read (ap (λ (t : Tally). t.read) goes ∙ ap (λ (x : Begun). (to_record x log n).read) good.1))

        -- the stop comes before the record
        pub stop-refused : (report.tally.read ≡ n % mark_every → ⊥) → look_refused no_mark ≡ looked_up l log marks n
        stop-refused other =
            refuses no_mark (by_read_lem ∙ simp (ne_eqb report.tally.read (n % mark_every) other)) (λ none. omega arith)

        -- the record is reached
        pub record-found : report.tally.read ≡ n % mark_every
            → record {
              code = accepted;
              state = report.tally.state;
              steps = n % mark_every;
              offset = b.offset + report.tally.offset;
            }
            ≡ looked_up l log marks n
        unfolding looked_up
        record-found all =
            let code : look_code l log marks n ≡ accepted =
            by_read_lem ∙ simp (eq-eqb report.tally.read (n % mark_every) all) in
            let test = eq-eqb (look_code l log marks n) accepted code in
            ap (λ (t : Tally). found b.offset t) goes
            ∙ ap (λ (x : Begun). found x.offset (to_record x log n)) good.1
            ∙ simp test
          where
            found : ℕ → Tally → Looked
            found from t = record { code = accepted; state = t.state; steps = n % mark_every; offset = from + t.offset }
