-- Our own sheet by what the tests before it showed: the refusals in their order, then the sheet at the front of the room.
-- Defines: Refuses, Counted.
-- Proves: limits-refused, log-refused, size-refused, room-refused, sheet-made.
use mathlib.Core.Path.{◌≡◌, sym, ap, ◌∙◌}
use mathlib.Core.Bool.{true, false, cond}
use mathlib.Core.List.{List, ◌++◌}
use Prim.Native.Nat.{ℕ, ◌≤◌, ◌<◌}
use native.Mathlib.Omega.{arith}
use lib.Dec.{eqb, leb}
use lib.ListN.{length, drop}
use borrow.Author.Tests.{le-leb, lt-leb, eq-eqb, ne_eqb}
use Rattle.wire.specs.Refusals.{accepted, no_room, log_too_long, bad_limits}
use Rattle.wire.proofs.Tests.{cond-case}
use Rattle.record.specs.Takes.{longest_log}
use Rattle.place.specs.declared.limits.Limits.{Limits}
use Rattle.unit.specs.States.{limits_ok, no_limits, cold, cold_start}
use Rattle.unit.specs.declared.start.Started.{Started}
use Rattle.judge.specs.Judging.{longest_sheet}
use Rattle.judge.specs.Producing.{course_sheet, own_course, own_sheet, produce_code, produce_refused, produced, produced_room}
use Rattle.judge.specs.Buffers.{measured}
use Rattle.judge.specs.declared.produce.Produced.{Produced}
use Rattle.judge.specs.declared.produce.Measured.{Measured}
use Rattle.judge.proofs.Courses.{ahead}

-- what answers this refusal answers its number alone, and leaves the room
abbrev pub Refuses : Limits → List ℕ → List ℕ → ℕ → Type 0
Refuses l log room code =
    (r : Produced) → r ≡ produce_refused code → (r ≡ produced l log (length room)) × (room ≡ produced_room l log room)

-- the unit is started, the log is not too long, and its sheet is counted
abbrev pub Counted : Limits → List ℕ → Started → Measured → Type 0
Counted l log started sheet =
    (started ≡ cold_start l)
    × (started.code ≡ accepted)
    × (length log ≤ longest_log)
    × (sheet ≡ measured (ahead started.state log))

refuses : (l : Limits) (log room : List ℕ) (code : ℕ)
    → produce_code l log (length room) ≡ code
    → (code ≡ accepted → ⊥)
    → Refuses l log room code
unfolding produced produced_room
refuses l log room code is other r answer =
    let test : eqb (produce_code l log (length room)) accepted ≡ false = ap (λ n. eqb n accepted) is ∙ ne_eqb code accepted other in
    (answer ∙ ap produce_refused (sym is) ∙ simp test, simp test)

module _ (l : Limits) (started : Started) (starts : started ≡ cold_start l) where
  -- the start by what its limits are
  by-limits : (P : Type 0)
      → (limits_ok l ≡ true → started ≡ record { code = accepted; state = cold l } → P)
      → (limits_ok l ≡ false → started ≡ record { code = bad_limits; state = cold no_limits } → P)
      → P
  unfolding cold_start
  by-limits P ok bad =
      cond-case (λ (x : Started). started ≡ x → P) (limits_ok l)
      (record { code = accepted; state = cold l })
      (record { code = bad_limits; state = cold no_limits })
      ok
      bad
      starts

  begun : started.code ≡ accepted → (limits_ok l ≡ true) × (started.state ≡ cold l)
  begun good =
      by-limits ((limits_ok l ≡ true) × (started.state ≡ cold l))
      (λ ok is. (ok, ap (λ (x : Started). x.state) is))
      (λ bad is. absurd (omega (arith, good, ap (λ (x : Started). x.code) is)))

  module _ (log room : List ℕ) where
    -- the limits are refused
    pub limits-refused : (started.code ≡ accepted → ⊥) → Refuses l log room started.code
    unfolding produce_code
    limits-refused other =
        let answered = produce_code l log (length room) in
        let code : answered ≡ started.code =
        by-limits (answered ≡ started.code)
        (λ ok is. absurd (other (ap (λ (x : Started). x.code) is)))
        (λ bad is. simp bad (sym (ap (λ (x : Started). x.code) is))) in
        refuses l log room started.code code other

    -- the log is too long
    pub log-refused : started.code ≡ accepted → longest_log < length log → Refuses l log room log_too_long
    unfolding produce_code
    log-refused good long =
        refuses l log room log_too_long (simp ((begun good).0, lt-leb (length log) longest_log long)) (λ none. omega arith)

module _ (l : Limits) (log room : List ℕ) (started : Started) (sheet : Measured) (counted : Counted l log started sheet) where
  from-cold : (limits_ok l ≡ true) × (started.state ≡ cold l)
  from-cold = begun l started counted.0 counted.1

  own : sheet ≡ measured (own_course l log)
  own = counted.3 ∙ ap (λ s. measured (ahead s log)) from-cold.1

  size : sheet.size ≡ length (own_sheet l log)
  size = ap (λ (x : Measured). x.size) own

  -- the number that is answered, by how long the sheet is
  by_size : produce_code l log (length room)
      ≡ cond (leb sheet.size longest_sheet) (cond (leb sheet.size (length room)) accepted no_room) log_too_long
  unfolding produce_code
  by_size = simp (from-cold.0, le-leb (length log) longest_log counted.2, size)

  -- the sheet is too long
  pub size-refused : longest_sheet < sheet.size → Refuses l log room log_too_long
  size-refused long = refuses l log room log_too_long (by_size ∙ simp (lt-leb sheet.size longest_sheet long)) (λ none. omega arith)

  module _ (within : sheet.size ≤ longest_sheet) where
    -- the room is too short
    pub room-refused : length room < sheet.size → Refuses l log room no_room
    room-refused few =
        refuses l log room no_room
        (by_size ∙ simp (le-leb sheet.size longest_sheet within, lt-leb sheet.size (length room) few))
        (λ none. omega arith)

    module _ (fits : sheet.size ≤ length room) where
      -- the sheet has room, and is made
      pub sheet-made : (after : List ℕ)
          → after ≡ course_sheet (ahead started.state log) ++ drop (length (course_sheet (ahead started.state log))) room
          → (record { code = accepted; written = sheet.size; records = sheet.records; stop = sheet.stop }
          ≡ produced l log (length room))
          × (after ≡ produced_room l log room)
      unfolding produced produced_room
      sheet-made after put =
          let code : produce_code l log (length room) ≡ accepted =
          by_size ∙ simp (le-leb sheet.size longest_sheet within, le-leb sheet.size (length room) fits) in
          let test = eq-eqb (produce_code l log (length room)) accepted code in (
            ap (λ (x : Measured). record { code = accepted; written = x.size; records = x.records; stop = x.stop }) own ∙ simp test,
            put
                ∙ ap (λ s. course_sheet (ahead s log) ++ drop (length (course_sheet (ahead s log))) room) from-cold.1
                ∙ simp test,
          )
