-- "The state after record n, found from the nearest mark at or before n, equals the run of n records, and it reports how many it stepped,
-- at most 255"; "the promise holds for marks built from this log and this cold start", which may have other bytes behind them.
-- Proves: lookup-right, lookup-image, lookup-past, lookup-built, lookup-any, lookup-few, lookup-zero.
use mathlib.Core.Path.{◌≡◌, refl, sym, ap, ap₂, ◌∙◌}
use mathlib.Core.Bool.{Bool, true, false}
use mathlib.Core.List.{List, ◌++◌}
use Prim.Native.Nat.{ℕ, ◌+◌, ◌*◌, ◌/◌, ◌%◌, ◌-◌, ◌≤◌, ◌<◌, min}
use native.Mathlib.Nat.{div-add-mod}
use native.Mathlib.Omega.{arith}
use lib.Dec.{eqb, leb}
use borrow.Author.Tests.{leb-true, leb-false}
use lib.ListN.{length, take, drop, length-drop, take-append-drop}
use Rattle.wire.proofs.Tests.{cond-case}
use Rattle.place.specs.declared.limits.Limits.{Limits}
use Rattle.unit.specs.States.{limits_ok, cold}
use Rattle.unit.specs.Runs.{run}
use Rattle.image.specs.Images.{image_a2}
use Rattle.marks.specs.declared.mark.Begun.{Begun}
use Rattle.marks.specs.declared.lookup.Looked.{Looked}
use Rattle.marks.specs.Marks.{whole_records, after_many, begun_refused, begun_at}
use Rattle.marks.specs.Building.{built, built_room}
use Rattle.marks.specs.Lookup.{no_mark, look_refused, mark_for, look_code, looked_up}
use Rattle.marks.specs.LogMarks.{marks_of}
use Rattle.marks.specs.MarkWords.{ran_to}
use Rattle.marks.proofs.Ran.{many-none, many_read, many-run, many-split, many-left}
use Rattle.marks.proofs.Leads.{cold-good, begun-sound, begun-missing, begun-built}
use Rattle.marks.proofs.LookTests.{found_from, looked-refused, looked-code, look-lost, look_stop, look-done, looked-facts}
use Rattle.marks.proofs.Again.Built.{build-facts, built-front}

-- marks built from this log and this cold start stand at the front
module _ (l : Limits) (log marks : List ℕ) (n : ℕ)
    (good : limits_ok l ≡ true)
    (short : length log ≤ 1_048_576)
    (front : take (47 * (whole_records log / 256)) marks ≡ marks_of l log) where
  -- the point that the mark before record n leads to
  before : Begun
  before =
      let t = after_many (cold l) log (256 * (n / 256)) in
      record { code = 0; state = t.state; offset = t.offset }

  whole : marks_of l log ++ drop (47 * (whole_records log / 256)) marks ≡ marks
  whole =
      ap (λ x. x ++ drop (47 * (whole_records log / 256)) marks) (sym front) ∙ take-append-drop (47 * (whole_records log / 256)) marks

  leads : (missing : ℕ) → n / 256 ≤ whole_records log / 256 → begun_at (cold l) log marks (n / 256) missing ≡ before
  unfolding before
  leads missing few =
      let count = whole_records log / 256 in
      ap (λ x. begun_at (cold l) log x (n / 256) missing) (sym whole)
      ∙ begun-built (cold l) log (drop (47 * count) marks) count (n / 256) missing (cold-good l good) short few

  -- the records behind the mark, and what is read of them
  rest_read : n / 256 ≤ whole_records log / 256
      → (after_many before.state (drop before.offset log) (n % 256)).read ≡ min (n % 256) (whole_records log - 256 * (n / 256))
  unfolding before
  rest_read few =
      let left = length-drop before.offset log in
      let others = many-left (cold l) log (256 * (n / 256)) short (omega arith) in
      omega (arith, others, many_read before.state (drop before.offset log) (omega arith) (n % 256))

  found : n ≤ whole_records log
      → looked_up l log marks n
      ≡ record { code = 0; state = (ran_to l log n).state; steps = n % 256; offset = (ran_to l log n).offset }
  unfolding before
  found few =
      let split = many-split (cold l) log (256 * (n / 256)) (n % 256) in
      let all = div-add-mod n 256 in
      let ran = ap (after_many (cold l) log) all ∙ many-run (cold l) log short (cold-good l good) n in
      let read = rest_read (omega arith) in
      look-done l log marks n good short before (leads no_mark (omega arith)) refl (omega arith)
      ∙ ap₂ (λ s k. record { code = 0; state = s; steps = n % 256; offset = k })
      (sym split.0 ∙ ap (λ t. t.state) ran)
      (sym split.1 ∙ ap (λ t. t.offset) ran)

  -- "The state after record n .. equals the run of n records, and it reports how many it stepped", those behind the nearest multiple of 256
  -- promise
  pub lookup-right : n ≤ whole_records log
      → ((looked_up l log marks n).code ≡ 0)
      × ((looked_up l log marks n).state ≡ (run (cold l) log n).tally.state)
      × ((looked_up l log marks n).offset ≡ (run (cold l) log n).tally.offset)
      × ((looked_up l log marks n).steps ≡ n % 256)
      × ((looked_up l log marks n).steps ≤ 255)
      × ((looked_up l log marks n).steps + 256 * (n / 256) ≡ n)
  lookup-right few =
      let is = found few in (
        ap (λ x. x.code) is,
        ap (λ x. x.state) is,
        ap (λ x. x.offset) is,
        ap (λ x. x.steps) is,
        omega (arith, ap (λ x. x.steps) is),
        omega (arith, ap (λ x. x.steps) is),
      )

  -- and so are the 42 bytes of its image
  -- promise
  pub lookup-image : n ≤ whole_records log
      → image_a2 (looked_up l log marks n).state ≡ image_a2 (run (cold l) log n).tally.state
  lookup-image few = ap (λ x. image_a2 x.state) (found few)

  -- "19, the stop comes before record n", or there is no mark for it: where no further mark stands behind the log's own
  -- promise
  pub lookup-past : whole_records log < n
      → length marks < 47 * (whole_records log / 256) + 47
      → looked_up l log marks n ≡ look_refused 19
  unfolding before
  lookup-past beyond few = looked-refused l log marks n 19 (by (leb (n / 256) (whole_records log / 256)) refl) (λ none. omega arith)
    where
      by : (has : Bool) → leb (n / 256) (whole_records log / 256) ≡ has → look_code l log marks n ≡ 19
      by true is =
          let there = leb-true (n / 256) (whole_records log / 256) is in
          look_stop l log marks n good short before (leads no_mark there) refl (omega (arith, rest_read there))
      by false is =
          let gone = leb-false (n / 256) (whole_records log / 256) is in
          look-lost l log marks n good short (begun_refused 19) (begun-missing (cold l) log marks (n / 256) no_mark (omega arith)) 19 refl
          (λ none. omega arith)

-- in the room that they were built into
-- promise
pub lookup-built : (l : Limits) (log room : List ℕ) (n : ℕ)
    → (built l log room).code ≡ 0
    → n ≤ whole_records log
    → ((looked_up l log (built_room l log room) n).code ≡ 0)
    × ((looked_up l log (built_room l log room) n).state ≡ (run (cold l) log n).tally.state)
    × ((looked_up l log (built_room l log room) n).offset ≡ (run (cold l) log n).tally.offset)
    × ((looked_up l log (built_room l log room) n).steps ≡ n % 256)
    × ((looked_up l log (built_room l log room) n).steps ≤ 255)
    × ((looked_up l log (built_room l log room) n).steps + 256 * (n / 256) ≡ n)
lookup-built l log room n made =
    let fine = build-facts l log room made in
    lookup-right l log (built_room l log room) n fine.0 fine.1 (built-front l log room made)

module _ (l : Limits) (log marks : List ℕ) (n : ℕ) where
  -- whatever the marks are: the answer is the run from the state that the mark holds, at the offset that it holds
  -- promise
  pub lookup-any : (looked_up l log marks n).code ≡ 0
      → ((looked_up l log marks n).state
      ≡ (run (mark_for l log marks n).state (drop (mark_for l log marks n).offset log) (n % 256)).tally.state)
      × ((looked_up l log marks n).offset
      ≡ (mark_for l log marks n).offset
      + (run (mark_for l log marks n).state (drop (mark_for l log marks n).offset log) (n % 256)).tally.offset)
      × ((looked_up l log marks n).steps ≡ n % 256)
  lookup-any is =
      let b = mark_for l log marks n in
      let fine = looked-facts l log marks n (sym (looked-code l log marks n) ∙ is) in
      let kept = begun-sound (cold l) log marks (n / 256) no_mark (cold-good l fine.0) (λ none. omega arith) fine.2 in
      let left = length-drop b.offset log in
      let ran = many-run b.state (drop b.offset log) (omega (arith, fine.1)) kept.0 (n % 256) in
      let all = look-done l log marks n fine.0 fine.1 b refl fine.2 fine.3 in (
        ap (λ x. x.state) all ∙ ap (λ t. t.state) ran,
        ap (λ x. x.offset) all ∙ ap (λ t. b.offset + t.offset) ran,
        ap (λ x. x.steps) all,
      )

  -- "at most 255", always
  -- promise
  pub lookup-few : (looked_up l log marks n).steps ≤ 255
  unfolding looked_up
  lookup-few =
      cond-case (λ (x : Looked). x.steps ≤ 255) (eqb (look_code l log marks n) 0) (found_from (mark_for l log marks n) log n)
      (look_refused (look_code l log marks n))
      (λ is. omega arith)
      (λ no. omega arith)

-- no record: the cold start's state, whatever the marks are
-- promise
pub lookup-zero : (l : Limits) (log marks : List ℕ)
    → limits_ok l ≡ true
    → length log ≤ 1_048_576
    → looked_up l log marks 0 ≡ record { code = 0; state = cold l; steps = 0; offset = 0 }
unfolding begun_at
lookup-zero l log marks good short =
    let none = many-none (cold l) log in
    look-done l log marks 0 good short (record { code = 0; state = cold l; offset = 0 }) refl refl (ap (λ t. t.read) none)
    ∙ ap (λ t. record { code = 0; state = t.state; steps = 0; offset = 0 + t.offset }) none
