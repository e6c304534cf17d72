-- Building: the marks of a log stand at the front of the room lent for them; "10, room lent for marks too small". How many there are
-- hangs on the lengths of the records alone.
-- Proves: build-ten, build-made, build-facts, build-alone, built-front.
use mathlib.Core.Path.{◌≡◌, sym, ap, ◌∙◌}
use mathlib.Core.Bool.{true}
use mathlib.Core.List.{List, ◌++◌}
use Prim.Native.Nat.{ℕ, ◌*◌, ◌/◌, ◌≤◌, ◌<◌}
use native.Mathlib.Omega.{arith}
use lib.ListN.{length, take, drop}
use lib.Seq.{take_at}
use Rattle.place.specs.declared.limits.Limits.{Limits}
use Rattle.unit.specs.States.{limits_ok}
use Rattle.marks.specs.Marks.{whole_records}
use Rattle.marks.specs.Building.{built, built_room}
use Rattle.marks.specs.LogMarks.{marks_of}
use Rattle.marks.proofs.ExtendTests.{extended-refused, extended-code}
use Rattle.marks.proofs.Growing.{build-small, build-done, built-facts}
use Rattle.marks.proofs.Again.Covered.{marks-bytes}

module _ (l : Limits) (log room : List ℕ) where
  module _ (good : limits_ok l ≡ true) (short : length log ≤ 1_048_576) where
    -- "10, room lent for marks too small": the room stays as it was
    -- promise
    pub build-ten : length room < 47 * (whole_records log / 256)
        → (built l log room ≡ record { code = 10; marks = 0 }) × (built_room l log room ≡ room)
    build-ten small = extended-refused l log 0 room 10 (build-small l log room good short small) (λ none. omega arith)

    -- in a room that has 47 bytes for each of them the marks stand at the front, and the bytes behind them stay
    -- promise
    pub build-made : 47 * (whole_records log / 256) ≤ length room
        → (built l log room ≡ record { code = 0; marks = whole_records log / 256 })
        × (built_room l log room ≡ marks_of l log ++ drop (47 * (whole_records log / 256)) room)
    build-made = build-done l log room good short

  module _ (made : (built l log room).code ≡ 0) where
    -- what is asked for so that they are built
    pub build-facts : (limits_ok l ≡ true) × (length log ≤ 1_048_576) × (47 * (whole_records log / 256) ≤ length room)
    build-facts = built-facts l log room (sym (extended-code l log 0 room) ∙ made)

    -- marks that are built are one for each 256 records, whatever those say
    -- promise
    pub build-alone : (built l log room).marks ≡ whole_records log / 256
    build-alone =
        let fine = build-facts in
        ap (λ x. x.marks) (build-made fine.0 fine.1 fine.2).0

    -- and they are the front of the room
    -- promise
    pub built-front : take (47 * (whole_records log / 256)) (built_room l log room) ≡ marks_of l log
    built-front =
        let fine = build-facts in
        ap (take (47 * (whole_records log / 256))) (build-made fine.0 fine.1 fine.2).1
        ∙ take_at (marks_of l log) _ _ (marks-bytes l log fine.0 fine.1)
