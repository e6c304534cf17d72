-- "Marks extended after an append equal marks built afresh", whatever the stop of the log was before.
-- Proves: extend-afresh, extend-full, lookup-extended, extend-nothing, extend-twice.
use mathlib.Core.Path.{◌≡◌, sym, ap, ap₂, subst, ◌∙◌}
use mathlib.Core.List.{List, [], ◌++◌, append-nil, append_assoc}
use Prim.Native.Nat.{ℕ, ◌*◌, ◌/◌, ◌≤◌, ◌<◌}
use native.Mathlib.Omega.{arith}
use lib.ListN.{length, length-append}
use Rattle.place.specs.declared.limits.Limits.{Limits}
use Rattle.unit.specs.States.{cold}
use Rattle.unit.specs.Runs.{run}
use Rattle.marks.specs.Marks.{whole_records}
use Rattle.marks.specs.Building.{extended, extended_room, built, built_room}
use Rattle.marks.specs.Lookup.{looked_up}
use Rattle.marks.proofs.Records.{whole-grow}
use Rattle.marks.proofs.ExtendTests.{extended-refused}
use Rattle.marks.proofs.Growing.{marked_room, grow-small, grow-done}
use Rattle.marks.proofs.Again.Built.{build-ten, build-made, build-facts, build-alone}
use Rattle.marks.proofs.Again.Found.{lookup-built}

module _ (l : Limits) (log more room : List ℕ)
    (short : length (log ++ more) ≤ 1_048_576)
    (made : (built l log room).code ≡ 0) where
  -- the marks of the shorter log, and how many
  held-room : built_room l log room ≡ marked_room l log room
  held-room =
      let fine = build-facts l log room made in
      (build-made l log room fine.0 fine.1 fine.2).1

  held : (built l log room).marks ≡ whole_records log / 256
  held = build-alone l log room made

  -- where the room has 47 bytes for each mark of the longer log, the same marks stand in it, and the answer is the same
  -- promise
  pub extend-afresh : 47 * (whole_records (log ++ more) / 256) ≤ length room
      → ((built l (log ++ more) room).code ≡ 0)
      × (extended l (log ++ more) (built l log room).marks (built_room l log room) ≡ built l (log ++ more) room)
      × (extended_room l (log ++ more) (built l log room).marks (built_room l log room) ≡ built_room l (log ++ more) room)
  extend-afresh enough =
      let fine = build-facts l log room made in
      let afresh = build-made l (log ++ more) room fine.0 short enough in
      let grown = grow-done l log more room fine.0 short fine.2 enough in (
        ap (λ x. x.code) afresh.0,
        ap₂ (λ n x. extended l (log ++ more) n x) held held-room ∙ grown.0 ∙ sym afresh.0,
        ap₂ (λ n x. extended_room l (log ++ more) n x) held held-room ∙ grown.1 ∙ sym afresh.1,
      )

  -- where it has not, both are refused with 10, and nothing changes
  -- promise
  pub extend-full : length room < 47 * (whole_records (log ++ more) / 256)
      → (extended l (log ++ more) (built l log room).marks (built_room l log room) ≡ record { code = 10; marks = 0 })
      × (extended_room l (log ++ more) (built l log room).marks (built_room l log room) ≡ built_room l log room)
      × (built l (log ++ more) room ≡ record { code = 10; marks = 0 })
      × (built_room l (log ++ more) room ≡ room)
  extend-full small =
      let fine = build-facts l log room made in
      let afresh = build-ten l (log ++ more) room fine.0 short small in
      let code = grow-small l log more room fine.0 short fine.2 small in
      let full = extended-refused l (log ++ more) (whole_records log / 256) (marked_room l log room) 10 code (λ none. omega arith) in (
        ap₂ (λ n x. extended l (log ++ more) n x) held held-room ∙ full.0,
        ap₂ (λ n x. extended_room l (log ++ more) n x) held held-room ∙ full.1 ∙ sym held-room,
        afresh.0,
        afresh.1,
      )

  -- and a lookup in them is right for every record of the longer log
  -- promise
  pub lookup-extended : (n : ℕ)
      → 47 * (whole_records (log ++ more) / 256) ≤ length room
      → n ≤ whole_records (log ++ more)
      → ((looked_up l (log ++ more) (extended_room l (log ++ more) (built l log room).marks (built_room l log room)) n).code ≡ 0)
      × ((looked_up l (log ++ more) (extended_room l (log ++ more) (built l log room).marks (built_room l log room)) n).state
      ≡ (run (cold l) (log ++ more) n).tally.state)
  lookup-extended n enough few =
      let again = extend-afresh enough in
      let right = lookup-built l (log ++ more) room n again.0 few in
      let same = ap (λ x. looked_up l (log ++ more) x n) again.2 in
      (ap (λ x. x.code) same ∙ right.0, ap (λ x. x.state) same ∙ right.1)

-- by nothing: no byte changes, and the answer is the same
-- promise
pub extend-nothing : (l : Limits) (log room : List ℕ)
    → (built l log room).code ≡ 0
    → (extended l log (built l log room).marks (built_room l log room) ≡ built l log room)
    × (extended_room l log (built l log room).marks (built_room l log room) ≡ built_room l log room)
extend-nothing l log room made =
    let fine = build-facts l log room made in
    let same = append-nil log in
    let size = ap length same in
    let marks = ap whole_records same in
    let again = extend-afresh l log [] room (omega (arith, fine.1)) made (omega (arith, fine.2)) in
    let held = (built l log room).marks in
    let marked = built_room l log room in (
      ap (λ x. extended l x held marked) (sym same) ∙ again.1 ∙ ap (λ x. built l x room) same,
      ap (λ x. extended_room l x held marked) (sym same) ∙ again.2 ∙ ap (λ x. built_room l x room) same,
    )

-- by one part and then another: as by both at once
-- promise
pub extend-twice : (l : Limits) (log more after room : List ℕ)
    → length ((log ++ more) ++ after) ≤ 1_048_576
    → (built l log room).code ≡ 0
    → 47 * (whole_records ((log ++ more) ++ after) / 256) ≤ length room
    → (extended l ((log ++ more) ++ after)
    (extended l (log ++ more) (built l log room).marks (built_room l log room)).marks
    (extended_room l (log ++ more) (built l log room).marks (built_room l log room))
    ≡ extended l (log ++ (more ++ after)) (built l log room).marks (built_room l log room))
    × (extended_room l ((log ++ more) ++ after)
    (extended l (log ++ more) (built l log room).marks (built_room l log room)).marks
    (extended_room l (log ++ more) (built l log room).marks (built_room l log room))
    ≡ extended_room l (log ++ (more ++ after)) (built l log room).marks (built_room l log room))
extend-twice l log more after room short made enough =
    let both = append_assoc log more after in
    let longer = log ++ more in
    let size = length-append longer after in
    let grown = whole-grow longer after in
    let fewer : whole_records longer / 256 ≤ whole_records (longer ++ after) / 256 = omega arith in
    let first = extend-afresh l log more room (omega arith) made (omega arith) in
    let second = extend-afresh l longer after room short first.0 enough in
    let once =
    extend-afresh l log (more ++ after) room (subst (λ x. length x ≤ 1_048_576) both short) made
    (subst (λ x. 47 * (whole_records x / 256) ≤ length room) both enough) in
    let marks = ap (λ x. x.marks) first.1 in (
      ap₂ (λ n x. extended l (longer ++ after) n x) marks first.2 ∙ second.1 ∙ ap (λ x. built l x room) both ∙ sym once.1,
      ap₂ (λ n x. extended_room l (longer ++ after) n x) marks first.2
          ∙ second.2
          ∙ ap (λ x. built_room l x room) both
          ∙ sym once.2,
    )
