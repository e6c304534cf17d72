-- The marks of a log, built into a room and extended after an append.
-- Defines: marked_room.
-- Proves: build-done, build-small, built-facts, grow-done, grow-small.
use mathlib.Core.Path.{◌≡◌, refl, sym, ap, ap₂, ◌∙◌}
use mathlib.Core.Bool.{true}
use mathlib.Core.List.{List, ◌++◌, append_assoc}
use Prim.Native.Nat.{ℕ, ◌+◌, ◌*◌, ◌-◌, ◌/◌, ◌≤◌, ◌<◌}
use native.Mathlib.Nat.{zero-add}
use native.Mathlib.Omega.{arith}
use lib.ListN.{length, take, drop, length-append, length-drop}
use lib.Seq.{take_at, drop_at, drop-drop}
use Rattle.wire.specs.Blocks.{blocks}
use Rattle.record.specs.Takes.{longest_log}
use Rattle.place.specs.declared.limits.Limits.{Limits}
use Rattle.unit.specs.States.{limits_ok, cold}
use Rattle.unit.specs.declared.run.Tally.{Tally}
use Rattle.marks.specs.declared.mark.Begun.{Begun}
use Rattle.marks.specs.Marks.{whole_records, after_many, marks_from, begun_at}
use Rattle.marks.specs.Building.{new_marks, last_held, extend_code, extended, extended_room}
use Rattle.marks.specs.LogMarks.{marks_of}
use Rattle.marks.proofs.Records.{whole-grow}
use Rattle.marks.proofs.Ran.{many-left}
use Rattle.marks.proofs.MarkRows.{marks-join, marks-longer}
use Rattle.marks.proofs.MarkBytes.{blocks-join, marks-size}
use Rattle.marks.proofs.Leads.{cold-good, begun-built}
use Rattle.marks.proofs.ExtendTests.{held_from, room_from, extended-made, extend-small, extend-done, extended-facts}

-- how many marks a log has
abbrev marks_in : List ℕ → ℕ
marks_in log = whole_records log / 256

-- a room with the marks of a log at its front
abbrev pub marked_room : Limits → List ℕ → List ℕ → List ℕ
marked_room l log room = marks_of l log ++ drop (47 * (whole_records log / 256)) room

module _ (l : Limits) (log room : List ℕ) where
  -- with none held it begins at the cold start
  from-cold : last_held l log 0 room ≡ record { code = 0; state = cold l; offset = 0 }
  unfolding begun_at
  from-cold = refl

  module _ (good : limits_ok l ≡ true) (short : length log ≤ longest_log) where
    pub build-small : length room < 47 * (whole_records log / 256) → extend_code l log 0 room ≡ 10
    build-small small =
        extend-small l log 0 room good short (record { code = 0; state = cold l; offset = 0 }) from-cold refl (omega arith)

    pub build-done : 47 * (whole_records log / 256) ≤ length room
        → (extended l log 0 room ≡ record { code = 0; marks = whole_records log / 256 })
        × (extended_room l log 0 room ≡ marked_room l log room)
    build-done enough =
        let b : Begun = record { code = 0; state = cold l; offset = 0 } in
        let none = zero-add (marks_in log) in
        let made = extended-made l log 0 room (extend-done l log 0 room good short b from-cold refl (omega arith)) in (
          made.0 ∙ ap (λ (x : Begun). record { code = 0; marks = held_from x log 0 }) from-cold
              ∙ ap (λ n. record { code = 0; marks = n }) none,
          made.1 ∙ ap (λ x. room_from x log 0 room) from-cold ∙ ap (λ n. marks_of l log ++ drop (47 * n) room) none,
        )

  pub built-facts :
      extend_code l log 0 room ≡ 0
      → (limits_ok l ≡ true) × (length log ≤ longest_log) × (47 * (whole_records log / 256) ≤ length room)
  built-facts is =
      let facts = extended-facts l log 0 room is in
      let same = ap (λ (x : Begun). held_from x log 0) from-cold in
      (facts.0, facts.1, omega (arith, same, facts.3))

-- the log has grown, and the room holds the marks that it had
module _ (l : Limits) (log more room : List ℕ) (good : limits_ok l ≡ true) (short : length (log ++ more) ≤ longest_log)
    (fits : 47 * (whole_records log / 256) ≤ length room) where
  longer : List ℕ
  longer = log ++ more

  -- where the run over the longer log stands after the marked records
  there : Tally
  there = after_many (cold l) longer (256 * marks_in log)

  last : Begun
  last = record { code = 0; state = there.state; offset = there.offset }

  few : 256 * marks_in log ≤ whole_records longer
  unfolding longer
  few =
      let grown = whole-grow log more in
      omega arith

  same-marks : marks_from (marks_in log) (cold l) 0 longer ≡ marks_from (marks_in log) (cold l) 0 log
  unfolding longer
  same-marks = marks-longer (marks_in log) (cold l) 0 log more short (omega arith) (omega arith)

  own-size : length (marks_of l log) ≡ 47 * marks_in log
  own-size =
      let size = length-append log more in
      marks-size (marks_in log) (cold l) 0 log (omega arith) (cold-good l good)

  from_last : last_held l longer (marks_in log) (marked_room l log room) ≡ last
  unfolding last there longer
  from_last =
      ap (λ x. last_held l longer (marks_in log) (blocks (λ mark. mark) x ++ drop (47 * marks_in log) room)) (sym same-marks)
      ∙ begun-built (cold l) longer (drop (47 * marks_in log) room) (marks_in log) (marks_in log) 10 (cold-good l good) short
      (omega arith)

  -- the marks held and the new ones are those of the longer log
  all : held_from last longer (marks_in log) ≡ marks_in longer
  unfolding last there longer
  all =
      let left = many-left (cold l) longer (256 * marks_in log) short few in
      omega arith

  room-size : length (marked_room l log room) ≡ length room
  room-size =
      let rest = drop (47 * marks_in log) room in
      omega (arith, own-size, length-append (marks_of l log) rest, length-drop (47 * marks_in log) room)

  pub grow-small : length room < 47 * (whole_records (log ++ more) / 256)
      → extend_code l (log ++ more) (whole_records log / 256) (marked_room l log room) ≡ 10
  unfolding longer last
  grow-small small =
      extend-small l longer (marks_in log) (marked_room l log room) good short last from_last refl (omega (arith, all, room-size))

  front : take (47 * marks_in log) (marked_room l log room) ≡ blocks (λ mark. mark) (marks_from (marks_in log) (cold l) 0 longer)
  front =
      take_at (marks_of l log) (drop (47 * marks_in log) room) (47 * marks_in log) own-size
      ∙ ap (blocks (λ mark. mark)) (sym same-marks)

  behind : drop (47 * marks_in longer) (marked_room l log room) ≡ drop (47 * marks_in longer) room
  behind =
      let news = 47 * (marks_in longer - marks_in log) in
      let grown : 47 * marks_in log + news ≡ 47 * marks_in longer = omega (arith, few) in
      ap (λ n. drop n (marked_room l log room)) (sym grown)
      ∙ sym (drop-drop news (47 * marks_in log) (marked_room l log room))
      ∙ ap (drop news) (drop_at (marks_of l log) (drop (47 * marks_in log) room) (47 * marks_in log) own-size)
      ∙ drop-drop news (47 * marks_in log) room
      ∙ ap (λ n. drop n room) grown

  joined : blocks (λ mark. mark) (marks_from (marks_in log) (cold l) 0 longer) ++ new_marks last longer ≡ marks_of l longer
  unfolding last there
  joined =
      let old = marks_from (marks_in log) (cold l) 0 longer in
      let news = marks_in (drop there.offset longer) in
      sym (blocks-join old (marks_from news there.state there.offset longer))
      ∙ ap (blocks (λ mark. mark))
      (ap (λ at. old ++ marks_from news there.state at longer) (sym (zero-add there.offset))
      ∙ sym (marks-join (marks_in log) news (cold l) 0 longer)
      ∙ ap (λ n. marks_from n (cold l) 0 longer) all)

  pub grow-done : 47 * (whole_records (log ++ more) / 256) ≤ length room
      → (extended l (log ++ more) (whole_records log / 256) (marked_room l log room)
      ≡ record { code = 0; marks = whole_records (log ++ more) / 256 })
      × (extended_room l (log ++ more) (whole_records log / 256) (marked_room l log room) ≡ marked_room l (log ++ more) room)
  unfolding longer last
  grow-done enough =
      let held = marks_in log in
      let marked = marked_room l log room in
      let code = extend-done l longer held marked good short last from_last refl (omega (arith, all, room-size)) in
      let made = extended-made l longer held marked code in
      let kept = take (47 * held) marked in
      let old = blocks (λ mark. mark) (marks_from held (cold l) 0 longer) in
      let after = drop (47 * marks_in longer) room in (
        made.0 ∙ ap (λ (x : Begun). record { code = 0; marks = held_from x longer held }) from_last
            ∙ ap (λ n. record { code = 0; marks = n }) all,
        made.1 ∙ ap (λ x. room_from x longer held marked) from_last
            ∙ ap (λ n. kept ++ (new_marks last longer ++ drop (47 * n) marked)) all
            ∙ ap₂ (λ x y. x ++ (new_marks last longer ++ y)) front behind
            ∙ sym (append_assoc old (new_marks last longer) after)
            ∙ ap (λ x. x ++ after) joined,
      )
