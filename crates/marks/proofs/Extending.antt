-- Extending by what the tests before it showed: the refusals in their order, then the new marks behind those held.
-- Defines: Refuses.
-- Proves: first-refused, held_fits, room-refused, marks-room, marks-made.
use mathlib.Core.Path.{◌≡◌, sym, ap, ◌∙◌}
use mathlib.Core.Bool.{false, cond}
use mathlib.Core.List.{List, ◌++◌}
use Prim.Native.Nat.{ℕ, ◌+◌, ◌*◌, ◌-◌, ◌/◌, ◌≤◌, ◌<◌}
use native.Mathlib.Omega.{arith}
use lib.Dec.{eqb, leb}
use lib.ListN.{length, take, drop}
use borrow.Author.Tests.{le-leb, lt-leb, eq-eqb, ne_eqb}
use Rattle.wire.specs.Blocks.{blocks}
use Rattle.wire.specs.Refusals.{accepted, no_room}
use Rattle.place.specs.declared.limits.Limits.{Limits}
use Rattle.unit.specs.States.{cold}
use Rattle.marks.specs.Marks.{mark_size, marks_from, mark_count}
use Rattle.marks.specs.Beginning.{begins_at, extend_refused}
use Rattle.marks.specs.Building.{new_marks, last_held, extend_code, extended, extended_room}
use Rattle.marks.specs.declared.mark.Begun.{Begun}
use Rattle.marks.specs.declared.build.Marked.{Marked}
use Rattle.marks.proofs.Begun.{begun-held}
use Rattle.marks.proofs.Starting.{begins-good, number-refused, number-last}

-- this is answered, and the room is left
abbrev pub Refuses : Limits → List ℕ → ℕ → List ℕ → Marked → Type 0
Refuses l log held room m = (m ≡ extended l log held room) × (room ≡ extended_room l log held room)

module _ (l : Limits) (log : List ℕ) (held : ℕ) (room : List ℕ) where
  refuses : (code : ℕ)
      → extend_code l log held room ≡ code
      → (code ≡ accepted → ⊥)
      → (m : Marked)
      → m ≡ extend_refused code
      → Refuses l log held room m
  unfolding extended extended_room
  refuses code is other m told =
      let test : eqb (extend_code l log held room) accepted ≡ false = ap (λ n. eqb n accepted) is ∙ ne_eqb code accepted other in
      (told ∙ ap extend_refused (sym is) ∙ simp test, simp test)

  -- the number by the room for so many new marks
  abbrev by_room : ℕ → ℕ
  by_room count = cond (leb (mark_size * (held + count)) (length room)) accepted no_room

  abbrev last : ℕ
  last = by_room (mark_count (last_held l log held room).offset log)

  -- what the last mark held leads to
  module _ (b : Begun) (begins : b ≡ begins_at l log room held no_room) where
    -- a refusal on the way there
    pub first-refused : (b.code ≡ accepted → ⊥) → (m : Marked) → m ≡ extend_refused b.code → Refuses l log held room m
    unfolding extend_code
    first-refused other = refuses b.code (number-refused l log room held no_room b begins last other) other

    module _ (is : b.code ≡ accepted) where
      from-cold : b ≡ last_held l log held room
      from-cold = (begins-good l log room held no_room b begins is).1

      -- the marks held stand in the room
      pub held_fits : held ≤ length room / mark_size
      held_fits =
          let code = ap (λ (x : Begun). x.code) (sym from-cold) ∙ is in
          let inside = begun-held (cold l) log room held no_room (λ none. omega arith) code in
          omega arith

      module _ (count : ℕ) (counts : count ≡ mark_count b.offset log) where
        by-room : extend_code l log held room ≡ by_room count
        unfolding extend_code
        by-room =
            number-last l log room held no_room b begins last is
            ∙ sym (ap by_room (counts ∙ ap (λ (x : Begun). mark_count x.offset log) from-cold))

        -- the room is too small
        pub room-refused : length room / mark_size - held < count
            → (m : Marked)
            → m ≡ extend_refused no_room
            → Refuses l log held room m
        room-refused few =
            let inside = held_fits in
            refuses no_room (by-room ∙ simp (lt-leb (mark_size * (held + count)) (length room) (omega arith))) (λ none. omega arith)

        module _ (fits : count ≤ length room / mark_size - held) where
          -- the new marks have room
          pub marks-room : mark_size * (held + count) ≤ length room
          marks-room =
              let inside = held_fits in
              omega arith

          -- and are written
          pub marks-made : (after : List ℕ)
              → after
              ≡ take (mark_size * held) room
              ++ (blocks (λ mark. mark) (marks_from count b.state b.offset log) ++ drop (mark_size * (held + count)) room)
              → (record { code = accepted; marks = held + count } ≡ extended l log held room)
              × (after ≡ extended_room l log held room)
          unfolding extended extended_room
          marks-made after put =
              let code : extend_code l log held room ≡ accepted =
              by-room ∙ simp (le-leb (mark_size * (held + count)) (length room) marks-room) in
              let test = eq-eqb (extend_code l log held room) accepted code in (
                ap (λ n. record { code = accepted; marks = held + n }) counts
                    ∙ ap (λ (x : Begun). record { code = accepted; marks = held + mark_count x.offset log }) from-cold
                    ∙ simp test,
                put
                    ∙ ap
                    (λ n.
                    take (mark_size * held) room
                    ++ (blocks (λ mark. mark) (marks_from n b.state b.offset log) ++ drop (mark_size * (held + n)) room))
                    counts
                    ∙ ap
                    (λ (x : Begun).
                    take (mark_size * held) room
                    ++ (new_marks x log ++ drop (mark_size * (held + mark_count x.offset log)) room))
                    from-cold
                    ∙ simp test,
              )
