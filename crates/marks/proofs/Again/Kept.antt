-- What extending leaves as it was: the marks held, the bytes behind the last mark, and the length of the room.
-- Proves: extend-held, extend-later, extend-new, extend-size.
use mathlib.Core.Path.{◌≡◌, refl, sym, ap, ◌∙◌}
use mathlib.Core.Bool.{Bool, true, false}
use mathlib.Core.List.{List, ◌++◌, append_assoc}
use Prim.Native.Nat.{ℕ, ◌+◌, ◌*◌, ◌-◌}
use native.Mathlib.Omega.{arith}
use lib.Dec.{eqb}
use lib.ListN.{length, take, drop, length-append, length-drop}
use borrow.Author.Tests.{eqb-true, eqb-false}
use lib.Seq.{take_at, drop_at, length-take-le}
use Rattle.place.specs.declared.limits.Limits.{Limits}
use Rattle.unit.specs.States.{cold}
use Rattle.marks.specs.declared.mark.Begun.{Begun}
use Rattle.marks.specs.Marks.{mark_count}
use Rattle.marks.specs.Building.{new_marks, last_held, extend_code, extended, extended_room}
use Rattle.marks.proofs.MarkBytes.{marks-size}
use Rattle.marks.proofs.Leads.{cold-good, begun-sound}
use Rattle.marks.proofs.ExtendTests.{extended-refused, extended-made, extended-code, extended-facts}

module _ (l : Limits) (log : List ℕ) (held : ℕ) (room : List ℕ) where
  module _ (made : (extended l log held room).code ≡ 0) where
    code : extend_code l log held room ≡ 0
    code = sym (extended-code l log held room) ∙ made

    last : Begun
    last = last_held l log held room

    new : ℕ
    new = mark_count (last_held l log held room).offset log

    count : (extended l log held room).marks ≡ held + new
    unfolding new
    count = ap (λ x. x.marks) (extended-made l log held room code).0

    left : extended_room l log held room ≡ take (47 * held) room ++ (new_marks last log ++ drop (47 * (held + new)) room)
    unfolding last new
    left = (extended-made l log held room code).1

    front-size : length (take (47 * held) room) ≡ 47 * held
    unfolding new
    front-size = length-take-le (47 * held) room (omega (arith, (extended-facts l log held room code).3))

    new-size : length (new_marks last log) ≡ 47 * new
    unfolding last new
    new-size =
        let fine = extended-facts l log held room code in
        let kept = begun-sound (cold l) log room held 10 (cold-good l fine.0) (λ none. omega arith) fine.2 in
        marks-size (mark_count last.offset log) last.state last.offset log fine.1 kept.0

    -- the marks held stay
    -- promise
    pub extend-held : take (47 * held) (extended_room l log held room) ≡ take (47 * held) room
    extend-held =
        ap (take (47 * held)) left
        ∙ take_at (take (47 * held) room) (new_marks last log ++ drop (47 * (held + new)) room) (47 * held) front-size

    -- the new ones stand behind them
    -- promise
    pub extend-new :
        take (47 * ((extended l log held room).marks - held)) (drop (47 * held) (extended_room l log held room))
        ≡ new_marks (last_held l log held room) log
    unfolding last
    extend-new =
        let news : 47 * ((extended l log held room).marks - held) ≡ 47 * new = omega (arith, count) in
        ap (λ n. take n (drop (47 * held) (extended_room l log held room))) news
        ∙ ap (λ x. take (47 * new) (drop (47 * held) x)) left
        ∙ ap (take (47 * new))
        (drop_at (take (47 * held) room) (new_marks last log ++ drop (47 * (held + new)) room) (47 * held) front-size)
        ∙ take_at (new_marks last log) (drop (47 * (held + new)) room) (47 * new) new-size

    -- "later bytes stay": those behind the last mark
    -- promise
    pub extend-later :
        drop (47 * (extended l log held room).marks) (extended_room l log held room)
        ≡ drop (47 * (extended l log held room).marks) room
    extend-later =
        let front = take (47 * held) room ++ new_marks last log in
        let after = drop (47 * (held + new)) room in
        let joined = length-append (take (47 * held) room) (new_marks last log) in
        ap (λ n. drop (47 * n) (extended_room l log held room)) count
        ∙ ap (drop (47 * (held + new))) (left ∙ sym (append_assoc (take (47 * held) room) (new_marks last log) after))
        ∙ drop_at front after (47 * (held + new)) (omega (arith, front-size, new-size))
        ∙ ap (λ n. drop (47 * n) room) (sym count)

    same_size : length (extended_room l log held room) ≡ length room
    unfolding new
    same_size =
        let front = take (47 * held) room in
        let after = drop (47 * (held + new)) room in
        let room-has = (extended-facts l log held room code).3 in
        omega (
          arith,
          ap length left,
          length-append front (new_marks last log ++ after),
          length-append (new_marks last log) after,
          front-size,
          new-size,
          length-drop (47 * (held + new)) room,
        )

  -- the room keeps its length, whatever the answer
  -- promise
  pub extend-size : length (extended_room l log held room) ≡ length room
  extend-size = by (eqb (extend_code l log held room) 0) refl
    where
      by : (is : Bool) → eqb (extend_code l log held room) 0 ≡ is → length (extended_room l log held room) ≡ length room
      by true is = same_size (extended-code l log held room ∙ eqb-true (extend_code l log held room) 0 is)
      by false is =
          ap length (extended-refused l log held room (extend_code l log held room) refl (eqb-false (extend_code l log held room) 0 is)).1
