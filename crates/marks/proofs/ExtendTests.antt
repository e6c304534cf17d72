-- Building and extending by what their tests show.
-- Defines: held_from, room_from.
-- Proves: extended-refused, extended-code, extend-limits, extend-long, extend-lost, extend-small, extend-done, extended-made,
-- extended-facts, extended-eleven, extended-coded.
use mathlib.Core.Path.{◌≡◌, refl, sym, ap, ◌∙◌}
use mathlib.Core.Bool.{true, false, cond}
use mathlib.Core.List.{List, ◌++◌}
use Prim.Native.Nat.{ℕ, ◌+◌, ◌*◌, ◌≤◌, ◌<◌}
use native.Mathlib.Omega.{arith}
use lib.Dec.{eqb, leb}
use lib.ListN.{length, take, drop}
use borrow.Author.Tests.{eqb-true, eqb-false, eq-eqb, ne_eqb, leb-true, le-leb, lt-leb}
use Rattle.wire.specs.Refusals.{accepted, no_room, log_too_long, bad_limits}
use Rattle.wire.proofs.Tests.{cond-case, cond-holds}
use Rattle.record.specs.Takes.{longest_log}
use Rattle.place.specs.declared.limits.Limits.{Limits}
use Rattle.unit.specs.States.{limits_ok, cold}
use Rattle.marks.specs.declared.mark.Begun.{Begun}
use Rattle.marks.specs.declared.build.Marked.{Marked}
use Rattle.marks.specs.Marks.{mark_count}
use Rattle.marks.specs.Building.{new_marks, last_held, extend_code, extended, extended_room}
use Rattle.marks.proofs.Leads.{begun-coded}

-- how many marks there are then, by the point that the last mark held leads to, and the room that they leave
abbrev pub held_from : Begun → List ℕ → ℕ → ℕ
held_from b log held = held + mark_count b.offset log

abbrev pub room_from : Begun → List ℕ → ℕ → List ℕ → List ℕ
room_from b log held room = take (47 * held) room ++ (new_marks b log ++ drop (47 * held_from b log held) room)

module _ (l : Limits) (log : List ℕ) (held : ℕ) (room : List ℕ) where
  -- a refusal answers its number and no marks, and writes nothing
  pub extended-refused : (r : ℕ)
      → extend_code l log held room ≡ r
      → (r ≡ 0 → ⊥)
      → (extended l log held room ≡ record { code = r; marks = 0 }) × (extended_room l log held room ≡ room)
  unfolding extended extended_room
  extended-refused r is some =
      let code = extend_code l log held room in
      let other = ne_eqb code accepted (λ none. some (sym is ∙ none)) in (
        simp other (ap (λ c. record { code = c; marks = 0 }) is),
        simp other,
      )

  pub extended-made :
      extend_code l log held room ≡ 0
      → (extended l log held room ≡ record { code = 0; marks = held_from (last_held l log held room) log held })
      × (extended_room l log held room ≡ room_from (last_held l log held room) log held room)
  unfolding extended extended_room
  extended-made is =
      let same = eq-eqb (extend_code l log held room) accepted is in
      (simp same, simp same)

  pub extended-code : (extended l log held room).code ≡ extend_code l log held room
  unfolding extended
  extended-code =
      let code = extend_code l log held room in
      cond-case (λ (x : Marked). x.code ≡ code) (eqb code accepted)
      (record { code = accepted; marks = held_from (last_held l log held room) log held })
      (record { code = code; marks = 0 })
      (λ is. sym (eqb-true code accepted is))
      (λ no. refl)

  pub extend-limits : limits_ok l ≡ false → extend_code l log held room ≡ 13
  unfolding extend_code
  extend-limits bad = simp bad

  module _ (good : limits_ok l ≡ true) where
    pub extend-long : longest_log < length log → extend_code l log held room ≡ 12
    unfolding extend_code
    extend-long long = simp (good, lt-leb (length log) longest_log long)

    module _ (short : length log ≤ longest_log) (b : Begun) (begins : last_held l log held room ≡ b) where
      by_last : extend_code l log held room
          ≡ cond (eqb b.code accepted) (cond (leb (47 * held_from b log held) (length room)) accepted no_room) b.code
      unfolding extend_code
      by_last =
          simp (good, le-leb (length log) longest_log short)
          (ap
          (λ (x : Begun).
          cond (eqb x.code accepted) (cond (leb (47 * held_from x log held) (length room)) accepted no_room) x.code)
          begins)

      pub extend-lost : (r : ℕ) → b.code ≡ r → (r ≡ 0 → ⊥) → extend_code l log held room ≡ r
      extend-lost r is some = by_last ∙ simp (ne_eqb b.code accepted (λ none. some (sym is ∙ none))) is

      module _ (led : b.code ≡ 0) where
        pub extend-small : length room < 47 * held_from b log held → extend_code l log held room ≡ 10
        extend-small small =
            by_last ∙ simp (eq-eqb b.code accepted led, lt-leb (47 * held_from b log held) (length room) small)

        pub extend-done : 47 * held_from b log held ≤ length room → extend_code l log held room ≡ 0
        extend-done enough =
            by_last ∙ simp (eq-eqb b.code accepted led, le-leb (47 * held_from b log held) (length room) enough)

-- what an accepted call shows
pub extended-facts : (l : Limits) (log : List ℕ) (held : ℕ) (room : List ℕ)
    → extend_code l log held room ≡ 0
    → (limits_ok l ≡ true)
    × (length log ≤ longest_log)
    × ((last_held l log held room).code ≡ 0)
    × (47 * held_from (last_held l log held room) log held ≤ length room)
unfolding extend_code
extended-facts l log held room =
    let b = last_held l log held room in
    let all = held_from b log held in
    let Fine : ℕ → Type 0 =
    λ code. code ≡ 0 → (limits_ok l ≡ true) × (length log ≤ longest_log) × (b.code ≡ 0) × (47 * all ≤ length room) in
    cond-case Fine (limits_ok l) _ bad_limits
    (λ good.
    cond-case Fine (leb (length log) longest_log) _ log_too_long
    (λ short.
    cond-case Fine (eqb b.code accepted) _ b.code
    (λ led.
    cond-case Fine (leb (47 * all) (length room)) accepted no_room
    (λ fits is.
    (good, leb-true (length log) longest_log short, eqb-true b.code accepted led, leb-true (47 * all) (length room) fits))
    (λ no is. absurd (omega arith)))
    (λ no is. absurd (eqb-false b.code accepted no is)))
    (λ no is. absurd (omega arith)))
    (λ no is. absurd (omega arith))

-- and one that is refused with 11
pub extended-eleven : (l : Limits) (log : List ℕ) (held : ℕ) (room : List ℕ)
    → extend_code l log held room ≡ 11
    → (limits_ok l ≡ true) × (length log ≤ longest_log) × ((last_held l log held room).code ≡ 11)
unfolding extend_code
extended-eleven l log held room =
    let b = last_held l log held room in
    let Fine : ℕ → Type 0 = λ code. code ≡ 11 → (limits_ok l ≡ true) × (length log ≤ longest_log) × (b.code ≡ 11) in
    cond-case Fine (limits_ok l) _ bad_limits
    (λ good.
    cond-case Fine (leb (length log) longest_log) _ log_too_long
    (λ short.
    cond-case Fine (eqb b.code accepted) _ b.code
    (λ led.
    cond-holds Fine (leb (47 * held_from b log held) (length room)) accepted no_room
    (λ is. absurd (omega arith))
    (λ is. absurd (omega arith)))
    (λ no is. (good, leb-true (length log) longest_log short, is)))
    (λ no is. absurd (omega arith)))
    (λ no is. absurd (omega arith))

-- the numbers that a call may answer
pub extended-coded : (P : ℕ → Type 0) (l : Limits) (log : List ℕ) (held : ℕ) (room : List ℕ)
    → P 0
    → P 10
    → P 11
    → P 12
    → P 13
    → P (extend_code l log held room)
unfolding extend_code
extended-coded P l log held room none small bad long limits =
    let b = last_held l log held room in
    cond-holds P (limits_ok l) _ bad_limits
    (cond-holds P (leb (length log) longest_log) _ log_too_long
    (cond-holds P (eqb b.code accepted) _ b.code
    (cond-holds P (leb (47 * held_from b log held) (length room)) accepted no_room none small)
    (begun-coded P (cold l) log room held no_room none bad small))
    long)
    limits
