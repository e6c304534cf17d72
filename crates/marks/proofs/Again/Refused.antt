-- Cross-checks only: rules told a second time.
-- "Refusals, building: 13; 12; 10, room lent for marks too small; extending: also 11, before 10, for a last mark that lookup would refuse
-- with 11": which of them building and extending answer, in this order; a refused call leaves the room as it was.
-- Proves: build-thirteen, build-twelve, extend-thirteen, extend-twelve, extend-ten-held, extend-eleven, extend-ten, extend-made,
-- extend-as-lookup, extend-numbers.
use mathlib.Core.Path.{◌≡◌, refl, sym, ap, subst, ◌∙◌}
use mathlib.Core.Logic.{◌↔◌, ◌⊎◌, inl, inr}
use mathlib.Core.Bool.{true, false}
use mathlib.Core.List.{List, ◌++◌}
use Prim.Native.Nat.{ℕ, ◌+◌, ◌*◌, ◌-◌, ◌/◌, ◌≤◌, ◌<◌}
use native.Mathlib.Omega.{arith}
use lib.ListN.{length, take, drop}
use Rattle.place.specs.declared.limits.Limits.{Limits}
use Rattle.unit.specs.States.{limits_ok, cold}
use Rattle.marks.specs.Marks.{whole_records, begun_refused, mark_in, begun_at}
use Rattle.marks.specs.Building.{new_marks, last_held, extended, extended_room, built, built_room}
use Rattle.marks.specs.Lookup.{mark_for, looked_up}
use Rattle.marks.proofs.Leads.{begun-missing, begun-there, begun-eleven}
use Rattle.marks.proofs.LookTests.{looked-code, look-lost, looked-eleven}
use Rattle.marks.proofs.ExtendTests.{extended-refused, extended-made, extended-code, extend-limits, extend-long, extend-lost}
use Rattle.marks.proofs.ExtendTests.{extend-small, extend-done, extended-eleven, extended-coded}

module _ (l : Limits) (log : List ℕ) (held : ℕ) (room : List ℕ) where
  -- "13"
  -- promise
  pub extend-thirteen : limits_ok l ≡ false
      → (extended l log held room ≡ record { code = 13; marks = 0 }) × (extended_room l log held room ≡ room)
  extend-thirteen bad = extended-refused l log held room 13 (extend-limits l log held room bad) (λ none. omega arith)

  module _ (good : limits_ok l ≡ true) where
    -- "12"
    -- promise
    pub extend-twelve : 1_048_576 < length log
        → (extended l log held room ≡ record { code = 12; marks = 0 }) × (extended_room l log held room ≡ room)
    extend-twelve long = extended-refused l log held room 12 (extend-long l log held room good long) (λ none. omega arith)

    module _ (short : length log ≤ 1_048_576) where
      -- "11, before 10, for a last mark that lookup would refuse with 11"
      -- promise
      pub extend-eleven : 1 ≤ held
          → 47 * held ≤ length room
          → (mark_in log (take 47 (drop (47 * (held - 1)) room))).code ≡ 11
          → (extended l log held room ≡ record { code = 11; marks = 0 }) × (extended_room l log held room ≡ room)
      extend-eleven some there bad =
          let mark = mark_in log (take 47 (drop (47 * (held - 1)) room)) in
          let begins = begun-there (cold l) log room held 10 some there in
          extended-refused l log held room 11
          (extend-lost l log held room good short mark begins 11 bad (λ none. omega arith))
          (λ none. omega arith)

      -- "10": a last mark held that is not in the room whole
      -- promise
      pub extend-ten-held : length room < 47 * held
          → (extended l log held room ≡ record { code = 10; marks = 0 }) × (extended_room l log held room ≡ room)
      extend-ten-held small =
          extended-refused l log held room 10
          (extend-lost l log held room good short (begun_refused 10) (begun-missing (cold l) log room held 10 small) 10 refl
          (λ none. omega arith))
          (λ none. omega arith)

      module _ (led : (last_held l log held room).code ≡ 0) where
        -- "10, room lent for marks too small": with the new ones
        -- promise
        pub extend-ten : length room < 47 * (held + whole_records (drop (last_held l log held room).offset log) / 256)
            → (extended l log held room ≡ record { code = 10; marks = 0 }) × (extended_room l log held room ≡ room)
        extend-ten small =
            extended-refused l log held room 10
            (extend-small l log held room good short (last_held l log held room) refl led small)
            (λ none. omega arith)

        -- and otherwise the new marks stand behind those held
        -- promise
        pub extend-made : 47 * (held + whole_records (drop (last_held l log held room).offset log) / 256) ≤ length room
            → (extended l log held room
            ≡ record { code = 0; marks = held + whole_records (drop (last_held l log held room).offset log) / 256 })
            × (extended_room l log held room
            ≡ take (47 * held) room
            ++ (new_marks (last_held l log held room) log
            ++ drop (47 * (held + whole_records (drop (last_held l log held room).offset log) / 256)) room))
        extend-made enough =
            extended-made l log held room (extend-done l log held room good short (last_held l log held room) refl led enough)

  -- "11 .. for a last mark that lookup would refuse with 11": the lookup of the record that this mark stands after
  -- promise
  pub extend-as-lookup : ((extended l log held room).code ≡ 11) ↔ ((looked_up l log room (256 * held)).code ≡ 11)
  extend-as-lookup =
      let n = 256 * held in
      let there : 256 * held / 256 ≡ held = omega arith in (
        λ is.
            let facts = extended-eleven l log held room (sym (extended-code l log held room) ∙ is) in
            let mark =
            ap (λ number. (begun_at (cold l) log room number 19).code) there
            ∙ begun-eleven (cold l) log room held 10 19 (λ none. omega arith) facts.2 in
            looked-code l log room n
            ∙ look-lost l log room n facts.0 facts.1 (mark_for l log room n) refl 11 mark (λ none. omega arith),
        λ is.
            let facts = looked-eleven l log room n (sym (looked-code l log room n) ∙ is) in
            let mark =
            begun-eleven (cold l) log room held 19 10 (λ none. omega arith)
            (ap (λ number. (begun_at (cold l) log room number 19).code) (sym there) ∙ facts.2) in
            extended-code l log held room
            ∙ extend-lost l log held room facts.0 facts.1 (last_held l log held room) refl 11 mark (λ none. omega arith),
      )

  -- and no other number
  -- promise
  pub extend-numbers :
      ((extended l log held room).code ≡ 0)
      ⊎ (((extended l log held room).code ≡ 10)
      ⊎ (((extended l log held room).code ≡ 11)
      ⊎ (((extended l log held room).code ≡ 12) ⊎ ((extended l log held room).code ≡ 13))))
  extend-numbers =
      subst Numbers (sym (extended-code l log held room))
      (extended-coded Numbers l log held room (inl refl) (inr (inl refl)) (inr (inr (inl refl))) (inr (inr (inr (inl refl))))
      (inr (inr (inr (inr refl)))))
    where
      Numbers : ℕ → Type 0
      Numbers code = (code ≡ 0) ⊎ ((code ≡ 10) ⊎ ((code ≡ 11) ⊎ ((code ≡ 12) ⊎ (code ≡ 13))))

-- building is extending where none is held
module _ (l : Limits) (log room : List ℕ) where
  -- "13"
  -- promise
  pub build-thirteen : limits_ok l ≡ false
      → (built l log room ≡ record { code = 13; marks = 0 }) × (built_room l log room ≡ room)
  build-thirteen = extend-thirteen l log 0 room

  -- "12"
  -- promise
  pub build-twelve : limits_ok l ≡ true
      → 1_048_576 < length log
      → (built l log room ≡ record { code = 12; marks = 0 }) × (built_room l log room ≡ room)
  build-twelve = extend-twelve l log 0 room
