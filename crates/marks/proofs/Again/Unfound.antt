-- Cross-checks only: rules told a second time.
-- "Lookup: 13; 12; 19, the mark that n calls for is not there; 11, that mark has another kind, an offset past the log or an unsound image;
-- 19, the stop comes before record n": which of them a lookup answers, in this order.
-- Proves: look-thirteen, look-twelve, look-nineteen, look-eleven, look-stopped, look-made, lookup-refused, look-numbers.
use mathlib.Core.Path.{◌≡◌, refl, sym, ap, subst, ◌∙◌}
use mathlib.Core.Logic.{◌⊎◌, inl, inr}
use mathlib.Core.Bool.{true, false}
use mathlib.Core.List.{List}
use Prim.Native.Nat.{ℕ, ◌*◌, ◌-◌, ◌/◌, ◌%◌, ◌≤◌, ◌<◌, min}
use native.Mathlib.Omega.{arith}
use lib.ListN.{length, take, drop, length-drop}
use Rattle.place.specs.declared.limits.Limits.{Limits}
use Rattle.unit.specs.States.{limits_ok, cold}
use Rattle.marks.specs.Marks.{whole_records, mark_in}
use Rattle.marks.specs.Lookup.{look_refused, mark_for, to_record, looked_up}
use Rattle.marks.proofs.Ran.{many_read}
use Rattle.marks.proofs.Leads.{begun-missing, begun-there}
use Rattle.marks.proofs.LookTests.{looked-refused, looked-code, look-limits, look-long, look-lost, look_stop, look-done}
use Rattle.marks.proofs.LookTests.{looked-coded}

module _ (l : Limits) (log marks : List ℕ) (n : ℕ) where
  -- "13"
  -- promise
  pub look-thirteen : limits_ok l ≡ false → looked_up l log marks n ≡ look_refused 13
  look-thirteen bad = looked-refused l log marks n 13 (look-limits l log marks n bad) (λ none. omega arith)

  module _ (good : limits_ok l ≡ true) where
    -- "12"
    -- promise
    pub look-twelve : 1_048_576 < length log → looked_up l log marks n ≡ look_refused 12
    look-twelve long = looked-refused l log marks n 12 (look-long l log marks n good long) (λ none. omega arith)

    module _ (short : length log ≤ 1_048_576) where
      lost : (r : ℕ) → (mark_for l log marks n).code ≡ r → (r ≡ 0 → ⊥) → looked_up l log marks n ≡ look_refused r
      lost r is some =
          looked-refused l log marks n r (look-lost l log marks n good short (mark_for l log marks n) refl r is some) some

      -- "19, the mark that n calls for is not there"
      -- promise
      pub look-nineteen : length marks < 47 * (n / 256) → looked_up l log marks n ≡ look_refused 19
      look-nineteen few = lost 19 (ap (λ b. b.code) (begun-missing (cold l) log marks (n / 256) 19 few)) (λ none. omega arith)

      -- "11, that mark has another kind, an offset past the log or an unsound image"
      -- promise
      pub look-eleven : 1 ≤ n / 256
          → 47 * (n / 256) ≤ length marks
          → (mark_in log (take 47 (drop (47 * (n / 256 - 1)) marks))).code ≡ 11
          → looked_up l log marks n ≡ look_refused 11
      look-eleven some there bad =
          lost 11 (ap (λ b. b.code) (begun-there (cold l) log marks (n / 256) 19 some there) ∙ bad) (λ none. omega arith)

      module _ (led : (mark_for l log marks n).code ≡ 0) where
        read : (to_record (mark_for l log marks n) log n).read ≡ min (n % 256) (whole_records (drop (mark_for l log marks n).offset log))
        read =
            let b = mark_for l log marks n in
            let left = length-drop b.offset log in
            many_read b.state (drop b.offset log) (omega arith) (n % 256)

        -- "19, the stop comes before record n"
        -- promise
        pub look-stopped : whole_records (drop (mark_for l log marks n).offset log) < n % 256 → looked_up l log marks n
            ≡ look_refused 19
        look-stopped few =
            looked-refused l log marks n 19
            (look_stop l log marks n good short (mark_for l log marks n) refl led (omega (arith, read)))
            (λ none. omega arith)

        -- and otherwise it is answered
        -- promise
        pub look-made : n % 256 ≤ whole_records (drop (mark_for l log marks n).offset log) → (looked_up l log marks n).code ≡ 0
        look-made enough =
            ap (λ x. x.code) (look-done l log marks n good short (mark_for l log marks n) refl led (omega (arith, read)))

  -- "A refused lookup answers the refused cold start's state, 0 steps"
  -- promise
  pub lookup-refused : ((looked_up l log marks n).code ≡ 0 → ⊥)
      → ((looked_up l log marks n).state ≡ cold (record { lowest = 0; highest = 0; tries = 3 }))
      × ((looked_up l log marks n).steps ≡ 0)
      × ((looked_up l log marks n).offset ≡ 0)
  lookup-refused refused =
      let code = (looked_up l log marks n).code in
      let all = looked-refused l log marks n code (sym (looked-code l log marks n)) refused in
      (ap (λ x. x.state) all, ap (λ x. x.steps) all, ap (λ x. x.offset) all)

  -- and no other number
  -- promise
  pub look-numbers :
      ((looked_up l log marks n).code ≡ 0)
      ⊎ (((looked_up l log marks n).code ≡ 11)
      ⊎ (((looked_up l log marks n).code ≡ 12)
      ⊎ (((looked_up l log marks n).code ≡ 13) ⊎ ((looked_up l log marks n).code ≡ 19))))
  look-numbers =
      subst Numbers (sym (looked-code l log marks n))
      (looked-coded Numbers l log marks n (inl refl) (inr (inl refl)) (inr (inr (inl refl))) (inr (inr (inr (inl refl))))
      (inr (inr (inr (inr refl)))))
    where
      Numbers : ℕ → Type 0
      Numbers code = (code ≡ 0) ⊎ ((code ≡ 11) ⊎ ((code ≡ 12) ⊎ ((code ≡ 13) ⊎ (code ≡ 19))))
