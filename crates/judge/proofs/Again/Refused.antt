-- Cross-checks only: rules told a second time.
-- "Refusals: 13 for the cold start, then 12 for a sheet over 1,048,576 bytes"; and those of our own sheet, which leave the lent room as
-- it was.
-- Proves: judge-thirteen, judge-twelve, produce-kept, produce-thirteen, produce-twelve, produce-twelve-sheet, produce-ten, produce-made.
use mathlib.Core.Path.{◌≡◌, refl, sym, subst, ◌∙◌}
use mathlib.Core.Bool.{true, false}
use mathlib.Core.List.{List}
use Prim.Native.Nat.{ℕ, ◌≤◌, ◌<◌}
use native.Mathlib.Omega.{arith}
use lib.ListN.{length}
use borrow.Author.Tests.{le-leb, lt-leb, ne_eqb}
use Rattle.wire.specs.Refusals.{accepted, no_room, log_too_long, bad_limits}
use Rattle.record.specs.Takes.{longest_log}
use Rattle.place.specs.declared.limits.Limits.{Limits}
use Rattle.unit.specs.States.{limits_ok}
use Rattle.judge.specs.Judging.{longest_sheet, judge_from, judgement}
use Rattle.judge.specs.Producing.{own_sheet, produce_code, produced, produced_room}
use Rattle.judge.specs.Refusing.{JudgeRefuses, ProduceRefuses}

module _ (l : Limits) (sheet : List ℕ) where
  -- "13 for the cold start"
  -- promise
  pub judge-thirteen : limits_ok l ≡ false → JudgeRefuses 13 (judgement l sheet)
  unfolding judge_from
  judge-thirteen bad = simp bad (refl, refl, refl, refl, refl)

  -- "then 12 for a sheet over 1,048,576 bytes"
  -- promise
  pub judge-twelve :
      limits_ok l ≡ true
      → 1_048_576 < length sheet
      → JudgeRefuses 12 (judgement l sheet)
  unfolding judge_from
  judge-twelve good long = simp (good, lt-leb (length sheet) longest_sheet long) (refl, refl, refl, refl, refl)

module _ (l : Limits) (log room : List ℕ) where
  -- what is refused answers its number alone, and "nothing is written on a refusal"
  -- promise
  pub produce-kept :
      (produce_code l log (length room) ≡ 0 → ⊥)
      → ProduceRefuses (produce_code l log (length room)) l log room
  unfolding produced produced_room
  produce-kept refused =
      let other = ne_eqb (produce_code l log (length room)) accepted refused in
      simp other (refl, refl, refl, refl, refl)

  numbered : (r : ℕ)
      → (r ≡ accepted → ⊥)
      → produce_code l log (length room) ≡ r
      → ProduceRefuses r l log room
  numbered r some is = subst (λ n. ProduceRefuses n l log room) is (produce-kept (λ none. some (sym is ∙ none)))

  -- "13"
  -- promise
  pub produce-thirteen : limits_ok l ≡ false → ProduceRefuses 13 l log room
  unfolding produce_code
  produce-thirteen bad = numbered bad_limits (λ none. omega arith) (simp bad)

  module _ (good : limits_ok l ≡ true) where
    -- "12 for the log as for a run"
    -- promise
    pub produce-twelve : 1_048_576 < length log → ProduceRefuses 12 l log room
    unfolding produce_code
    produce-twelve long = numbered log_too_long (λ none. omega arith) (simp (good, lt-leb (length log) longest_log long))

    module _ (short : length log ≤ 1_048_576) where
      -- "and for a sheet that would have over 1,048,576 bytes"
      -- promise
      pub produce-twelve-sheet : 1_048_576 < length (own_sheet l log) → ProduceRefuses 12 l log room
      unfolding produce_code
      produce-twelve-sheet long =
          numbered log_too_long (λ none. omega arith)
          (simp (good, le-leb (length log) longest_log short, lt-leb (length (own_sheet l log)) longest_sheet long))

      -- "10 where the lent room is under the sheet's own length"
      -- promise
      pub produce-ten :
          length (own_sheet l log) ≤ 1_048_576
          → length room < length (own_sheet l log)
          → ProduceRefuses 10 l log room
      unfolding produce_code
      produce-ten small under =
          numbered no_room (λ none. omega arith)
          (simp (
            good,
            le-leb (length log) longest_log short,
            le-leb (length (own_sheet l log)) longest_sheet small,
            lt-leb (length (own_sheet l log)) (length room) under,
          ))

-- and where none of these stands in the way, the sheet is made
-- promise
pub produce-made : (l : Limits) (log : List ℕ) (room : ℕ)
    → limits_ok l ≡ true
    → length log ≤ 1_048_576
    → length (own_sheet l log) ≤ 1_048_576
    → length (own_sheet l log) ≤ room
    → produce_code l log room ≡ 0
unfolding produce_code
produce-made l log room good short small fits =
    simp (
      good,
      le-leb (length log) longest_log short,
      le-leb (length (own_sheet l log)) longest_sheet small,
      le-leb (length (own_sheet l log)) room fits,
    )
