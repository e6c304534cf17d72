-- The judge by what the cold start answered, and by the length of the sheet.
-- Proves: judge-bad-limits, judge-too-long, judge-walks.
use mathlib.Core.Path.{◌≡◌, refl}
use mathlib.Core.Bool.{Bool, true, false, cond}
use mathlib.Core.List.{List}
use Prim.Native.Nat.{ℕ, ◌≤◌, ◌<◌}
use native.Mathlib.Omega.{arith}
use borrow.Author.Tests.{le-leb, lt-leb}
use lib.Dec.{leb}
use lib.ListN.{length}
use Rattle.wire.specs.Refusals.{accepted, log_too_long, bad_limits}
use Rattle.place.specs.declared.limits.Limits.{Limits}
use Rattle.unit.specs.States.{limits_ok, no_limits, cold, cold_start}
use Rattle.unit.specs.declared.start.Started.{Started}
use Rattle.judge.specs.Judging.{longest_sheet, judged_from, judge_refused, judge_from}
use Rattle.judge.specs.declared.judge.Verdict.{Verdict}

module _ (l : Limits) (sheet : List ℕ) (at : ℕ) where
  abbrev start_by : Bool → Started
  start_by ok = cond ok (record { code = accepted; state = cold l }) (record { code = bad_limits; state = cold no_limits })

  abbrev by_length : Bool → Verdict
  by_length short = cond short (judged_from (length sheet) (cold l) sheet at 0) (judge_refused log_too_long)

  abbrev judge_by : Bool → Verdict
  judge_by ok = cond ok (by_length (leb (length sheet) longest_sheet)) (judge_refused bad_limits)

  pub judge-bad-limits : ((cold_start l).code ≡ accepted → ⊥) → judge_refused (cold_start l).code ≡ judge_from l sheet at
  unfolding cold_start judge_from
  judge-bad-limits = by (limits_ok l)
    where
      by : (ok : Bool) → ((start_by ok).code ≡ accepted → ⊥) → judge_refused (start_by ok).code ≡ judge_by ok
      by true other = absurd (other refl)
      by false other = refl

  module _ (started : (cold_start l).code ≡ accepted) where
    pub judge-too-long : longest_sheet < length sheet → judge_refused log_too_long ≡ judge_from l sheet at
    unfolding cold_start judge_from
    judge-too-long long = by (limits_ok l) started
      where
        by : (ok : Bool) → (start_by ok).code ≡ accepted → judge_refused log_too_long ≡ judge_by ok
        by true given = simp (lt-leb (length sheet) longest_sheet long)
        by false given = absurd (omega arith)

    pub judge-walks :
        length sheet ≤ longest_sheet
        → judged_from (length sheet) (cold_start l).state sheet at 0 ≡ judge_from l sheet at
    unfolding cold_start judge_from
    judge-walks short = by (limits_ok l) started
      where
        by : (ok : Bool)
            → (start_by ok).code ≡ accepted
            → judged_from (length sheet) (start_by ok).state sheet at 0 ≡ judge_by ok
        by true given = simp (le-leb (length sheet) longest_sheet short)
        by false given = absurd (omega arith)
