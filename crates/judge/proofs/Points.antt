-- Two points of one sheet, and the judge's point.
-- Proves: due-before, due-alone, fault-ours, fault-before, fault-same, judge-code, judge-onward, judge-found,
-- found-fault.
use mathlib.Core.Path.{◌≡◌, refl, sym, ap, subst, ◌∙◌}
use mathlib.Core.Logic.{◌⊎◌, inl, inr}
use mathlib.Core.Bool.{Bool, true, false, cond}
use mathlib.Core.List.{List, [], ◌++◌, append-nil}
use Prim.Native.Nat.{ℕ, ◌+◌, ◌-◌, ◌≤◌}
use native.Mathlib.Omega.{arith}
use lib.Dec.{leb}
use lib.ListN.{length, take, drop, length-append, length-drop, take-append-drop}
use lib.Seq.{take-add, take-append_seam, drop-append_seam, take-length, drop-length, length-take-le}
use borrow.Author.Tests.{leb-true, leb-false, le-leb}
use Rattle.wire.specs.Refusals.{accepted, log_too_long, bad_limits}
use Rattle.wire.proofs.Tests.{cond-case, true-false}
use Rattle.record.specs.Takes.{take_one}
use Rattle.place.specs.declared.limits.Limits.{Limits}
use Rattle.unit.specs.States.{limits_ok, cold}
use Rattle.unit.specs.declared.state.State.{State}
use Rattle.judge.specs.declared.due.Due.{Due}
use Rattle.judge.specs.declared.due.Due.TheVariants.{AnEvent}
use Rattle.judge.specs.declared.judge.Verdict.{Verdict}
use Rattle.judge.specs.Judging.{longest_sheet, against, is_right, judged_from, judge_refused, judge_from, judgement}
use Rattle.judge.specs.Fronts.{OurSheet, DueAfter, FaultAt}
use Rattle.judge.proofs.Ways.{Way, entries, Counted, Onward, way-counted, due-way, onward}
use Rattle.judge.proofs.Judged.{Judged, judged}

module _ (s : State) (sheet : List ℕ) (at to : ℕ) (d e : Due) (before : at ≤ to) (fits : to ≤ length sheet) where
  -- of two points of a sheet: they are one, or at the first of them stands what is due
  pub due-before :
      DueAfter s (take at sheet) d
      → DueAfter s (take to sheet) e
      → ((at ≡ to) × (d ≡ e)) ⊎ (is_right (against d (drop at sheet)) ≡ true)
  due-before one two = by (onward s (take at sheet) part (take to sheet) d e (due-way s _ d one) (due-way s _ e two) joined)
    where
      k : ℕ
      k = to - at

      part : List ℕ
      part = take k (drop at sheet)

      there : at + k ≡ to
      there = omega arith

      joined : take at sheet ++ part ≡ take to sheet
      joined = sym (take-add at k sheet) ∙ ap (λ n. take n sheet) there

      long : length part ≡ k
      long = length-take-le k (drop at sheet) (simp length-drop (omega arith))

      by : Onward part d e → ((at ≡ to) × (d ≡ e)) ⊎ (is_right (against d (drop at sheet)) ≡ true)
      by (inl (none, same)) = inl (omega (arith, ap length none, long), same)
      by (inr (some, right)) =
          let whole = take-append-drop k (drop at sheet) in
          inr (ap (λ x. is_right (against d x)) (sym whole) ∙ right (drop k (drop at sheet)))

-- one thing is due behind a front
pub due-alone : (s : State) (front : List ℕ) (d e : Due) → DueAfter s front d → DueAfter s front e → d ≡ e
due-alone s front d e one two =
    by (onward s front [] front d e (due-way s front d one) (due-way s front e two) (append-nil front))
  where
    by : Onward [] d e → d ≡ e
    by (inl (none, same)) = same
    by (inr (some, right)) = absurd (some refl)

-- a sheet of ours has no fault
pub fault-ours : {A : Type 0} (s : State) (row : List (List ℕ)) (sheet : List ℕ) (at : ℕ) (d : Due)
    → OurSheet s row sheet
    → FaultAt s sheet at d
    → A
unfolding take_one
fault-ours s row sheet at d whole (fits, due, wrong) =
    by (due-before s sheet at (length sheet) d AnEvent fits (omega arith) due (inl (row, (whole.0, take-length sheet ∙ whole.1), refl)))
  where
    by : {A : Type 0} → ((at ≡ length sheet) × (d ≡ AnEvent)) ⊎ (is_right (against d (drop at sheet)) ≡ true) → A
    by (inl (last, event)) =
        let right : is_right (against d (drop at sheet)) ≡ true =
        ap (λ x. is_right (against x (drop at sheet))) event
        ∙ ap (λ k. is_right (against AnEvent (drop k sheet))) last
        ∙ ap (λ x. is_right (against AnEvent x)) (drop-length sheet) in
        true-false (is_right (against d (drop at sheet))) right wrong
    by (inr right) = true-false (is_right (against d (drop at sheet))) right wrong

-- a sheet has one fault at most
module _ (s : State) (sheet : List ℕ) where
  fault-before : (at to : ℕ) (d e : Due) → at ≤ to → FaultAt s sheet at d → FaultAt s sheet to e → (at ≡ to) × (d ≡ e)
  fault-before at to d e before (fits, due, wrong) other =
      by (due-before s sheet at to d e before other.0 due other.1)
    where
      by : ((at ≡ to) × (d ≡ e)) ⊎ (is_right (against d (drop at sheet)) ≡ true) → (at ≡ to) × (d ≡ e)
      by (inl same) = same
      by (inr right) = true-false (is_right (against d (drop at sheet))) right wrong

  pub fault-same : (at to : ℕ) (d e : Due) → FaultAt s sheet at d → FaultAt s sheet to e → (at ≡ to) × (d ≡ e)
  fault-same at to d e one two = by (leb at to) refl
    where
      by : (b : Bool) → leb at to ≡ b → (at ≡ to) × (d ≡ e)
      by true le = fault-before at to d e (leb-true at to le) one two
      by false gt =
          let before : to ≤ at = omega (arith, leb-false at to gt) in
          let same = fault-before to at e d before two one in
          (sym same.0, sym same.1)

-- a judgement is of good limits and of a sheet that is not too long
pub judge-code : (l : Limits) (sheet : List ℕ)
    → (judgement l sheet).code ≡ accepted
    → (limits_ok l ≡ true) × (length sheet ≤ longest_sheet)
unfolding judge_from
judge-code l sheet =
    let found = judged_from (length sheet) (cold l) sheet 0 0 in
    let fits = leb (length sheet) longest_sheet in
    let Fine : Verdict → Type 0 = λ v. v.code ≡ accepted → (limits_ok l ≡ true) × (length sheet ≤ longest_sheet) in
    cond-case Fine (limits_ok l) (cond fits found (judge_refused log_too_long)) (judge_refused bad_limits)
    (λ good.
    cond-case Fine fits found (judge_refused log_too_long)
    (λ short is. (good, leb-true (length sheet) longest_sheet short))
    (λ long is. absurd (omega arith)))
    (λ bad is. absurd (omega arith))

-- and then what it found, from an offset on and in a whole sheet
pub judge-onward : (l : Limits) (sheet : List ℕ) (at : ℕ)
    → limits_ok l ≡ true
    → length sheet ≤ longest_sheet
    → Judged (cold l) (drop at sheet) at 0 (judge_from l sheet at)
unfolding judge_from
judge-onward l sheet at good short =
    let found = judged (length sheet) (cold l) sheet at 0 (simp length-drop (omega arith)) in
    simp (good, le-leb (length sheet) longest_sheet short) found

pub judge-found : (l : Limits) (sheet : List ℕ)
    → limits_ok l ≡ true
    → length sheet ≤ longest_sheet
    → Judged (cold l) sheet 0 0 (judgement l sheet)
judge-found l sheet = judge-onward l sheet 0

-- a fault that was found, and the entries before it
pub found-fault : (s : State) (sheet front tail : List ℕ) (d : Due)
    → sheet ≡ front ++ tail
    → (way : Way s front d)
    → is_right (against d tail) ≡ false
    → FaultAt s sheet (length front) d
    × (against d tail ≡ against d (drop (length front) sheet))
    × Counted s (take (length front) sheet) d (entries way)
found-fault s sheet front tail d cut way wrong =
    let before : front ≡ take (length front) sheet = sym (ap (take (length front)) cut ∙ take-append_seam front tail) in
    let behind : tail ≡ drop (length front) sheet = sym (ap (drop (length front)) cut ∙ drop-append_seam front tail) in
    let counted = subst (λ x. Counted s x d (entries way)) before (way-counted s front d way) in (
      (
        omega (arith, ap length cut, length-append front tail),
        counted.0,
        ap (λ x. is_right (against d x)) (sym behind) ∙ wrong,
      ),
      ap (against d) behind,
      counted,
    )
