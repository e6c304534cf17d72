-- "A reader holds the sheet and the offset reached": what it tells is what the rest of the sheet from there on tells.
-- Proves: reader-stands, reader-opened, reader-judged, reader-past.
use mathlib.Core.Path.{◌≡◌, refl, sym, ap, ap₂, subst, ◌∙◌}
use mathlib.Core.Bool.{true}
use mathlib.Core.List.{List}
use Prim.Native.Nat.{ℕ, ◌+◌, ◌≤◌}
use native.Mathlib.Nat.{zero-add, add-zero}
use native.Mathlib.Omega.{arith}
use denote.Ref.{Bor}
use lib.ListN.{length, take, drop, length-drop, drop_of_length-le}
use Rattle.place.specs.declared.limits.Limits.{Limits}
use Rattle.unit.specs.States.{limits_ok, cold}
use Rattle.unit.specs.declared.state.State.{State}
use Rattle.judge.specs.declared.due.Due.{Due}
use Rattle.judge.specs.declared.due.Due.TheVariants.{AnEvent}
use Rattle.judge.specs.declared.due.Finding.TheVariants.{Right}
use Rattle.judge.specs.declared.judge.Verdict.{Verdict}
use Rattle.judge.specs.declared.reader.Reader.{Reader}
use Rattle.judge.specs.Judging.{against, stands_at, judge_from, judgement}
use Rattle.judge.specs.Readers.{opened, moved_to, reader_stands, reader_judged}
use Rattle.judge.proofs.Rows.{sheet-row}
use Rattle.judge.proofs.Ways.{entries, Counted, counted-alone}
use Rattle.judge.proofs.Judged.{Judged, ours, faulty}
use Rattle.judge.proofs.Points.{fault-ours, fault-same, judge-onward, judge-found, found-fault}
use Rattle.judge.proofs.Again.Accepted.{empty-accepted}

-- what stands at the offset reached is what stands at the front of the rest
-- promise
pub reader-stands : (r : Reader) (at : ℕ) (d : Due) → reader_stands (moved_to r at) d ≡ against d (drop at r.sheet.now)
unfolding stands_at
reader-stands r at d = refl

-- a reader that was opened judges the whole sheet
-- promise
pub reader-opened : (sheet : Bor (List ℕ)) (l : Limits) → reader_judged (opened sheet) l ≡ judgement l sheet.now
reader-opened sheet l = refl

-- one judgement is the other, the offset counted from so much further back
abbrev Further : ℕ → Verdict → Verdict → Type 0
Further at v w =
    (v.code ≡ w.code)
    × (v.records ≡ w.records)
    × (v.point.at ≡ at + w.point.at)
    × (v.point.stands ≡ w.point.stands)
    × (v.point.due ≡ w.point.due)

-- the same bytes are judged alike, wherever they begin
further : (s : State) (rest : List ℕ) (at n : ℕ) (v w : Verdict) → Judged s rest at n v → Judged s rest 0 n w → Further at v w
further s rest at n v w (ours row whole) (ours more all) =
    let same = sheet-row s row more whole.0 all.0 (sym whole.1 ∙ all.1) in
    (refl, ap (λ x. n + length x) same, ap (λ k. at + k) (sym (zero-add (length rest))), refl, refl)
further s rest at n v w (ours row whole) (faulty front tail d cut way wrong) =
    fault-ours s row rest (length front) d whole (found-fault s rest front tail d cut way wrong).0
further s rest at n v w (faulty front tail d cut way wrong) (ours row whole) =
    fault-ours s row rest (length front) d whole (found-fault s rest front tail d cut way wrong).0
further s rest at n v w (faulty front tail d cut way wrong) (faulty front-too tail-too e cut-too way-too wrong-too) =
    let one = found-fault s rest front tail d cut way wrong in
    let two = found-fault s rest front-too tail-too e cut-too way-too wrong-too in
    let same = fault-same s rest (length front) (length front-too) d e one.0 two.0 in
    let there : Counted s (take (length front-too) rest) e (entries way) =
    subst (λ x. Counted s (take (length front-too) rest) x (entries way)) same.1
    (subst (λ k. Counted s (take k rest) d (entries way)) same.0 one.2) in
    let counted = counted-alone s (take (length front-too) rest) e there.0 two.2.0 in (
      refl,
      ap (λ m. n + m) (sym there.1 ∙ counted ∙ two.2.1),
      ap (λ k. at + k) (same.0 ∙ sym (zero-add (length front-too))),
      one.1 ∙ ap₂ (λ k x. against x (drop k rest)) same.0 same.1 ∙ sym two.1,
      same.1,
    )

module _ (r : Reader) (at : ℕ) (l : Limits) (good : limits_ok l ≡ true) (short : length r.sheet.now ≤ 1_048_576) where
  -- a reader at an offset judges as the rest of the sheet from there on is judged from a cold start, its own offset added
  -- promise
  pub reader-judged :
      ((reader_judged (moved_to r at) l).code ≡ (judgement l (drop at r.sheet.now)).code)
      × ((reader_judged (moved_to r at) l).records ≡ (judgement l (drop at r.sheet.now)).records)
      × ((reader_judged (moved_to r at) l).point.at ≡ at + (judgement l (drop at r.sheet.now)).point.at)
      × ((reader_judged (moved_to r at) l).point.stands ≡ (judgement l (drop at r.sheet.now)).point.stands)
      × ((reader_judged (moved_to r at) l).point.due ≡ (judgement l (drop at r.sheet.now)).point.due)
  reader-judged =
      let sheet = r.sheet.now in
      let left = length-drop at sheet in
      further (cold l) (drop at sheet) at 0 (judge_from l sheet at) (judgement l (drop at sheet)) (judge-onward l sheet at good short)
      (judge-found l (drop at sheet) good (omega arith))

  -- from the sheet's end on nothing is left to judge
  -- promise
  pub reader-past :
      length r.sheet.now ≤ at
      → ((reader_judged (moved_to r at) l).code ≡ 0)
      × ((reader_judged (moved_to r at) l).records ≡ 0)
      × ((reader_judged (moved_to r at) l).point.at ≡ at)
      × ((reader_judged (moved_to r at) l).point.stands ≡ Right)
      × ((reader_judged (moved_to r at) l).point.due ≡ AnEvent)
  reader-past past =
      let sheet = r.sheet.now in
      let empty = ap (judgement l) (drop_of_length-le sheet past) ∙ empty-accepted l good in
      let same = reader-judged in (
        same.0 ∙ ap (λ v. v.code) empty,
        same.1 ∙ ap (λ v. v.records) empty,
        same.2 ∙ ap (λ v. at + v.point.at) empty ∙ add-zero at,
        same.3 ∙ ap (λ v. v.point.stands) empty,
        same.4 ∙ ap (λ v. v.point.due) empty,
      )
