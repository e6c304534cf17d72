-- "Otherwise it gives the offset of the first record that is wrong, short or missing; a missing one counts at the end of the sheet."
-- Proves: fault-found, fault-counted, fault-once, due-once, front-ours, missing-last, wrong-nowhere.
use mathlib.Core.Path.{◌≡◌, refl, sym, ap, ap₂, subst, ◌∙◌}
use mathlib.Core.Logic.{inl, inr}
use mathlib.Core.Bool.{Bool, true, false}
use mathlib.Core.List.{List, [], ◌∷◌, ◌++◌, append-nil, append_assoc}
use Prim.Native.Nat.{ℕ, ◌+◌, ◌≤◌}
use native.Mathlib.Nat.{zero-add}
use native.Mathlib.Omega.{arith}
use lib.ListN.{length, take, drop, length-drop}
use Rattle.wire.specs.Blocks.{blocks}
use Rattle.wire.specs.Refusals.{accepted}
use Rattle.wire.proofs.Tests.{and_both, true-false}
use Rattle.place.specs.declared.limits.Limits.{Limits}
use Rattle.unit.specs.States.{limits_ok, cold}
use Rattle.unit.specs.OnRecords.{action_room, on_record}
use Rattle.unit.specs.declared.state.State.{State}
use Rattle.judge.specs.declared.due.Due.{Due}
use Rattle.judge.specs.declared.due.Due.TheVariants.{AnEvent, TheAnswer, TheAction}
use Rattle.judge.specs.declared.due.Finding.TheVariants.{Wrong, Missing}
use Rattle.judge.specs.declared.judge.Verdict.{Verdict}
use Rattle.judge.specs.Sheets.{due_bytes, dues, sheet_of, is_record, are_records, row_end}
use Rattle.judge.specs.Judging.{starts_with, against, is_right, point_at, judgement}
use Rattle.judge.specs.Fronts.{DueAfter, FaultAt}
use Rattle.judge.specs.FrontWords.{FrontOfOurs, entries_before, through_record}
use Rattle.judge.proofs.Splits.{starts_with-split}
use Rattle.judge.proofs.Fronts.{blocks-append}
use Rattle.judge.proofs.Rows.{records-append, sheet-append}
use Rattle.judge.proofs.Ways.{entries, Counted, counted-alone}
use Rattle.judge.proofs.Judged.{Judged, ours, faulty}
use Rattle.judge.proofs.Standing.{wrong-at}
use Rattle.judge.proofs.Again.Meanings.{missing-means, event-never}
use Rattle.judge.proofs.Points.{due-alone, fault-ours, fault-same, judge-code, judge-found, found-fault}

-- only nothing is missing
nothing_left : (d : Due) (rest : List ℕ) → against d rest ≡ Missing → rest ≡ []
nothing_left AnEvent rest missing = absurd (event-never rest missing)
nothing_left (TheAnswer code) rest missing = (missing-means (due_bytes (TheAnswer code)) rest).0 missing
nothing_left (TheAction a) rest missing = (missing-means (due_bytes (TheAction a)) rest).0 missing

-- where the judge does not accept, its offset is that of a fault, with what is due there and what stands there
-- promise
pub fault-found : (l : Limits) (sheet : List ℕ)
    → (judgement l sheet).code ≡ accepted
    → is_right (judgement l sheet).point.stands ≡ false
    → FaultAt (cold l) sheet (judgement l sheet).point.at (judgement l sheet).point.due
    × ((judgement l sheet).point.stands ≡ against (judgement l sheet).point.due (drop (judgement l sheet).point.at sheet))
fault-found l sheet taken wrong =
    let fine = judge-code l sheet taken in
    by (judgement l sheet) (judge-found l sheet fine.0 fine.1) wrong
  where
    Found : Verdict → Type 0
    Found v =
        FaultAt (cold l) sheet v.point.at v.point.due
        × (v.point.stands ≡ against v.point.due (drop v.point.at sheet))

    by : (v : Verdict) → Judged (cold l) sheet 0 0 v → is_right v.point.stands ≡ false → Found v
    by v (ours row whole) wrong = true-false true refl wrong
    by v (faulty front tail d cut way bad) wrong =
        let found = found-fault (cold l) sheet front tail d cut way bad in
        subst (λ k. FaultAt (cold l) sheet k d × (against d tail ≡ against d (drop k sheet))) (sym (zero-add (length front)))
        (found.0, found.1)

-- the event records that it counted are those that stand before the fault with all that follows them, however the front is taken apart
-- promise
pub fault-counted : (l : Limits) (sheet : List ℕ)
    → (judgement l sheet).code ≡ accepted
    → is_right (judgement l sheet).point.stands ≡ false
    → DueAfter (cold l) (take (judgement l sheet).point.at sheet) (judgement l sheet).point.due
    × ((due : DueAfter (cold l) (take (judgement l sheet).point.at sheet) (judgement l sheet).point.due)
    → entries_before (cold l) (take (judgement l sheet).point.at sheet) (judgement l sheet).point.due due
    ≡ (judgement l sheet).records)
fault-counted l sheet taken wrong =
    let fine = judge-code l sheet taken in
    let v = judgement l sheet in
    let counted = by v (judge-found l sheet fine.0 fine.1) wrong in (
      counted.0,
      λ due. counted-alone (cold l) (take v.point.at sheet) v.point.due due counted.0 ∙ counted.1,
    )
  where
    by : (v : Verdict)
        → Judged (cold l) sheet 0 0 v
        → is_right v.point.stands ≡ false
        → Counted (cold l) (take v.point.at sheet) v.point.due v.records
    by v (ours row whole) wrong = true-false true refl wrong
    by v (faulty front tail d cut way bad) wrong =
        subst (λ k. Counted (cold l) (take k sheet) d (0 + entries way)) (sym (zero-add (length front)))
        (subst (Counted (cold l) (take (length front) sheet) d) (sym (zero-add (entries way)))
        (found-fault (cold l) sheet front tail d cut way bad).2)

-- and a sheet with a fault has that one only: the offset and what is due there are the judge's
-- promise
pub fault-once : (l : Limits) (sheet : List ℕ) (at : ℕ) (d : Due)
    → limits_ok l ≡ true
    → length sheet ≤ 1_048_576
    → FaultAt (cold l) sheet at d
    → ((judgement l sheet).code ≡ accepted) × ((judgement l sheet).point ≡ point_at (against d (drop at sheet)) at d)
fault-once l sheet at d good short fault = by (judgement l sheet) (judge-found l sheet good short)
  where
    by : (v : Verdict)
        → Judged (cold l) sheet 0 0 v
        → (v.code ≡ accepted) × (v.point ≡ point_at (against d (drop at sheet)) at d)
    by v (ours row whole) = fault-ours (cold l) row sheet at d whole fault
    by v (faulty front tail e cut way wrong) =
        let found = found-fault (cold l) sheet front tail e cut way wrong in
        let same = fault-same (cold l) sheet (length front) at e d found.0 fault in
        let offset : 0 + length front ≡ at = zero-add (length front) ∙ same.0 in (
          refl,
          ap (λ x. point_at x (0 + length front) e) found.1
              ∙ ap₂ (λ k x. point_at (against x (drop k sheet)) (0 + length front) x) same.0 same.1
              ∙ ap (λ k. point_at (against d (drop at sheet)) k d) offset,
        )

-- what is due is a function of the front
-- promise
pub due-once : (s : State) (front : List ℕ) (d e : Due)
    → DueAfter s front d
    → DueAfter s front e
    → d ≡ e
due-once = due-alone

-- the bytes before the offset are the front of a sheet of ours
-- promise
pub front-ours : (s : State) (front : List ℕ) (d : Due)
    → DueAfter s front d
    → FrontOfOurs s front
unfolding are_records sheet_of blocks
front-ours s front d (inl (row, whole, due)) = (row, [], (whole.0, append-nil front ∙ whole.1))
front-ours s front d (inr (row, bytes, met, left, whole, is, among, ends)) =
    let o = on_record (row_end s row) bytes action_room in
    let before = sheet_of s row in
    let part = bytes ++ blocks due_bytes met in
    let more = blocks due_bytes (d ∷ left) in
    let behind : blocks due_bytes met ++ more ≡ blocks due_bytes (dues o) =
    sym (ap (blocks due_bytes) among ∙ blocks-append met (d ∷ left)) in
    let entry : part ++ more ≡ bytes ++ blocks due_bytes (dues o) =
    append_assoc bytes (blocks due_bytes met) more ∙ ap (◌++◌ bytes) behind in (
      row ++ (bytes ∷ []),
      more,
      (
        records-append row (bytes ∷ []) whole (and_both (is_record bytes) true is refl),
        ap (λ x. x ++ more) ends
            ∙ append_assoc before part more
            ∙ ap (◌++◌ before) (entry ∙ sym (append-nil (bytes ++ blocks due_bytes (dues o))))
            ∙ sym (sheet-append s row (bytes ∷ [])),
      ),
    )

-- "a missing one counts at the end of the sheet"
-- promise
pub missing-last : (l : Limits) (sheet : List ℕ)
    → (judgement l sheet).code ≡ accepted
    → (judgement l sheet).point.stands ≡ Missing
    → (judgement l sheet).point.at ≡ length sheet
missing-last l sheet taken missing =
    let found = fault-found l sheet taken (ap is_right missing) in
    let at = (judgement l sheet).point.at in
    let left = nothing_left (judgement l sheet).point.due (drop at sheet) (sym found.1 ∙ missing) in
    omega (arith, found.0.0, ap length left, length-drop at sheet)

-- where a record is wrong no sheet of ours begins with the bytes through its end, however long that sheet is
-- promise
pub wrong-nowhere : (l : Limits) (sheet : List ℕ) (row : List (List ℕ))
    → (judgement l sheet).code ≡ accepted
    → (judgement l sheet).point.stands ≡ Wrong
    → are_records row ≡ true
    → starts_with (through_record sheet (judgement l sheet).point.at) (sheet_of (cold l) row) ≡ false
wrong-nowhere l sheet row taken wrong whole = by (starts_with front (sheet_of (cold l) row)) refl
  where
    at : ℕ
    at = (judgement l sheet).point.at

    front : List ℕ
    front = through_record sheet at

    found : FaultAt (cold l) sheet at (judgement l sheet).point.due
        × ((judgement l sheet).point.stands ≡ against (judgement l sheet).point.due (drop at sheet))
    found = fault-found l sheet taken (ap is_right wrong)

    by : (t : Bool) → starts_with front (sheet_of (cold l) row) ≡ t → t ≡ false
    by false e = refl
    by true e =
        absurd
        (wrong-at (cold l) sheet at (judgement l sheet).point.due row (drop (length front) (sheet_of (cold l) row)) found.0.1
        (sym found.1 ∙ wrong) whole (starts_with-split front (sheet_of (cold l) row) e))
