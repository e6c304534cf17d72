-- "The judge on top accepts exactly the sheets that our step would produce from the given cold start."
-- Proves: row-once, judge-taken, judge-either, accepted-ours, ours-accepted, empty-accepted.
use mathlib.Core.Path.{◌≡◌, refl, sym, ap, subst, ◌∙◌}
use mathlib.Core.Logic.{◌⊎◌, inl, inr}
use mathlib.Core.Bool.{true}
use mathlib.Core.List.{List, []}
use Prim.Native.Nat.{ℕ, ◌+◌, ◌≤◌}
use native.Mathlib.Nat.{zero-add}
use native.Mathlib.Omega.{arith}
use lib.ListN.{length}
use Rattle.wire.specs.Refusals.{accepted}
use Rattle.wire.proofs.Tests.{true-false}
use Rattle.place.specs.declared.limits.Limits.{Limits}
use Rattle.unit.specs.States.{limits_ok, cold}
use Rattle.unit.specs.declared.state.State.{State}
use Rattle.judge.specs.declared.due.Due.TheVariants.{AnEvent}
use Rattle.judge.specs.declared.due.Finding.TheVariants.{Right}
use Rattle.judge.specs.declared.judge.Verdict.{Verdict}
use Rattle.judge.specs.Sheets.{sheet_of, are_records}
use Rattle.judge.specs.Judging.{against, is_right, point_at, verdict_at, judgement}
use Rattle.judge.specs.Fronts.{OurSheet, FaultAt}
use Rattle.judge.proofs.Rows.{sheet-row}
use Rattle.judge.proofs.Judged.{Judged, ours, faulty}
use Rattle.judge.proofs.Points.{fault-ours, judge-code, judge-found, found-fault}

-- the row of a sheet is the only one
-- promise
pub row-once : (s : State) (sheet : List ℕ) (r q : List (List ℕ))
    → OurSheet s r sheet
    → OurSheet s q sheet
    → r ≡ q
row-once s sheet r q one two = sheet-row s r q one.0 two.0 (sym one.1 ∙ two.1)

-- a sheet from a good cold start that is not too long is not refused
-- promise
pub judge-taken : (l : Limits) (sheet : List ℕ)
    → limits_ok l ≡ true
    → length sheet ≤ 1_048_576
    → (judgement l sheet).code ≡ 0
judge-taken l sheet good short = by (judgement l sheet) (judge-found l sheet good short)
  where
    by : (v : Verdict) → Judged (cold l) sheet 0 0 v → v.code ≡ 0
    by v (ours row whole) = refl
    by v (faulty front tail d cut way wrong) = refl

-- it is accepted and the sheet of a row, or has a fault where the judge says
-- promise
pub judge-either : (l : Limits) (sheet : List ℕ)
    → limits_ok l ≡ true
    → length sheet ≤ 1_048_576
    → (((judgement l sheet).point.stands ≡ Right) × ((row : List (List ℕ)) × OurSheet (cold l) row sheet))
    ⊎ FaultAt (cold l) sheet (judgement l sheet).point.at (judgement l sheet).point.due
judge-either l sheet good short = by (judgement l sheet) (judge-found l sheet good short)
  where
    by : (v : Verdict)
        → Judged (cold l) sheet 0 0 v
        → ((v.point.stands ≡ Right) × ((row : List (List ℕ)) × OurSheet (cold l) row sheet))
        ⊎ FaultAt (cold l) sheet v.point.at v.point.due
    by v (ours row whole) = inl (refl, (row, whole))
    by v (faulty front tail d cut way wrong) =
        inr
        (subst (λ k. FaultAt (cold l) sheet k d) (sym (zero-add (length front)))
        (found-fault (cold l) sheet front tail d cut way wrong).0)

-- a sheet that the judge accepts is the sheet of a row of event records from this cold start, of as many as it counted
-- promise
pub accepted-ours : (l : Limits) (sheet : List ℕ)
    → (judgement l sheet).code ≡ accepted
    → (judgement l sheet).point.stands ≡ Right
    → (limits_ok l ≡ true)
    × (length sheet ≤ 1_048_576)
    × ((row : List (List ℕ)) × OurSheet (cold l) row sheet × ((judgement l sheet).records ≡ length row))
accepted-ours l sheet taken right =
    let fine = judge-code l sheet taken in
    (fine.0, fine.1, by (judgement l sheet) (judge-found l sheet fine.0 fine.1) right)
  where
    by : (v : Verdict)
        → Judged (cold l) sheet 0 0 v
        → v.point.stands ≡ Right
        → (row : List (List ℕ)) × OurSheet (cold l) row sheet × (v.records ≡ length row)
    by v (ours row whole) right = (row, whole, zero-add (length row))
    by v (faulty front tail d cut way wrong) right = true-false (is_right (against d tail)) (ap is_right right) wrong

-- and each such sheet it accepts, with its row's number of records and the sheet's end for its offset
-- promise
pub ours-accepted : (l : Limits) (sheet : List ℕ) (row : List (List ℕ))
    → limits_ok l ≡ true
    → length sheet ≤ 1_048_576
    → OurSheet (cold l) row sheet
    → judgement l sheet ≡ verdict_at (length row) (point_at Right (length sheet) AnEvent)
ours-accepted l sheet row good short whole = by (judgement l sheet) (judge-found l sheet good short)
  where
    by : (v : Verdict) → Judged (cold l) sheet 0 0 v → v ≡ verdict_at (length row) (point_at Right (length sheet) AnEvent)
    by v (ours q found) =
        let same = row-once (cold l) sheet q row found whole in
        let counted : 0 + length q ≡ length row = zero-add (length q) ∙ ap length same in
        ap (λ n. verdict_at n (point_at Right (0 + length sheet) AnEvent)) counted
        ∙ ap (λ k. verdict_at (length row) (point_at Right k AnEvent)) (zero-add (length sheet))
    by v (faulty front tail d cut way wrong) =
        fault-ours (cold l) row sheet (length front) d whole (found-fault (cold l) sheet front tail d cut way wrong).0

-- the sheet of no record is ours
-- promise
pub empty-accepted : (l : Limits) → limits_ok l ≡ true → judgement l [] ≡ verdict_at 0 (point_at Right 0 AnEvent)
unfolding are_records sheet_of
empty-accepted l good = ours-accepted l [] [] good (omega arith) (refl, refl)
