-- What the judge's walk over a sheet finds: the sheet of a row, or the first record that is not what is due.
-- Defines: Read, Judged.
-- Proves: dues-read, judged.
use mathlib.Core.Path.{◌≡◌, refl, sym, ap, subst, ◌∙◌}
use mathlib.Core.Bool.{true, false, cond}
use mathlib.Core.List.{List, [], ◌∷◌, ◌++◌, append_assoc}
use Prim.Native.Nat.{ℕ, zero, suc, ◌+◌, ◌≤◌}
use native.Mathlib.Nat.{add-zero}
use native.Mathlib.Omega.{arith}
use lib.ListN.{length, take, drop, length-append}
use lib.Seq.{take-append_seam, drop-append_seam, drop-drop}
use Rattle.wire.specs.Blocks.{blocks}
use Rattle.wire.proofs.Tests.{and_both, cond-case, All}
use Rattle.record.specs.Takes.{take_one, on_taken}
use Rattle.record.specs.Takes.{Taken}
use Rattle.record.specs.Takes.{Stopped}
use Rattle.unit.specs.Steps.{Outcome}
use Rattle.unit.specs.OnRecords.{action_room, on_record}
use Rattle.unit.specs.declared.state.State.{State}
use Rattle.judge.specs.declared.due.Due.{Due}
use Rattle.judge.specs.declared.due.Due.TheVariants.{AnEvent}
use Rattle.judge.specs.declared.due.Finding.TheVariants.{Right}
use Rattle.judge.specs.declared.due.Point.{Point}
use Rattle.judge.specs.declared.judge.Verdict.{Verdict}
use Rattle.judge.specs.Sheets.{due_bytes, dues, sheet_of, is_record, are_records}
use Rattle.judge.specs.Judging.{against, stands_at, is_right, stopped_as, point_at, dues_at, on_point, verdict_at, stopped_at, judged_from}
use Rattle.judge.specs.Fronts.{OurSheet}
use Rattle.judge.proofs.Splits.{starts_with-split}
use Rattle.judge.proofs.Fronts.{Front, ends, breaks, begins, front-is, record-some, is_due, due-is, dues-due}
use Rattle.judge.proofs.Rows.{entry_at}
use Rattle.judge.proofs.Ways.{Way, starts, inside, beyond, entries}

-- what the walk over the records that are due finds: all of them; or the first that is not right
pub data Read (ds : List Due) (rest : List ℕ) (at : ℕ) : Point → Type 0 where
  all : (tail : List ℕ)
      → rest ≡ blocks due_bytes ds ++ tail
      → Read ds rest at (point_at Right (at + length (blocks due_bytes ds)) AnEvent)
  fails : (met left : List Due) (d : Due) (tail : List ℕ)
      → ds ≡ met ++ (d ∷ left)
      → rest ≡ blocks due_bytes met ++ tail
      → is_right (against d tail) ≡ false
      → Read ds rest at (point_at (against d tail) (at + length (blocks due_bytes met)) d)

-- an offset behind two parts
past : (at : ℕ) (a b : List ℕ) → at + length (a ++ b) ≡ at + length a + length b
past at a b = omega (arith, length-append a b)

-- what is left of a sheet behind a part of it
later : (sheet : List ℕ) (at : ℕ) (a x : List ℕ) → drop at sheet ≡ a ++ x → drop (at + length a) sheet ≡ x
later sheet at a x cut = sym (drop-drop (length a) at sheet) ∙ ap (drop (length a)) cut ∙ drop-append_seam a x

-- one more of them at the front
more-read : (d : Due) (ds : List Due) (rest : List ℕ) (at : ℕ) (p : Point)
    → Read ds rest (at + length (due_bytes d)) p
    → Read (d ∷ ds) (due_bytes d ++ rest) at p
unfolding blocks
more-read d ds rest at p (all tail cut) =
    let behind = blocks due_bytes ds in
    subst (λ k. Read (d ∷ ds) (due_bytes d ++ rest) at (point_at Right k AnEvent)) (past at (due_bytes d) behind)
    (all tail (ap (◌++◌ (due_bytes d)) cut ∙ sym (append_assoc (due_bytes d) behind tail)))
more-read d ds rest at p (fails met left e tail among cut wrong) =
    let before = blocks due_bytes met in
    subst (λ k. Read (d ∷ ds) (due_bytes d ++ rest) at (point_at (against e tail) k e)) (past at (due_bytes d) before)
    (fails (d ∷ met) left e tail (ap (◌∷◌ d) among)
    (ap (◌++◌ (due_bytes d)) cut ∙ sym (append_assoc (due_bytes d) before tail)) wrong)

pub dues-read : (ds : List Due) (sheet : List ℕ) (at : ℕ)
    → All (λ d. is_due d ≡ true) ds
    → Read ds (drop at sheet) at (dues_at ds sheet at)
unfolding dues_at stands_at blocks
dues-read [] sheet at due =
    subst (λ k. Read [] (drop at sheet) at (point_at Right k AnEvent)) (add-zero at) (all (drop at sheet) refl)
dues-read (d ∷ ds) sheet at due =
    let next = dues-read ds sheet (at + length (due_bytes d)) due.1 in
    cond-case (Read (d ∷ ds) (drop at sheet) at) (is_right (against d (drop at sheet))) _ _
    (λ right.
    let starts = starts_with-split (due_bytes d) (drop at sheet) (due-is d (drop at sheet) due.0 right) in
    let cut = starts ∙ ap (◌++◌ (due_bytes d)) (drop-drop (length (due_bytes d)) at sheet) in
    subst (λ x. Read (d ∷ ds) x at (dues_at ds sheet (at + length (due_bytes d)))) (sym cut) (more-read d ds _ at _ next))
    (λ wrong.
    subst (λ k. Read (d ∷ ds) (drop at sheet) at (point_at (against d (drop at sheet)) k d)) (add-zero at)
    (fails [] ds d (drop at sheet) refl refl wrong))

-- what the judge finds in the rest of a sheet from an offset on, so many event records counted before it
pub data Judged (s : State) (rest : List ℕ) (at n : ℕ) : Verdict → Type 0 where
  ours : (row : List (List ℕ))
      → OurSheet s row rest
      → Judged s rest at n (verdict_at (n + length row) (point_at Right (at + length rest) AnEvent))
  faulty : (front tail : List ℕ) (d : Due)
      → rest ≡ front ++ tail
      → (way : Way s front d)
      → is_right (against d tail) ≡ false
      → Judged s rest at n (verdict_at (n + entries way) (point_at (against d tail) (at + length front) d))

-- nothing is left
at-end : (s : State) (rest : List ℕ) (at n : ℕ) → rest ≡ [] → Judged s rest at n (verdict_at n (point_at Right at AnEvent))
unfolding are_records sheet_of
at-end s rest at n none =
    subst (λ k. Judged s rest at n (verdict_at n (point_at Right k AnEvent))) (ap (λ x. at + length x) none ∙ add-zero at)
    (subst (λ m. Judged s rest at n (verdict_at m (point_at Right (at + length rest) AnEvent))) (add-zero n) (ours [] (refl, none)))

-- one more entry at the front
more-judged : (s : State) (bytes rest : List ℕ) (at n : ℕ) (v : Verdict)
    → is_record bytes ≡ true
    → Judged (on_record s bytes action_room).state rest (at + length (entry_at s bytes)) (n + 1) v
    → Judged s (entry_at s bytes ++ rest) at n v
unfolding are_records sheet_of entries
more-judged s bytes rest at n v is (ours row (whole, sheet)) =
    let entry = entry_at s bytes in
    let count : n + suc (length row) ≡ n + 1 + length row = omega arith in
    subst (λ m. Judged s (entry ++ rest) at n (verdict_at m (point_at Right (at + length entry + length rest) AnEvent))) count
    (subst (λ k. Judged s (entry ++ rest) at n (verdict_at (n + suc (length row)) (point_at Right k AnEvent))) (past at entry rest)
    (ours (bytes ∷ row) (and_both (is_record bytes) (are_records row) is whole, ap (◌++◌ entry) sheet)))
more-judged s bytes rest at n v is (faulty front tail d cut way wrong) =
    let entry = entry_at s bytes in
    let count : n + suc (entries way) ≡ n + 1 + entries way = omega arith in
    subst (λ m. Judged s (entry ++ rest) at n (verdict_at m (point_at (against d tail) (at + length entry + length front) d))) count
    (subst (λ k. Judged s (entry ++ rest) at n (verdict_at (n + suc (entries way)) (point_at (against d tail) k d))) (past at entry front)
    (faulty (entry ++ front) tail d (ap (◌++◌ entry) cut ∙ sym (append_assoc entry front tail))
    (beyond bytes front is way refl) wrong))

-- the walk over so many event records finds that
abbrev Found : ℕ → Type 0
Found most =
    (s : State) (sheet : List ℕ) (at n : ℕ)
    → length (drop at sheet) ≤ most
    → Judged s (drop at sheet) at n (judged_from most s sheet at n)

-- the walk from an offset where an event record is due, one record of it and then so many more
module _ (most : ℕ) (s : State) (sheet : List ℕ) (at n : ℕ) (few : length (drop at sheet) ≤ suc most)
    (on : Found most) where
  rest : List ℕ
  rest = drop at sheet

  read : Outcome → Point → Verdict
  read o p = on_point p (λ to. judged_from most o.state sheet to (n + 1)) (verdict_at n)

  broken : (stop : ℕ)
      → take_one rest ≡ Stopped stop
      → is_right (stopped_as stop) ≡ false
      → Judged s rest at n (stopped_at n stop at)
  unfolding rest entries
  broken stop taken wrong =
      let stands : against AnEvent rest ≡ stopped_as stop = ap (λ t. on_taken t stopped_as (λ k. Right)) taken in
      subst (λ x. Judged s rest at n (verdict_at n (point_at x at AnEvent))) stands
      (subst (λ k. Judged s rest at n (verdict_at n (point_at (against AnEvent rest) k AnEvent))) (add-zero at)
      (subst (λ m. Judged s rest at n (verdict_at m (point_at (against AnEvent rest) (at + 0) AnEvent))) (add-zero n)
      (faulty [] rest AnEvent refl (starts refl refl) (ap is_right stands ∙ wrong))))

  module _ (bytes more : List ℕ) (is : is_record bytes ≡ true) (cut : drop at sheet ≡ bytes ++ more) where
    o : Outcome
    o = on_record s bytes action_room

    behind-it : (p : Point) → Read (dues o) more (at + length bytes) p → Judged s rest at n (read o p)
    unfolding rest read o entries
    behind-it p (all tail met) =
        let entry = entry_at s bytes in
        let behind = blocks due_bytes (dues o) in
        let whole : drop at sheet ≡ entry ++ tail = cut ∙ ap (◌++◌ bytes) met ∙ sym (append_assoc bytes behind tail) in
        let left = later sheet at entry tail whole in
        let fewer : length (drop (at + length entry) sheet) ≤ most =
        omega (
          arith,
          ap length left,
          ap length whole,
          length-append entry tail,
          length-append bytes behind,
          record-some bytes is,
        ) in
        subst (λ k. Judged s rest at n (judged_from most o.state sheet k (n + 1))) (past at bytes behind)
        (subst (λ x. Judged s x at n (judged_from most o.state sheet (at + length entry) (n + 1))) (ap (◌++◌ entry) left ∙ sym whole)
        (more-judged s bytes (drop (at + length entry) sheet) at n _ is (on o.state sheet (at + length entry) (n + 1) fewer)))
    behind-it p (fails met left d tail among follows wrong) =
        let before = blocks due_bytes met in
        let point = point_at (against d tail) (at + length bytes + length before) d in
        let stops : verdict_at n point ≡ read o point =
        ap (λ b. cond b (judged_from most o.state sheet point.at (n + 1)) (verdict_at n point)) (sym wrong) in
        subst (Judged s rest at n) stops
        (subst (λ k. Judged s rest at n (verdict_at n (point_at (against d tail) k d))) (past at bytes before)
        (subst (λ m. Judged s rest at n (verdict_at m (point_at (against d tail) (at + length (bytes ++ before)) d))) (add-zero n)
        (faulty (bytes ++ before) tail d (cut ∙ ap (◌++◌ bytes) follows ∙ sym (append_assoc bytes before tail))
        (inside bytes met left is among refl)
        wrong)))

    taken-off : Judged s rest at n (read o (dues_at (dues o) sheet (at + length bytes)))
    unfolding o
    taken-off =
        behind-it (dues_at (dues o) sheet (at + length bytes))
        (subst (λ x. Read (dues o) x (at + length bytes) (dues_at (dues o) sheet (at + length bytes))) (later sheet at bytes more cut)
        (dues-read (dues o) sheet (at + length bytes) (dues-due o)))

pub judged : (most : ℕ) (s : State) (sheet : List ℕ) (at n : ℕ)
    → length (drop at sheet) ≤ most
    → Judged s (drop at sheet) at n (judged_from most s sheet at n)
unfolding judged_from rest read o
judged zero s sheet at n few = at-end s (drop at sheet) at n (none (drop at sheet) few)
  where
    none : (l : List ℕ) → length l ≤ 0 → l ≡ []
    none [] few = refl
    none (x ∷ l) few = absurd (omega arith)
judged (suc most) s sheet at n few = by (take_one (drop at sheet)) refl (front-is (drop at sheet)) (judged most)
  where
    step : Outcome → ℕ → Verdict
    step o k = on_point (dues_at (dues o) sheet (at + k)) (λ to. judged_from most o.state sheet to (n + 1)) (verdict_at n)

    by : (t : Taken)
        → take_one (drop at sheet) ≡ t
        → Front (drop at sheet) t
        → Found most
        → Judged s (drop at sheet) at n
        (on_taken t (λ stop. stopped_at n stop at) (λ k. step (on_record s (take k (drop at sheet)) action_room) k))
    by t e (ends none) on = at-end s (drop at sheet) at n none
    by t e (breaks stop wrong) on = broken most s sheet at n few on stop e wrong
    by t e (begins bytes more is cut) on =
        let front : take (length bytes) (drop at sheet) ≡ bytes = ap (take (length bytes)) cut ∙ take-append_seam bytes more in
        subst (λ x. Judged s (drop at sheet) at n (step (on_record s x action_room) (length bytes))) (sym front)
        (taken-off most s sheet at n few on bytes more is cut)
