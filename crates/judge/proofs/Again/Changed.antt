-- An accepted sheet with any one byte of an answer or an action changed is not accepted, and the offset is that record's.
-- Proves: due-within, changed-refused.
use mathlib.Core.Path.{◌≡◌, refl, sym, ap, subst, ◌∙◌}
use mathlib.Core.Logic.{◌⊎◌, inl, inr}
use mathlib.Core.Bool.{Bool, true, false}
use mathlib.Core.List.{List, ◌∷◌, ◌++◌, append_assoc}
use Prim.Native.Nat.{ℕ, ◌+◌, ◌-◌, ◌≤◌, ◌<◌}
use native.Mathlib.Omega.{arith}
use lib.Dec.{leb}
use lib.ListN.{length, take, drop, set, length-set}
use lib.Seq.{take-append_seam, drop-append_seam, take_all, take-length, take-set-le, drop-set-add, get_or-drop}
use borrow.Author.Tests.{leb-true, leb-false}
use Rattle.wire.specs.Blocks.{blocks}
use Rattle.wire.specs.Bytes.{byte}
use Rattle.wire.specs.Refusals.{accepted}
use Rattle.place.specs.declared.limits.Limits.{Limits}
use Rattle.unit.specs.States.{limits_ok, cold}
use Rattle.unit.specs.OnRecords.{action_room, on_record}
use Rattle.unit.specs.declared.state.State.{State}
use Rattle.judge.specs.declared.due.Due.{Due}
use Rattle.judge.specs.declared.due.Due.TheVariants.{AnEvent, TheAnswer, TheAction}
use Rattle.judge.specs.declared.due.Finding.TheVariants.{Wrong}
use Rattle.judge.specs.Sheets.{due_bytes, dues, sheet_of, is_record, are_records, row_end}
use Rattle.judge.specs.Judging.{against, is_right, point_at, judgement}
use Rattle.judge.specs.Fronts.{OurSheet, DueAfter}
use Rattle.judge.proofs.Fronts.{is_due}
use Rattle.judge.proofs.Rows.{sheet-append}
use Rattle.judge.proofs.Ways.{dues-cut}
use Rattle.judge.proofs.Points.{due-before, due-alone}
use Rattle.judge.proofs.Standing.{changed-wrong}
use Rattle.judge.proofs.Again.Faults.{fault-once}

-- what has bytes is no event
has-bytes : (d : Due) → 1 ≤ length (due_bytes d) → is_due d ≡ true
has-bytes AnEvent some = absurd (omega arith)
has-bytes (TheAnswer code) some = refl
has-bytes (TheAction a) some = refl

module _ (s : State) (row : List (List ℕ)) (sheet : List ℕ) (at : ℕ) (d : Due) (whole : OurSheet s row sheet)
    (due : DueAfter s (take at sheet) d) (some : 1 ≤ length (due_bytes d)) where
  no-event : {A : Type 0} → d ≡ AnEvent → A
  no-event event = absurd (omega (arith, ap (λ x. length (due_bytes x)) event))

  -- it stands in the sheet
  within : at ≤ length sheet
  within = by (leb at (length sheet)) refl
    where
      by : (b : Bool) → leb at (length sheet) ≡ b → at ≤ length sheet
      by true le = leb-true at (length sheet) le
      by false gt =
          let all = take_all at sheet (omega (arith, leb-false at (length sheet) gt)) in
          no-event (due-alone s sheet d AnEvent (subst (λ x. DueAfter s x d) all due) (inl (row, whole, refl)))

  -- and is right there
  stands : is_right (against d (drop at sheet)) ≡ true
  stands =
      by
      (due-before s sheet at (length sheet) d AnEvent within (omega arith) due
      (inl (row, (whole.0, take-length sheet ∙ whole.1), refl)))
    where
      by : ((at ≡ length sheet) × (d ≡ AnEvent)) ⊎ (is_right (against d (drop at sheet)) ≡ true)
          → is_right (against d (drop at sheet)) ≡ true
      by (inl (last, event)) = no-event event
      by (inr right) = right

-- each answer and each action of a sheet of ours is due where it stands
-- promise
pub due-within : (s : State) (row more : List (List ℕ)) (bytes : List ℕ) (met left : List Due) (d : Due) (front : List ℕ)
    → are_records row ≡ true
    → is_record bytes ≡ true
    → dues (on_record (row_end s row) bytes action_room) ≡ met ++ (d ∷ left)
    → front ≡ sheet_of s row ++ (bytes ++ blocks due_bytes met)
    → DueAfter s (take (length front) (sheet_of s (row ++ (bytes ∷ more)))) d
    × (take (length (due_bytes d)) (drop (length front) (sheet_of s (row ++ (bytes ∷ more)))) ≡ due_bytes d)
unfolding sheet_of
due-within s row more bytes met left d front whole is of begins =
    let o = on_record (row_end s row) bytes action_room in
    let later = sheet_of o.state more in
    let behind = blocks due_bytes (dues o) in
    let rest = blocks due_bytes left ++ later in
    let cut : sheet_of s (row ++ (bytes ∷ more)) ≡ front ++ (due_bytes d ++ rest) =
    sheet-append s row (bytes ∷ more)
    ∙ ap (◌++◌ (sheet_of s row))
    (append_assoc bytes behind later
    ∙ ap (◌++◌ bytes) (dues-cut o met left d later of)
    ∙ sym (append_assoc bytes (blocks due_bytes met) (due_bytes d ++ rest)))
    ∙ sym (append_assoc (sheet_of s row) (bytes ++ blocks due_bytes met) (due_bytes d ++ rest))
    ∙ ap (λ x. x ++ (due_bytes d ++ rest)) (sym begins) in
    let before = ap (take (length front)) cut ∙ take-append_seam front (due_bytes d ++ rest) in
    let after = ap (drop (length front)) cut ∙ drop-append_seam front (due_bytes d ++ rest) in (
      subst (λ x. DueAfter s x d) (sym before) (inr (row, bytes, met, left, whole, is, of, begins)),
      ap (take (length (due_bytes d))) after ∙ take-append_seam (due_bytes d) rest,
    )

-- a sheet of ours with another byte in a record that is due is judged wrong there
-- promise
pub changed-refused : (l : Limits) (row : List (List ℕ)) (sheet : List ℕ) (at i b : ℕ) (d : Due)
    → limits_ok l ≡ true
    → length sheet ≤ 1_048_576
    → OurSheet (cold l) row sheet
    → DueAfter (cold l) (take at sheet) d
    → at ≤ i
    → i < at + length (due_bytes d)
    → (b ≡ byte sheet i → ⊥)
    → ((judgement l (set sheet i b)).code ≡ accepted) × ((judgement l (set sheet i b)).point ≡ point_at Wrong at d)
changed-refused l row sheet at i b d good short whole due from to other =
    let some : 1 ≤ length (due_bytes d) = omega arith in
    let fits = within (cold l) row sheet at d whole due some in
    let j = i - at in
    let there : i ≡ at + j = omega arith in
    let other-there : b ≡ byte (drop at sheet) j → ⊥ =
    λ same. other (same ∙ get_or-drop at sheet j 0 ∙ ap (byte sheet) (sym there)) in
    let behind : drop at (set sheet i b) ≡ set (drop at sheet) j b =
    ap (λ k. drop at (set sheet k b)) there ∙ drop-set-add at sheet j b in
    let wrong : against d (drop at (set sheet i b)) ≡ Wrong =
    ap (against d) behind
    ∙ changed-wrong d (drop at sheet) j b (has-bytes d some) (stands (cold l) row sheet at d whole due some) (omega arith) other-there in
    let size = length-set sheet i b in
    let fault =
    fault-once l (set sheet i b) at d good (omega arith) (
      omega arith,
      subst (λ x. DueAfter (cold l) x d) (sym (take-set-le at sheet i b from)) due,
      ap is_right wrong,
    ) in
    (fault.0, fault.1 ∙ ap (λ x. point_at x at d) wrong)
