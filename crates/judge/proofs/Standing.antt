-- A wrong record, whole as its kind has it, stands at the front of no bytes that would be right; nor does a due record with one byte
-- changed.
-- Proves: wrong-some, standing-wrong, changed-wrong, after-measured, wrong-at.
use mathlib.Core.Path.{◌≡◌, refl, sym, ap, ap₂, subst, ◌∙◌}
use mathlib.Core.Logic.{inl, inr}
use mathlib.Core.Bool.{true}
use mathlib.Core.List.{List, [], ◌∷◌, ◌++◌, append_assoc}
use Prim.Native.Nat.{ℕ, zero, suc, ◌+◌, ◌≤◌, ◌<◌}
use native.Mathlib.Nat.{add-zero}
use native.Mathlib.Omega.{arith}
use lib.ListN.{length, get_or, take, drop, set, length-append, length-take, length-set, take-append-drop, get_or-append}
use lib.Seq.{length-take-le, take-add, get_or-drop, get_or-set_same}
use Rattle.wire.specs.Bytes.{byte}
use Rattle.wire.proofs.Tests.{true-false, All}
use Rattle.record.specs.Takes.{take_one}
use Rattle.unit.specs.declared.state.State.{State}
use Rattle.judge.specs.declared.due.Due.{Due}
use Rattle.judge.specs.declared.due.Due.TheVariants.{AnEvent, TheAnswer, TheAction}
use Rattle.judge.specs.declared.due.Finding.TheVariants.{Wrong}
use Rattle.judge.specs.Sheets.{due_bytes, sheet_of, are_records, row_end}
use Rattle.judge.specs.Judging.{compared, against, is_right}
use Rattle.judge.specs.Fronts.{DueAfter}
use Rattle.judge.specs.FrontWords.{length_by, standing_length}
use Rattle.judge.proofs.Splits.{same-front, some_bytes, starts_with-split, right-starts}
use Rattle.judge.proofs.Fronts.{is_due, due-compared, due-is, among}
use Rattle.judge.proofs.Ways.{Onward, due-way, onward}
use Rattle.judge.proofs.Numbers.{Measured, length_by-some, dues-measured}
use Rattle.judge.proofs.Again.Meanings.{wrong-means, event-wrong}

-- a wrong record is some bytes
pub wrong-some : (d : Due) (x : List ℕ) → against d x ≡ Wrong → 1 ≤ length x
unfolding take_one
wrong-some AnEvent [] wrong = absurd (let z : ◌≡◌ {A = ℕ} 0 1 = cc in omega arith)
wrong-some (TheAnswer code) [] wrong = absurd (let z : ◌≡◌ {A = ℕ} 0 1 = cc in omega arith)
wrong-some (TheAction a) [] wrong = absurd (let z : ◌≡◌ {A = ℕ} 0 1 = cc in omega arith)
wrong-some d (kind ∷ x) wrong = omega arith

-- bytes that are compared, and taken as long as the due ones where the kind is theirs
compared-wrong : (due x y : List ℕ) (k : ℕ)
    → 1 ≤ k
    → (byte x 0 ≡ byte due 0 → k ≡ length due)
    → compared due x ≡ Wrong
    → is_right (compared due (take k x ++ y)) ≡ true
    → ⊥
compared-wrong [] x y k some long wrong right = ((wrong-means [] x).0 wrong).1 refl
compared-wrong (b ∷ due) [] y k some long wrong right = omega (arith, ((wrong-means (b ∷ due) []).0 wrong).0)
compared-wrong (b ∷ due) (kind ∷ x) y zero some long wrong right = omega arith
compared-wrong (b ∷ due) (kind ∷ x) y (suc j) some long wrong right =
    let all = b ∷ due in
    let part = take (suc j) (kind ∷ x) in
    let facts = (wrong-means all (kind ∷ x)).0 wrong in
    let cut = starts_with-split all (part ++ y) (right-starts all (part ++ y) right) in
    let same : kind ≡ b = ap (λ l. get_or l 0 0) cut in
    let enough = facts.2 same in
    let size : suc j ≡ length all = long same in
    let whole : length part ≡ length all = length-take-le (suc j) (kind ∷ x) (omega arith) ∙ size in
    let front = (same-front part all y (drop (length all) (part ++ y)) whole cut).0 in
    facts.1 (sym (take-append-drop (suc j) (kind ∷ x)) ∙ ap₂ (λ l n. l ++ drop n (kind ∷ x)) front size)

-- a wrong record is right with nothing that could follow it
pub standing-wrong : (d : Due) (x y : List ℕ)
    → (is_due d ≡ true → Measured d)
    → against d x ≡ Wrong
    → is_right (against d (take (length_by (byte x 0)) x ++ y)) ≡ true
    → ⊥
standing-wrong AnEvent [] y long wrong right = omega (arith, wrong-some AnEvent [] wrong)
standing-wrong AnEvent (kind ∷ x) y long wrong right = by (length_by kind) (length_by-some kind) right
  where
    by : (k : ℕ) → 1 ≤ k → is_right (against AnEvent (take k (kind ∷ x) ++ y)) ≡ true → ⊥
    by zero some right = omega arith
    by (suc j) some right =
        let unknown = (event-wrong kind x).0 wrong in
        true-false (is_right (against AnEvent (kind ∷ (take j x ++ y)))) right
        (ap is_right ((event-wrong kind (take j x ++ y)).1 unknown))
standing-wrong (TheAnswer code) x y long wrong right =
    compared-wrong (due_bytes (TheAnswer code)) x y (length_by (byte x 0)) (length_by-some (byte x 0))
    (λ same. ap length_by same ∙ long refl)
    wrong
    right
standing-wrong (TheAction a) x y long wrong right =
    compared-wrong (due_bytes (TheAction a)) x y (length_by (byte x 0)) (length_by-some (byte x 0))
    (λ same. ap length_by same ∙ long refl)
    wrong
    right

-- a record that is due, one byte of it changed, is wrong
pub changed-wrong : (d : Due) (x : List ℕ) (j b : ℕ)
    → is_due d ≡ true
    → is_right (against d x) ≡ true
    → j < length (due_bytes d)
    → (b ≡ byte x j → ⊥)
    → against d (set x j b) ≡ Wrong
changed-wrong d x j b is right inside other =
    let due = due_bytes d in
    let cut = starts_with-split due x (due-is d x is right) in
    let rest = drop (length due) x in
    let long = ap length cut ∙ length-append due rest in
    let same = length-set x j b in
    let here : byte x j ≡ byte due j = ap (λ l. byte l j) cut ∙ get_or-append due rest 0 j inside in
    let set_there : byte (set x j b) j ≡ b = get_or-set_same x j b 0 (omega arith) in
    due-compared d (set x j b) is
    ∙ (wrong-means due (set x j b)).1 (
      omega arith,
      λ starts.
          other
          (sym set_there
          ∙ ap (λ l. byte l j) starts
          ∙ get_or-append due (drop (length due) (set x j b)) 0 j inside
          ∙ sym here),
      λ kind. omega arith,
    )

-- what is due behind a front is as long as its kind says
pub after-measured : (s : State) (front : List ℕ) (d : Due) → DueAfter s front d → is_due d ≡ true → Measured d
after-measured s front d (inl (row, whole, due)) is = true-false (is_due d) is (ap is_due due)
after-measured s front d (inr (row, bytes, met, left, whole, event, of, ends)) is =
    among Measured met d left (subst (All Measured) of (dues-measured (row_end s row) bytes))

-- no sheet of ours has the bytes before a wrong record and that record
pub wrong-at : (s : State) (sheet : List ℕ) (at : ℕ) (d : Due) (row : List (List ℕ)) (more : List ℕ)
    → DueAfter s (take at sheet) d
    → against d (drop at sheet) ≡ Wrong
    → are_records row ≡ true
    → sheet_of s row ≡ take (at + standing_length sheet at) sheet ++ more
    → ⊥
wrong-at s sheet at d row more due wrong whole begins =
    by (onward s (take at sheet) (part ++ more) (sheet_of s row) d AnEvent (due-way s (take at sheet) d due)
    (due-way s (sheet_of s row) AnEvent (inl (row, (whole, refl), refl)))
    (sym cut))
  where
    kind : byte sheet at ≡ byte (drop at sheet) 0
    kind = sym (get_or-drop at sheet 0 0 ∙ ap (byte sheet) (add-zero at))

    part : List ℕ
    part = take (length_by (byte (drop at sheet) 0)) (drop at sheet)

    cut : sheet_of s row ≡ take at sheet ++ (part ++ more)
    cut =
        begins
        ∙ ap (λ x. take (at + length_by x) sheet ++ more) kind
        ∙ ap (λ x. x ++ more) (take-add at (length_by (byte (drop at sheet) 0)) sheet)
        ∙ append_assoc (take at sheet) part more

    long : 1 ≤ length part
    long =
        simp length-take
        (omega (arith, wrong-some d (drop at sheet) wrong, length_by-some (byte (drop at sheet) 0)))

    by : Onward (part ++ more) d AnEvent → ⊥
    by (inl (none, same)) = some_bytes part more long none
    by (inr (some, right)) =
        standing-wrong d (drop at sheet) (more ++ []) (after-measured s (take at sheet) d due) wrong
        (ap (λ x. is_right (against d x)) (sym (append_assoc part more [])) ∙ right [])
