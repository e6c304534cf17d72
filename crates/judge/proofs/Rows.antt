-- The sheets of a row of event records and of a row behind it; no sheet has two rows.
-- Defines: entry_at.
-- Proves: records-append, sheet-append, entry-some, entry-split, sheet-row.
use mathlib.Core.Path.{◌≡◌, refl, sym, ap, ap₂, ◌∙◌}
use mathlib.Core.Bool.{true}
use mathlib.Core.List.{List, [], ◌∷◌, ◌++◌, append_assoc, append_cancel_left}
use Prim.Native.Nat.{ℕ}
use Rattle.wire.specs.Blocks.{blocks}
use Rattle.wire.proofs.Tests.{and_left, and_right, and_both}
use Rattle.unit.specs.OnRecords.{action_room, on_record}
use Rattle.unit.specs.declared.state.State.{State}
use Rattle.judge.specs.Sheets.{due_bytes, dues, entry_of, sheet_of, is_record, are_records, row_end}
use Rattle.judge.proofs.Splits.{some_bytes}
use Rattle.judge.proofs.Fronts.{record-some, record-split}

pub records-append : (row more : List (List ℕ))
    → are_records row ≡ true
    → are_records more ≡ true
    → are_records (row ++ more) ≡ true
unfolding are_records
records-append [] more one two = two
records-append (bytes ∷ row) more one two =
    and_both (is_record bytes) (are_records (row ++ more)) (and_left (is_record bytes) (are_records row) one)
    (records-append row more (and_right (is_record bytes) (are_records row) one) two)

pub sheet-append : (s : State) (row more : List (List ℕ)) → sheet_of s (row ++ more) ≡ sheet_of s row ++ sheet_of (row_end s row) more
unfolding sheet_of row_end
sheet-append s [] more = refl
sheet-append s (bytes ∷ row) more =
    let o = on_record s bytes action_room in
    ap (◌++◌ (entry_of bytes o)) (sheet-append o.state row more)
    ∙ sym (append_assoc (entry_of bytes o) (sheet_of o.state row) (sheet_of (row_end o.state row) more))

-- what an event record and all that follows it are
abbrev pub entry_at : State → List ℕ → List ℕ
entry_at s bytes = entry_of bytes (on_record s bytes action_room)

-- they are some bytes
pub entry-some : {A : Type 0} (s : State) (bytes more : List ℕ) → is_record bytes ≡ true → entry_at s bytes ++ more ≡ [] → A
entry-some s bytes more is e =
    let behind = blocks due_bytes (dues (on_record s bytes action_room)) in
    some_bytes bytes (behind ++ more) (record-some bytes is) (sym (append_assoc bytes behind more) ∙ e)

-- and bytes begin with at most one of them
pub entry-split : (s : State) (a b x y : List ℕ)
    → is_record a ≡ true
    → is_record b ≡ true
    → entry_at s a ++ x ≡ entry_at s b ++ y
    → (a ≡ b) × (x ≡ y)
entry-split s a b x y one two e =
    let behind : List ℕ → List ℕ = λ bytes. blocks due_bytes (dues (on_record s bytes action_room)) in
    let open-one = append_assoc a (behind a) x in
    let open-two = append_assoc b (behind b) y in
    let cut = record-split a b (behind a ++ x) (behind b ++ y) one two (sym open-one ∙ e ∙ open-two) in
    (cut.0, append_cancel_left (behind a) x y (cut.1 ∙ ap (λ bytes. behind bytes ++ y) (sym cut.0)))

-- a sheet has one row
pub sheet-row : (s : State) (r q : List (List ℕ))
    → are_records r ≡ true
    → are_records q ≡ true
    → sheet_of s r ≡ sheet_of s q
    → r ≡ q
unfolding are_records sheet_of
sheet-row s [] [] one two e = refl
sheet-row s [] (b ∷ q) one two e =
    entry-some s b (sheet_of (on_record s b action_room).state q) (and_left (is_record b) (are_records q) two) (sym e)
sheet-row s (a ∷ r) [] one two e =
    entry-some s a (sheet_of (on_record s a action_room).state r) (and_left (is_record a) (are_records r) one) e
sheet-row s (a ∷ r) (b ∷ q) one two e =
    let after : List ℕ → State = λ bytes. (on_record s bytes action_room).state in
    let cut =
    entry-split s a b (sheet_of (after a) r) (sheet_of (after b) q) (and_left (is_record a) (are_records r) one)
    (and_left (is_record b) (are_records q) two)
    e in
    let rest =
    sheet-row (after a) r q (and_right (is_record a) (are_records r) one) (and_right (is_record b) (are_records q) two)
    (cut.1 ∙ ap (λ bytes. sheet_of (after bytes) q) (sym cut.0)) in
    ap₂ ◌∷◌ cut.0 rest
