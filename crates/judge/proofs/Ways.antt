-- The way of a front: none yet; into an entry, up to a record that is due there; or beyond an entry.
-- Defines: Way, entries, Counted, Onward.
-- Proves: way-counted, due-way, dues-cut, counted-alone, onward.
use mathlib.Core.Path.{◌≡◌, refl, sym, ap, subst, ◌∙◌}
use mathlib.Core.Logic.{◌⊎◌, inl, inr}
use mathlib.Core.Bool.{true}
use mathlib.Core.List.{List, [], ◌∷◌, ◌++◌, append_assoc, append-nil, append_cancel_left}
use Prim.Native.Nat.{ℕ, suc}
use lib.ListN.{length}
use Rattle.wire.specs.Blocks.{blocks}
use Rattle.wire.proofs.Tests.{and_left, and_right, and_both, true-false, All}
use Rattle.record.specs.Takes.{on_taken}
use Rattle.unit.specs.Steps.{Outcome}
use Rattle.unit.specs.OnRecords.{action_room, on_record}
use Rattle.unit.specs.declared.state.State.{State}
use Rattle.judge.specs.declared.due.Due.{Due}
use Rattle.judge.specs.declared.due.Due.TheVariants.{AnEvent}
use Rattle.judge.specs.declared.due.Finding.TheVariants.{Right}
use Rattle.judge.specs.Sheets.{due_bytes, dues, sheet_of, is_record, are_records, row_end}
use Rattle.judge.specs.Judging.{is_right, stopped_as, against}
use Rattle.judge.specs.Fronts.{DueAfter}
use Rattle.judge.specs.FrontWords.{entries_before}
use Rattle.judge.proofs.Splits.{some_bytes}
use Rattle.judge.proofs.Fronts.{record-some, record-split, record-taken}
use Rattle.judge.proofs.Fronts.{is_due, due-some, due-right, blocks-append, dues-due, due-among}
use Rattle.judge.proofs.Rows.{entry_at, entry-some, entry-split, sheet-row}

-- a front of whole records from a state, and what is due behind it
pub data Way : State → List ℕ → Due → Type 0 where
  starts : {s : State} {front : List ℕ} {d : Due}
      → front ≡ []
      → d ≡ AnEvent
      → Way s front d
  inside : {s : State} {front : List ℕ} {d : Due} (bytes : List ℕ) (met left : List Due)
      → is_record bytes ≡ true
      → dues (on_record s bytes action_room) ≡ met ++ (d ∷ left)
      → front ≡ bytes ++ blocks due_bytes met
      → Way s front d
  beyond : {s : State} {front : List ℕ} {d : Due} (bytes more : List ℕ)
      → is_record bytes ≡ true
      → Way (on_record s bytes action_room).state more d
      → front ≡ entry_at s bytes ++ more
      → Way s front d

-- the entries that it goes beyond
unfoldable pub entries : {s : State} {front : List ℕ} {d : Due} → Way s front d → ℕ
entries (starts none due) = 0
entries (inside bytes met left is among ends) = 0
entries (beyond bytes more is way ends) = suc (entries way)

-- it is what is said of a front, with so many entries before it
abbrev pub Counted : State → List ℕ → Due → ℕ → Type 0
Counted s front d n = (due : DueAfter s front d) × (entries_before s front d due ≡ n)

pub way-counted : (s : State) (front : List ℕ) (d : Due) (way : Way s front d) → Counted s front d (entries way)
unfolding sheet_of are_records row_end entries
way-counted s front d (starts none is) = (inl ([], (refl, none), is), refl)
way-counted s front d (inside bytes met left is among cut) = (inr ([], bytes, met, left, refl, is, among, cut), refl)
way-counted s front d (beyond bytes more is way cut) =
    let later = way-counted (on_record s bytes action_room).state more d way in
    by later.0 later.1
  where
    entry : List ℕ
    entry = entry_at s bytes

    by : (due : DueAfter (on_record s bytes action_room).state more d)
        → entries_before (on_record s bytes action_room).state more d due ≡ entries way
        → Counted s front d (suc (entries way))
    by (inl (row, whole, due)) count = (
      inl (bytes ∷ row, (and_both (is_record bytes) (are_records row) is whole.0, cut ∙ ap (◌++◌ entry) whole.1), due),
      ap suc count,
    )
    by (inr (row, next, met, left, whole, event, among, ends)) count =
        let to = sheet_of (on_record s bytes action_room).state row in (
          inr (
            bytes ∷ row,
            next,
            met,
            left,
            and_both (is_record bytes) (are_records row) is whole,
            event,
            among,
            cut ∙ ap (◌++◌ entry) ends ∙ sym (append_assoc entry to (next ++ blocks due_bytes met)),
          ),
          ap suc count,
        )

-- a way that goes on behind a row
behind : (s : State) (row : List (List ℕ)) (rest : List ℕ) (d : Due)
    → are_records row ≡ true
    → Way (row_end s row) rest d
    → Way s (sheet_of s row ++ rest) d
unfolding sheet_of are_records row_end
behind s [] rest d whole way = way
behind s (bytes ∷ row) rest d whole way =
    let next = (on_record s bytes action_room).state in
    beyond bytes (sheet_of next row ++ rest) (and_left (is_record bytes) (are_records row) whole)
    (behind next row rest d (and_right (is_record bytes) (are_records row) whole) way)
    (append_assoc (entry_at s bytes) (sheet_of next row) rest)

pub due-way : (s : State) (front : List ℕ) (d : Due) → DueAfter s front d → Way s front d
due-way s front d (inl (row, whole, due)) =
    subst (λ x. Way s x d) (append-nil (sheet_of s row) ∙ sym whole.1) (behind s row [] d whole.0 (starts refl due))
due-way s front d (inr (row, bytes, met, left, whole, event, among, ends)) =
    subst (λ x. Way s x d) (sym ends)
    (behind s row (bytes ++ blocks due_bytes met) d whole (inside bytes met left event among refl))

-- of two fronts of the same bytes: they are one; or what is due behind the first is right
abbrev pub Onward : List ℕ → Due → Due → Type 0
Onward more d e =
    ((more ≡ []) × (d ≡ e))
    ⊎ ((more ≡ [] → ⊥) × ((any : List ℕ) → is_right (against d (more ++ any)) ≡ true))

-- a whole event record, where one is due
event-on : (more bytes rest : List ℕ) (d e : Due)
    → d ≡ AnEvent
    → is_record bytes ≡ true
    → more ≡ bytes ++ rest
    → Onward more d e
event-on more bytes rest d e due is cut =
    inr (
      λ none. some_bytes bytes rest (record-some bytes is) (sym cut ∙ none),
      λ any.
          ap (λ x. is_right (against x (more ++ any))) due
          ∙ ap (λ x. is_right (against AnEvent x)) (ap (λ x. x ++ any) cut ∙ append_assoc bytes rest any)
          ∙ ap (λ t. is_right (on_taken t stopped_as (λ k. Right))) (record-taken bytes (rest ++ any) is),
    )

-- the bytes of the record that is due
due-on : (more rest : List ℕ) (d e : Due) → is_due d ≡ true → more ≡ due_bytes d ++ rest → Onward more d e
due-on more rest d e is cut =
    inr (
      λ none. some_bytes (due_bytes d) rest (due-some d is) (sym cut ∙ none),
      λ any.
          ap (λ x. is_right (against d x)) (ap (λ x. x ++ any) cut ∙ append_assoc (due_bytes d) rest any)
          ∙ ap is_right (due-right d (rest ++ any) is),
    )

-- inside one entry
met-on : (met left past ahead : List Due) (d e : Due) (more : List ℕ)
    → All (λ x. is_due x ≡ true) (met ++ (d ∷ left))
    → met ++ (d ∷ left) ≡ past ++ (e ∷ ahead)
    → blocks due_bytes met ++ more ≡ blocks due_bytes past
    → Onward more d e
unfolding blocks
met-on [] left [] ahead d e more all same cut = inl (cut, cc)
met-on [] left (x ∷ past) ahead d e more all same cut =
    let due : d ≡ x = cc in
    due-on more (blocks due_bytes past) d e all.0 (cut ∙ ap (λ y. due_bytes y ++ blocks due_bytes past) (sym due))
met-on (x ∷ met) left [] ahead d e more all same cut =
    some_bytes (due_bytes x) (blocks due_bytes met ++ more) (due-some x all.0)
    (sym (append_assoc (due_bytes x) (blocks due_bytes met) more) ∙ cut)
met-on (x ∷ met) left (y ∷ past) ahead d e more all same cut =
    let due : x ≡ y = cc in
    let later : met ++ (d ∷ left) ≡ past ++ (e ∷ ahead) = cc in
    met-on met left past ahead d e more all.1 later
    (append_cancel_left (due_bytes x) (blocks due_bytes met ++ more) (blocks due_bytes past)
    (sym (append_assoc (due_bytes x) (blocks due_bytes met) more)
    ∙ cut
    ∙ ap (λ z. due_bytes z ++ blocks due_bytes past) (sym due)))

-- what follows an event record, cut at a record that is due there
pub dues-cut : (o : Outcome) (met left : List Due) (d : Due) (rest : List ℕ)
    → dues o ≡ met ++ (d ∷ left)
    → blocks due_bytes (dues o) ++ rest ≡ blocks due_bytes met ++ (due_bytes d ++ (blocks due_bytes left ++ rest))
unfolding blocks
dues-cut o met left d rest among =
    let from = blocks due_bytes met in
    let to = blocks due_bytes left in
    ap (λ ds. blocks due_bytes ds ++ rest) among
    ∙ ap (λ x. x ++ rest) (blocks-append met (d ∷ left))
    ∙ append_assoc from (due_bytes d ++ to) rest
    ∙ ap (◌++◌ from) (append_assoc (due_bytes d) to rest)

-- an entry is longer than an event record and some of what is due behind it
entry-cut : {A : Type 0} (s : State) (bytes again rest : List ℕ) (met left : List Due) (e : Due)
    → is_record bytes ≡ true
    → is_record again ≡ true
    → dues (on_record s again action_room) ≡ met ++ (e ∷ left)
    → entry_at s bytes ++ rest ≡ again ++ blocks due_bytes met
    → A
entry-cut s bytes again rest met left e is is-too among cut =
    let o : List ℕ → Outcome = λ x. on_record s x action_room in
    let follow : List ℕ → List ℕ = λ x. blocks due_bytes (dues (o x)) in
    let split =
    record-split bytes again (follow bytes ++ rest) (blocks due_bytes met) is is-too
    (sym (append_assoc bytes (follow bytes) rest) ∙ cut) in
    some_bytes (due_bytes e) (blocks due_bytes left ++ rest) (due-some e (due-among (o again) met e left among))
    (append_cancel_left (blocks due_bytes met) (due_bytes e ++ (blocks due_bytes left ++ rest)) []
    (sym (dues-cut (o again) met left e rest among)
    ∙ ap (λ x. follow x ++ rest) (sym split.0)
    ∙ split.1
    ∙ sym (append-nil (blocks due_bytes met))))

-- an event record and some of what is due behind it, after a row: the row's length is that of any other such
rows_alike : (s : State) (row more : List (List ℕ)) (bytes again : List ℕ) (met left past ahead : List Due) (d e : Due)
    → are_records row ≡ true
    → are_records more ≡ true
    → is_record bytes ≡ true
    → is_record again ≡ true
    → dues (on_record (row_end s row) bytes action_room) ≡ met ++ (d ∷ left)
    → dues (on_record (row_end s more) again action_room) ≡ past ++ (e ∷ ahead)
    → sheet_of s row ++ (bytes ++ blocks due_bytes met) ≡ sheet_of s more ++ (again ++ blocks due_bytes past)
    → length row ≡ length more
unfolding sheet_of are_records row_end
rows_alike s [] [] bytes again met left past ahead d e whole all is is-too of of-too cut = refl
rows_alike s [] (b ∷ more) bytes again met left past ahead d e whole all is is-too of of-too cut =
    let to = sheet_of (on_record s b action_room).state more in
    let rest = again ++ blocks due_bytes past in
    entry-cut s b bytes (to ++ rest) met left d (and_left (is_record b) (are_records more) all) is of
    (sym (append_assoc (entry_at s b) to rest) ∙ sym cut)
rows_alike s (a ∷ row) [] bytes again met left past ahead d e whole all is is-too of of-too cut =
    let to = sheet_of (on_record s a action_room).state row in
    let rest = bytes ++ blocks due_bytes met in
    entry-cut s a again (to ++ rest) past ahead e (and_left (is_record a) (are_records row) whole) is-too of-too
    (sym (append_assoc (entry_at s a) to rest) ∙ cut)
rows_alike s (a ∷ row) (b ∷ more) bytes again met left past ahead d e whole all is is-too of of-too cut =
    let after : List ℕ → State = λ x. (on_record s x action_room).state in
    let one = bytes ++ blocks due_bytes met in
    let two = again ++ blocks due_bytes past in
    let split =
    entry-split s a b (sheet_of (after a) row ++ one) (sheet_of (after b) more ++ two) (and_left (is_record a) (are_records row) whole)
    (and_left (is_record b) (are_records more) all)
    (sym (append_assoc (entry_at s a) (sheet_of (after a) row) one) ∙ cut
    ∙ append_assoc (entry_at s b) (sheet_of (after b) more) two) in
    ap suc
    (rows_alike (after a) row more bytes again met left past ahead d e (and_right (is_record a) (are_records row) whole)
    (and_right (is_record b) (are_records more) all)
    is
    is-too
    of
    (ap (λ x. dues (on_record (row_end (after x) more) again action_room)) split.0 ∙ of-too)
    (split.1 ∙ ap (λ x. sheet_of (after x) more ++ two) (sym split.0)))

-- however a front is taken apart, as many event records stand in it with all that follows them
pub counted-alone : (s : State) (front : List ℕ) (d : Due) (one two : DueAfter s front d)
    → entries_before s front d one ≡ entries_before s front d two
counted-alone s front d (inl (row, whole, due)) (inl (more, all, due-too)) =
    ap length (sheet-row s row more whole.0 all.0 (sym whole.1 ∙ all.1))
counted-alone s front d (inl (row, whole, due)) (inr (more, again, past, ahead, all, is-too, of-too, ends-too)) =
    true-false (is_due d) (due-among (on_record (row_end s more) again action_room) past d ahead of-too) (ap is_due due)
counted-alone s front d (inr (row, bytes, met, left, whole, is, of, ends)) (inl (more, all, due-too)) =
    true-false (is_due d) (due-among (on_record (row_end s row) bytes action_room) met d left of) (ap is_due due-too)
counted-alone s front d (inr (row, bytes, met, left, whole, is, of, ends))
    (inr (more, again, past, ahead, all, is-too, of-too, ends-too)) =
    rows_alike s row more bytes again met left past ahead d d whole all is is-too of of-too (sym ends ∙ ends-too)

pub onward : (s : State) (front more whole : List ℕ) (d e : Due)
    → Way s front d
    → Way s whole e
    → front ++ more ≡ whole
    → Onward more d e
onward s front more whole d e (starts none due) (starts ends due-too) cut =
    inl (ap (λ x. x ++ more) (sym none) ∙ cut ∙ ends, due ∙ sym due-too)
onward s front more whole d e (starts none due) (inside bytes met left is among ends) cut =
    event-on more bytes (blocks due_bytes met) d e due is (ap (λ x. x ++ more) (sym none) ∙ cut ∙ ends)
onward s front more whole d e (starts none due) (beyond bytes rest is way ends) cut =
    let behind = blocks due_bytes (dues (on_record s bytes action_room)) in
    event-on more bytes (behind ++ rest) d e due is
    (ap (λ x. x ++ more) (sym none) ∙ cut ∙ ends ∙ append_assoc bytes behind rest)
onward s front more whole d e (inside bytes met left is among ends) (starts none due) cut =
    some_bytes bytes (blocks due_bytes met ++ more) (record-some bytes is)
    (sym (append_assoc bytes (blocks due_bytes met) more) ∙ ap (λ x. x ++ more) (sym ends) ∙ cut ∙ none)
onward s front more whole d e (inside bytes met left is among ends) (inside again past ahead is-too among-too ends-too) cut =
    let split =
    record-split bytes again (blocks due_bytes met ++ more) (blocks due_bytes past) is is-too
    (sym (append_assoc bytes (blocks due_bytes met) more) ∙ ap (λ x. x ++ more) (sym ends) ∙ cut ∙ ends-too) in
    met-on met left past ahead d e more (subst (All (λ x. is_due x ≡ true)) among (dues-due (on_record s bytes action_room)))
    (sym among ∙ ap (λ x. dues (on_record s x action_room)) split.0 ∙ among-too)
    split.1
onward s front more whole d e (inside bytes met left is among ends) (beyond again rest is-too way ends-too) cut =
    let follow : List ℕ → List ℕ = λ x. blocks due_bytes (dues (on_record s x action_room)) ++ rest in
    let split =
    record-split bytes again (blocks due_bytes met ++ more) (follow again) is is-too
    (sym (append_assoc bytes (blocks due_bytes met) more)
    ∙ ap (λ x. x ++ more) (sym ends)
    ∙ cut
    ∙ ends-too
    ∙ append_assoc again (blocks due_bytes (dues (on_record s again action_room))) rest) in
    due-on more (blocks due_bytes left ++ rest) d e (due-among (on_record s bytes action_room) met d left among)
    (append_cancel_left (blocks due_bytes met) more (due_bytes d ++ (blocks due_bytes left ++ rest))
    (split.1 ∙ ap follow (sym split.0) ∙ dues-cut (on_record s bytes action_room) met left d rest among))
onward s front more whole d e (beyond bytes rest is way ends) (starts none due) cut =
    entry-some s bytes (rest ++ more) is
    (sym (append_assoc (entry_at s bytes) rest more) ∙ ap (λ x. x ++ more) (sym ends) ∙ cut ∙ none)
onward s front more whole d e (beyond bytes rest is way ends) (inside again met left is-too among ends-too) cut =
    entry-cut s bytes again (rest ++ more) met left e is is-too among
    (sym (append_assoc (entry_at s bytes) rest more) ∙ ap (λ x. x ++ more) (sym ends) ∙ cut ∙ ends-too)
onward s front more whole d e (beyond bytes rest is way ends) (beyond again onto is-too way-too ends-too) cut =
    let split =
    entry-split s bytes again (rest ++ more) onto is is-too
    (sym (append_assoc (entry_at s bytes) rest more) ∙ ap (λ x. x ++ more) (sym ends) ∙ cut ∙ ends-too) in
    onward (on_record s bytes action_room).state rest more onto d e way
    (subst (λ x. Way (on_record s x action_room).state onto e) (sym split.0) way-too)
    split.1
