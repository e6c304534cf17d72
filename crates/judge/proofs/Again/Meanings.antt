-- Cross-checks only: rules told a second time.
-- What the tests of the judge mean.
-- Proves: sheet_of-means, starts_with-means, is_record-means, is_right-means, right-means, missing-means, short-means, wrong-means,
-- event-right, event-short, event-wrong, event-never, sendable-means, length_by-means, stopped_as-means, produce_refuses-means.
use mathlib.Core.Path.{◌≡◌, refl, sym, ap, ap₂, ◌∙◌}
use mathlib.Core.Logic.{◌↔◌, ◌⊎◌, inl, inr, ⊎_elim}
use mathlib.Core.Bool.{Bool, true, false, cond, ◌&&◌}
use mathlib.Core.List.{List, [], ◌∷◌, ◌++◌, map, append_assoc}
use Prim.Native.Nat.{ℕ, ◌≤◌, ◌<◌}
use native.Mathlib.Omega.{arith}
use lib.Dec.{eqb, leb, ltb}
use lib.ListN.{length, take, drop, length-append}
use borrow.Author.Tests.{eqb-true, eq-eqb, ne_eqb, ltb-true, ltb-false, lt-ltb, le-ltb, leb-false, lt-leb}
use Rattle.wire.specs.Blocks.{blocks}
use Rattle.wire.specs.Bytes.{byte}
use Rattle.wire.proofs.Tests.{and_left, and_right, and_both, true-false}
use Rattle.record.specs.Records.{known, length_of, reading}
use Rattle.record.specs.Takes.{record_short, kind_unknown, take_one, on_taken}
use Rattle.record.specs.Takes.{Taken}
use Rattle.record.specs.Takes.{Whole, Stopped}
use Rattle.unit.specs.OnRecords.{bytes_of, action_bytes, on_record}
use Rattle.unit.specs.declared.state.State.{State}
use Rattle.unit.specs.declared.answer.Action.{Action}
use Rattle.judge.specs.declared.due.Due.TheVariants.{AnEvent, TheAction}
use Rattle.judge.specs.declared.due.Finding.{Finding}
use Rattle.judge.specs.declared.due.Finding.TheVariants.{Right, Wrong, Short, Missing}
use Rattle.judge.specs.Sheets.{due_bytes, dues, sheet_of, is_record}
use Rattle.judge.specs.Judging.{starts_with, compared, stopped_as, against, is_right}
use Rattle.judge.specs.FrontWords.{sendable, length_by}
use Rattle.judge.specs.Producing.{produced, produced_room}
use Rattle.judge.specs.Refusing.{ProduceRefuses}
use Rattle.place.specs.declared.limits.Limits.{Limits}
use Rattle.judge.proofs.Splits.{starts_with-front, starts_with-split, right-starts, compared-front}
use Rattle.judge.proofs.Numbers.{six}
use Rattle.judge.proofs.Fronts.{Front, ends, breaks, begins, front-is, record-known, record-long, record-taken}

actions-bytes : (acts : List Action) → blocks due_bytes (map TheAction acts) ≡ action_bytes acts
unfolding blocks
actions-bytes [] = refl
actions-bytes (a ∷ acts) = ap (◌++◌ (bytes_of a)) (actions-bytes acts)

-- "event records, each followed by kind 30 with one byte (0 or the refusal ..) and then its actions as five-byte records"
-- meaning
pub sheet_of-means : (s : State) (bytes : List ℕ) (row : List (List ℕ))
    → (sheet_of s [] ≡ [])
    × (sheet_of s (bytes ∷ row)
    ≡ bytes
    ++ (30
    ∷ (on_record s bytes 20).code
    ∷ (action_bytes (on_record s bytes 20).actions ++ sheet_of (on_record s bytes 20).state row)))
unfolding sheet_of blocks
sheet_of-means s bytes row =
    let o = on_record s bytes 20 in
    let later = sheet_of o.state row in (
      refl,
      append_assoc bytes (blocks due_bytes (dues o)) later
          ∙ ap (λ acts. bytes ++ (30 ∷ o.code ∷ (acts ++ later))) (actions-bytes o.actions),
    )

-- bytes that begin with these are these and what follows them
-- meaning
pub starts_with-means : (due rest : List ℕ) → (starts_with due rest ≡ true) ↔ (rest ≡ due ++ drop (length due) rest)
starts_with-means due rest = (
  starts_with-split due rest,
  λ cut. ap (starts_with due) cut ∙ starts_with-front due (drop (length due) rest),
)

-- an event record: of a known kind, and of its kind's length
-- meaning
pub is_record-means : (kind : ℕ) (rest : List ℕ)
    → (is_record (kind ∷ rest) ≡ true) ↔ ((known kind ≡ true) × (length (kind ∷ rest) ≡ length_of kind))
is_record-means kind rest = (
  λ is. (record-known kind rest is, record-long kind rest is),
  λ is.
      and_both (known kind) (eqb (length (kind ∷ rest)) (length_of kind)) is.0
      (eq-eqb (length (kind ∷ rest)) (length_of kind) is.1),
)

-- right, and neither wrong nor short nor missing
-- meaning
pub is_right-means : (stands : Finding) → (is_right stands ≡ true) ↔ (stands ≡ Right)
is_right-means stands = (is stands, ap is_right)
  where
    is : (stands : Finding) → is_right stands ≡ true → stands ≡ Right
    is Right h = refl
    is Wrong h = true-false false h refl
    is Short h = true-false false h refl
    is Missing h = true-false false h refl

-- which of the four it is, by whether it begins with what is due, and whether it has that kind and is shorter
abbrev which : Bool → Bool → Finding
which starts cut = cond starts Right (cond cut Short Wrong)

abbrev shorter : List ℕ → ℕ → List ℕ → Bool
shorter due kind rest = eqb kind (byte due 0) && ltb (length (kind ∷ rest)) (length due)

not-missing : {A : Type 0} (a b : Bool) → which a b ≡ Missing → A
not-missing true b h = absurd (let z : ◌≡◌ {A = ℕ} 0 1 = cc in omega arith)
not-missing false true h = absurd (let z : ◌≡◌ {A = ℕ} 0 1 = cc in omega arith)
not-missing false false h = absurd (let z : ◌≡◌ {A = ℕ} 0 1 = cc in omega arith)

is-short : (a b : Bool) → which a b ≡ Short → b ≡ true
is-short true b h = absurd (let z : ◌≡◌ {A = ℕ} 0 1 = cc in omega arith)
is-short false true h = refl
is-short false false h = absurd (let z : ◌≡◌ {A = ℕ} 0 1 = cc in omega arith)

is-wrong : (a b : Bool) → which a b ≡ Wrong → (a ≡ false) × (b ≡ false)
is-wrong true b h = absurd (let z : ◌≡◌ {A = ℕ} 0 1 = cc in omega arith)
is-wrong false true h = absurd (let z : ◌≡◌ {A = ℕ} 0 1 = cc in omega arith)
is-wrong false false h = (refl, refl)

-- missing: nothing is left
-- meaning
pub missing-means : (due rest : List ℕ) → (compared due rest ≡ Missing) ↔ (rest ≡ [])
missing-means due rest = (is rest, ap (compared due))
  where
    is : (rest : List ℕ) → compared due rest ≡ Missing → rest ≡ []
    is [] h = refl
    is (kind ∷ rest) h = not-missing (starts_with due (kind ∷ rest)) (shorter due kind rest) h

-- right: the bytes that are due, and what follows them
-- meaning
pub right-means : (due rest : List ℕ)
    → 1 ≤ length due
    → (compared due rest ≡ Right) ↔ (rest ≡ due ++ drop (length due) rest)
right-means due rest some = (
  λ right. starts_with-split due rest (right-starts due rest (ap is_right right)),
  λ cut. ap (compared due) cut ∙ compared-front due (drop (length due) rest) some,
)

-- shorter bytes do not begin with longer ones
starts-long : (due rest : List ℕ) → starts_with due rest ≡ true → length due ≤ length rest
starts-long due rest starts =
    omega (arith, ap length (starts_with-split due rest starts), length-append due (drop (length due) rest))

-- a test that is never passed fails
never : (b : Bool) → (b ≡ true → ⊥) → b ≡ false
never true none = absurd (none refl)
never false none = refl

not-starts : (due rest : List ℕ) → (starts_with due rest ≡ true → ⊥) → starts_with due rest ≡ false
not-starts due rest = never (starts_with due rest)

and-rest : (a b : Bool) → a ≡ true → (a && b) ≡ false → b ≡ false
and-rest true b one h = h
and-rest false b one h = true-false false one refl

and_none : (a b : Bool) → (a ≡ true → b ≡ false) → (a && b) ≡ false
and_none true b none = none refl
and_none false b none = refl

-- short: the kind is that of the record that is due, and fewer bytes are left than it has
-- meaning
pub short-means : (due rest : List ℕ)
    → (compared due rest ≡ Short)
    ↔ ((1 ≤ length rest) × (byte rest 0 ≡ byte due 0) × (length rest < length due))
short-means due [] = (λ h. absurd (let z : ◌≡◌ {A = ℕ} 0 1 = cc in omega arith), λ h. absurd (omega arith))
short-means due (kind ∷ rest) = (
  λ h.
      let cut = is-short (starts_with due (kind ∷ rest)) (shorter due kind rest) h in (
        omega arith,
        eqb-true kind (byte due 0) (and_left (eqb kind (byte due 0)) (ltb (length (kind ∷ rest)) (length due)) cut),
        ltb-true (length (kind ∷ rest)) (length due) (and_right (eqb kind (byte due 0)) (ltb (length (kind ∷ rest)) (length due)) cut),
      ),
  λ h.
      ap₂ which (not-starts due (kind ∷ rest) (λ starts. omega (arith, starts-long due (kind ∷ rest) starts)))
      (and_both (eqb kind (byte due 0)) (ltb (length (kind ∷ rest)) (length due)) (eq-eqb kind (byte due 0) h.1)
      (lt-ltb (length (kind ∷ rest)) (length due) h.2)),
)

-- wrong: something is left that does not begin with the record that is due, nor is it that kind cut off
-- meaning
pub wrong-means : (due rest : List ℕ)
    → (compared due rest ≡ Wrong)
    ↔ ((1 ≤ length rest)
    × (rest ≡ due ++ drop (length due) rest → ⊥)
    × (byte rest 0 ≡ byte due 0 → length due ≤ length rest))
wrong-means due [] = (λ h. absurd (let z : ◌≡◌ {A = ℕ} 0 1 = cc in omega arith), λ h. absurd (omega arith))
wrong-means due (kind ∷ rest) = (
  λ h.
      let no = is-wrong (starts_with due (kind ∷ rest)) (shorter due kind rest) h in (
        omega arith,
        λ cut. true-false (starts_with due (kind ∷ rest)) ((starts_with-means due (kind ∷ rest)).1 cut) no.0,
        λ same.
            ltb-false (length (kind ∷ rest)) (length due)
            (and-rest (eqb kind (byte due 0)) (ltb (length (kind ∷ rest)) (length due)) (eq-eqb kind (byte due 0) same) no.1),
      ),
  λ h.
      ap₂ which (not-starts due (kind ∷ rest) (λ starts. h.1 (starts_with-split due (kind ∷ rest) starts)))
      (and_none (eqb kind (byte due 0)) (ltb (length (kind ∷ rest)) (length due))
      (λ same. le-ltb (length (kind ∷ rest)) (length due) (h.2 (eqb-true kind (byte due 0) same)))),
)

-- where an event record is due, right is a whole one, and the sheet's end
-- meaning
pub event-right : (rest : List ℕ)
    → (against AnEvent rest ≡ Right)
    ↔ ((rest ≡ []) ⊎ ((bytes more : List ℕ) × (is_record bytes ≡ true) × (rest ≡ bytes ++ more)))
unfolding take_one
event-right rest = (is (take_one rest) (front-is rest), ⊎_elim (ap (against AnEvent)) whole)
  where
    is : (t : Taken)
        → Front rest t
        → on_taken t stopped_as (λ k. Right) ≡ Right
        → (rest ≡ []) ⊎ ((bytes more : List ℕ) × (is_record bytes ≡ true) × (rest ≡ bytes ++ more))
    is t (ends none) h = inl none
    is t (breaks stop wrong) h = true-false (is_right (stopped_as stop)) (ap is_right h) wrong
    is t (begins bytes more event cut) h = inr (bytes, more, event, cut)

    whole : (bytes more : List ℕ) × (is_record bytes ≡ true) × (rest ≡ bytes ++ more) → against AnEvent rest ≡ Right
    whole (bytes, more, event, cut) =
        ap (λ t. on_taken t stopped_as (λ k. Right)) (ap take_one cut ∙ record-taken bytes more event)

-- by whether the kind is known and its record whole
abbrev standing : Bool → Bool → Finding
standing a whole = cond a (cond whole Right Short) Wrong

module _ (kind : ℕ) (rest : List ℕ) where
  told : against AnEvent (kind ∷ rest) ≡ standing (known kind) (leb (length_of kind) (length (kind ∷ rest)))
  unfolding take_one
  told = by (known kind) (leb (length_of kind) (length (kind ∷ rest)))
    where
      by : (a b : Bool)
          → on_taken
          (cond a (cond b (Whole (length_of kind) (reading (take (length_of kind) (kind ∷ rest)))) (Stopped record_short))
          (Stopped kind_unknown))
          stopped_as
          (λ k. Right)
          ≡ standing a b
      by true true = refl
      by true false = refl
      by false b = refl

  -- a record that is cut off is short
  -- meaning
  pub event-short : (against AnEvent (kind ∷ rest) ≡ Short) ↔ ((known kind ≡ true) × (length (kind ∷ rest) < length_of kind))
  event-short = (
    λ h.
        let is = by (known kind) (leb (length_of kind) (length (kind ∷ rest))) (sym told ∙ h) in
        (is.0, leb-false (length_of kind) (length (kind ∷ rest)) is.1),
    λ h. told ∙ ap₂ standing h.0 (lt-leb (length_of kind) (length (kind ∷ rest)) h.1),
  )
    where
      by : (a b : Bool) → standing a b ≡ Short → (a ≡ true) × (b ≡ false)
      by true true h = absurd (let z : ◌≡◌ {A = ℕ} 0 1 = cc in omega arith)
      by true false h = (refl, refl)
      by false b h = absurd (let z : ◌≡◌ {A = ℕ} 0 1 = cc in omega arith)

  -- a kind that no event has is wrong
  -- meaning
  pub event-wrong : (against AnEvent (kind ∷ rest) ≡ Wrong) ↔ (known kind ≡ false)
  event-wrong = (
    λ h. by (known kind) (leb (length_of kind) (length (kind ∷ rest))) (sym told ∙ h),
    λ unknown. told ∙ ap (λ a. standing a (leb (length_of kind) (length (kind ∷ rest)))) unknown,
  )
    where
      by : (a b : Bool) → standing a b ≡ Wrong → a ≡ false
      by true true h = absurd (let z : ◌≡◌ {A = ℕ} 0 1 = cc in omega arith)
      by true false h = absurd (let z : ◌≡◌ {A = ℕ} 0 1 = cc in omega arith)
      by false b h = refl

-- nothing is missing there: a sheet may end where an event record is due
-- meaning
pub event-never : (rest : List ℕ) → against AnEvent rest ≡ Missing → ⊥
unfolding take_one
event-never [] h = let z : ◌≡◌ {A = ℕ} 0 1 = cc in omega arith
event-never (kind ∷ rest) h = by (known kind) (leb (length_of kind) (length (kind ∷ rest))) (sym (told kind rest) ∙ h)
  where
    by : (a b : Bool) → standing a b ≡ Missing → ⊥
    by true true h = let z : ◌≡◌ {A = ℕ} 0 1 = cc in omega arith
    by true false h = let z : ◌≡◌ {A = ℕ} 0 1 = cc in omega arith
    by false b h = let z : ◌≡◌ {A = ℕ} 0 1 = cc in omega arith

-- the six action numbers, and no other
-- meaning
pub sendable-means : (n : ℕ)
    → (sendable n ≡ true) ↔ ((n ≡ 21) ⊎ ((n ≡ 22) ⊎ ((n ≡ 154) ⊎ ((n ≡ 155) ⊎ ((n ≡ 156) ⊎ (n ≡ 159))))))
sendable-means n = (
  six (λ n. (n ≡ 21) ⊎ ((n ≡ 22) ⊎ ((n ≡ 154) ⊎ ((n ≡ 155) ⊎ ((n ≡ 156) ⊎ (n ≡ 159)))))) (inl refl) (inr (inl refl))
      (inr (inr (inl refl)))
      (inr (inr (inr (inl refl))))
      (inr (inr (inr (inr (inl refl)))))
      (inr (inr (inr (inr (inr refl)))))
      n,
  ⊎_elim (ap sendable)
      (⊎_elim (ap sendable)
      (⊎_elim (ap sendable) (⊎_elim (ap sendable) (⊎_elim (ap sendable) (ap sendable))))),
)

-- by the first byte: of an event its kind's length, of an answer 2, of an action 5, else 1
-- meaning
pub length_by-means : (kind : ℕ)
    → (known kind ≡ true → length_by kind ≡ length_of kind)
    × (kind ≡ 30 → length_by kind ≡ 2)
    × ((kind ≡ 21) ⊎ ((kind ≡ 22) ⊎ ((kind ≡ 154) ⊎ ((kind ≡ 155) ⊎ ((kind ≡ 156) ⊎ (kind ≡ 159)))))
    → length_by kind ≡ 5)
    × (known kind ≡ false
    → (kind ≡ 30 → ⊥)
    → ((kind ≡ 21) ⊎ ((kind ≡ 22) ⊎ ((kind ≡ 154) ⊎ ((kind ≡ 155) ⊎ ((kind ≡ 156) ⊎ (kind ≡ 159))))) → ⊥)
    → length_by kind ≡ 1)
length_by-means kind = (
  λ is. ap (λ b. cond b (length_of kind) (other (eqb kind 30) (sendable kind))) is,
  ap length_by,
  ⊎_elim (ap length_by)
      (⊎_elim (ap length_by)
      (⊎_elim (ap length_by) (⊎_elim (ap length_by) (⊎_elim (ap length_by) (ap length_by))))),
  λ unknown no_answer no-action.
      ap (λ b. cond b (length_of kind) (other (eqb kind 30) (sendable kind))) unknown
      ∙ ap₂ other (ne_eqb kind 30 no_answer) (never (sendable kind) (λ is. no-action ((sendable-means kind).0 is))),
)
  where
    other : Bool → Bool → ℕ
    other answer action = cond answer 2 (cond action 5 1)

-- a stop of taking as a finding: 0 Right, 2 Short, any other Wrong
-- meaning
pub stopped_as-means : map stopped_as (0 ∷ 1 ∷ 2 ∷ 3 ∷ []) ≡ Right ∷ Wrong ∷ Short ∷ Wrong ∷ []
stopped_as-means = refl

-- what our own side answers and leaves where it refuses, field by field
-- meaning
pub produce_refuses-means : (r : ℕ) (l : Limits) (log room : List ℕ)
    → ProduceRefuses r l log room
    → ((produced l log (length room)).code ≡ r)
    × ((produced l log (length room)).written ≡ 0)
    × ((produced l log (length room)).records ≡ 0)
    × ((produced l log (length room)).stop ≡ 0)
    × (produced_room l log room ≡ room)
produce_refuses-means r l log room refuses = refuses
