-- A whole event record at the front of bytes, and the records that are due behind it.
-- Defines: Front, is_due.
-- Proves: record-some, record-known, record-long, record-split, record-taken, front-is, due-some, due-compared, due-right, due-is,
-- blocks-append, dues-due, among, due-among.
use mathlib.Core.Path.{◌≡◌, refl, sym, ap, ap₂, subst, ◌∙◌}
use mathlib.Core.Bool.{Bool, true, false, cond}
use mathlib.Core.List.{List, [], ◌∷◌, ◌++◌, map, append_assoc}
use Prim.Native.Nat.{ℕ, zero, suc, ◌≤◌}
use native.Mathlib.Omega.{arith}
use lib.Dec.{eqb, leb}
use lib.ListN.{length, get_or, take, drop, length-append, take-append-drop}
use lib.Seq.{take-append_seam, length-take-le}
use borrow.Author.Tests.{eqb-true, eq-eqb, le-leb, leb-true, ltb-true}
use Rattle.wire.specs.Blocks.{blocks}
use Rattle.wire.proofs.Tests.{and_left, and_right, and_both, true-false, All}
use Rattle.record.specs.Records.{known, length_of, reading}
use Rattle.record.specs.Takes.{nothing_left, record_short, kind_unknown, take_one}
use Rattle.record.specs.Takes.{Taken}
use Rattle.record.specs.Takes.{Whole, Stopped}
use Rattle.unit.specs.Steps.{Outcome}
use Rattle.unit.specs.declared.answer.Action.{Action}
use Rattle.judge.specs.declared.due.Due.{Due}
use Rattle.judge.specs.declared.due.Due.TheVariants.{AnEvent, TheAnswer, TheAction}
use Rattle.judge.specs.declared.due.Finding.TheVariants.{Right}
use Rattle.judge.specs.Sheets.{due_bytes, dues, is_record}
use Rattle.judge.specs.Judging.{starts_with, compared, stopped_as, against, is_right}
use Rattle.judge.proofs.Splits.{same-front, right-starts, compared-front}

-- an event record has a byte
pub record-some : (bytes : List ℕ) → is_record bytes ≡ true → 1 ≤ length bytes
record-some [] is = true-false false is refl
record-some (kind ∷ rest) is = omega arith

module _ (kind : ℕ) (rest : List ℕ) (is : is_record (kind ∷ rest) ≡ true) where
  pub record-known : known kind ≡ true
  record-known = and_left (known kind) (eqb (length (kind ∷ rest)) (length_of kind)) is

  pub record-long : length (kind ∷ rest) ≡ length_of kind
  record-long =
      eqb-true (length (kind ∷ rest)) (length_of kind) (and_right (known kind) (eqb (length (kind ∷ rest)) (length_of kind)) is)

-- bytes begin with at most one event record
pub record-split : (a b x y : List ℕ)
    → is_record a ≡ true
    → is_record b ≡ true
    → a ++ x ≡ b ++ y
    → (a ≡ b) × (x ≡ y)
record-split [] b x y one two e = true-false false one refl
record-split (k ∷ a) [] x y one two e = true-false false two refl
record-split (k ∷ a) (j ∷ b) x y one two e =
    let kind : k ≡ j = ap (λ l. get_or l 0 0) e in
    same-front (k ∷ a) (j ∷ b) x y (record-long k a one ∙ ap length_of kind ∙ sym (record-long j b two)) e

-- it is taken off whole
pub record-taken : (bytes more : List ℕ) → is_record bytes ≡ true → take_one (bytes ++ more)
    ≡ Whole (length bytes) (reading bytes)
unfolding take_one
record-taken [] more is = true-false false is refl
record-taken (kind ∷ rest) more is =
    let long = record-long kind rest is in
    let all = length-append (kind ∷ rest) more in
    let cut = ap (λ k. take k ((kind ∷ rest) ++ more)) (sym long) ∙ take-append_seam (kind ∷ rest) more in
    simp (record-known kind rest is, le-leb (length_of kind) (length ((kind ∷ rest) ++ more)) (omega arith))
    (ap₂ (λ k l. Whole k (reading l)) (sym long) cut)

-- so many bytes as the kind's length are one
record-cut : (k kind : ℕ) (rest : List ℕ)
    → known kind ≡ true
    → k ≡ length_of kind
    → k ≤ length (kind ∷ rest)
    → is_record (take k (kind ∷ rest)) ≡ true
record-cut zero kind rest is of-kind fits = absurd (omega (arith, ltb-true 0 (length_of kind) is))
record-cut (suc k) kind rest is of-kind fits =
    and_both (known kind) (eqb (length (kind ∷ take k rest)) (length_of kind)) is
    (eq-eqb (length (kind ∷ take k rest)) (length_of kind) (ap suc (length-take-le k rest (omega arith)) ∙ of-kind))

-- what stands at the front, where an event record is due: nothing; what is none; or a whole one
pub data Front (rest : List ℕ) : Taken → Type 0 where
  ends : rest ≡ [] → Front rest (Stopped nothing_left)
  breaks : (stop : ℕ)
      → is_right (stopped_as stop) ≡ false
      → Front rest (Stopped stop)
  begins : (bytes more : List ℕ)
      → is_record bytes ≡ true
      → rest ≡ bytes ++ more
      → Front rest (Whole (length bytes) (reading bytes))

pub front-is : (rest : List ℕ) → Front rest (take_one rest)
unfolding take_one
front-is [] = ends refl
front-is (kind ∷ rest) = by (known kind) refl (leb (length_of kind) (length (kind ∷ rest))) refl
  where
    k : ℕ
    k = length_of kind

    by : (a : Bool)
        → known kind ≡ a
        → (b : Bool)
        → leb k (length (kind ∷ rest)) ≡ b
        → Front (kind ∷ rest) (cond a (cond b (Whole k (reading (take k (kind ∷ rest)))) (Stopped record_short))
        (Stopped kind_unknown))
    by true is true fits =
        let enough = leb-true k (length (kind ∷ rest)) fits in
        let long : length (take k (kind ∷ rest)) ≡ k = length-take-le k (kind ∷ rest) enough in
        let whole = record-cut k kind rest is refl enough in
        subst (λ n. Front (kind ∷ rest) (Whole n (reading (take k (kind ∷ rest))))) long
        (begins (take k (kind ∷ rest)) (drop k (kind ∷ rest)) whole (sym (take-append-drop k (kind ∷ rest))))
    by true is false short = breaks record_short refl
    by false is b fits = breaks kind_unknown refl

-- a record other than an event
abbrev pub is_due : Due → Bool
is_due AnEvent = false
is_due (TheAnswer code) = true
is_due (TheAction a) = true

pub due-some : (d : Due) → is_due d ≡ true → 1 ≤ length (due_bytes d)
due-some AnEvent is = true-false false is refl
due-some (TheAnswer code) is = omega arith
due-some (TheAction a) is = omega arith

pub due-compared : (d : Due) (rest : List ℕ) → is_due d ≡ true → against d rest ≡ compared (due_bytes d) rest
due-compared AnEvent rest is = true-false false is refl
due-compared (TheAnswer code) rest is = refl
due-compared (TheAction a) rest is = refl

-- it is right where its bytes stand
pub due-right : (d : Due) (more : List ℕ) → is_due d ≡ true → against d (due_bytes d ++ more) ≡ Right
due-right d more is = due-compared d (due_bytes d ++ more) is ∙ compared-front (due_bytes d) more (due-some d is)

-- and only there
pub due-is : (d : Due) (rest : List ℕ)
    → is_due d ≡ true
    → is_right (against d rest) ≡ true
    → starts_with (due_bytes d) rest ≡ true
due-is d rest is right = right-starts (due_bytes d) rest (ap is_right (sym (due-compared d rest is)) ∙ right)

pub blocks-append : (met left : List Due) → blocks due_bytes (met ++ left) ≡ blocks due_bytes met ++ blocks due_bytes left
unfolding blocks
blocks-append [] left = refl
blocks-append (d ∷ met) left =
    ap (◌++◌ (due_bytes d)) (blocks-append met left) ∙ sym (append_assoc (due_bytes d) (blocks due_bytes met) (blocks due_bytes left))

-- behind an event record none is due before its answer and actions
pub dues-due : (o : Outcome) → All (λ d. is_due d ≡ true) (dues o)
dues-due o = (refl, by o.actions)
  where
    by : (acts : List Action) → All (λ d. is_due d ≡ true) (map TheAction acts)
    by [] = tt
    by (a ∷ acts) = (refl, by acts)

-- what holds of each of a row of records that are due holds of one of them
pub among : (P : Due → Type 0) (met : List Due) (d : Due) (left : List Due) → All P (met ++ (d ∷ left)) → P d
among P [] d left all = all.0
among P (x ∷ met) d left all = among P met d left all.1

pub due-among : (o : Outcome) (met : List Due) (d : Due) (left : List Due)
    → dues o ≡ met ++ (d ∷ left)
    → is_due d ≡ true
due-among o met d left e = among (λ x. is_due x ≡ true) met d left (subst (All (λ x. is_due x ≡ true)) e (dues-due o))
