-- Cross-checks only: rules told a second time.
-- Request Q-11: what the words of its promises mean, in the bytes of the records and by place in a row.
-- Proves: delivered-partner, delivered-kinds, delivered-every, is_version-means, versions-counts, differ-means, differ_all-means,
-- different-means, compared-means, alike-means, alike-last, permuted-sums, permuted-insert, to_rbc-means, answer_of-means, next-after,
-- alone-trace.
use mathlib.Core.Path.{◌≡◌, refl, sym, ap, subst, ◌∙◌}
use mathlib.Core.Logic.{◌↔◌, ◌⊎◌, inl, inr}
use mathlib.Core.Bool.{Bool, true, false, cond, ◌&&◌, ◌||◌}
use mathlib.Core.List.{List, [], ◌∷◌, ◌++◌, map, foldr}
use Prim.Native.Nat.{ℕ, zero, suc, ◌+◌, ◌≤◌, ◌<◌}
use native.Mathlib.Omega.{arith}
use lib.Dec.{eqb, leb, lit≤}
use lib.ListN.{length, get_or}
use borrow.Author.Tests.{eqb-true, eq-eqb, leb-true}
use Rattle.wire.specs.Bytes.{byte}
use Rattle.wire.specs.Sums.{sum}
use Rattle.wire.specs.Refusals.{wrong_length, unknown_kind, out_of_range}
use Rattle.wire.proofs.Tests.{and_left, and_right, and_both, cond-case, cond-holds, true-false}
use Rattle.record.specs.Partners.{same_partner, rbc, named_ok}
use Rattle.record.specs.Records.{message_version, message_call, message_ended, message_means, message_ok, highest_version, partner_in}
use Rattle.record.specs.Records.{row_of}
use Rattle.record.specs.Records.{known, length_of, reading, KindRow, kinds, no_row}
use Rattle.record.specs.Ranges.{reading_number}
use Rattle.record.specs.Ranges.{reading_ok}
use Rattle.record.specs.declared.partner.Partner.{Partner}
use Rattle.record.specs.declared.event.PartnerEvent.{PartnerEvent}
use Rattle.record.specs.declared.event.PartnerEvent.TheVariants.{Drop, Up, Loss, Timeout, Version, Ended}
use Rattle.record.specs.declared.event.Event.{Event}
use Rattle.record.specs.declared.event.Event.TheVariants.{Level, Mission, Mode, Hole, Order, EndAll, Call, Named}
use Rattle.record.specs.Readings.{Reading}
use Rattle.record.specs.Readings.{Meant, Refused}
use Rattle.record.proofs.Partners.{same_partner-means}
use Rattle.record.proofs.Ranges.{reading-ok}
use Rattle.unit.specs.Lasts.{to_rbc}
use Rattle.unit.specs.Steps.{Outcome}
use Rattle.unit.specs.Kept.{is_version}
use Rattle.wire.specs.Bytes.{as_bit}
use Rattle.unit.specs.OnRecords.{trace}
use Rattle.unit.specs.declared.last.Last.{Last}
use Rattle.unit.specs.declared.state.State.{State}
use Rattle.unit.specs.declared.answer.Action.{Action}
use Rattle.unit.proofs.Rows.{◌▹◌, Numbered, numbered-at}
use Rattle.history.specs.Histories.{after}
use Rattle.history.specs.EitherOrder.{Delivered, Differ, versions, Compared}
use Rattle.history.specs.Permuted.{DifferAll, Different}
use Rattle.history.specs.EitherOrder.{Reply, answer_of, next, alone, Alike}
use Rattle.history.specs.Permuted.{Permuted, empty, keeps, swaps, joins}
use Rattle.history.proofs.EitherOrder.{same-state}

-- the kind of a record by its event, and of a message its number and version
abbrev KindOf : List ℕ → PartnerEvent → Type 0
KindOf s Drop = byte s 0 ≡ 6
KindOf s Up = byte s 0 ≡ 8
KindOf s Loss = byte s 0 ≡ 9
KindOf s Timeout = byte s 0 ≡ 10
KindOf s (Version v) = (byte s 0 ≡ 11) × (byte s 5 ≡ 32) × (byte s 6 ≡ v)
KindOf s Ended = (byte s 0 ≡ 11) × (byte s 5 ≡ 39)

-- what a partner's event tells of the bytes that mean it
abbrev ToldEvent : List ℕ → Event → Type 0
ToldEvent s (Level level manual) = Unit
ToldEvent s (Mission mission) = Unit
ToldEvent s Mode = Unit
ToldEvent s (Hole entered) = Unit
ToldEvent s (Order p accepting cause) = Unit
ToldEvent s EndAll = Unit
ToldEvent s (Call p) = Unit
ToldEvent s (Named p e) = (p ≡ partner_in s) × KindOf s e

abbrev Told : List ℕ → Reading → Type 0
Told s (Meant e) = ToldEvent s e
Told s (Refused r) = Unit

-- number 39 where it is neither 32 nor 38
ended-number : (number version : ℕ)
    → message_ok number version ≡ true
    → eqb number message_version ≡ false
    → eqb number message_call ≡ false
    → number ≡ message_ended
ended-number number version ok first second =
    eqb-true number message_ended
    (by (eqb number message_version) (eqb number message_call) (eqb number message_ended) first second ok)
  where
    by : (a b c : Bool)
        → a ≡ false
        → b ≡ false
        → cond a (leb version highest_version) ((b || c) && eqb version 0) ≡ true
        → c ≡ true
    by true b c one two ok = true-false true refl one
    by false true c one two ok = true-false true refl two
    by false false c one two ok = and_left c _ ok

message-told : (s : List ℕ) → byte s 0 ≡ 11 → (row_of 11).ranges s ≡ true → ToldEvent s ((row_of 11).means s)
message-told s kind ok =
    let number = byte s 5 in
    let version = byte s 6 in
    let p = partner_in s in
    let fits : message_ok number version ≡ true = and_right (named_ok p) (message_ok number version) ok in
    cond-case (ToldEvent s) (eqb number message_version) (Named p (Version version))
    (cond (eqb number message_call) (Call p) (Named p Ended))
    (λ is. (refl, (kind, eqb-true number message_version is, refl)))
    (λ other.
    cond-case (ToldEvent s) (eqb number message_call) (Call p) (Named p Ended)
    (λ is. tt)
    (λ neither. (refl, (kind, ended-number number version fits other neither))))

-- the table of kinds, row by row
abbrev RowTold : ℕ → KindRow → Type 0
RowTold kind body = (s : List ℕ) → byte s 0 ≡ kind → body.ranges s ≡ true → ToldEvent s (body.means s)

rows_told : Numbered RowTold 0 kinds
rows_told =
    (λ s e ok. tt)
    ▹ (λ s e ok. tt)
    ▹ (λ s e ok. tt)
    ▹ (λ s e ok. tt)
    ▹ (λ s e ok. tt)
    ▹ (λ s e ok. tt)
    ▹ (λ s e ok. (refl, e))
    ▹ (λ s e ok. tt)
    ▹ (λ s e ok. (refl, e))
    ▹ (λ s e ok. (refl, e))
    ▹ (λ s e ok. (refl, e))
    ▹ message-told
    ▹ tt

reading-told : (bytes : List ℕ) → Told bytes (reading bytes)
unfolding reading
reading-told [] = tt
reading-told (kind ∷ body) =
    let s = kind ∷ body in
    let row = numbered-at RowTold 0 kinds no_row rows_told (λ i s e ok. tt) kind s (omega arith) in
    let ranged = cond-case (Told s) ((row_of kind).ranges s) (Meant ((row_of kind).means s)) (Refused out_of_range) row (λ outside. tt) in
    let sized = cond-holds (Told s) (eqb (length s) (length_of kind)) _ (Refused wrong_length) ranged tt in
    cond-holds (Told s) (known kind) _ (Refused unknown_kind) sized tt

delivered-told : (x : Delivered) → (x.partner ≡ partner_in x.bytes) × KindOf x.bytes x.event
delivered-told x = subst (Told x.bytes) x.means (reading-told x.bytes)

-- the partner is what stands in the record: type, then three number bytes
-- meaning
pub delivered-partner : (x : Delivered)
    → (x.partner.kind ≡ byte x.bytes 1)
    × (x.partner.high ≡ byte x.bytes 2)
    × (x.partner.middle ≡ byte x.bytes 3)
    × (x.partner.low ≡ byte x.bytes 4)
delivered-partner x =
    let same = (delivered-told x).0 in (
      ap (λ (p : Partner). p.kind) same,
      ap (λ (p : Partner). p.high) same,
      ap (λ (p : Partner). p.middle) same,
      ap (λ (p : Partner). p.low) same,
    )

-- "events of kinds 6, 8, 9, 10, or 11 with 32 or 39", and no others
-- meaning
pub delivered-kinds : (x : Delivered)
    → ((byte x.bytes 0 ≡ 6) × (x.event ≡ Drop))
    ⊎ ((byte x.bytes 0 ≡ 8) × (x.event ≡ Up))
    ⊎ ((byte x.bytes 0 ≡ 9) × (x.event ≡ Loss))
    ⊎ ((byte x.bytes 0 ≡ 10) × (x.event ≡ Timeout))
    ⊎ ((byte x.bytes 0 ≡ 11) × (byte x.bytes 5 ≡ 32) × (x.event ≡ Version (byte x.bytes 6)))
    ⊎ ((byte x.bytes 0 ≡ 11) × (byte x.bytes 5 ≡ 39) × (x.event ≡ Ended))
delivered-kinds x = by x.event (delivered-told x).1
  where
    by : (e : PartnerEvent)
        → KindOf x.bytes e
        → ((byte x.bytes 0 ≡ 6) × (e ≡ Drop))
        ⊎ ((byte x.bytes 0 ≡ 8) × (e ≡ Up))
        ⊎ ((byte x.bytes 0 ≡ 9) × (e ≡ Loss))
        ⊎ ((byte x.bytes 0 ≡ 10) × (e ≡ Timeout))
        ⊎ ((byte x.bytes 0 ≡ 11) × (byte x.bytes 5 ≡ 32) × (e ≡ Version (byte x.bytes 6)))
        ⊎ ((byte x.bytes 0 ≡ 11) × (byte x.bytes 5 ≡ 39) × (e ≡ Ended))
    by Drop is = inl (is, refl)
    by Up is = inr (inl (is, refl))
    by Loss is = inr (inr (inl (is, refl)))
    by Timeout is = inr (inr (inr (inl (is, refl))))
    by (Version v) is = inr (inr (inr (inr (inl (is.0, is.1, ap Version (sym is.2))))))
    by Ended is = inr (inr (inr (inr (inr (is.0, is.1, refl)))))

-- the kinds of Q-11, with the numbers of its messages
abbrev Kinds : List ℕ → Type 0
Kinds s =
    (byte s 0 ≡ 6)
    ⊎ (byte s 0 ≡ 8)
    ⊎ (byte s 0 ≡ 9)
    ⊎ (byte s 0 ≡ 10)
    ⊎ ((byte s 0 ≡ 11) × (byte s 5 ≡ 32))
    ⊎ ((byte s 0 ≡ 11) × (byte s 5 ≡ 39))

kinds-other : {A : Type 0} (s : List ℕ) (kind : ℕ) → byte s 0 ≡ kind → (kind ≤ 5) ⊎ (kind ≡ 7) → Kinds s → A
kinds-other s kind is (inl low) (inl six) = absurd (omega arith)
kinds-other s kind is (inl low) (inr (inl eight)) = absurd (omega arith)
kinds-other s kind is (inl low) (inr (inr (inl nine))) = absurd (omega arith)
kinds-other s kind is (inl low) (inr (inr (inr (inl ten)))) = absurd (omega arith)
kinds-other s kind is (inl low) (inr (inr (inr (inr (inl version))))) = absurd (omega arith)
kinds-other s kind is (inl low) (inr (inr (inr (inr (inr ended))))) = absurd (omega arith)
kinds-other s kind is (inr seven) (inl six) = absurd (omega arith)
kinds-other s kind is (inr seven) (inr (inl eight)) = absurd (omega arith)
kinds-other s kind is (inr seven) (inr (inr (inl nine))) = absurd (omega arith)
kinds-other s kind is (inr seven) (inr (inr (inr (inl ten)))) = absurd (omega arith)
kinds-other s kind is (inr seven) (inr (inr (inr (inr (inl version))))) = absurd (omega arith)
kinds-other s kind is (inr seven) (inr (inr (inr (inr (inr ended))))) = absurd (omega arith)

-- an event of the phase table, with its partner
abbrev IsNamed : Event → Type 0
IsNamed e = (p : Partner) × (own : PartnerEvent) × (e ≡ Named p own)

message-named : (s : List ℕ) → byte s 0 ≡ 11 → Kinds s → IsNamed ((row_of 11).means s)
message-named s is (inl six) = absurd (omega arith)
message-named s is (inr (inl eight)) = absurd (omega arith)
message-named s is (inr (inr (inl nine))) = absurd (omega arith)
message-named s is (inr (inr (inr (inl ten)))) = absurd (omega arith)
message-named s is (inr (inr (inr (inr (inl version))))) =
    (partner_in s, Version (byte s 6), ap (λ number. message_means number (byte s 6) (partner_in s)) version.1)
message-named s is (inr (inr (inr (inr (inr ended))))) =
    (partner_in s, Ended, ap (λ number. message_means number (byte s 6) (partner_in s)) ended.1)

abbrev Finds : List ℕ → Reading → Type 0
Finds s (Meant e) = Kinds s → IsNamed e
Finds s (Refused r) = Unit

abbrev NamedRow : ℕ → KindRow → Type 0
NamedRow kind body = (s : List ℕ) → byte s 0 ≡ kind → body.ranges s ≡ true → Kinds s → IsNamed (body.means s)

rows_named : Numbered NamedRow 0 kinds
rows_named =
    (λ s e ok. kinds-other s 0 e (inl (lit≤ tt)))
    ▹ (λ s e ok. kinds-other s 1 e (inl (lit≤ tt)))
    ▹ (λ s e ok. kinds-other s 2 e (inl (lit≤ tt)))
    ▹ (λ s e ok. kinds-other s 3 e (inl (lit≤ tt)))
    ▹ (λ s e ok. kinds-other s 4 e (inl (lit≤ tt)))
    ▹ (λ s e ok. kinds-other s 5 e (inl (lit≤ tt)))
    ▹ (λ s e ok kinds. (partner_in s, Drop, refl))
    ▹ (λ s e ok. kinds-other s 7 e (inr refl))
    ▹ (λ s e ok kinds. (partner_in s, Up, refl))
    ▹ (λ s e ok kinds. (partner_in s, Loss, refl))
    ▹ (λ s e ok kinds. (partner_in s, Timeout, refl))
    ▹ (λ s e ok. message-named s e)
    ▹ tt

reading-finds : (bytes : List ℕ) → Finds bytes (reading bytes)
unfolding reading
reading-finds [] = tt
reading-finds (kind ∷ body) =
    let s = kind ∷ body in
    let row = numbered-at NamedRow 0 kinds no_row rows_named (λ i s e ok. true-false false ok refl) kind s (omega arith) in
    let ranged = cond-case (Finds s) ((row_of kind).ranges s) (Meant ((row_of kind).means s)) (Refused out_of_range) row (λ outside. tt) in
    let sized = cond-holds (Finds s) (eqb (length s) (length_of kind)) _ (Refused wrong_length) ranged tt in
    cond-holds (Finds s) (known kind) _ (Refused unknown_kind) sized tt

-- "well-formed events of kinds 6, 8, 9, 10, or 11 with 32 or 39": every record of these that is not refused is a delivered one
-- meaning
pub delivered-every : (bytes : List ℕ)
    → reading_number (reading bytes) ≡ 0
    → (byte bytes 0 ≡ 6)
    ⊎ (byte bytes 0 ≡ 8)
    ⊎ (byte bytes 0 ≡ 9)
    ⊎ (byte bytes 0 ≡ 10)
    ⊎ ((byte bytes 0 ≡ 11) × (byte bytes 5 ≡ 32))
    ⊎ ((byte bytes 0 ≡ 11) × (byte bytes 5 ≡ 39))
    → (x : Delivered) × (x.bytes ≡ bytes)
delivered-every bytes taken kinds = by (reading bytes) refl (reading-ok bytes) taken (reading-finds bytes)
  where
    by : (r : Reading)
        → reading bytes ≡ r
        → reading_ok r ≡ true
        → reading_number r ≡ 0
        → Finds bytes r
        → (x : Delivered) × (x.bytes ≡ bytes)
    by (Meant e) is ok none finds =
        let named = finds kinds in
        (record { bytes = bytes; partner = named.0; event = named.1; means = is ∙ ap Meant named.2 }, refl)
    by (Refused r) is ok none finds =
        let some = leb-true wrong_length r (and_left (leb wrong_length r) (leb r out_of_range) ok) in
        absurd (omega arith)

-- "message 32"
-- meaning
pub is_version-means : (x : Delivered) → (is_version x.event ≡ true) ↔ ((byte x.bytes 0 ≡ 11) × (byte x.bytes 5 ≡ 32))
is_version-means x = by x.event (delivered-told x).1
  where
    by : (e : PartnerEvent)
        → KindOf x.bytes e
        → (is_version e ≡ true) ↔ ((byte x.bytes 0 ≡ 11) × (byte x.bytes 5 ≡ 32))
    by Drop is = ((λ h. true-false false h refl), (λ h. absurd (omega arith)))
    by Up is = ((λ h. true-false false h refl), (λ h. absurd (omega arith)))
    by Loss is = ((λ h. true-false false h refl), (λ h. absurd (omega arith)))
    by Timeout is = ((λ h. true-false false h refl), (λ h. absurd (omega arith)))
    by (Version v) is = ((λ h. (is.0, is.1)), (λ h. refl))
    by Ended is = ((λ h. true-false false h refl), (λ h. absurd (omega arith)))

-- how many records of a row have kind 11 and number 32
-- meaning
pub versions-counts :
    (versions [] ≡ 0)
    × ((x : Delivered) (xs : List Delivered)
    → ((byte x.bytes 0 ≡ 11) × (byte x.bytes 5 ≡ 32) → versions (x ∷ xs) ≡ suc (versions xs))
    × (((byte x.bytes 0 ≡ 11) × (byte x.bytes 5 ≡ 32) → ⊥) → versions (x ∷ xs) ≡ versions xs))
unfolding sum
versions-counts = (refl, (λ x xs. by xs (is_version x.event) (is_version-means x)))
  where
    by : {P : Type 0} (xs : List Delivered) (b : Bool)
        → (b ≡ true) ↔ P
        → (P → as_bit b + versions xs ≡ suc (versions xs)) × ((P → ⊥) → as_bit b + versions xs ≡ versions xs)
    by xs true is = ((λ h. omega arith), (λ h. absurd (h (is.0 refl))))
    by xs false is = ((λ h. true-false false (is.1 h) refl), (λ h. omega arith))

-- "naming two different partners": not the same type and number bytes
-- meaning
pub differ-means : (x y : Delivered)
    → Differ x y
    ↔ ((byte x.bytes 1 ≡ byte y.bytes 1)
    × (byte x.bytes 2 ≡ byte y.bytes 2)
    × (byte x.bytes 3 ≡ byte y.bytes 3)
    × (byte x.bytes 4 ≡ byte y.bytes 4)
    → ⊥)
differ-means x y = (
  (λ other h.
      true-false (same_partner x.partner y.partner)
      (means.1 (
        mine.0 ∙ h.0 ∙ sym theirs.0,
        mine.1 ∙ h.1 ∙ sym theirs.1,
        mine.2 ∙ h.2 ∙ sym theirs.2,
        mine.3 ∙ h.3 ∙ sym theirs.3,
      ))
      other),
  (λ not-all. by not-all (same_partner x.partner y.partner) refl),
)
  where
    mine : (x.partner.kind ≡ byte x.bytes 1)
        × (x.partner.high ≡ byte x.bytes 2)
        × (x.partner.middle ≡ byte x.bytes 3)
        × (x.partner.low ≡ byte x.bytes 4)
    mine = delivered-partner x

    theirs : (y.partner.kind ≡ byte y.bytes 1)
        × (y.partner.high ≡ byte y.bytes 2)
        × (y.partner.middle ≡ byte y.bytes 3)
        × (y.partner.low ≡ byte y.bytes 4)
    theirs = delivered-partner y

    means : (same_partner x.partner y.partner ≡ true)
        ↔ ((x.partner.kind ≡ y.partner.kind)
        × (x.partner.high ≡ y.partner.high)
        × (x.partner.middle ≡ y.partner.middle)
        × (x.partner.low ≡ y.partner.low))
    means = same_partner-means x.partner y.partner

    by : ((byte x.bytes 1 ≡ byte y.bytes 1)
        × (byte x.bytes 2 ≡ byte y.bytes 2)
        × (byte x.bytes 3 ≡ byte y.bytes 3)
        × (byte x.bytes 4 ≡ byte y.bytes 4)
        → ⊥)
        → (b : Bool)
        → same_partner x.partner y.partner ≡ b
        → same_partner x.partner y.partner ≡ false
    by not-all true is =
        let same = means.0 is in
        absurd
        (not-all (
          sym mine.0 ∙ same.0 ∙ theirs.0,
          sym mine.1 ∙ same.1 ∙ theirs.1,
          sym mine.2 ∙ same.2 ∙ theirs.2,
          sym mine.3 ∙ same.3 ∙ theirs.3,
        ))
    by not-all false is = is

-- one differs from each of a row
-- meaning
pub differ_all-means : (x : Delivered) (ys : List Delivered) (d : Delivered)
    → DifferAll x ys
    ↔ ((i : ℕ) → i < length ys → Differ x (get_or ys i d))
unfolding DifferAll
differ_all-means x ys d = (to ys, from ys)
  where
    to : (ys : List Delivered) → DifferAll x ys → (i : ℕ) → i < length ys → Differ x (get_or ys i d)
    to [] other i below = absurd (omega arith)
    to (y ∷ ys) other zero below = other.0
    to (y ∷ ys) other (suc i) below = to ys other.1 i (omega arith)

    from : (ys : List Delivered) → ((i : ℕ) → i < length ys → Differ x (get_or ys i d)) → DifferAll x ys
    from [] each = tt
    from (y ∷ ys) each = (each 0 (omega arith), from ys (λ i below. each (suc i) (omega arith)))

-- any two of a row differ
-- meaning
pub different-means : (xs : List Delivered) (d : Delivered)
    → Different xs
    ↔ ((i j : ℕ) → i < j → j < length xs → Differ (get_or xs i d) (get_or xs j d))
unfolding Different
different-means xs d = (to xs, from xs)
  where
    to : (xs : List Delivered) → Different xs → (i j : ℕ) → i < j → j < length xs → Differ (get_or xs i d) (get_or xs j d)
    to [] different i j first below = absurd (omega arith)
    to (x ∷ xs) different i zero first below = absurd (omega arith)
    to (x ∷ xs) different zero (suc j) first below = (differ_all-means x xs d).0 different.0 j (omega arith)
    to (x ∷ xs) different (suc i) (suc j) first below = to xs different.1 i j (omega arith) (omega arith)

    from : (xs : List Delivered)
        → ((i j : ℕ) → i < j → j < length xs → Differ (get_or xs i d) (get_or xs j d))
        → Different xs
    from [] each = tt
    from (x ∷ xs) each = (
      (differ_all-means x xs d).1 (λ j below. each 0 (suc j) (omega arith) (omega arith)),
      from xs (λ i j first below. each (suc i) (suc j) (omega arith) (omega arith)),
    )

-- a row with a message 32 has one at least, and a row with none has none
some-version : (xs : List Delivered) (d : Delivered) (i : ℕ)
    → i < length xs
    → is_version (get_or xs i d).event ≡ true
    → 1 ≤ versions xs
unfolding sum
some-version [] d i below is = absurd (omega arith)
some-version (x ∷ xs) d zero below is = let version = ap as_bit is in omega arith
some-version (x ∷ xs) d (suc i) below is = let later = some-version xs d i (omega arith) is in omega arith

no-version : (xs : List Delivered) (d : Delivered)
    → ((i : ℕ) → i < length xs → is_version (get_or xs i d).event ≡ true → ⊥)
    → versions xs ≡ 0
unfolding sum
no-version [] d none = refl
no-version (x ∷ xs) d none = by (is_version x.event) refl (no-version xs d (λ i below. none (suc i) (omega arith)))
  where
    by : (b : Bool) → is_version x.event ≡ b → versions xs ≡ 0 → as_bit b + versions xs ≡ 0
    by true is later = absurd (none 0 (omega arith) is)
    by false is later = omega arith

-- "If both are message 32 the last known RBC .. is left out": it is compared where no two of the row are
-- meaning
pub compared-means : (xs : List Delivered) (d : Delivered)
    → Compared xs
    ↔ ((i j : ℕ)
    → i < j
    → j < length xs
    → is_version (get_or xs i d).event ≡ true
    → is_version (get_or xs j d).event ≡ true
    → ⊥)
unfolding sum
compared-means xs d = (to xs, from xs)
  where
    to : (xs : List Delivered)
        → Compared xs
        → (i j : ℕ)
        → i < j
        → j < length xs
        → is_version (get_or xs i d).event ≡ true
        → is_version (get_or xs j d).event ≡ true
        → ⊥
    to [] few i j first below one two = omega arith
    to (x ∷ xs) few i zero first below one two = omega arith
    to (x ∷ xs) few zero (suc j) first below one two =
        let version = ap as_bit one in
        let later = some-version xs d j (omega arith) two in
        omega arith
    to (x ∷ xs) few (suc i) (suc j) first below one two = to xs (omega arith) i j (omega arith) (omega arith) one two

    from : (xs : List Delivered)
        → ((i j : ℕ)
        → i < j
        → j < length xs
        → is_version (get_or xs i d).event ≡ true
        → is_version (get_or xs j d).event ≡ true
        → ⊥)
        → Compared xs
    from [] each = omega arith
    from (x ∷ xs) each =
        by (is_version x.event) refl
        (from xs (λ i j first below. each (suc i) (suc j) (omega arith) (omega arith)))
      where
        by : (b : Bool) → is_version x.event ≡ b → versions xs ≤ 1 → as_bit b + versions xs ≤ 1
        by true is few =
            let none = no-version xs d (λ j below. each 0 (suc j) (omega arith) (omega arith) is) in
            omega arith
        by false is few = omega arith

-- "the same state", "the last known RBC of Q-2 is left out": all but it
-- meaning
pub alike-means : (s t : State) → (s ≡ t) ↔ (Alike s t × (s.last ≡ t.last))
alike-means s t = (
  (λ same. (
    (ap (λ u. u.limits) same, ap (λ u. u.train) same, ap (λ u. u.marks) same, ap (λ u. u.places) same),
    ap (λ u. u.last) same,
  )),
  (λ h. same-state s t h.0 h.1),
)

-- meaning
pub alike-last : (s : State) (last : Last)
    → Alike s (record { limits = s.limits; train = s.train; marks = s.marks; places = s.places; last = last })
alike-last s last = (refl, refl, refl, refl)

-- "in whichever order": each record as often, whatever is counted or added up
-- meaning
pub permuted-sums : {xs ys : List Delivered}
    → Permuted xs ys
    → (f : Delivered → ℕ)
    → foldr (λ x n. f x + n) 0 xs ≡ foldr (λ x n. f x + n) 0 ys
permuted-sums empty f = refl
permuted-sums (keeps x p) f = ap (◌+◌ (f x)) (permuted-sums p f)
permuted-sums (swaps x y xs) f = omega arith
permuted-sums (joins p q) f = permuted-sums p f ∙ permuted-sums q f

-- and any of them may come at any place among the others
-- meaning
pub permuted-insert : (x : Delivered) (xs ys : List Delivered) → Permuted (x ∷ (xs ++ ys)) (xs ++ (x ∷ ys))
permuted-insert x [] ys = keeps x (self ys)
  where
    self : (ys : List Delivered) → Permuted ys ys
    self [] = empty
    self (y ∷ ys) = keeps y (self ys)
permuted-insert x (y ∷ xs) ys = joins (swaps x y (xs ++ ys)) (keeps y (permuted-insert x xs ys))

-- "a 159 sent to an RBC"
-- meaning
pub to_rbc-means : (a : Action) → (to_rbc a ≡ true) ↔ ((a.number ≡ 159) × (a.partner.kind ≡ 0))
to_rbc-means a = (
  (λ h.
      (eqb-true a.number 159 (and_left _ _ h), eqb-true a.partner.kind rbc (and_right (eqb a.number 159) _ h))),
  (λ h. and_both _ _ (eq-eqb a.number 159 h.0) (eq-eqb a.partner.kind rbc h.1)),
)

-- "number and actions", place and phase: answers are the same where these are
-- meaning
pub answer_of-means : (o u : Outcome)
    → (answer_of o ≡ answer_of u)
    ↔ ((o.code ≡ u.code) × (o.standing ≡ u.standing) × (o.actions ≡ u.actions))
answer_of-means o u = (
  (λ same. (ap (λ (a : Reply). a.code) same, ap (λ (a : Reply). a.standing) same, ap (λ (a : Reply). a.actions) same)),
  (λ h i. record { code = h.0 i; standing = h.1 i; actions = h.2 i }),
)

-- the state after a history of one record, and the answer to it
-- meaning
pub next-after : (s : State) (x : Delivered) → next s x ≡ after s (x.bytes ∷ [])
unfolding after
next-after s x = refl

-- meaning
pub alone-trace : (s : State) (x : Delivered) → alone s x ∷ [] ≡ map answer_of (trace s (x.bytes ∷ []))
unfolding trace
alone-trace s x = refl
