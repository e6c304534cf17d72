-- Cross-checks only: rules told a second time.
-- Demand 3, what "named" means, in bytes: which records name a partner, which are a timeout for it, and what being silent and counting
-- timeouts say of a whole history.
-- Proves: names-means, timeout_for-means, silent-means, one_more, timeouts-more.
use mathlib.Core.Path.{◌≡◌, refl, sym, ap, ◌∙◌}
use mathlib.Core.Logic.{◌↔◌, ◌⊎◌, inl, inr}
use mathlib.Core.Bool.{Bool, true, false, cond, ◌&&◌, ◌||◌, not}
use mathlib.Core.List.{List, [], ◌∷◌, ◌++◌}
use Prim.Native.Nat.{ℕ, zero, suc, ◌+◌, ◌≤◌, ◌<◌}
use native.Mathlib.Omega.{arith}
use lib.Dec.{eqb, leb}
use lib.ListN.{length, get_or, take}
use borrow.Author.Tests.{eqb-true, eq-eqb, ne_eqb, leb-true, le-leb}
use Rattle.wire.specs.Bytes.{byte}
use Rattle.wire.specs.Refusals.{accepted, wrong_length, unknown_kind, out_of_range}
use Rattle.wire.proofs.Tests.{and_left, and_right, and_both, cond-case, cond-holds, true-false}
use Rattle.record.specs.Partners.{same_partner}
use Rattle.record.specs.Records.{message_version, message_call, message_means, partner_in, known, length_of, reading, row_of}
use Rattle.record.specs.Ranges.{reading_number}
use Rattle.record.specs.Records.{KindRow, partner_row, kinds, no_row}
use Rattle.record.specs.Ranges.{reading_ok}
use Rattle.record.specs.declared.partner.Partner.{Partner}
use Rattle.record.specs.declared.event.PartnerEvent.TheVariants.{Drop, Up, Loss, Timeout, Version, Ended}
use Rattle.record.specs.declared.event.Event.{Event}
use Rattle.record.specs.declared.event.Event.TheVariants.{Call, Named}
use Rattle.record.specs.Readings.{Reading}
use Rattle.record.specs.Readings.{Meant, Refused}
use Rattle.record.proofs.Partners.{same_refl, same-eq}
use Rattle.record.proofs.Ranges.{reading-ok}
use Rattle.unit.specs.Lasts.{meant}
use Rattle.unit.specs.OnRecords.{action_room, on_record}
use Rattle.unit.specs.declared.last.Last.{Last}
use Rattle.unit.specs.declared.last.Last.TheVariants.{Unknown}
use Rattle.unit.specs.declared.state.State.{State}
use Rattle.unit.proofs.Rows.{◌▹◌, Numbered, numbered-at}
use Rattle.history.specs.Counting.{OneMore}
use Rattle.history.specs.Histories.{after, names, timeout_for, silent, timeouts}
use Rattle.history.proofs.Concerned.{named_by, timeout_by}
use Rattle.wire.specs.Bytes.{as_bit}

module _ (p : Partner) (last : Last) where
  -- whom a record of some kind names that carries this partner
  abbrev kind_names : ℕ → Partner → Bool
  kind_names kind q =
      cond (eqb kind 5) (same_partner p (meant last q)) ((eqb kind 6 || (leb 8 kind && leb kind 11)) && same_partner p q)

  abbrev kind_timeout : ℕ → Partner → Bool
  kind_timeout kind q = eqb kind 10 && same_partner p q

  -- what the bytes say of the event that they mean
  abbrev Says : List ℕ → Event → Type 0
  Says s e =
      (named_by p last (Meant e) ≡ kind_names (byte s 0) (partner_in s))
      × (timeout_by p (Meant e) ≡ kind_timeout (byte s 0) (partner_in s))

  abbrev RowSays : ℕ → KindRow → Type 0
  RowSays kind body = (s : List ℕ) → byte s 0 ≡ kind → body.ranges s ≡ true → Says s (body.means s)

  -- what a row's kind says is said of its records
  says_at : (kind : ℕ) (s : List ℕ) (e : Event)
      → byte s 0 ≡ kind
      → named_by p last (Meant e) ≡ kind_names kind (partner_in s)
      → timeout_by p (Meant e) ≡ kind_timeout kind (partner_in s)
      → Says s e
  says_at kind s e is first second =
      (first ∙ ap (λ k. kind_names k (partner_in s)) (sym is), second ∙ ap (λ k. kind_timeout k (partner_in s)) (sym is))

  rows-say : Numbered RowSays 0 kinds
  rows-say =
      (λ s e ok. true-false false ok refl)
      ▹ (λ s e ok. says_at 1 s ((row_of 1).means s) e refl refl)
      ▹ (λ s e ok. says_at 2 s ((row_of 2).means s) e refl refl)
      ▹ (λ s e ok. says_at 3 s ((row_of 3).means s) e refl refl)
      ▹ (λ s e ok. says_at 4 s ((row_of 4).means s) e refl refl)
      ▹ (λ s e ok. says_at 5 s ((row_of 5).means s) e refl refl)
      ▹ (λ s e ok. says_at 6 s ((partner_row Drop).means s) e refl (none (same_partner p (partner_in s))))
      ▹ (λ s e ok. says_at 7 s ((row_of 7).means s) e refl refl)
      ▹ (λ s e ok. says_at 8 s ((partner_row Up).means s) e refl (none (same_partner p (partner_in s))))
      ▹ (λ s e ok. says_at 9 s ((partner_row Loss).means s) e refl (none (same_partner p (partner_in s))))
      ▹ (λ s e ok. says_at 10 s ((partner_row Timeout).means s) e refl (all (same_partner p (partner_in s))))
      ▹ (λ s e ok. message s e (byte s 5) (byte s 6))
      ▹ tt
    where
      none : (b : Bool) → (b && false) ≡ false
      none true = refl
      none false = refl

      all : (b : Bool) → (b && true) ≡ b
      all true = refl
      all false = refl

      message : (s : List ℕ) → byte s 0 ≡ 11 → (number version : ℕ) → Says s (message_means number version (partner_in s))
      message s e number version =
          cond-holds (Says s) (eqb number message_version) (Named (partner_in s) (Version version))
          (cond (eqb number message_call) (Call (partner_in s)) (Named (partner_in s) Ended))
          (says_at 11 s (Named (partner_in s) (Version version)) e refl (none (same_partner p (partner_in s))))
          (cond-holds (Says s) (eqb number message_call) (Call (partner_in s)) (Named (partner_in s) Ended)
          (says_at 11 s (Call (partner_in s)) e refl refl)
          (says_at 11 s (Named (partner_in s) Ended) e refl (none (same_partner p (partner_in s)))))

  -- and of every record that is read
  abbrev SaysRead : List ℕ → Reading → Type 0
  SaysRead s (Meant e) = Says s e
  SaysRead s (Refused r) = Unit

  reading-says : (bytes : List ℕ) → SaysRead bytes (reading bytes)
  unfolding reading
  reading-says [] = tt
  reading-says (kind ∷ body) =
      let s = kind ∷ body in
      let row = numbered-at RowSays 0 kinds no_row rows-say (λ i s e ok. true-false false ok refl) kind s (omega arith) in
      let ranged =
      cond-case (SaysRead s) ((row_of kind).ranges s) (Meant ((row_of kind).means s)) (Refused out_of_range) row (λ outside. tt) in
      let sized = cond-holds (SaysRead s) (eqb (length s) (length_of kind)) _ (Refused wrong_length) ranged tt in
      cond-holds (SaysRead s) (known kind) _ (Refused unknown_kind) sized tt

  -- by its numbers
  abbrev Named-by : ℕ → Partner → Type 0
  Named-by kind q = ((kind ≡ 5) × (p ≡ meant last q)) ⊎ (((kind ≡ 6) ⊎ ((8 ≤ kind) × (kind ≤ 11))) × (p ≡ q))

  same : (q : Partner) → p ≡ q → same_partner p q ≡ true
  same q is = ap (same_partner p) (sym is) ∙ same_refl p

  kind-names : (kind : ℕ) (q : Partner) → kind_names kind q ≡ true → Named-by kind q
  kind-names kind q =
      cond-case (λ b. b ≡ true → Named-by kind q) (eqb kind 5) (same_partner p (meant last q))
      ((eqb kind 6 || (leb 8 kind && leb kind 11)) && same_partner p q)
      (λ is h. inl (eqb-true kind 5 is, same-eq p (meant last q) h))
      (λ other h.
      inr (
        either (eqb kind 6) refl (and_left (eqb kind 6 || (leb 8 kind && leb kind 11)) (same_partner p q) h),
        same-eq p q (and_right (eqb kind 6 || (leb 8 kind && leb kind 11)) (same_partner p q) h),
      ))
    where
      either : (b : Bool)
          → eqb kind 6 ≡ b
          → (b || (leb 8 kind && leb kind 11)) ≡ true
          → (kind ≡ 6) ⊎ ((8 ≤ kind) × (kind ≤ 11))
      either true is h = inl (eqb-true kind 6 is)
      either false is h =
          inr (leb-true 8 kind (and_left (leb 8 kind) (leb kind 11) h), leb-true kind 11 (and_right (leb 8 kind) (leb kind 11) h))

  names-kind : (kind : ℕ) (q : Partner) → Named-by kind q → kind_names kind q ≡ true
  names-kind kind q (inl h) = simp (eq-eqb kind 5 h.0) (same (meant last q) h.1)
  names-kind kind q (inr h) = by h.0
    where
      passes : (kind ≡ 5 → ⊥) → (eqb kind 6 || (leb 8 kind && leb kind 11)) ≡ true → kind_names kind q ≡ true
      passes other is =
          ap (λ b. cond b (same_partner p (meant last q)) ((eqb kind 6 || (leb 8 kind && leb kind 11)) && same_partner p q))
          (ne_eqb kind 5 other)
          ∙ and_both _ _ is (same q h.1)

      by : (kind ≡ 6) ⊎ ((8 ≤ kind) × (kind ≤ 11)) → kind_names kind q ≡ true
      by (inl six) = passes (λ five. omega arith) (ap (λ b. b || (leb 8 kind && leb kind 11)) (eq-eqb kind 6 six))
      by (inr range) =
          passes (λ five. omega (arith, range.0))
          (ap (λ b. b || (leb 8 kind && leb kind 11)) (ne_eqb kind 6 (λ six. omega (arith, range.0)))
          ∙ and_both _ _ (le-leb 8 kind range.0) (le-leb kind 11 range.1))

-- a refused reading's number is not 0
refused-some : (r : ℕ) → reading_ok (Refused r) ≡ true → r ≡ accepted → ⊥
refused-some r ok none =
    let some = leb-true wrong_length r (and_left (leb wrong_length r) (leb r out_of_range) ok) in
    omega arith

-- "named": the record reads, and it is an order (kind 5) that means the partner, or a drop, up, lost, timeout or message (kinds 6 and 8
-- to 11) whose partner, bytes 1 to 4, it is. So a record refused with 1, 2 or 3, and kinds 1, 2, 3, 4 and 7, name nobody
-- meaning
pub names-means : (p : Partner) (s : State) (bytes : List ℕ)
    → (names p s bytes ≡ true)
    ↔ ((reading_number (reading bytes) ≡ 0)
    × (((byte bytes 0 ≡ 5) × (p ≡ meant s.last (partner_in bytes)))
    ⊎ (((byte bytes 0 ≡ 6) ⊎ ((8 ≤ byte bytes 0) × (byte bytes 0 ≤ 11))) × (p ≡ partner_in bytes))))
names-means p s bytes = by (reading bytes) (reading-ok bytes) (reading-says p s.last bytes)
  where
    by : (r : Reading)
        → reading_ok r ≡ true
        → SaysRead p s.last bytes r
        → (named_by p s.last r ≡ true)
        ↔ ((reading_number r ≡ 0) × Named-by p s.last (byte bytes 0) (partner_in bytes))
    by (Meant e) ok says = (
      (λ h. (refl, kind-names p s.last (byte bytes 0) (partner_in bytes) (sym says.0 ∙ h))),
      (λ h. says.0 ∙ names-kind p s.last (byte bytes 0) (partner_in bytes) h.1),
    )
    by (Refused r) ok says = ((λ h. true-false false h refl), (λ h. absurd (refused-some r ok h.0)))

-- a timeout for a partner: the record reads, its kind is 10 and its partner is this one
-- meaning
pub timeout_for-means : (p : Partner) (bytes : List ℕ)
    → (timeout_for p bytes ≡ true)
    ↔ ((reading_number (reading bytes) ≡ 0) × (byte bytes 0 ≡ 10) × (p ≡ partner_in bytes))
timeout_for-means p bytes = by (reading bytes) (reading-ok bytes) (reading-says p Unknown bytes)
  where
    by : (r : Reading)
        → reading_ok r ≡ true
        → SaysRead p Unknown bytes r
        → (timeout_by p r ≡ true)
        ↔ ((reading_number r ≡ 0) × (byte bytes 0 ≡ 10) × (p ≡ partner_in bytes))
    by (Meant e) ok says = (
      (λ h.
          let kind = sym says.1 ∙ h in (
            refl,
            eqb-true (byte bytes 0) 10 (and_left _ (same_partner p (partner_in bytes)) kind),
            same-eq p (partner_in bytes) (and_right (eqb (byte bytes 0) 10) _ kind),
          )),
      (λ h. says.1 ∙ and_both _ _ (eq-eqb (byte bytes 0) 10 h.1) (same p Unknown (partner_in bytes) h.2)),
    )
    by (Refused r) ok says = ((λ h. true-false false h refl), (λ h. absurd (refused-some r ok h.0)))

-- the record names the partner by a timeout, or not at all
quiet-means : (a b : Bool) → ((not a || b) ≡ true) ↔ (a ≡ true → b ≡ true)
quiet-means true b = ((λ h is. h), (λ g. g refl))
quiet-means false b = ((λ h is. true-false false is refl), (λ g. refl))

-- "is from then on named by nothing but timeouts": each record that names it, in the state that the records before it led to, is a timeout
-- for it
-- meaning
pub silent-means : (p : Partner) (s : State) (history : List (List ℕ))
    → (silent p s history ≡ true)
    ↔ ((i : ℕ)
    → i < length history
    → names p (after s (take i history)) (get_or history i []) ≡ true
    → timeout_for p (get_or history i []) ≡ true)
unfolding silent after
silent-means p s [] = ((λ h i below. absurd (omega arith)), (λ g. refl))
silent-means p s (bytes ∷ history) =
    let o = on_record s bytes action_room in
    let first = quiet-means (names p s bytes) (timeout_for p bytes) in
    let rest = silent-means p o.state history in (
      (λ h. at (first.0 (and_left _ (silent p o.state history) h))
          (rest.0 (and_right (not (names p s bytes) || timeout_for p bytes) _ h))),
      (λ g. and_both _ _ (first.1 (g 0 (omega arith))) (rest.1 (λ i below. g (suc i) (omega arith)))),
    )
  where
    at : (names p s bytes ≡ true → timeout_for p bytes ≡ true)
        → ((i : ℕ)
        → i < length history
        → names p (after (on_record s bytes action_room).state (take i history)) (get_or history i []) ≡ true
        → timeout_for p (get_or history i []) ≡ true)
        → (i : ℕ)
        → i < length (bytes ∷ history)
        → names p (after s (take i (bytes ∷ history))) (get_or (bytes ∷ history) i []) ≡ true
        → timeout_for p (get_or (bytes ∷ history) i []) ≡ true
    at first rest zero below = first
    at first rest (suc i) below = rest i (omega arith)

-- a count that goes on by a test
pub one_more : (P : Type 0) (b : Bool)
    → (b ≡ true → P)
    → (P → b ≡ true)
    → (before now : ℕ)
    → now ≡ before + as_bit b
    → OneMore P before now
one_more P true shows shown before now h = ((λ is. h), (λ other. absurd (other (shows refl))))
one_more P false shows shown before now h = ((λ is. true-false false (shown is) refl), (λ other. omega arith))

-- how many timeouts a history has for a partner: none before it begins, and one more with each record that is one
-- meaning
pub timeouts-more : (p : Partner)
    → (timeouts p [] ≡ 0)
    × ((history : List (List ℕ)) (bytes : List ℕ)
    → OneMore (timeout_for p bytes ≡ true) (timeouts p history) (timeouts p (history ++ (bytes ∷ []))))
unfolding timeouts
timeouts-more p =
    (refl, λ history bytes. one_more _ (timeout_for p bytes) (λ is. is) (λ is. is) _ _ (joined history bytes))
  where
    joined : (history : List (List ℕ)) (bytes : List ℕ)
        → timeouts p (history ++ (bytes ∷ [])) ≡ timeouts p history + as_bit (timeout_for p bytes)
    joined [] bytes = omega arith
    joined (first ∷ history) bytes =
        let rest = joined history bytes in
        omega arith
