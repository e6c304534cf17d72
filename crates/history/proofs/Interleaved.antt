-- Request Q-11 for what the radio layer delivers: several events of each partner, the partners' rows mixed in any way.
-- Defines: First.
-- Proves: own-answers, interleaved-answers, interleaved-alike, interleaved-same.
use mathlib.Core.Path.{◌≡◌, refl, sym, ap, ap₂, subst, ◌∙◌}
use mathlib.Core.Bool.{Bool, true, false, cond}
use mathlib.Core.List.{List, [], ◌∷◌, ◌++◌, map}
use Prim.Native.Nat.{ℕ, ◌+◌, ◌≤◌}
use native.Mathlib.Omega.{arith}
use Rattle.record.specs.Partners.{same_partner}
use Rattle.record.specs.declared.partner.Partner.{Partner}
use Rattle.record.proofs.Partners.{same_refl, same-eq}
use Rattle.wire.proofs.Tests.{true-false}
use Rattle.unit.specs.States.{sound}
use Rattle.unit.specs.Kept.{is_version}
use Rattle.wire.specs.Bytes.{as_bit}
use Rattle.wire.specs.Sums.{sum}
use Rattle.unit.specs.OnRecords.{trace, action_room, on_record}
use Rattle.unit.specs.declared.state.State.{State}
use Rattle.unit.proofs.Apart.{Seen, named-follows, seen_here, other-sym}
use Rattle.history.specs.Histories.{after}
use Rattle.history.specs.EitherOrder.{Delivered, Differ, versions, answer_of, next, alone, Alike}
use Rattle.history.specs.Interleaved.{records_of}
use Rattle.history.specs.Permuted.{DifferAll}
use Rattle.history.specs.Interleaved.{of_partner, Interleaved, answers_to}
use Rattle.history.proofs.EitherOrder.{next-sound, stepped, either-answers, either-alike, either_same}
use Rattle.history.proofs.EitherOrder.{alike_next, alike-after, alike_same}

-- no such record looks at the last known RBC: states that are alike answer it alike
alike-alone : (s t : State)
    → sound s ≡ true
    → sound t ≡ true
    → Alike s t
    → (x : Delivered)
    → alone s x ≡ alone t x
alike-alone s t ok fine alike x =
    let seen = subst (Seen x.partner s.places) alike.3 (seen_here x.partner s.places) in
    let same = (named-follows s t x.partner x.event (sym alike.0) seen).answers in
    ap answer_of (stepped s ok x)
    ∙ sym (λ i. record { code = same.0 i; standing = same.1 i; actions = same.2 i })
    ∙ sym (ap answer_of (stepped t fine x))

alike-answers : (s t : State)
    → sound s ≡ true
    → sound t ≡ true
    → Alike s t
    → (xs : List Delivered)
    → map answer_of (trace s (records_of xs)) ≡ map answer_of (trace t (records_of xs))
unfolding trace
alike-answers s t ok fine alike [] = refl
alike-answers s t ok fine alike (x ∷ xs) =
    ap₂ ◌∷◌ (alike-alone s t ok fine alike x)
    (alike-answers (next s x) (next t x) (next-sound s ok x) (next-sound t fine x) (alike_next s t ok fine alike x) xs)

-- a row gets what it gets where an event of another partner came before it
other-answers : (s : State)
    → sound s ≡ true
    → (x : Delivered) (ys : List Delivered)
    → DifferAll x ys
    → map answer_of (trace (next s x) (records_of ys)) ≡ map answer_of (trace s (records_of ys))
unfolding trace DifferAll
other-answers s ok x [] other = refl
other-answers s ok x (y ∷ ys) other =
    ap₂ ◌∷◌ (either-answers s ok x y other.0)
    (alike-answers (next (next s x) y) (next (next s y) x) (next-sound (next s x) (next-sound s ok x) y)
    (next-sound (next s y) (next-sound s ok y) x)
    (either-alike s ok x y other.0)
    ys
    ∙ other-answers (next s y) (next-sound s ok y) x ys other.1)

-- an event of another partner differs from each of a partner's own row
own-differ : (p : Partner) (x : Delivered)
    → same_partner p x.partner ≡ false
    → (ys : List Delivered)
    → DifferAll x (of_partner p ys)
unfolding of_partner DifferAll
own-differ p x other [] = tt
own-differ p x other (y ∷ ys) = by (same_partner p y.partner) refl (own-differ p x other ys)
  where
    by : (b : Bool)
        → same_partner p y.partner ≡ b
        → DifferAll x (of_partner p ys)
        → DifferAll x (cond b (y ∷ []) [] ++ of_partner p ys)
    by true is later =
        let apart = other-sym p x.partner other in
        (subst (λ q. same_partner x.partner q ≡ false) (same-eq p y.partner is) apart, later)
    by false is later = later

-- "each its own same number and actions": whatever the others' events are and wherever they come, a partner's events get what they get
-- where it is the only one
-- promise
pub own-answers : (s : State)
    → sound s ≡ true
    → (p : Partner) (xs : List Delivered)
    → answers_to p s xs ≡ map answer_of (trace s (records_of (of_partner p xs)))
unfolding answers_to of_partner trace
own-answers s ok p [] = refl
own-answers s ok p (x ∷ xs) = by (same_partner p x.partner) refl (own-answers (next s x) (next-sound s ok x) p xs)
  where
    by : (b : Bool)
        → same_partner p x.partner ≡ b
        → answers_to p (next s x) xs ≡ map answer_of (trace (next s x) (records_of (of_partner p xs)))
        → cond b (alone s x ∷ []) [] ++ answers_to p (next s x) xs
        ≡ map answer_of (trace s (records_of (cond b (x ∷ []) [] ++ of_partner p xs)))
    by true is later = ap (◌∷◌ (alone s x)) later
    by false is later = later ∙ other-answers s ok x (of_partner p xs) (own-differ p x is xs)

-- so in every mixture of the same rows, the last known RBC among what is remembered or not
-- promise
pub interleaved-answers : (s : State)
    → sound s ≡ true
    → (xs ys : List Delivered)
    → Interleaved xs ys
    → (p : Partner)
    → answers_to p s xs ≡ answers_to p s ys
interleaved-answers s ok xs ys same p =
    own-answers s ok p xs ∙ ap (λ rows. map answer_of (trace s rows)) (same p) ∙ sym (own-answers s ok p ys)

-- the first event of a row with the partner of this one, and the row without it: it is this record, and those before it have other partners
pub data First (x : Delivered) : List Delivered → List Delivered → Type 0 where
  at : (y : Delivered) (ys : List Delivered) → x.bytes ≡ y.bytes → First x (y ∷ ys) ys
  past : (y : Delivered) {ys zs : List Delivered} → Differ x y → First x ys zs → First x (y ∷ ys) (y ∷ zs)

-- the same bytes are the same event of the same partner
bytes-partner : (x y : Delivered) → x.bytes ≡ y.bytes → x.partner ≡ y.partner
bytes-partner x y same =
    let mine = x.means in
    let theirs = y.means in
    cc

bytes-event : (x y : Delivered) → x.bytes ≡ y.bytes → x.event ≡ y.event
bytes-event x y same =
    let mine = x.means in
    let theirs = y.means in
    cc

first_found : (x : Delivered) (ys : List Delivered) (later : List (List ℕ))
    → records_of (of_partner x.partner ys) ≡ x.bytes ∷ later
    → (zs : List Delivered) × First x ys zs
unfolding of_partner
first_found x [] later is = absurd (let z : ◌≡◌ {A = ℕ} 0 1 = cc in omega arith)
first_found x (y ∷ ys) later is = by (same_partner x.partner y.partner) refl is (first_found x ys later)
  where
    by : (b : Bool)
        → same_partner x.partner y.partner ≡ b
        → records_of (cond b (y ∷ []) [] ++ of_partner x.partner ys) ≡ x.bytes ∷ later
        → (records_of (of_partner x.partner ys) ≡ x.bytes ∷ later → (zs : List Delivered) × First x ys zs)
        → (zs : List Delivered) × First x (y ∷ ys) zs
    by true same here further = (ys, at y ys (cc))
    by false other here further = let (zs, first) = further here in (y ∷ zs, past y other first)

-- of each partner the row has what it has with that event moved to the front
first-own : {x : Delivered} {ys zs : List Delivered}
    → First x ys zs
    → (p : Partner)
    → records_of (of_partner p ys) ≡ records_of (of_partner p (x ∷ zs))
unfolding of_partner
first-own {x} (at y ys same) p =
    by (same_partner p y.partner) (same_partner p x.partner) (ap (same_partner p) (bytes-partner x y same))
  where
    by : (b c : Bool)
        → c ≡ b
        → records_of (cond b (y ∷ []) [] ++ of_partner p ys) ≡ records_of (cond c (x ∷ []) [] ++ of_partner p ys)
    by true true is = ap (λ bytes. bytes ∷ records_of (of_partner p ys)) (sym same)
    by true false is = true-false false (cc) refl
    by false true is = true-false false (cc) refl
    by false false is = refl
first-own {x} (past y {ys} {zs} other first) p =
    by (same_partner p x.partner) (same_partner p y.partner) refl refl (first-own first p)
  where
    by : (b c : Bool)
        → same_partner p x.partner ≡ b
        → same_partner p y.partner ≡ c
        → records_of (of_partner p ys) ≡ records_of (cond b (x ∷ []) [] ++ of_partner p zs)
        → records_of (cond c (y ∷ []) [] ++ of_partner p ys)
        ≡ records_of (cond b (x ∷ []) [] ++ (cond c (y ∷ []) [] ++ of_partner p zs))
    by true true here there later =
        true-false (same_partner x.partner y.partner)
        (subst (λ q. same_partner q y.partner ≡ true) (same-eq p x.partner here) there)
        other
    by true false here there later = later
    by false true here there later = ap (◌∷◌ y.bytes) later
    by false false here there later = later

-- rows that are mixtures of the same rows, without their first event
interleaved-tail : (x : Delivered) (xs ys : List Delivered) → Interleaved (x ∷ xs) (x ∷ ys) → Interleaved xs ys
unfolding of_partner
interleaved-tail x xs ys same p = by (same_partner p x.partner) (same p)
  where
    by : (b : Bool)
        → records_of (cond b (x ∷ []) [] ++ of_partner p xs) ≡ records_of (cond b (x ∷ []) [] ++ of_partner p ys)
        → records_of (of_partner p xs) ≡ records_of (of_partner p ys)
    by true is = cc
    by false is = is

-- the first event of a row is its partner's first in every such row
own-head : (x : Delivered) (xs : List Delivered)
    → records_of (of_partner x.partner (x ∷ xs)) ≡ x.bytes ∷ records_of (of_partner x.partner xs)
unfolding of_partner
own-head x xs = ap (λ b. records_of (cond b (x ∷ []) [] ++ of_partner x.partner xs)) (same_refl x.partner)

-- a mixture of no events
pub none_left : {A : Type 0} (y : Delivered) (ys : List Delivered) → Interleaved [] (y ∷ ys) → A
unfolding of_partner
none_left y ys same =
    let mine = same y.partner in
    let theirs = own-head y ys in
    absurd (let z : ◌≡◌ {A = ℕ} 0 1 = cc in omega arith)

pub interleaved-first : (x : Delivered) (xs ys : List Delivered)
    → Interleaved (x ∷ xs) ys
    → (zs : List Delivered) × First x ys zs × Interleaved xs zs
interleaved-first x xs ys same =
    let found = first_found x ys (records_of (of_partner x.partner xs)) (sym (same x.partner) ∙ own-head x xs) in
    (found.0, found.1, interleaved-tail x xs found.0 (λ p. same p ∙ first-own found.1 p))

-- that event may come first: the state is alike
first_alike : (s : State)
    → sound s ≡ true
    → {x : Delivered} {ys zs : List Delivered}
    → First x ys zs
    → Alike (after (next s x) (records_of zs)) (after s (records_of ys))
unfolding after
first_alike s ok {x} first = by x s ok first
  where
    by : (x : Delivered) (s : State)
        → sound s ≡ true
        → {ys zs : List Delivered}
        → First x ys zs
        → Alike (after (next s x) (records_of zs)) (after s (records_of ys))
    by x s ok (at y ys same) =
        let moved = ap (λ bytes. after (on_record s bytes action_room).state (records_of ys)) same in
        (ap (λ t. t.limits) moved, ap (λ t. t.train) moved, ap (λ t. t.marks) moved, ap (λ t. t.places) moved)
    by x s ok (past y {ys} {zs} other first) =
        let both = next-sound (next s x) (next-sound s ok x) y in
        let either = next-sound (next s y) (next-sound s ok y) x in
        alike_same (after (next (next s x) y) (records_of zs)) (after (next (next s y) x) (records_of zs))
        (after (next s y) (records_of ys))
        (alike-after (next (next s x) y) (next (next s y) x) both either (either-alike s ok x y other) zs)
        (by x (next s y) (next-sound s ok y) first)

-- "give the same state in either order": so does every mixture of the same rows, the last known RBC left out
-- promise
pub interleaved-alike : (s : State)
    → sound s ≡ true
    → (xs ys : List Delivered)
    → Interleaved xs ys
    → Alike (after s (records_of xs)) (after s (records_of ys))
unfolding after
interleaved-alike s ok [] [] same = (refl, refl, refl, refl)
interleaved-alike s ok [] (y ∷ ys) same = none_left y ys same
interleaved-alike s ok (x ∷ xs) ys same =
    let (zs, first, later) = interleaved-first x xs ys same in
    alike_same (after (next s x) (records_of xs)) (after (next s x) (records_of zs)) (after s (records_of ys))
    (interleaved-alike (next s x) (next-sound s ok x) xs zs later)
    (first_alike s ok first)

-- the same records have as many messages 32
bytes-versions : (xs ys : List Delivered) → records_of xs ≡ records_of ys → versions xs ≡ versions ys
unfolding sum
bytes-versions [] [] same = refl
bytes-versions [] (y ∷ ys) same = absurd (let z : ◌≡◌ {A = ℕ} 0 1 = cc in omega arith)
bytes-versions (x ∷ xs) [] same = absurd (let z : ◌≡◌ {A = ℕ} 0 1 = cc in omega arith)
bytes-versions (x ∷ xs) (y ∷ ys) same =
    ap₂ ◌+◌ (ap (λ e. as_bit (is_version e)) (bytes-event x y (cc))) (bytes-versions xs ys (cc))

first-versions : {x : Delivered} {ys zs : List Delivered} → First x ys zs → versions (x ∷ zs) ≡ versions ys
unfolding sum
first-versions {x} (at y ys same) = ap (λ e. as_bit (is_version e) + versions ys) (bytes-event x y same)
first-versions {x} (past y {ys} {zs} other first) =
    let later = first-versions first in
    omega arith

interleaved-versions : (xs ys : List Delivered) → Interleaved xs ys → versions xs ≡ versions ys
unfolding sum
interleaved-versions [] [] same = refl
interleaved-versions [] (y ∷ ys) same = none_left y ys same
interleaved-versions (x ∷ xs) ys same =
    let (zs, first, later) = interleaved-first x xs ys same in
    ap (◌+◌ (as_bit (is_version x.event))) (interleaved-versions xs zs later) ∙ first-versions first

-- a partner has no more messages 32 than the row
own-versions : (p : Partner) (xs : List Delivered) → versions (of_partner p xs) ≤ versions xs
unfolding sum of_partner
own-versions p [] = omega arith
own-versions p (x ∷ xs) = by (same_partner p x.partner) (own-versions p xs)
  where
    by : (b : Bool)
        → versions (of_partner p xs) ≤ versions xs
        → versions (cond b (x ∷ []) [] ++ of_partner p xs) ≤ as_bit (is_version x.event) + versions xs
    by true few = omega arith
    by false few = omega arith

-- where it has all of them, each message 32 is its own
pub versions-own : (p : Partner) (x : Delivered) (xs : List Delivered)
    → versions (of_partner p (x ∷ xs)) ≡ versions (x ∷ xs)
    → (is_version x.event ≡ true → same_partner p x.partner ≡ true) × (versions (of_partner p xs) ≡ versions xs)
unfolding sum of_partner
versions-own p x xs all = by (same_partner p x.partner) (is_version x.event) refl (own-versions p xs) all
  where
    by : (b c : Bool)
        → is_version x.event ≡ c
        → versions (of_partner p xs) ≤ versions xs
        → versions (cond b (x ∷ []) [] ++ of_partner p xs) ≡ as_bit (is_version x.event) + versions xs
        → (c ≡ true → b ≡ true) × (versions (of_partner p xs) ≡ versions xs)
    by true c is few same = ((λ h. refl), omega arith)
    by false true is few same = absurd (let version = ap as_bit is in omega arith)
    by false false is few same = ((λ h. h), (let other = ap as_bit is in omega arith))

-- two of different partners are then not both message 32
not-two : (p : Partner) (x y : Delivered)
    → Differ x y
    → (is_version x.event ≡ true → same_partner p x.partner ≡ true)
    → (is_version y.event ≡ true → same_partner p y.partner ≡ true)
    → versions (x ∷ y ∷ []) ≤ 1
unfolding sum
not-two p x y other mine theirs = by (is_version x.event) (is_version y.event) mine theirs
  where
    by : (a b : Bool)
        → (a ≡ true → same_partner p x.partner ≡ true)
        → (b ≡ true → same_partner p y.partner ≡ true)
        → as_bit a + (as_bit b + 0) ≤ 1
    by true true here there =
        true-false (same_partner x.partner y.partner)
        (subst (λ q. same_partner q y.partner ≡ true) (same-eq p x.partner (here refl)) (there refl))
        other
    by true false here there = omega arith
    by false true here there = omega arith
    by false false here there = omega arith

-- that event may come first: the state is the same
first-same : (s : State)
    → sound s ≡ true
    → (p : Partner) {x : Delivered} {ys zs : List Delivered}
    → First x ys zs
    → (is_version x.event ≡ true → same_partner p x.partner ≡ true)
    → versions (of_partner p ys) ≡ versions ys
    → after (next s x) (records_of zs) ≡ after s (records_of ys)
unfolding after
first-same s ok p {x} first mine all = by p x s ok first mine all
  where
    by : (p : Partner) (x : Delivered) (s : State)
        → sound s ≡ true
        → {ys zs : List Delivered}
        → First x ys zs
        → (is_version x.event ≡ true → same_partner p x.partner ≡ true)
        → versions (of_partner p ys) ≡ versions ys
        → after (next s x) (records_of zs) ≡ after s (records_of ys)
    by p x s ok (at y ys same) mine all = ap (λ bytes. after (on_record s bytes action_room).state (records_of ys)) same
    by p x s ok (past y {ys} {zs} other first) mine all =
        let theirs = versions-own p y ys all in
        ap (λ t. after t (records_of zs)) (either_same s ok x y other (not-two p x y other mine theirs.0))
        ∙ by p x (next s y) (next-sound s ok y) first mine theirs.1

-- and the whole state where every message 32 of the row is one partner's, however many it has
-- promise
pub interleaved-same : (s : State)
    → sound s ≡ true
    → (xs ys : List Delivered)
    → Interleaved xs ys
    → (p : Partner)
    → versions (of_partner p xs) ≡ versions xs
    → after s (records_of xs) ≡ after s (records_of ys)
unfolding after
interleaved-same s ok [] [] same p all = refl
interleaved-same s ok [] (y ∷ ys) same p all = none_left y ys same
interleaved-same s ok (x ∷ xs) ys same p all =
    let (zs, first, later) = interleaved-first x xs ys same in
    let own = versions-own p x xs all in
    let theirs : versions (of_partner p ys) ≡ versions ys =
    sym (bytes-versions (of_partner p (x ∷ xs)) (of_partner p ys) (same p)) ∙ all ∙ interleaved-versions (x ∷ xs) ys same in
    interleaved-same (next s x) (next-sound s ok x) xs zs later p own.1
    ∙ first-same s ok p first own.0 theirs
