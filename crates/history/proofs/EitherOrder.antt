-- Request Q-11: events of different partners give the same state in either order, and each its own same answer.
-- The laws of a row are for one event of each partner, in any order. They are a case of those in Interleaved.antt, where each partner has
-- a row of its own and the rows are mixed; InterleavedMeans.antt says so.
-- Proves: either-answers, either-alike, both-last, either_same, later-sets, later-leaves, row-answers, row-alike, row_same.
use mathlib.Core.Path.{◌≡◌, refl, sym, ap, ap₂, subst, ◌∙◌}
use mathlib.Core.Bool.{Bool, true, false, ◌&&◌}
use mathlib.Core.List.{List, [], ◌∷◌, map}
use Prim.Native.Nat.{ℕ, ◌+◌, ◌≤◌}
use native.Mathlib.Omega.{arith}
use lib.Dec.{lit≤}
use Rattle.record.specs.declared.event.Event.{Event}
use Rattle.record.specs.declared.event.Event.TheVariants.{Named}
use Rattle.unit.specs.Lasts.{to_rbc, recalled}
use Rattle.unit.specs.States.{sound}
use Rattle.unit.specs.Steps.{step}
use Rattle.unit.specs.Kept.{count, is_version}
use Rattle.wire.specs.Bytes.{as_bit}
use Rattle.wire.specs.Sums.{sum}
use Rattle.unit.specs.OnRecords.{trace, action_room, on_record}
use Rattle.unit.specs.declared.last.Last.{Last}
use Rattle.unit.specs.declared.last.Last.TheVariants.{Known}
use Rattle.unit.specs.declared.state.State.{State}
use Rattle.unit.proofs.Apart.{Seen, put, named-follows, named-rest, seen_here, second_alike, either-places, either-last}
use Rattle.unit.proofs.Apart.{quiet-last, other-sym, named-recalled}
use Rattle.unit.proofs.Recalled.{recalled-none, on_record-last}
use Rattle.unit.proofs.Effects.{on_record-step}
use Rattle.unit.proofs.Sound.{on_record-sound}
use Rattle.history.specs.Histories.{after}
use Rattle.history.specs.EitherOrder.{Delivered, Differ, versions, Compared}
use Rattle.history.specs.Interleaved.{records_of}
use Rattle.history.specs.Permuted.{DifferAll, Different}
use Rattle.history.specs.EitherOrder.{answer_of, next, alone, Alike}
use Rattle.history.specs.Permuted.{Permuted, empty, keeps, swaps, joins}

pub next-sound : (s : State) → sound s ≡ true → (x : Delivered) → sound (next s x) ≡ true
next-sound s ok x = on_record-sound s x.bytes action_room ok

-- what the record reads as
abbrev event_of : Delivered → Event
event_of x = Named x.partner x.event

-- the step on the record is the step on its event
pub stepped : (s : State)
    → sound s ≡ true
    → (x : Delivered)
    → on_record s x.bytes action_room ≡ step s (event_of x)
stepped s ok x = on_record-step s x.bytes action_room (event_of x) (lit≤ tt) ok x.means

-- the second record, as a step on its event after the first's
second : (s : State)
    → sound s ≡ true
    → (x y : Delivered)
    → on_record (next s x) y.bytes action_room ≡ step (step s (event_of x)).state (event_of y)
second s ok x y =
    stepped (next s x) (next-sound s ok x) y
    ∙ ap (λ o. step o.state (event_of y)) (stepped s ok x)

module _ (s : State) (ok : sound s ≡ true) (x y : Delivered) where
  -- "each its own same number and actions": what comes second gets what it gets first
  -- promise
  pub either-answers : Differ x y → alone (next s x) y ≡ alone s y
  either-answers other =
      let alike = (second_alike s x.partner y.partner x.event y.event other).answers in
      ap answer_of (second s ok x y)
      ∙ (λ i. record { code = alike.0 i; standing = alike.1 i; actions = alike.2 i })
      ∙ sym (ap answer_of (stepped s ok y))

  -- "give the same state in either order"; the last known RBC left out
  -- promise
  pub either-alike : Differ x y → Alike (next (next s x) y) (next (next s y) x)
  either-alike other =
      let xy = ap (λ o. o.state) (second s ok x y) in
      let yx = ap (λ o. o.state) (second s ok y x) in
      let one = named-rest s x.partner x.event in
      let two = named-rest s y.partner y.event in
      let one-two = named-rest (step s (event_of x)).state y.partner y.event in
      let two-one = named-rest (step s (event_of y)).state x.partner x.event in (
        ap (λ t. t.limits) xy ∙ one-two.2 ∙ one.2 ∙ sym (ap (λ t. t.limits) yx ∙ two-one.2 ∙ two.2),
        ap (λ t. t.train) xy ∙ one-two.0 ∙ one.0 ∙ sym (ap (λ t. t.train) yx ∙ two-one.0 ∙ two.0),
        ap (λ t. t.marks) xy ∙ one-two.1 ∙ one.1 ∙ sym (ap (λ t. t.marks) yx ∙ two-one.1 ∙ two.1),
        ap (λ t. t.places) xy
            ∙ either-places s x.partner y.partner x.event y.event other
            ∙ sym (ap (λ t. t.places) yx),
      )

  -- the last known RBC after both: what the actions of the first, then of the second, leave
  pub both-last : Differ x y
      → (next (next s x) y).last
      ≡ recalled (recalled s.last (alone s x).actions) (alone s y).actions
  both-last other =
      ap (λ o. o.state.last) (second s ok x y)
      ∙ either-last s x.partner y.partner x.event y.event other
      ∙ ap₂ (λ a b. recalled (recalled s.last a.actions) b.actions) (sym (stepped s ok x)) (sym (stepped s ok y))

-- a record that is no message 32 leaves it
still : (s : State)
    → sound s ≡ true
    → (x : Delivered)
    → is_version x.event ≡ false
    → (last : Last)
    → recalled last (alone s x).actions ≡ last
still s ok x other last =
    ap (λ o. recalled last o.actions) (stepped s ok x) ∙ quiet-last s x.partner x.event other last

-- two that are not both message 32
not-both : (a b : Bool) (k : ℕ) → as_bit a + (as_bit b + k) ≤ 1 → (a && b) ≡ false
not-both true true k few = absurd (omega arith)
not-both true false k few = refl
not-both false b k few = refl

-- states that are alike, with the same last known RBC, are the same
pub same-state : (s t : State) → Alike s t → s.last ≡ t.last → s ≡ t
same-state s t alike last =
    λ i. record { limits = alike.0 i; train = alike.1 i; marks = alike.2 i; places = alike.3 i; last = last i }

module _ (s : State) (ok : sound s ≡ true) (x y : Delivered) (other : Differ x y) where
  -- where not both are message 32, the last known RBC is compared too
  -- promise
  pub either_same : Compared (x ∷ y ∷ []) → next (next s x) y ≡ next (next s y) x
  unfolding sum
  either_same few =
      same-state (next (next s x) y) (next (next s y) x) (either-alike s ok x y other)
      (by (is_version x.event) refl (not-both (is_version x.event) (is_version y.event) 0 few))
    where
      xy : (next (next s x) y).last ≡ recalled (recalled s.last (alone s x).actions) (alone s y).actions
      xy = both-last s ok x y other

      yx : (next (next s y) x).last ≡ recalled (recalled s.last (alone s y).actions) (alone s x).actions
      yx = both-last s ok y x (other-sym x.partner y.partner other)

      by : (b : Bool)
          → is_version x.event ≡ b
          → (b && is_version y.event) ≡ false
          → (next (next s x) y).last ≡ (next (next s y) x).last
      by true is second-not =
          xy
          ∙ still s ok y second-not (recalled s.last (alone s x).actions)
          ∙ sym (yx ∙ ap (λ last. recalled last (alone s x).actions) (still s ok y second-not s.last))
      by false first-not any =
          xy
          ∙ ap (λ last. recalled last (alone s y).actions) (still s ok x first-not s.last)
          ∙ sym (yx ∙ still s ok x first-not (recalled s.last (alone s y).actions))

  -- "since the later one sets it": what is known then is the RBC that the later one sent its 159 to
  -- promise
  pub later-sets : 1 ≤ count to_rbc (alone s y).actions
      → (next (next s x) y).last ≡ Known y.partner.high y.partner.middle y.partner.low
  later-sets some =
      both-last s ok x y other
      ∙ ap (λ o. recalled (recalled s.last (alone s x).actions) o.actions) (stepped s ok y)
      ∙ named-recalled s y.partner y.event (recalled s.last (alone s x).actions)
      (subst (λ o. 1 ≤ count to_rbc o.actions) (stepped s ok y) some)

  -- and where it sent none, what was known before it
  -- promise
  pub later-leaves : count to_rbc (alone s y).actions ≡ 0 → (next (next s x) y).last ≡ (next s x).last
  later-leaves none =
      both-last s ok x y other
      ∙ recalled-none (recalled s.last (alone s x).actions) (alone s y).actions none
      ∙ sym (on_record-last s x.bytes action_room)

-- each record of a row gets what it gets alone, so the same in any order
alone-after : (s : State)
    → sound s ≡ true
    → (x : Delivered) (ys : List Delivered)
    → DifferAll x ys
    → map (alone (next s x)) ys ≡ map (alone s) ys
unfolding DifferAll
alone-after s ok x [] other = refl
alone-after s ok x (y ∷ ys) other = ap₂ ◌∷◌ (either-answers s ok x y other.0) (alone-after s ok x ys other.1)

-- promise
pub row-answers : (s : State)
    → sound s ≡ true
    → (xs : List Delivered)
    → Different xs
    → map answer_of (trace s (records_of xs)) ≡ map (alone s) xs
unfolding trace Different
row-answers s ok [] different = refl
row-answers s ok (x ∷ xs) different =
    ap (◌∷◌ (alone s x)) (row-answers (next s x) (next-sound s ok x) xs different.1 ∙ alone-after s ok x xs different.0)

-- states that are alike stay so through a row: no such record looks at the last known RBC
pub alike_next : (s t : State)
    → sound s ≡ true
    → sound t ≡ true
    → Alike s t
    → (x : Delivered)
    → Alike (next s x) (next t x)
alike_next s t ok fine alike x =
    let here = ap (λ o. o.state) (stepped s ok x) in
    let there = ap (λ o. o.state) (stepped t fine x) in
    let mine = named-rest s x.partner x.event in
    let theirs = named-rest t x.partner x.event in
    let seen = subst (Seen x.partner s.places) alike.3 (seen_here x.partner s.places) in
    let follows = named-follows s t x.partner x.event (sym alike.0) seen in (
      ap (λ u. u.limits) here ∙ mine.2 ∙ alike.0 ∙ sym (ap (λ u. u.limits) there ∙ theirs.2),
      ap (λ u. u.train) here ∙ mine.0 ∙ alike.1 ∙ sym (ap (λ u. u.train) there ∙ theirs.0),
      ap (λ u. u.marks) here ∙ mine.1 ∙ alike.2 ∙ sym (ap (λ u. u.marks) there ∙ theirs.1),
      ap (λ u. u.places) here
          ∙ follows.here
          ∙ ap (put follows.what) alike.3
          ∙ sym (ap (λ u. u.places) there ∙ follows.there),
    )

pub alike-after : (s t : State)
    → sound s ≡ true
    → sound t ≡ true
    → Alike s t
    → (xs : List Delivered)
    → Alike (after s (records_of xs)) (after t (records_of xs))
unfolding after
alike-after s t ok fine alike [] = alike
alike-after s t ok fine alike (x ∷ xs) =
    alike-after (next s x) (next t x) (next-sound s ok x) (next-sound t fine x) (alike_next s t ok fine alike x) xs

-- what a permutation keeps: who differs from whom, and how many are message 32
differs-permuted : (x : Delivered) {ys zs : List Delivered} → Permuted ys zs → DifferAll x ys → DifferAll x zs
unfolding DifferAll
differs-permuted x empty other = tt
differs-permuted x (keeps y p) other = (other.0, differs-permuted x p other.1)
differs-permuted x (swaps y z ys) other = (other.1.0, (other.0, other.1.1))
differs-permuted x (joins p q) other = differs-permuted x q (differs-permuted x p other)

pub different-permuted : {xs ys : List Delivered} → Permuted xs ys → Different xs → Different ys
unfolding Different DifferAll
different-permuted empty different = tt
different-permuted (keeps x p) different = (differs-permuted x p different.0, different-permuted p different.1)
different-permuted (swaps x y xs) different =
    ((other-sym x.partner y.partner different.0.0, different.1.0), (different.0.1, different.1.1))
different-permuted (joins p q) different = different-permuted q (different-permuted p different)

versions-permuted : {xs ys : List Delivered} → Permuted xs ys → versions ys ≡ versions xs
unfolding sum
versions-permuted empty = refl
versions-permuted (keeps x p) = ap (◌+◌ (as_bit (is_version x.event))) (versions-permuted p)
versions-permuted (swaps x y xs) = omega arith
versions-permuted (joins p q) = versions-permuted q ∙ versions-permuted p

pub alike_same : (s t u : State) → Alike s t → Alike t u → Alike s u
alike_same s t u a b = (a.0 ∙ b.0, a.1 ∙ b.1, a.2 ∙ b.2, a.3 ∙ b.3)

-- any order of a row gives the same state, the last known RBC left out
-- promise
pub row-alike : (s : State)
    → sound s ≡ true
    → {xs ys : List Delivered}
    → Permuted xs ys
    → Different xs
    → Alike (after s (records_of xs)) (after s (records_of ys))
unfolding after Different DifferAll
row-alike s ok empty different = (refl, refl, refl, refl)
row-alike s ok (keeps x p) different = row-alike (next s x) (next-sound s ok x) p different.1
row-alike s ok (swaps x y xs) different =
    alike-after (next (next s x) y) (next (next s y) x) (next-sound (next s x) (next-sound s ok x) y)
    (next-sound (next s y) (next-sound s ok y) x)
    (either-alike s ok x y different.0.0)
    xs
row-alike s ok (joins {xs = xs} {ys = ys} {zs = zs} p q) different =
    let first = row-alike s ok p different in
    let then = row-alike s ok q (different-permuted p different) in
    alike_same (after s (records_of xs)) (after s (records_of ys)) (after s (records_of zs)) first then

-- and the whole state where at most one is message 32
-- promise
pub row_same : (s : State)
    → sound s ≡ true
    → {xs ys : List Delivered}
    → Permuted xs ys
    → Different xs
    → Compared xs
    → after s (records_of xs) ≡ after s (records_of ys)
unfolding after Different DifferAll sum
row_same s ok empty different few = refl
row_same s ok (keeps x p) different few = row_same (next s x) (next-sound s ok x) p different.1 (omega arith)
row_same s ok (swaps x y xs) different few =
    ap (λ t. after t (records_of xs))
    (either_same s ok x y different.0.0 (omega arith))
row_same s ok (joins p q) different few =
    row_same s ok p different few
    ∙ row_same s ok q (different-permuted p different) (rw (versions-permuted p) few)
