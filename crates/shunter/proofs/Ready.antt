-- A sound state of the shunter, fact by fact; and who waits in it.
-- Defines: Queued.
-- Proves: queue-facts, facts-queue, ready-sound, ready-queued, facts-ready, waits-some, some-waits.
use mathlib.Core.Path.{◌≡◌, refl, sym, ap, subst, ◌∙◌}
use mathlib.Core.Bool.{true, false, ◌&&◌, ◌||◌}
use mathlib.Core.Logic.{◌⊎◌, inl, inr}
use mathlib.Core.List.{List, [], ◌∷◌}
use Prim.Native.Nat.{ℕ, ◌≤◌, ◌<◌}
use native.Mathlib.Omega.{arith}
use lib.Dec.{eqb}
use lib.ListN.{length}
use borrow.Author.Tests.{eqb-true, eq-eqb, ne_eqb, leb-true, le-leb}
use Rattle.wire.proofs.Tests.{and_left, and_right, and_both, true-false}
use Rattle.record.specs.declared.partner.Partner.{Partner}
use Rattle.place.specs.Places.{holds}
use Rattle.place.specs.declared.place.Place.{Place}
use Rattle.unit.specs.States.{place_count, sound}
use Rattle.shunter.specs.Queues.{modem_count, no_place, waiting, queued, in_order, among, every, distinct, place_at, just_ordered}
use Rattle.shunter.specs.Queues.{modems_held, queue_ok, rules_hold, ready}
use Rattle.shunter.specs.Shunting.{waits_for}
use Rattle.shunter.specs.declared.state.Shunter.{Shunter}
use Rattle.shunter.proofs.TwoTests.{or-either, or-first, or-second}
use Rattle.shunter.proofs.InRow.{among-every}
use Rattle.shunter.proofs.Queued.{Named, waiting-queued, queued-ordered}
use Rattle.shunter.proofs.Modems.{just-below}

-- the rules of a row of places that wait
pub record Queued (ps : List Place) (is : List ℕ) : Type 0 where
  pub fresh : every (λ i. just_ordered (place_at ps i)) is ≡ true
  pub apart : distinct is ≡ true
  pub most : modems_held ps is ≤ modem_count
  pub busy : 1 ≤ length is → modems_held ps is ≡ modem_count

-- what the test of a row says
pub queue-facts : (ps : List Place) (is : List ℕ) → queue_ok ps is ≡ true → Queued ps is
unfolding queue_ok every distinct
queue-facts ps [] ok =
    record { fresh = refl; apart = refl; most = leb-true (modems_held ps []) modem_count ok; busy = λ some. absurd (omega arith) }
queue-facts ps (i ∷ is) ok =
    let fresh = every (λ j. just_ordered (place_at ps j)) (i ∷ is) in
    let held = eqb (modems_held ps (i ∷ is)) modem_count in
    let rest = and_right fresh (distinct (i ∷ is) && held) ok in
    let exactly = eqb-true (modems_held ps (i ∷ is)) modem_count (and_right (distinct (i ∷ is)) held rest) in
    record {
      fresh = and_left fresh (distinct (i ∷ is) && held) ok;
      apart = and_left (distinct (i ∷ is)) held rest;
      most = omega arith;
      busy = λ some. exactly;
    }

-- and the other way
pub facts-queue : (ps : List Place) (is : List ℕ) → Queued ps is → queue_ok ps is ≡ true
unfolding queue_ok
facts-queue ps [] facts = le-leb (modems_held ps []) modem_count facts.most
facts-queue ps (i ∷ is) facts =
    let held = eqb (modems_held ps (i ∷ is)) modem_count in
    and_both (every (λ j. just_ordered (place_at ps j)) (i ∷ is)) (distinct (i ∷ is) && held) facts.fresh
    (and_both (distinct (i ∷ is)) held facts.apart
    (eq-eqb (modems_held ps (i ∷ is)) modem_count (facts.busy (omega arith))))

-- each number of a row of places is somebody's
places-named : (is : List ℕ) → ((i : ℕ) → among i is ≡ true → i < no_place) → Named is
unfolding among
places-named [] below = tt
places-named (i ∷ is) below =
    let own = below i (or-first (eqb i i) (among i is) (eq-eqb i i refl)) in
    (ne_eqb i no_place (λ same. omega arith), places-named is (λ j one. below j (or-second (eqb j i) (among j is) one)))

module _ (h : Shunter) where
  -- the box is sound
  pub ready-sound : ready h ≡ true → sound h.state ≡ true
  unfolding ready
  ready-sound good = and_left (sound h.state) (rules_hold h.state.places h.queue) good

  -- and the rules hold
  pub ready-queued : ready h ≡ true → Queued h.state.places (waiting h.queue)
  unfolding ready rules_hold
  ready-queued good =
      queue-facts h.state.places (waiting h.queue)
      (and_right (in_order h.queue) (queue_ok h.state.places (waiting h.queue))
      (and_right (sound h.state) (rules_hold h.state.places h.queue) good))

-- a queue made of a row that keeps the rules, at a sound box
pub facts-ready : (h : Shunter) (is : List ℕ)
    → sound h.state ≡ true
    → length h.state.places ≡ place_count
    → h.queue ≡ queued is
    → length is ≤ modem_count
    → Queued h.state.places is
    → (waiting h.queue ≡ is) × (ready h ≡ true)
unfolding ready rules_hold
facts-ready h is good four made few facts = (
  waits,
  and_both (sound h.state) (rules_hold h.state.places h.queue) good
      (and_both (in_order h.queue) (queue_ok h.state.places (waiting h.queue))
      (ap in_order made ∙ queued-ordered is named)
      (ap (queue_ok h.state.places) waits ∙ facts-queue h.state.places is facts)),
)
  where
    below : (i : ℕ) → among i is ≡ true → i < no_place
    below i one =
        subst (λ n. i < n) four
        (just-below h.state.places i (among-every (λ j. just_ordered (place_at h.state.places j)) i is facts.fresh one))

    named : Named is
    named = places-named is below

    waits : waiting h.queue ≡ is
    waits = ap waiting made ∙ waiting-queued is named few

module _ (ps : List Place) (p : Partner) where
  -- a partner that waits has one of the places that do
  pub waits-some : (is : List ℕ)
      → waits_for ps is p ≡ true
      → (P : Type 0)
      → ((i : ℕ) → among i is ≡ true → holds p (place_at ps i) ≡ true → P)
      → P
  unfolding waits_for among
  waits-some [] h P then = true-false false h refl
  waits-some (i ∷ is) h P then =
      either (λ rest. waits-some is rest P (λ j one own. then j (or-second (eqb j i) (among j is) one) own))
      (or-either (holds p (place_at ps i)) (waits_for ps is p) h)
    where
      either : (waits_for ps is p ≡ true → P) → (holds p (place_at ps i) ≡ true) ⊎ (waits_for ps is p ≡ true) → P
      either rest (inl own) = then i (or-first (eqb i i) (among i is) (eq-eqb i i refl)) own
      either rest (inr more) = rest more

  -- and one that has such a place waits
  pub some-waits : (i : ℕ) (is : List ℕ) → among i is ≡ true → holds p (place_at ps i) ≡ true → waits_for ps is p ≡ true
  unfolding waits_for among
  some-waits i [] one own = one
  some-waits i (k ∷ is) one own =
      either (λ more. some-waits i is more own) (or-either (eqb i k) (among i is) one)
    where
      either : (among i is ≡ true → waits_for ps is p ≡ true)
          → (eqb i k ≡ true) ⊎ (among i is ≡ true)
          → (holds p (place_at ps k) || waits_for ps is p) ≡ true
      either rest (inl same) =
          or-first (holds p (place_at ps k)) (waits_for ps is p) (ap (λ j. holds p (place_at ps j)) (sym (eqb-true i k same)) ∙ own)
      either rest (inr more) = or-second (holds p (place_at ps k)) (waits_for ps is p) (rest more)
