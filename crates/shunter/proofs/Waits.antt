-- Who waits, who has a modem, and the rules of the queue, by the two numbers that the queue holds.
-- Proves: has-is, waits-is, rules-none, rules-one, rules-two.
use mathlib.Core.Path.{◌≡◌, refl, sym, ap, ap₂, ◌∙◌}
use mathlib.Core.Bool.{Bool, true, false, cond, ◌&&◌, ◌||◌, not, or_assoc}
use mathlib.Core.List.{List, [], ◌∷◌, ◌++◌}
use Prim.Native.Nat.{ℕ, ◌<◌}
use native.Mathlib.Omega.{arith}
use lib.Dec.{eqb, leb}
use lib.ListN.{length, get_or-eq_default}
use borrow.Author.Tests.{eqb-true, eq-eqb, ne_eqb}
use Rattle.wire.proofs.Tests.{cond-case}
use Rattle.record.specs.declared.partner.Partner.{Partner}
use Rattle.place.specs.Places.{vacant, holds}
use Rattle.place.specs.declared.place.Place.{Place}
use Rattle.unit.specs.States.{place_count}
use Rattle.history.proofs.Counted.{and-true}
use Rattle.shunter.specs.Queues.{modem_count, no_place, somebody, waiting, among, every, distinct, place_at, just_ordered, modems_held}
use Rattle.shunter.specs.Queues.{queue_ok, rules_hold}
use Rattle.shunter.specs.Shunting.{waits_for}
use Rattle.shunter.specs.declared.queue.Queue.{Queue}
use Rattle.shunter.proofs.TwoTests.{or-none}
use Rattle.shunter.proofs.InRow.{among-append}

-- a place is in one half of the queue where its number is
among-half : (i k : ℕ) → i < no_place → among i (somebody k) ≡ eqb i k
unfolding among
among-half i k below =
    cond-case (λ is. among i is ≡ eqb i k) (eqb k no_place) [] (k ∷ [])
    (λ none.
    let past = eqb-true k no_place none in
    sym (ne_eqb i k (λ same. omega arith)))
    (λ some. or-none (eqb i k))

-- a place waits where one half of the queue has its number
pub has-is : (i : ℕ) (q : Queue) → i < no_place → among i (waiting q) ≡ (eqb i q.first || eqb i q.second)
unfolding waiting
has-is i q below =
    among-append i (somebody q.first) (somebody q.second)
    ∙ ap₂ ◌||◌ (among-half i q.first below) (among-half i q.second below)

module _ (ps : List Place) (p : Partner) where
  -- a partner waits among two rows where it does in one of them
  waits-append : (is js : List ℕ) → waits_for ps (is ++ js) p ≡ (waits_for ps is p || waits_for ps js p)
  unfolding waits_for
  waits-append [] js = refl
  waits-append (i ∷ is) js =
      ap (◌||◌ (holds p (place_at ps i))) (waits-append is js)
      ∙ sym (or_assoc (holds p (place_at ps i)) (waits_for ps is p) (waits_for ps js p))

  module _ (four : length ps ≡ place_count) where
    -- a partner waits in one half of the queue where it has that place
    waits-half : (k : ℕ) → waits_for ps (somebody k) p ≡ holds p (place_at ps k)
    unfolding waits_for
    waits-half k =
        cond-case (λ is. waits_for ps is p ≡ holds p (place_at ps k)) (eqb k no_place) [] (k ∷ [])
        (λ none.
        let past = eqb-true k no_place none in
        sym (ap (holds p) (get_or-eq_default ps vacant (omega arith))))
        (λ some. or-none (holds p (place_at ps k)))

    -- a partner waits where it has the place in one half of the queue
    pub waits-is : (q : Queue)
        → waits_for ps (waiting q) p ≡ (holds p (place_at ps q.first) || holds p (place_at ps q.second))
    unfolding waiting
    waits-is q =
        waits-append (somebody q.first) (somebody q.second)
        ∙ ap₂ ◌||◌ (waits-half q.first) (waits-half q.second)

module _ (ps : List Place) (q : Queue) where
  -- the modems held
  abbrev held : ℕ
  held = modems_held ps (waiting q)

  -- the rules where the front of the queue is empty
  pub rules-none : q.first ≡ no_place → rules_hold ps q ≡ (eqb q.second no_place && leb held modem_count)
  unfolding rules_hold waiting queue_ok
  rules-none empty = rw (eq-eqb q.first no_place empty) (by (eqb q.second no_place))
    where
      by : (b : Bool)
          → (b && queue_ok ps (cond b [] (q.second ∷ []))) ≡ (b && leb (modems_held ps (cond b [] (q.second ∷ []))) modem_count)
      by true = refl
      by false = refl

  module _ (front : q.first ≡ no_place → ⊥) where
    -- the rules where one waits
    pub rules-one : q.second ≡ no_place
        → rules_hold ps q ≡ (just_ordered (place_at ps q.first) && eqb held modem_count)
    unfolding rules_hold waiting queue_ok every distinct among
    rules-one alone =
        rw (ne_eqb q.first no_place front, eq-eqb q.second no_place alone)
        (ap (λ b. b && eqb (modems_held ps (q.first ∷ [])) modem_count) (and-true (just_ordered (place_at ps q.first))))

    -- the rules where two wait
    pub rules-two :
        (q.second ≡ no_place → ⊥)
        → rules_hold ps q
        ≡ ((just_ordered (place_at ps q.first) && just_ordered (place_at ps q.second))
        && (not (eqb q.first q.second) && eqb held modem_count))
    unfolding rules_hold waiting queue_ok every distinct among
    rules-two behind =
        rw (ne_eqb q.first no_place front, ne_eqb q.second no_place behind)
        (simp (and-true, or-none))
