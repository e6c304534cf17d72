-- Places counted: those that are held are those with a modem and those that wait; and a partner has one place.
-- Proves: weigh-sum, held_all, just-held, just-below, modems-count, holds-weigh, one_place.
use mathlib.Core.Path.{◌≡◌, refl, sym, ap, subst, ◌∙◌}
use mathlib.Core.Bool.{Bool, true, false, ◌&&◌, not}
use mathlib.Core.List.{List, [], ◌∷◌}
use Prim.Native.Nat.{ℕ, zero, suc, ◌+◌, ◌≤◌, ◌<◌}
use native.Mathlib.Omega.{arith}
use lib.Dec.{ltb}
use lib.ListN.{length, get_or-eq_default}
use borrow.Author.Tests.{ltb-true, ltb-false}
use borrow.Table.Steps.{cases}
use Rattle.wire.proofs.Tests.{true-false}
use Rattle.record.specs.declared.partner.Partner.{Partner}
use Rattle.place.specs.Places.{vacant, holds}
use Rattle.place.specs.declared.place.Holding.{Holding}
use Rattle.place.specs.declared.place.Holding.TheVariants.{Free, Held}
use Rattle.place.specs.declared.place.Place.{Place}
use Rattle.unit.specs.Kept.{here}
use Rattle.wire.specs.Bytes.{as_bit}
use Rattle.wire.specs.Sums.{sum}
use Rattle.unit.specs.Concerns.{place_of}
use Rattle.unit.specs.States.{place_count}
use Rattle.unit.proofs.Few.{busy}
use Rattle.unit.proofs.Weights.{weigh-same, weigh-at}
use Rattle.shunter.specs.Queues.{among, every, distinct, place_at, just_ordered, has_modem, sum_to, modems_held}
use Rattle.shunter.proofs.InRow.{among-every, sum_to-same, sum_to-plus, sum_to-first, sum_to-row}

-- a weight over the places is a sum over their numbers
pub weigh-sum : (f : Place → ℕ) (ps : List Place) → sum f ps ≡ sum_to (length ps) (λ i. f (place_at ps i))
unfolding sum sum_to
weigh-sum f [] = refl
weigh-sum f (p ∷ ps) =
    let rest = weigh-sum f ps in
    let first = sum_to-first (λ i. f (place_at (p ∷ ps) i)) (length ps) in
    omega arith

-- the places that anybody has are those that are held
pub held_all : (ps : List Place) → sum (here (place_of (λ p. true))) ps ≡ sum (here busy) ps
held_all = weigh-same (here (place_of (λ p. true))) (here busy) (λ place. by place.holding)
  where
    by : (k : Holding) → as_bit (place_of (λ p. true) (record { holding = k })) ≡ as_bit (busy (record { holding = k }))
    by Free = refl
    by (Held d ph p) = refl

-- a place as its order left it is held
pub just-held : (place : Place) → just_ordered place ≡ true → busy place ≡ true
just-held place h = by place.holding h
  where
    by : (k : Holding) → just_ordered (record { holding = k }) ≡ true → busy (record { holding = k }) ≡ true
    by Free h = h
    by (Held d ph p) h = refl

-- a place that passes a test that no vacant one passes is one of the row
passes-below : (test : Place → Bool) (ps : List Place) (i : ℕ)
    → test vacant ≡ false
    → test (place_at ps i) ≡ true
    → i < length ps
passes-below test ps i none h =
    cases (ltb i (length ps))
    (λ is. ltb-true i (length ps) is)
    (λ is.
    let past = get_or-eq_default ps vacant {n = i} (ltb-false i (length ps) is) in
    true-false (test (place_at ps i)) h (ap test past ∙ none))

-- a place as its order left it is one of the four
pub just-below : (ps : List Place) (i : ℕ) → just_ordered (place_at ps i) ≡ true → i < length ps
just-below ps i h = passes-below just_ordered ps i refl h

module _ (ps : List Place) (is : List ℕ) (four : length ps ≡ place_count)
    (fresh : every (λ i. just_ordered (place_at ps i)) is ≡ true)
    (apart : distinct is ≡ true) where
  each-just : (i : ℕ) → among i is ≡ true → just_ordered (place_at ps i) ≡ true
  each-just i h = among-every (λ j. just_ordered (place_at ps j)) i is fresh h

  -- the held places are those with a modem and those that wait
  pub modems-count : modems_held ps is + length is ≡ sum (here busy) ps
  unfolding modems_held
  modems-count =
      let all = weigh-sum (here busy) ps ∙ ap (λ n. sum_to n (λ i. here busy (place_at ps i))) four in
      let row = sum_to-row place_count is apart (λ i h. subst (λ n. i < n) four (just-below ps i (each-just i h))) in
      let both = sum_to-plus (λ i. as_bit (has_modem ps is i)) (λ i. as_bit (among i is)) place_count in
      let same =
      sum_to-same (λ i. as_bit (has_modem ps is i) + as_bit (among i is)) (λ i. here busy (place_at ps i)) place_count
      (λ i below. by i (busy (place_at ps i)) (among i is) refl refl) in
      omega arith
    where
      by : (i : ℕ) (a b : Bool) → busy (place_at ps i) ≡ a → among i is ≡ b → as_bit (a && not b) + as_bit b ≡ as_bit a
      by i true true own waits = refl
      by i true false own waits = refl
      by i false true own waits = true-false true refl (sym (just-held (place_at ps i) (each-just i waits)) ∙ own)
      by i false false own waits = refl

-- two places of a row weigh together
weigh-both : (f : Place → ℕ) (ps : List Place) (i j : ℕ)
    → i < j
    → j < length ps
    → f (place_at ps i) + f (place_at ps j) ≤ sum f ps
unfolding sum
weigh-both f [] i j less below = absurd (omega arith)
weigh-both f (p ∷ ps) i zero less below = absurd (omega arith)
weigh-both f (p ∷ ps) zero (suc j) less below =
    let rest = weigh-at f ps j (omega arith) in
    omega arith
weigh-both f (p ∷ ps) (suc i) (suc j) less below =
    let rest = weigh-both f ps i j (omega arith) (omega arith) in
    omega arith

-- a place that holds a partner is one of the four
holds-below : (p : Partner) (ps : List Place) (i : ℕ) → holds p (place_at ps i) ≡ true → i < length ps
holds-below p ps i h = passes-below (holds p) ps i refl h

-- a partner that has a place weighs something there
pub holds-weigh : (p : Partner) (ps : List Place) (i : ℕ) → holds p (place_at ps i) ≡ true → 1 ≤ sum (here (holds p)) ps
holds-weigh p ps i has =
    let some = weigh-at (here (holds p)) ps i (holds-below p ps i has) in
    let own : here (holds p) (place_at ps i) ≡ 1 = ap as_bit has in
    omega arith

-- a partner that has one place at most has not two
pub one_place : (p : Partner) (ps : List Place) (i j : ℕ)
    → sum (here (holds p)) ps ≤ 1
    → holds p (place_at ps i) ≡ true
    → holds p (place_at ps j) ≡ true
    → i ≡ j
one_place p ps i j one first second = by (ltb i j) (ltb j i) refl refl
  where
    two : (m n : ℕ) → m < n → holds p (place_at ps m) ≡ true → holds p (place_at ps n) ≡ true → ⊥
    two m n less a b =
        let both = weigh-both (here (holds p)) ps m n less (holds-below p ps n b) in
        let own : here (holds p) (place_at ps m) ≡ 1 = ap as_bit a in
        let other : here (holds p) (place_at ps n) ≡ 1 = ap as_bit b in
        omega arith

    by : (a b : Bool) → ltb i j ≡ a → ltb j i ≡ b → i ≡ j
    by true b less more = absurd (two i j (ltb-true i j less) first second)
    by false true less more = absurd (two j i (ltb-true j i more) second first)
    by false false less more =
        let up = ltb-false i j less in
        let down = ltb-false j i more in
        omega arith
