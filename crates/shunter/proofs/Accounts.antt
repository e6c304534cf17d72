-- Those that wait, counted by their places before a step and after it; and actions, counted by two tests.
-- Proves: holds-held, count_kept, count-plus, partner-kept, place-waiting, waits-before, waits-after, newcomer-waits.
use mathlib.Core.Path.{◌≡◌, refl, sym, ap, subst, ◌∙◌}
use mathlib.Core.Bool.{Bool, true, false, cond, ◌&&◌, not}
use mathlib.Core.List.{List, [], ◌∷◌}
use Prim.Native.Nat.{ℕ, ◌+◌, ◌<◌}
use native.Mathlib.Omega.{arith}
use lib.Dec.{eqb}
use lib.ListN.{length}
use borrow.Author.Tests.{eqb-true, eqb-false}
use borrow.Table.Steps.{cases}
use Rattle.wire.proofs.Tests.{true-false}
use Rattle.record.specs.Partners.{same_partner}
use Rattle.record.specs.declared.partner.Partner.{Partner}
use Rattle.record.proofs.Partners.{same-eq, same_refl}
use Rattle.place.specs.Places.{is_free, holds}
use Rattle.place.specs.declared.place.Holding.{Holding}
use Rattle.place.specs.declared.place.Holding.TheVariants.{Free, Held}
use Rattle.place.specs.declared.place.Place.{Place}
use Rattle.unit.specs.Concerns.{takes_in, place_of}
use Rattle.unit.specs.Kept.{here, count}
use Rattle.wire.specs.Bytes.{as_bit}
use Rattle.wire.specs.Sums.{sum}
use Rattle.unit.specs.Standings.{Concern, nobody, order_to, call_of, naming}
use Rattle.unit.specs.States.{place_count}
use Rattle.unit.specs.declared.answer.Action.{Action}
use Rattle.unit.proofs.Effects.{Effect, stays, leaves, moves, Newcomer, Places, turning-each}
use Rattle.unit.proofs.Few.{busy}
use Rattle.shunter.specs.Queues.{among, place_at, sum_to}
use Rattle.shunter.specs.Shunting.{kept, waits_for}
use Rattle.shunter.proofs.TwoTests.{fails-then}
use Rattle.shunter.proofs.InRow.{among-kept, kept-among, distinct-kept, sum_to-same, sum_to-row}
use Rattle.shunter.proofs.Modems.{weigh-sum, just-held, just-below, holds-weigh, one_place}
use Rattle.shunter.proofs.Ready.{waits-some, some-waits}
use Rattle.shunter.proofs.LinedUp.{Moved, each-fresh, still-same, stayers}

-- the partner of a place that some have
place-mine : (mine : Partner → Bool) (place : Place)
    → place_of mine place ≡ true
    → (P : Type 0)
    → ((p : Partner) → holds p place ≡ true → mine p ≡ true → P)
    → P
place-mine mine place own P then = by place.holding own (λ p. then p)
  where
    by : (k : Holding)
        → place_of mine (record { holding = k }) ≡ true
        → ((p : Partner) → holds p (record { holding = k }) ≡ true → mine p ≡ true → P)
        → P
    by Free own then = true-false false own refl
    by (Held d ph p) own then = then p (same_refl p) own

-- a place that one of them has is theirs
mine-place : (mine : Partner → Bool) (place : Place) (p : Partner)
    → holds p place ≡ true
    → mine p ≡ true
    → place_of mine place ≡ true
mine-place mine place p has own = by place.holding has
  where
    by : (k : Holding) → holds p (record { holding = k }) ≡ true → place_of mine (record { holding = k }) ≡ true
    by Free has = has
    by (Held d ph q) has = subst (λ r. mine r ≡ true) (same-eq p q has) own

-- a held place has a partner
held-partner : (place : Place) → busy place ≡ true → (P : Type 0) → ((p : Partner) → holds p place ≡ true → P) → P
held-partner place own P then = by place.holding own (λ p. then p)
  where
    by : (k : Holding)
        → busy (record { holding = k }) ≡ true
        → ((p : Partner) → holds p (record { holding = k }) ≡ true → P)
        → P
    by Free own then = true-false false own refl
    by (Held d ph p) own then = then p (same_refl p)

-- a place that a partner has is held
pub holds-held : (p : Partner) (place : Place) → holds p place ≡ true → busy place ≡ true
holds-held p place has = by place.holding has
  where
    by : (k : Holding) → holds p (record { holding = k }) ≡ true → busy (record { holding = k }) ≡ true
    by Free has = has
    by (Held d ph q) has = refl

-- an effect on a place keeps its partner
effect-kept : (c : Concern) (x y : Place) (p : Partner) → Effect c x y → holds p y ≡ true → holds p x ≡ true
effect-kept c x y p (stays same) has = sym (ap (holds p) same) ∙ has
effect-kept c x y p (leaves free) has = true-false false (sym (ap (holds p) free) ∙ has) refl
effect-kept c x y p (moves d ph next q was now connecting) has = ap (holds p) was ∙ sym (ap (holds p) now) ∙ has

-- a newcomer had no place
newcomer-kept : (c : Concern) (q : Partner) (x : Place) (before after : List Place) (p : Partner) (i j : ℕ)
    → (holds p x ≡ true → same_partner p q ≡ true)
    → Newcomer c q x before after
    → holds p (place_at before j) ≡ true
    → holds p (place_at after i) ≡ true
    → holds p (place_at before i) ≡ true
newcomer-kept c q x before after p i j own changed had has =
    cases (eqb i changed.at)
    (λ is.
    let at = eqb-true i changed.at is in
    let new : holds p x ≡ true = sym (ap (holds p) changed.seated) ∙ sym (ap (λ k. holds p (place_at after k)) at) ∙ has in
    let some = holds-weigh p before j had in
    let none : sum (here (holds p)) before ≡ 0 =
    ap (λ r. sum (here (holds r)) before) (same-eq p q (own new)) ∙ changed.absent in
    absurd (omega arith))
    (λ other. effect-kept c (place_at before i) (place_at after i) p (changed.others i (eqb-false i changed.at other)) has)

-- how many of those that pass a test pass another
pub count_kept : (u t : Action → Bool) (acts : List Action) → count t (kept u acts) ≡ count (λ a. u a && t a) acts
unfolding count kept
count_kept u t [] = refl
count_kept u t (a ∷ acts) = by (u a) (count_kept u t acts)
  where
    by : (b : Bool)
        → count t (kept u acts) ≡ count (λ a. u a && t a) acts
        → count t (cond b (a ∷ kept u acts) (kept u acts)) ≡ as_bit (b && t a) + count (λ a. u a && t a) acts
    by true rest = ap (λ n. as_bit (t a) + n) rest
    by false rest = omega arith

-- two tests of which each action passes one where it passes a third
pub count-plus : (t u v : Action → Bool)
    → ((a : Action) → as_bit (t a) + as_bit (u a) ≡ as_bit (v a))
    → (acts : List Action)
    → count t acts + count u acts ≡ count v acts
unfolding count
count-plus t u v each [] = refl
count-plus t u v each (a ∷ acts) =
    let own = each a in
    let rest = count-plus t u v each acts in
    omega arith

module _ (c : Concern) (before after : List Place) (is : List ℕ) (step : Moved c before after is) where
  abbrev waits : Partner → Bool
  waits = waits_for before is

  -- a partner that had a place has no other
  pub partner-kept : (p : Partner) (i j : ℕ)
      → holds p (place_at before j) ≡ true
      → holds p (place_at after i) ≡ true
      → holds p (place_at before i) ≡ true
  partner-kept p i j had has = by c step.changed
    where
      by : (c : Concern) → Places c before after → holds p (place_at before i) ≡ true
      by nobody changed = effect-kept nobody (place_at before i) (place_at after i) p (changed i) has
      by (order_to q) changed = newcomer-kept (order_to q) q _ before after p i j (λ h. h) changed had has
      by (call_of q) changed = newcomer-kept (call_of q) q _ before after p i j (λ h. h) changed had has
      by (naming q e) changed =
          effect-kept (naming q e) (place_at before i) (place_at after i) p (turning-each changed i) has

  -- the places of those that wait, by their numbers: before the step
  waiting-place : (i : ℕ) → among i is ≡ true → place_of waits (place_at before i) ≡ true
  waiting-place i one =
      held-partner (place_at before i) (just-held (place_at before i) (each-fresh c before after is step i one))
      (place_of waits (place_at before i) ≡ true)
      (λ p has. mine-place waits (place_at before i) p has (some-waits before p i is one has))

  -- and no others
  pub place-waiting : (i : ℕ) → place_of waits (place_at before i) ≡ true → among i is ≡ true
  place-waiting i own =
      place-mine waits (place_at before i) own (among i is ≡ true)
      (λ p has mine.
      waits-some before p is mine (among i is ≡ true)
      (λ j one had. ap (λ k. among k is) (one_place p before i j (step.one p) has had) ∙ one))

  -- and after it
  still-place : (i : ℕ) → among i (stayers c before after is step) ≡ true → place_of waits (place_at after i) ≡ true
  still-place i one =
      let both = among-kept (λ j. not (is_free (place_at after j))) i is one in
      ap (place_of waits) (still-same c before after is step i both.0 both.1) ∙ waiting-place i both.0

  place_still : (i : ℕ) → place_of waits (place_at after i) ≡ true → among i (stayers c before after is step) ≡ true
  place_still i own =
      place-mine waits (place_at after i) own (among i (stayers c before after is step) ≡ true)
      (λ p has mine.
      waits-some before p is mine (among i (stayers c before after is step) ≡ true)
      (λ j one had.
      kept-among (λ k. not (is_free (place_at after k))) i is
      (place-waiting i (mine-place waits (place_at before i) p (partner-kept p i j had has) mine))
      (holds-held p (place_at after i) has)))

  same_test : (a b : Bool) → (a ≡ true → b ≡ true) → (b ≡ true → a ≡ true) → as_bit a ≡ as_bit b
  same_test true b up down = sym (ap as_bit (up refl))
  same_test false true up down = true-false false (down refl) refl
  same_test false false up down = refl

  -- those that wait have as many places as there are numbers before the step
  pub waits-before : sum (here (place_of waits)) before ≡ length is
  waits-before =
      weigh-sum (here (place_of waits)) before ∙ ap (λ n. sum_to n (λ i. here (place_of waits) (place_at before i))) step.four
      ∙ sum_to-same (λ i. here (place_of waits) (place_at before i)) (λ i. as_bit (among i is)) place_count
      (λ i below. same_test (place_of waits (place_at before i)) (among i is) (place-waiting i) (waiting-place i))
      ∙ sum_to-row place_count is step.apart
      (λ i one. subst (λ n. i < n) step.four (just-below before i (each-fresh c before after is step i one)))

  -- and after it, those that still have theirs
  pub waits-after : sum (here (place_of waits)) after ≡ length (stayers c before after is step)
  waits-after =
      let still = stayers c before after is step in
      weigh-sum (here (place_of waits)) after ∙ ap (λ n. sum_to n (λ i. here (place_of waits) (place_at after i))) step.still-four
      ∙ sum_to-same (λ i. here (place_of waits) (place_at after i)) (λ i. as_bit (among i still)) place_count
      (λ i below. same_test (place_of waits (place_at after i)) (among i still) (place_still i) (still-place i))
      ∙ sum_to-row place_count still (distinct-kept (λ i. not (is_free (place_at after i))) is step.apart)
      (λ i one.
      subst (λ n. i < n) step.four
      (just-below before i (each-fresh c before after is step i (among-kept (λ i. not (is_free (place_at after i))) i is one).0)))

  -- who is taken in does not wait
  pub newcomer-waits : takes_in waits c ≡ false
  newcomer-waits = by c step.changed
    where
      none : (q : Partner) → sum (here (holds q)) before ≡ 0 → waits q ≡ false
      none q absent =
          fails-then (waits q)
          (λ mine.
          waits-some before q is mine (waits q ≡ false)
          (λ j one had.
          let some = holds-weigh q before j had in
          absurd (omega arith)))

      by : (c : Concern) → Places c before after → takes_in waits c ≡ false
      by nobody changed = refl
      by (order_to q) changed = none q changed.absent
      by (call_of q) changed = none q changed.absent
      by (naming q e) changed = refl
