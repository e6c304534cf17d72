-- Soundness as facts. That of the places is an account: no place is bad, and no partner weighs more than one.
-- Defines: bad, PlacesFacts, Facts.
-- Proves: places-facts, facts-places, limits-tries, sound-facts, facts-sound, set-facts, take-facts, closed-here, closed_by-facts,
-- place_at.
use mathlib.Core.Path.{◌≡◌, refl, ap, ◌∙◌}
use mathlib.Core.Bool.{Bool, true, false, cond, ◌&&◌}
use mathlib.Core.List.{List, [], ◌∷◌}
use Prim.Native.Nat.{ℕ, ◌+◌, ◌≤◌, ◌<◌}
use native.Mathlib.Omega.{arith}
use lib.Dec.{eqb, leb}
use lib.ListN.{length, get_or, set}
use borrow.Author.Tests.{eqb-true, eq-eqb, leb-true}
use Rattle.record.specs.Partners.{same_partner}
use Rattle.record.specs.declared.partner.Partner.{Partner}
use Rattle.wire.proofs.Tests.{and_left, and_right, and_both, cond-case, cond-holds}
use Rattle.record.proofs.Partners.{same_refl, same-eq}
use Rattle.place.specs.Places.{most_tries, vacant, seat, holds, place_ok}
use Rattle.place.proofs.Holdings.{holds_in}
use Rattle.place.specs.Table.{place_after, closed_by}
use Rattle.place.specs.declared.phase.Phase.{Phase}
use Rattle.place.specs.declared.place.Direction.{Direction}
use Rattle.place.specs.declared.place.Holding.{Holding}
use Rattle.place.specs.declared.place.Holding.TheVariants.{Free, Held}
use Rattle.place.specs.declared.place.Place.{Place}
use Rattle.place.specs.declared.limits.Limits.{Limits}
use Rattle.place.specs.declared.turn.Closing.{Closing}
use Rattle.place.proofs.Turns.{closed_by-sound, after_holds}
use Rattle.unit.specs.States.{place_count, highest_x, limits_ok, train_ok, marks_ok, absent_from, places_ok, sound}
use Rattle.unit.specs.Lasts.{last_ok}
use Rattle.unit.specs.Steps.{closed}
use Rattle.unit.specs.declared.state.State.{State}
use Rattle.unit.proofs.Weights.{weigh-set, weigh-closed, weigh-at}
use Rattle.unit.specs.Kept.{here}
use Rattle.wire.specs.Bytes.{as_bit}
use Rattle.wire.specs.Sums.{sum}
use Rattle.unit.proofs.Searches.{none-some, some-none, first-none, none_first}

-- 1 where a test fails
abbrev fails : Bool → ℕ
fails b = cond b 0 1

-- 1 for a place that is not sound by itself
abbrev pub bad : Limits → Place → ℕ
bad l p = fails (place_ok l p)

-- the two facts of sound places
abbrev pub PlacesFacts : Limits → List Place → Type 0
PlacesFacts l ps = (sum (bad l) ps ≡ 0) × ((q : Partner) → sum (here (holds q)) ps ≤ 1)

passes_none : (b : Bool) → b ≡ true → fails b ≡ 0
passes_none b h = ap fails h

none_passes : (b : Bool) → fails b ≡ 0 → b ≡ true
none_passes true h = refl
none_passes false h = absurd (omega arith)

fails-less : (a b : Bool) → (a ≡ true → b ≡ true) → fails b ≤ fails a
fails-less true b h =
    let e = passes_none b (h refl) in
    omega arith
fails-less false true h = omega arith
fails-less false false h = omega arith

here-less : (a b : Bool) → (b ≡ true → a ≡ true) → as_bit b ≤ as_bit a
here-less a false h = cond-holds (λ w. 0 ≤ w) a 1 0 (omega arith) (omega arith)
here-less a true h =
    let e : as_bit a ≡ 1 = ap as_bit (h refl) in
    omega arith

-- a partner that is absent from the places above takes its own place alone
alone : (q : Partner) (k : Holding) (ps : List Place)
    → absent_from ps k ≡ true
    → sum (here (holds q)) ps ≤ 1
    → as_bit (holds_in q k) + sum (here (holds q)) ps ≤ 1
alone q Free ps absent rest = omega arith
alone q (Held d ph r) ps absent rest =
    cond-case (λ w. w + sum (here (holds q)) ps ≤ 1) (same_partner q r) 1 0
    (λ same.
    let none : sum (here (holds r)) ps ≡ 0 = first-none (holds r) ps (none-some (holds r) ps absent) in
    let none-q : sum (here (holds q)) ps ≡ 0 = ap (λ p. sum (here (holds p)) ps) (same-eq q r same) ∙ none in
    omega arith)
    (λ other. omega arith)

-- and one that weighs no more than one is absent from those above
lone : (k : Holding) (ps : List Place)
    → ((q : Partner) → as_bit (holds_in q k) + sum (here (holds q)) ps ≤ 1)
    → absent_from ps k ≡ true
lone Free ps one = refl
lone (Held d ph r) ps one =
    let itself : as_bit (same_partner r r) ≡ 1 = ap as_bit (same_refl r) in
    let both = one r in
    some-none (holds r) ps (none_first (holds r) ps (omega arith))

pub places-facts : (l : Limits) (ps : List Place) → places_ok l ps ≡ true → PlacesFacts l ps
unfolding places_ok sum
places-facts l [] ok = (refl, λ q. omega arith)
places-facts l (p ∷ ps) ok =
    let above = absent_from ps p.holding && places_ok l ps in
    let rest = places-facts l ps (and_right (absent_from ps p.holding) (places_ok l ps) (and_right (place_ok l p) above ok)) in
    let good = passes_none (place_ok l p) (and_left (place_ok l p) above ok) in
    let none = rest.0 in (
      omega arith,
      λ q. alone q p.holding ps (and_left (absent_from ps p.holding) (places_ok l ps) (and_right (place_ok l p) above ok)) (rest.1 q),
    )

pub facts-places : (l : Limits) (ps : List Place) → PlacesFacts l ps → places_ok l ps ≡ true
unfolding places_ok sum
facts-places l [] facts = refl
facts-places l (p ∷ ps) facts =
    let none = facts.0 in
    and_both (place_ok l p) (absent_from ps p.holding && places_ok l ps) (none_passes (place_ok l p) (omega arith))
    (and_both (absent_from ps p.holding) (places_ok l ps) (lone p.holding ps facts.1)
    (facts-places l ps (
      omega arith,
      λ q.
          let one = facts.1 q in
          omega arith,
    )))

-- "tries run from 1 to n": n is 1 at the least, and 9 at the most
pub limits-tries : (l : Limits) → limits_ok l ≡ true → (1 ≤ l.tries) × (l.tries ≤ most_tries)
limits-tries l ok =
    let tried = leb 1 l.tries && leb l.tries most_tries in
    let x = leb l.highest highest_x in
    let h = and_right x tried (and_right (leb l.lowest l.highest) (x && tried) ok) in (
      leb-true 1 l.tries (and_left (leb 1 l.tries) (leb l.tries most_tries) h),
      leb-true l.tries most_tries (and_right (leb 1 l.tries) (leb l.tries most_tries) h),
    )

-- what soundness says, part by part
pub record Facts (s : State) : Type 0 where
  pub limits : limits_ok s.limits ≡ true
  pub train : train_ok s.train ≡ true
  pub marks : marks_ok s.marks ≡ true
  pub four : length s.places ≡ place_count
  pub places : PlacesFacts s.limits s.places
  pub last : last_ok s.last ≡ true

pub sound-facts : (s : State) → sound s ≡ true → Facts s
unfolding sound
sound-facts s ok =
    let fifth = places_ok s.limits s.places && last_ok s.last in
    let fourth = eqb (length s.places) place_count && fifth in
    let third = marks_ok s.marks && fourth in
    let second = train_ok s.train && third in
    let h₁ = and_right (limits_ok s.limits) second ok in
    let h₂ = and_right (train_ok s.train) third h₁ in
    let h₃ = and_right (marks_ok s.marks) fourth h₂ in
    let h₄ = and_right (eqb (length s.places) place_count) fifth h₃ in
    record {
      limits = and_left (limits_ok s.limits) second ok;
      train = and_left (train_ok s.train) third h₁;
      marks = and_left (marks_ok s.marks) fourth h₂;
      four = eqb-true (length s.places) place_count (and_left (eqb (length s.places) place_count) fifth h₃);
      places = places-facts s.limits s.places (and_left (places_ok s.limits s.places) (last_ok s.last) h₄);
      last = and_right (places_ok s.limits s.places) (last_ok s.last) h₄;
    }

pub facts-sound : (s : State) → Facts s → sound s ≡ true
unfolding sound
facts-sound s f =
    and_both (limits_ok s.limits) _ f.limits
    (and_both (train_ok s.train) _ f.train
    (and_both (marks_ok s.marks) _ f.marks
    (and_both (eqb (length s.places) place_count) _ (eq-eqb (length s.places) place_count f.four)
    (and_both (places_ok s.limits s.places) (last_ok s.last) (facts-places s.limits s.places f.places) f.last))))

-- a store of a sound place that holds no other partner than the old one keeps the facts
pub set-facts : (l : Limits) (ps : List Place) (i : ℕ) (x : Place)
    → PlacesFacts l ps
    → i < length ps
    → place_ok l x ≡ true
    → ((q : Partner) → holds q x ≡ true → holds q (get_or ps i vacant) ≡ true)
    → PlacesFacts l (set ps i x)
set-facts l ps i x facts below good same =
    let none = facts.0 in
    let account = weigh-set (bad l) ps i x below in
    let new = passes_none (place_ok l x) good in (
      omega arith,
      λ q.
          let one = facts.1 q in
          let store = weigh-set (here (holds q)) ps i x below in
          let less = here-less (holds q (get_or ps i vacant)) (holds q x) (same q) in
          omega arith,
    )

-- so does the store of a partner that has no place
pub take-facts : (l : Limits) (ps : List Place) (i : ℕ) (d : Direction) (ph : Phase) (p : Partner)
    → PlacesFacts l ps
    → i < length ps
    → place_ok l (seat d ph p) ≡ true
    → sum (here (holds p)) ps ≡ 0
    → PlacesFacts l (set ps i (seat d ph p))
take-facts l ps i d ph p facts below good absent =
    let none = facts.0 in
    let account = weigh-set (bad l) ps i (seat d ph p) below in
    let new = passes_none (place_ok l (seat d ph p)) good in (
      omega arith,
      λ q.
          let one = facts.1 q in
          let store = weigh-set (here (holds q)) ps i (seat d ph p) below in
          let after = sum (here (holds q)) (set ps i (seat d ph p)) in
          cond-case (λ w. after + here (holds q) (get_or ps i vacant) ≡ sum (here (holds q)) ps + w → after ≤ 1)
          (same_partner q p) 1 0
          (λ itself account.
          let none-q : sum (here (holds q)) ps ≡ 0 = ap (λ r. sum (here (holds r)) ps) (same-eq q p itself) ∙ absent in
          omega arith)
          (λ other account. omega arith)
          store,
    )

-- a closing gives no partner a place
pub closed-here : (which : Closing) (ps : List Place) (q : Partner)
    → sum (here (holds q)) (closed which ps) ≤ sum (here (holds q)) ps
closed-here which ps q =
    weigh-closed (here (holds q)) which ps
    (λ p. here-less (holds q p) (holds q (place_after p (closed_by which p))) (after_holds q p (closed_by which p)))

-- and keeps the facts
pub closed_by-facts : (l : Limits)
    → 1 ≤ l.tries
    → (which : Closing) (ps : List Place)
    → PlacesFacts l ps
    → PlacesFacts l (closed which ps)
closed_by-facts l some-try which ps facts =
    let none = facts.0 in
    let account =
    weigh-closed (bad l) which ps
    (λ p. fails-less (place_ok l p) (place_ok l (place_after p (closed_by which p))) (closed_by-sound l some-try which p.holding)) in (
      omega arith,
      λ q.
          let one = facts.1 q in
          let less = closed-here which ps q in
          omega arith,
    )

-- the place at a number of sound places is sound
pub place_at : (l : Limits) (ps : List Place) (i : ℕ) → PlacesFacts l ps → i < length ps → place_ok l (get_or ps i vacant) ≡ true
place_at l ps i facts below =
    let none = facts.0 in
    let less = weigh-at (bad l) ps i below in
    none_passes (place_ok l (get_or ps i vacant)) (omega arith)
