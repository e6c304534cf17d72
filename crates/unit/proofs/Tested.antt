-- Soundness of the places as the code tests it, from the lowest up.
-- Proves: absent_by, ok_end, ok-more, ok-bad, ok-twice, sound-by.
use mathlib.Core.Path.{◌≡◌, refl, sym, ap, ap₂, ◌∙◌}
use mathlib.Core.Bool.{Bool, true, false, ◌&&◌, not}
use mathlib.Core.List.{List}
use Prim.Native.Nat.{ℕ, ◌+◌, ◌-◌, ◌≤◌, ◌<◌}
use native.Mathlib.Numerals.{add-one}
use native.Mathlib.Omega.{arith}
use lib.Dec.{leb, ltb}
use lib.ListN.{length, get_or, drop, length-drop, drop_of_length-le}
use lib.Seq.{drop-cons}
use borrow.Author.Tests.{leb-true, le-leb, eq-eqb, ltb-true, ltb-false, lt-leb}
use borrow.Table.Steps.{cases}
use Rattle.record.specs.declared.partner.Partner.{Partner}
use Rattle.wire.proofs.Tests.{true-false}
use Rattle.place.specs.Places.{vacant, holds, place_ok}
use Rattle.place.specs.declared.phase.Phase.{Phase}
use Rattle.place.specs.declared.place.Direction.{Direction}
use Rattle.place.specs.declared.place.Holding.{Holding}
use Rattle.place.specs.declared.place.Holding.TheVariants.{Held}
use Rattle.place.specs.declared.place.Place.{Place}
use Rattle.place.specs.declared.limits.Limits.{Limits}
use Rattle.unit.specs.Lasts.{last_ok}
use Rattle.unit.specs.States.{place_count, first, limits_ok, train_ok, marks_ok, absent_from, places_ok, sound}
use Rattle.unit.specs.declared.state.State.{State}
use Rattle.unit.proofs.Searches.{some_first}

-- two orders that say the same are tested alike
leb-same : (a b c d : ℕ) → (a ≤ b → c ≤ d) → (c ≤ d → a ≤ b) → leb a b ≡ leb c d
leb-same a b c d to from = by (leb a b) refl (leb c d) refl
  where
    by : (x : Bool) → leb a b ≡ x → (y : Bool) → leb c d ≡ y → leb a b ≡ leb c d
    by true e true g = e ∙ sym g
    by true e false g = true-false (leb c d) (le-leb c d (to (leb-true a b e))) g
    by false e true g = true-false (leb a b) (le-leb a b (from (leb-true c d g))) e
    by false e false g = e ∙ sym g

not-ltb : (a b : ℕ) → not (ltb a b) ≡ leb b a
not-ltb a b =
    cases (ltb a b)
    (λ e. ap not e ∙ sym (lt-leb b a (ltb-true a b e)))
    (λ e. ap not e ∙ sym (le-leb b a (ltb-false a b e)))

-- a search from the next place on that comes to the end found none
pub absent_by : (ps : List Place) (i : ℕ) (k : Holding) (d : Direction) (ph : Phase) (p : Partner) (r : ℕ)
    → k ≡ Held d ph p
    → r ≡ i + 1 + first (holds p) (drop (i + 1) ps)
    → i < length ps
    → leb (length ps) r ≡ absent_from (drop (i + 1) ps) k
absent_by ps i k d ph p r held found below =
    leb-same (length ps) r (length (drop (i + 1) ps)) (first (holds p) (drop (i + 1) ps)) (λ h. simp length-drop (omega arith))
    (λ h.
    let shorter : length ps - (i + 1) ≤ first (holds p) (drop (i + 1) ps) = simp length-drop at h in
    omega arith)
    ∙ sym (not-ltb (first (holds p) (drop (i + 1) ps)) (length (drop (i + 1) ps)))
    ∙ ap not (sym (some_first (holds p) (drop (i + 1) ps)))
    ∙ sym (ap (absent_from (drop (i + 1) ps)) held)

module _ (l : Limits) (ps : List Place) (i : ℕ) where
  ok-drop :
      i < length ps
      → places_ok l (drop i ps)
      ≡ (place_ok l (get_or ps i vacant) && (absent_from (drop (i + 1) ps) (get_or ps i vacant).holding && places_ok l (drop (i + 1) ps)))
  unfolding places_ok
  ok-drop below = rw (add-one, drop-cons ps i vacant below)

  module _ (so_far : places_ok l ps ≡ places_ok l (drop i ps)) where
    -- nothing left to test
    pub ok_end : length ps ≤ i → true ≡ places_ok l ps
    unfolding places_ok
    ok_end above = sym (so_far ∙ ap (places_ok l) (drop_of_length-le ps above))

    module _ (below : i < length ps) where
      -- a place that passes leaves the rest to be tested
      pub ok-more :
          place_ok l (get_or ps i vacant) ≡ true
          → absent_from (drop (i + 1) ps) (get_or ps i vacant).holding ≡ true
          → places_ok l ps ≡ places_ok l (drop (i + 1) ps)
      ok-more good alone = so_far ∙ ok-drop below ∙ ap₂ (λ x y. x && (y && places_ok l (drop (i + 1) ps))) good alone

      -- one that is not sound by itself settles it
      pub ok-bad : place_ok l (get_or ps i vacant) ≡ false → false ≡ places_ok l ps
      ok-bad bad =
          let above = absent_from (drop (i + 1) ps) (get_or ps i vacant).holding && places_ok l (drop (i + 1) ps) in
          sym (so_far ∙ ok-drop below ∙ ap (λ x. x && above) bad)

      -- so does one whose partner has a higher place
      pub ok-twice :
          place_ok l (get_or ps i vacant) ≡ true
          → absent_from (drop (i + 1) ps) (get_or ps i vacant).holding ≡ false
          → false ≡ places_ok l ps
      ok-twice good twice = sym (so_far ∙ ok-drop below ∙ ap₂ (λ x y. x && (y && places_ok l (drop (i + 1) ps))) good twice)

and-swap : (a b : Bool) → (a && b) ≡ (b && a)
and-swap true true = refl
and-swap true false = refl
and-swap false true = refl
and-swap false false = refl

-- a state with four places is sound where its parts are, by what the tests of all but the places showed
pub sound-by : (s : State) (limits train marks last : Bool)
    → length s.places ≡ place_count
    → limits_ok s.limits ≡ limits
    → train_ok s.train ≡ train
    → marks_ok s.marks ≡ marks
    → last_ok s.last ≡ last
    → (limits && (train && (marks && (last && places_ok s.limits s.places)))) ≡ sound s
unfolding sound
sound-by s limits train marks last four of-limits of-train of-marks of-last =
    let places = places_ok s.limits s.places in
    ap₂ (λ a b. a && (b && (marks && (last && places)))) (sym of-limits) (sym of-train)
    ∙ ap₂ (λ a b. limits_ok s.limits && (train_ok s.train && (a && (b && places)))) (sym of-marks) (sym of-last)
    ∙ ap₂ (λ a b. limits_ok s.limits && (train_ok s.train && (marks_ok s.marks && (a && b))))
    (sym (eq-eqb (length s.places) place_count four)) (and-swap (last_ok s.last) places)
