-- What C reads from the bytes of the action buffer and of the image is what the outcome and the state hold.
-- Proves: actions_passing-counts, held_bytes, holds-bytes, waits-bytes.
use mathlib.Core.Path.{◌≡◌, refl, sym, ap, ap₂, ◌∙◌}
use mathlib.Core.Logic.{◌↔◌}
use mathlib.Core.Bool.{Bool, true, false, ◌&&◌, ◌||◌, not}
use mathlib.Core.List.{List, [], ◌∷◌, ◌++◌, append_assoc}
use Prim.Native.Nat.{ℕ, suc, ◌+◌, ◌≤◌}
use native.Mathlib.Omega.{arith}
use lib.Dec.{eqb}
use lib.ListN.{length}
use Rattle.wire.specs.Blocks.{blocks}
use Rattle.wire.proofs.Tests.{true-false}
use Rattle.record.specs.Partners.{same_partner}
use Rattle.record.specs.declared.partner.Partner.{Partner}
use Rattle.place.specs.Places.{phase_number, is_free, holds}
use Rattle.place.specs.declared.phase.Phase.{Phase}
use Rattle.place.specs.declared.phase.Phase.TheVariants.{Connecting, Contacting, Open, Lost, Ending}
use Rattle.place.specs.declared.place.Holding.{Holding}
use Rattle.place.specs.declared.place.Holding.TheVariants.{Free, Held}
use Rattle.place.specs.declared.place.Place.{Place}
use Rattle.unit.specs.Kept.{count}
use Rattle.unit.specs.States.{place_count, some}
use Rattle.unit.specs.OnRecords.{action_bytes}
use Rattle.unit.specs.declared.state.State.{State}
use Rattle.unit.specs.declared.answer.Action.{Action}
use Rattle.image.specs.Images.{place_bytes, body_bytes, whole_bytes, image_a2}
use Rattle.image.specs.Bodies.{places_bytes, tail_bytes}
use Rattle.history.specs.Histories.{places_held, waiting_phase, waits_at}
use Rattle.wire.specs.Bytes.{as_bit}
use Rattle.firmware.specs.AlongWords.{actions_passing, places_passing, places_seen, held_seen, holds_seen, waits_seen}

-- the actions at the front of a buffer, counted by their bytes
pub actions_passing-counts : (test : ℕ → Partner → Bool) (acts : List Action) (rest : List ℕ)
    → actions_passing test (length acts) (action_bytes acts ++ rest) ≡ count (λ a. test a.number a.partner) acts
unfolding actions_passing count blocks
actions_passing-counts test [] rest = refl
actions_passing-counts test (a ∷ acts) rest = ap (◌+◌ (as_bit (test a.number a.partner))) (actions_passing-counts test acts rest)

-- the places of an image, counted by their bytes: by a test of the place that says the same of its phase and partner
sum_one : (Place → Bool) → List Place → ℕ
sum_one T [] = 0
sum_one T (p ∷ ps) = as_bit (T p) + sum_one T ps

-- what the phase and the partner of a place's bytes say
abbrev OfBytes : (ℕ → Partner → Bool) → Holding → Bool
OfBytes test Free = test 0 (record { kind = 0; high = 0; middle = 0; low = 0 })
OfBytes test (Held d ph p) = test (phase_number ph) p

places_passing-sums : (test : ℕ → Partner → Bool) (ps : List Place) (rest : List ℕ)
    → places_passing test (length ps) (places_bytes ps ++ rest) ≡ sum_one (λ p. OfBytes test p.holding) ps
unfolding places_passing sum_one blocks
places_passing-sums test [] rest = refl
places_passing-sums test (p ∷ ps) rest =
    ap (places_passing test (suc (length ps))) (append_assoc (place_bytes p) (places_bytes ps) rest)
    ∙ by p.holding (places_passing-sums test ps rest)
  where
    by : (k : Holding)
        → places_passing test (length ps) (places_bytes ps ++ rest) ≡ sum_one (λ p. OfBytes test p.holding) ps
        → places_passing test (suc (length ps)) (place_bytes (record { holding = k }) ++ (places_bytes ps ++ rest))
        ≡ as_bit (OfBytes test k) + sum_one (λ p. OfBytes test p.holding) ps
    by Free more = ap (◌+◌ (as_bit (test 0 (record { kind = 0; high = 0; middle = 0; low = 0 })))) more
    by (Held d ph p) more = ap (◌+◌ (as_bit (test (phase_number ph) p))) more

-- the sum of a test over the places, and whether one passes
sum_same : (T U : Place → Bool) (ps : List Place) → ((p : Place) → T p ≡ U p) → sum_one T ps ≡ sum_one U ps
unfolding sum_one
sum_same T U [] same = refl
sum_same T U (p ∷ ps) same = ap₂ (λ b n. as_bit b + n) (same p) (sum_same T U ps same)

or_left_false : (a b : Bool) → (a || b) ≡ false → a ≡ false
or_left_false true b h = h
or_left_false false b h = refl

or_right_false : (a b : Bool) → (a || b) ≡ false → b ≡ false
or_right_false true b h = true-false true refl h
or_right_false false b h = h

sum-none : (T : Place → Bool) (ps : List Place) → some T ps ≡ false → sum_one T ps ≡ 0
unfolding sum_one some
sum-none T [] none = refl
sum-none T (p ∷ ps) none =
    ap₂ (λ b n. as_bit b + n) (or_left_false (T p) (some T ps) none) (sum-none T ps (or_right_false (T p) (some T ps) none))

some-sum : (T : Place → Bool) (ps : List Place) → some T ps ≡ true → 1 ≤ sum_one T ps
unfolding sum_one some
some-sum T [] there = true-false false there refl
some-sum T (p ∷ ps) there = by (T p) refl there (some-sum T ps)
  where
    by : (b : Bool)
        → T p ≡ b
        → (b || some T ps) ≡ true
        → (some T ps ≡ true → 1 ≤ sum_one T ps)
        → 1 ≤ as_bit b + sum_one T ps
    by true is h more = omega arith
    by false is h more =
        let rest = more h in
        omega arith

sum-some : (T : Place → Bool) (ps : List Place) → 1 ≤ sum_one T ps → some T ps ≡ true
unfolding some
sum-some T ps one-there = by (some T ps) refl
  where
    by : (b : Bool) → some T ps ≡ b → b ≡ true
    by true is = refl
    by false is =
        let none = sum-none T ps is in
        absurd (omega arith)

-- and the other ways round
sum-zero : (T : Place → Bool) (ps : List Place) → sum_one T ps ≡ 0 → some T ps ≡ false
sum-zero T ps none = by (some T ps) refl
  where
    by : (b : Bool) → some T ps ≡ b → b ≡ false
    by true is =
        let there = some-sum T ps is in
        absurd (omega arith)
    by false is = refl

sum-held : (ps : List Place) → sum_one (λ p. not (is_free p)) ps ≡ places_held ps
unfolding sum_one places_held
sum-held [] = refl
sum-held (p ∷ ps) = ap (◌+◌ (as_bit (not (is_free p)))) (sum-held ps)

-- each test of the bytes is the one of the place
not-zero : (ph : Phase) → not (eqb (phase_number ph) 0) ≡ true
not-zero (Connecting t) = refl
not-zero (Contacting t) = refl
not-zero Open = refl
not-zero (Lost t) = refl
not-zero (Ending t) = refl

waiting-number : (ph : Phase)
    → (not (eqb (phase_number ph) 0) && not (eqb (phase_number ph) (phase_number Open))) ≡ waiting_phase ph
waiting-number (Connecting t) = refl
waiting-number (Contacting t) = refl
waiting-number Open = refl
waiting-number (Lost t) = refl
waiting-number (Ending t) = refl

and-swap : (a b : Bool) → (a && b) ≡ (b && a)
and-swap true true = refl
and-swap true false = refl
and-swap false true = refl
and-swap false false = refl

held_of : (k : Holding) → OfBytes (λ phase q. not (eqb phase 0)) k ≡ not (is_free (record { holding = k }))
held_of Free = refl
held_of (Held d ph p) = not-zero ph

holds_of : (p : Partner) (k : Holding)
    → OfBytes (λ phase q. not (eqb phase 0) && same_partner p q) k ≡ holds p (record { holding = k })
holds_of p Free = refl
holds_of p (Held d ph q) = ap (λ b. b && same_partner p q) (not-zero ph)

waits-of : (p : Partner) (k : Holding)
    → OfBytes (λ phase q. (not (eqb phase 0) && not (eqb phase (phase_number Open))) && same_partner p q) k
    ≡ waits_at p (record { holding = k })
waits-of p Free = refl
waits-of p (Held d ph q) = ap (λ b. b && same_partner p q) (waiting-number ph) ∙ and-swap (waiting_phase ph) (same_partner p q)

-- the places of the image of a state
module _ (s : State) (four : length s.places ≡ place_count) where
  seats : (test : ℕ → Partner → Bool)
      → places_seen test (image_a2 s) ≡ sum_one (λ p. OfBytes test p.holding) s.places
  unfolding image_a2 whole_bytes body_bytes
  seats test =
      ap (λ k. places_passing test k (places_bytes s.places ++ tail_bytes s)) (sym four)
      ∙ places_passing-sums test s.places (tail_bytes s)

  pub held_bytes : held_seen (image_a2 s) ≡ places_held s.places
  held_bytes =
      seats (λ phase q. not (eqb phase 0))
      ∙ sum_same (λ p. OfBytes (λ phase q. not (eqb phase 0)) p.holding) (λ p. not (is_free p)) s.places
      (λ p. held_of p.holding)
      ∙ sum-held s.places

  holds-sum : (p : Partner) → holds_seen p (image_a2 s) ≡ sum_one (holds p) s.places
  holds-sum p =
      seats (λ phase q. not (eqb phase 0) && same_partner p q)
      ∙ sum_same (λ x. OfBytes (λ phase q. not (eqb phase 0) && same_partner p q) x.holding) (holds p) s.places
      (λ x. holds_of p x.holding)

  pub holds-bytes : (p : Partner) → (holds_seen p (image_a2 s) ≡ 0) ↔ (some (holds p) s.places ≡ false)
  holds-bytes p = (
    (λ none. sum-zero (holds p) s.places (sym (holds-sum p) ∙ none)),
    (λ none. holds-sum p ∙ sum-none (holds p) s.places none),
  )

  waits-sum : (p : Partner) → waits_seen p (image_a2 s) ≡ sum_one (waits_at p) s.places
  waits-sum p =
      seats (λ phase q. (not (eqb phase 0) && not (eqb phase (phase_number Open))) && same_partner p q)
      ∙ sum_same
      (λ x. OfBytes (λ phase q. (not (eqb phase 0) && not (eqb phase (phase_number Open))) && same_partner p q) x.holding)
      (waits_at p)
      s.places
      (λ x. waits-of p x.holding)

  pub waits-bytes : (p : Partner) → (1 ≤ waits_seen p (image_a2 s)) ↔ (some (waits_at p) s.places ≡ true)
  waits-bytes p = (
    (λ there. sum-some (waits_at p) s.places (omega (arith, there, waits-sum p))),
    (λ there. omega (arith, some-sum (waits_at p) s.places there, waits-sum p)),
  )
