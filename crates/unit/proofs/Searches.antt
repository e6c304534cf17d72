-- What a search finds, for any test and any number of places.
-- Defines: FoundOk, SearchedTo.
-- Proves: first_passes, first-lowest, first-none, none_first, ltb-suc, some_first, none-some, some-none, seek_ok, found_ok, seek-lowest,
-- searched-more, searched-found, searched-none, seek-at, seek_vacant, seek-full.
use mathlib.Core.Path.{◌≡◌, refl, sym, ap, ap₂, subst, subst⁻¹, ◌∙◌}
use mathlib.Core.Bool.{Bool, true, false, cond, ◌||◌, not, true≢false}
use mathlib.Core.List.{List, [], ◌∷◌}
use Prim.Native.Nat.{ℕ, zero, suc, ◌+◌, ◌≤◌, ◌<◌}
use native.Mathlib.Nat.{le_of_suc-le-suc}
use native.Mathlib.Omega.{arith}
use native.Mathlib.Numerals.{add-one}
use lib.Dec.{ltb}
use lib.ListN.{length, get_or, drop, drop_of_length-le}
use lib.Seq.{drop-cons}
use borrow.Author.Tests.{ltb-true, ltb-false, lt-ltb, le-ltb}
use borrow.Table.Steps.{cases}
use Rattle.record.specs.declared.partner.Partner.{Partner}
use Rattle.wire.proofs.Tests.{cond-case}
use Rattle.place.specs.Places.{vacant, is_free, held_phase, holds}
use Rattle.place.specs.declared.phase.Phase.{Phase}
use Rattle.place.specs.declared.place.Place.{Place}
use Rattle.unit.specs.States.{some, first, seek}
use Rattle.unit.specs.declared.search.Found.{Found}
use Rattle.unit.specs.declared.search.Found.TheVariants.{At, Vacant, Full}
use Rattle.unit.specs.Kept.{here}
use Rattle.wire.specs.Bytes.{as_bit}
use Rattle.wire.specs.Sums.{sum}

-- the place found passes
pub first_passes : (test : Place → Bool) (ps : List Place)
    → first test ps < length ps
    → test (get_or ps (first test ps) vacant) ≡ true
unfolding first
first_passes test [] = λ h. absurd (omega arith)
first_passes test (p ∷ ps) =
    cond-case (λ k. k < suc (length ps) → test (get_or (p ∷ ps) k vacant) ≡ true) (test p) 0 (suc (first test ps))
    (λ passes h. passes)
    (λ fails h. first_passes test ps (le_of_suc-le-suc h))

-- and none before it does
pub first-lowest : (test : Place → Bool) (ps : List Place) (i : ℕ) → i < first test ps → test (get_or ps i vacant) ≡ false
unfolding first
first-lowest test [] i = λ below. absurd (omega arith)
first-lowest test (p ∷ ps) zero =
    cond-case (λ k. 0 < k → test p ≡ false) (test p) 0 (suc (first test ps))
    (λ passes below. absurd (omega arith))
    (λ fails below. fails)
first-lowest test (p ∷ ps) (suc i) =
    cond-case (λ k. suc i < k → test (get_or ps i vacant) ≡ false) (test p) 0 (suc (first test ps))
    (λ passes below. absurd (omega arith))
    (λ fails below. first-lowest test ps i (le_of_suc-le-suc below))

-- where none is found, none passes
pub first-none : (test : Place → Bool) (ps : List Place) → length ps ≤ first test ps → sum (here test) ps ≡ 0
unfolding first sum
first-none test [] = λ h. refl
first-none test (p ∷ ps) =
    cond-case (λ k. suc (length ps) ≤ k → here test p + sum (here test) ps ≡ 0) (test p) 0 (suc (first test ps))
    (λ passes h. absurd (omega arith))
    (λ fails h.
    let first-fails : here test p ≡ 0 = ap as_bit fails in
    let rest = first-none test ps (le_of_suc-le-suc h) in
    omega arith)

-- where none passes, none is found
pub none_first : (test : Place → Bool) (ps : List Place) → sum (here test) ps ≡ 0 → length ps ≤ first test ps
unfolding first sum
none_first test [] h = omega arith
none_first test (p ∷ ps) h =
    cond-case (λ k. suc (length ps) ≤ k) (test p) 0 (suc (first test ps))
    (λ passes.
    let first_passes : here test p ≡ 1 = ap as_bit passes in
    absurd (omega arith))
    (λ fails.
    let rest = none_first test ps (omega arith) in
    omega arith)

-- numbers that follow two others stand as they do
pub ltb-suc : (a b : ℕ) → ltb a b ≡ ltb (suc a) (suc b)
ltb-suc a b =
    cases (ltb a b)
    (λ e. e ∙ sym (lt-ltb (suc a) (suc b) (omega (arith, ltb-true a b e))))
    (λ e. e ∙ sym (le-ltb (suc a) (suc b) (omega (arith, ltb-false a b e))))

-- some place passes where the number of the lowest that does is below the number of places
pub some_first : (test : Place → Bool) (ps : List Place) → some test ps ≡ ltb (first test ps) (length ps)
unfolding some first
some_first test [] = refl
some_first test (p ∷ ps) = by (test p) (some_first test ps)
  where
    by : (b : Bool)
        → some test ps ≡ ltb (first test ps) (length ps)
        → (b || some test ps) ≡ ltb (cond b 0 (suc (first test ps))) (suc (length ps))
    by true rest = sym (lt-ltb 0 (suc (length ps)) (omega arith))
    by false rest = rest ∙ ltb-suc (first test ps) (length ps)

-- and none passes where it is not
pub none-some : (test : Place → Bool) (ps : List Place) → not (some test ps) ≡ true → length ps ≤ first test ps
none-some test ps none = ltb-false (first test ps) (length ps) (sym (some_first test ps) ∙ by (some test ps) none)
  where
    by : (b : Bool) → not b ≡ true → b ≡ false
    by true h = absurd (true≢false (sym h))
    by false h = refl

pub some-none : (test : Place → Bool) (ps : List Place) → length ps ≤ first test ps → not (some test ps) ≡ true
some-none test ps above = ap not (some_first test ps ∙ le-ltb (first test ps) (length ps) above)

-- the lowest place that holds a partner, as it is found
abbrev there : Partner → List Place → Found
there p ps = At (first (holds p) ps) (held_phase (get_or ps (first (holds p) ps) vacant))

-- the search by these numbers
seek-first : (p : Partner) (ps : List Place)
    → seek p ps
    ≡ cond (ltb (first (holds p) ps) (length ps)) (there p ps)
    (cond (ltb (first is_free ps) (length ps)) (Vacant (first is_free ps)) Full)
unfolding seek
seek-first p ps =
    ap₂ (λ a b. cond a (there p ps) (cond b (Vacant (first is_free ps)) Full)) (some_first (holds p) ps) (some_first is_free ps)

-- what the search for a partner's place says
abbrev pub FoundOk : Partner → List Place → Found → Type 0
FoundOk p ps (At i ph) = (i < length ps) × (holds p (get_or ps i vacant) ≡ true) × (held_phase (get_or ps i vacant) ≡ ph)
FoundOk p ps (Vacant i) = (i < length ps) × (is_free (get_or ps i vacant) ≡ true) × (sum (here (holds p)) ps ≡ 0)
FoundOk p ps Full = (sum (here is_free) ps ≡ 0) × (sum (here (holds p)) ps ≡ 0)

pub seek_ok : (p : Partner) (ps : List Place) → FoundOk p ps (seek p ps)
seek_ok p ps =
    let held = first (holds p) ps in
    let free = first is_free ps in
    subst⁻¹ (FoundOk p ps) (seek-first p ps)
    (cond-case (FoundOk p ps) (ltb held (length ps)) (there p ps) (cond (ltb free (length ps)) (Vacant free) Full)
    (λ found.
    let below = ltb-true held (length ps) found in
    (below, first_passes (holds p) ps below, refl))
    (λ missed.
    let absent = first-none (holds p) ps (ltb-false held (length ps) missed) in
    cond-case (FoundOk p ps) (ltb free (length ps)) (Vacant free) Full
    (λ found.
    let below = ltb-true free (length ps) found in
    (below, first_passes is_free ps below, absent))
    (λ full. (first-none is_free ps (ltb-false free (length ps) full), absent))))

-- what a place found says
pub found_ok : (p : Partner) (ps : List Place) (found : Found) → seek p ps ≡ found → FoundOk p ps found
found_ok p ps found e = subst (FoundOk p ps) e (seek_ok p ps)

-- a free place found is the lowest
pub seek-lowest : (p : Partner) (ps : List Place) (i j : ℕ)
    → seek p ps ≡ Vacant i
    → j < i
    → is_free (get_or ps j vacant) ≡ false
unfolding seek
seek-lowest p ps i j is below = first-lowest is_free ps j (by (some (holds p) ps) (some is_free ps) is)
  where
    by : (a b : Bool) → cond a (there p ps) (cond b (Vacant (first is_free ps)) Full) ≡ Vacant i → j < first is_free ps
    by true b is = absurd (let z : ◌≡◌ {A = ℕ} 0 1 = cc in omega arith)
    by false true is =
        let same : first is_free ps ≡ i = cc in
        omega arith
    by false false is = absurd (let z : ◌≡◌ {A = ℕ} 0 1 = cc in omega arith)

-- a search that has passed the places from one number up to another without finding any
abbrev pub SearchedTo : (Place → Bool) → List Place → ℕ → ℕ → Type 0
SearchedTo test ps from i = from + first test (drop from ps) ≡ i + first test (drop i ps)

first-drop : (test : Place → Bool) (ps : List Place) (i : ℕ)
    → i < length ps
    → first test (drop i ps) ≡ cond (test (get_or ps i vacant)) 0 (suc (first test (drop (suc i) ps)))
unfolding first
first-drop test ps i below = rw (drop-cons ps i vacant below)

module _ (test : Place → Bool) (ps : List Place) (from i : ℕ) (so_far : SearchedTo test ps from i) where
  pub searched-more : i < length ps → test (get_or ps i vacant) ≡ false → SearchedTo test ps from (i + 1)
  searched-more below fails =
      let next : first test (drop i ps) ≡ suc (first test (drop (suc i) ps)) =
      first-drop test ps i below ∙ ap (λ b. cond b 0 (suc (first test (drop (suc i) ps)))) fails in
      rw add-one (omega arith)

  pub searched-found : i < length ps → test (get_or ps i vacant) ≡ true → i ≡ from + first test (drop from ps)
  searched-found below passes =
      let here : first test (drop i ps) ≡ 0 =
      first-drop test ps i below ∙ ap (λ b. cond b 0 (suc (first test (drop (suc i) ps)))) passes in
      omega arith

  pub searched-none : length ps ≤ i → i ≡ from + first test (drop from ps)
  unfolding first
  searched-none above =
      let over : first test (drop i ps) ≡ 0 = ap (first test) (drop_of_length-le ps above) in
      omega arith

-- the answer of the search for a partner, by what its two searches found
module _ (p : Partner) (ps : List Place) (held : ℕ) (from_start : held ≡ 0 + first (holds p) ps) where
  pub seek-at : (ph : Phase) → held < length ps → ph ≡ held_phase (get_or ps held vacant) → At held ph ≡ seek p ps
  seek-at ph below phase =
      let same : held ≡ first (holds p) ps = omega arith in
      rw (seek-first p ps, ← same, phase) (simp (lt-ltb held (length ps) below))

  module _ (absent : length ps ≤ held) (free : ℕ) (lowest : free ≡ first is_free ps) where
    pub seek_vacant : free < length ps → Vacant free ≡ seek p ps
    seek_vacant below =
        simp (seek-first p ps, le-ltb (first (holds p) ps) (length ps) (omega arith), ← lowest, lt-ltb free (length ps) below)

    pub seek-full : length ps ≤ free → Full ≡ seek p ps
    seek-full above =
        simp (seek-first p ps, le-ltb (first (holds p) ps) (length ps) (omega arith), le-ltb (first is_free ps) (length ps) (omega arith))
