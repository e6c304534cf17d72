-- Cross-checks only: rules told a second time.
-- "A state is sound when all these ranges hold": soundness in numbers, clause by clause, both ways.
-- Proves: place_ok-means, sound-means.
use mathlib.Core.Path.{◌≡◌, refl, sym, ap}
use mathlib.Core.Logic.{◌↔◌}
use mathlib.Core.Bool.{Bool, true, false, cond, ◌&&◌, not, true≢false}
use mathlib.Core.List.{List, [], ◌∷◌}
use Prim.Native.Nat.{ℕ, suc, ◌≤◌, ◌<◌}
use native.Mathlib.Omega.{arith}
use lib.Dec.{leb}
use lib.ListN.{length, get_or}
use borrow.Author.Tests.{leb-true, le-leb, eqb-true, eq-eqb}
use Rattle.wire.proofs.Tests.{and_left, and_right, and_both}
use Rattle.record.specs.Partners.{is_rbc, partner_ok, reserved, named_ok}
use Rattle.record.specs.declared.partner.Partner.{Partner}
use Rattle.place.specs.Places.{phase_number, tries, direction_number, vacant, seat, holds, phase_ok, fits, fits_incoming, place_ok}
use Rattle.place.specs.declared.phase.Phase.{Phase}
use Rattle.place.specs.declared.phase.Phase.TheVariants.{Connecting, Contacting, Open, Lost, Ending}
use Rattle.place.specs.declared.place.Direction.{Direction}
use Rattle.place.specs.declared.place.Direction.TheVariants.{Outgoing, Incoming}
use Rattle.place.specs.declared.place.Place.{Place}
use Rattle.place.specs.declared.limits.Limits.{Limits}
use Rattle.unit.specs.Lasts.{last_ok}
use Rattle.unit.specs.States.{limits_ok, sound}
use Rattle.unit.specs.Kept.{here}
use Rattle.wire.specs.Sums.{sum}
use Rattle.unit.specs.declared.state.State.{State}
use Rattle.unit.proofs.Facts.{bad, sound-facts, facts-sound, place_at}

by-not : (b : Bool) → not b ≡ true → b ≡ false
by-not true h = absurd (true≢false (sym h))
by-not false h = refl

both-leb : (a b c : ℕ) → (leb a b && leb b c) ≡ true → (a ≤ b) × (b ≤ c)
both-leb a b c h = (leb-true a b (and_left (leb a b) (leb b c) h), leb-true b c (and_right (leb a b) (leb b c) h))

-- "tries run from 1 to n", in every phase but Open
abbrev InTries : ℕ → Phase → Type 0
InTries n ph = (phase_number ph ≡ 3 → ⊥) → (1 ≤ tries ph) × (tries ph ≤ n)

within : (n t : ℕ) → (1 ≤ t) × (t ≤ n) → (leb 1 t && leb t n) ≡ true
within n t h = and_both (leb 1 t) (leb t n) (le-leb 1 t h.0) (le-leb t n h.1)

tries-means : (l : Limits) (ph : Phase) → (phase_ok l ph ≡ true) ↔ InTries l.tries ph
tries-means l (Connecting t) = ((λ h other. both-leb 1 t l.tries h), (λ f. within l.tries t (f (λ e. omega arith))))
tries-means l (Contacting t) = ((λ h other. both-leb 1 t l.tries h), (λ f. within l.tries t (f (λ e. omega arith))))
tries-means l Open = ((λ h other. absurd (other refl)), (λ f. refl))
tries-means l (Lost t) = ((λ h other. both-leb 1 t l.tries h), (λ f. within l.tries t (f (λ e. omega arith))))
tries-means l (Ending t) = ((λ h other. both-leb 1 t l.tries h), (λ f. within l.tries t (f (λ e. omega arith))))

-- "no RIU is incoming, Connecting and Contacting are outgoing"
abbrev Fitting : Direction → Phase → Partner → Type 0
Fitting d ph p = direction_number d ≡ 1 → (p.kind ≡ 0) × (3 ≤ phase_number ph)

fits-means : (d : Direction) (ph : Phase) (p : Partner) → (fits d ph p ≡ true) ↔ Fitting d ph p
fits-means Outgoing ph p = ((λ h one. absurd (omega arith)), (λ f. refl))
fits-means Incoming ph p = (
  (λ h one. (eqb-true p.kind 0 (and_left (is_rbc p) (fits_incoming ph) h), late ph (and_right (is_rbc p) (fits_incoming ph) h))),
  (λ f. and_both (is_rbc p) (fits_incoming ph) (eq-eqb p.kind 0 (f refl).0) (early ph (f refl).1)),
)
  where
    late : (ph : Phase) → fits_incoming ph ≡ true → 3 ≤ phase_number ph
    late (Connecting t) h = absurd (true≢false (sym h))
    late (Contacting t) h = absurd (true≢false (sym h))
    late Open h = omega arith
    late (Lost t) h = omega arith
    late (Ending t) h = omega arith

    early : (ph : Phase) → 3 ≤ phase_number ph → fits_incoming ph ≡ true
    early (Connecting t) h = absurd (omega arith)
    early (Contacting t) h = absurd (omega arith)
    early Open h = refl
    early (Lost t) h = refl
    early (Ending t) h = refl

-- a place that holds a partner is sound by itself: its type is 0 or 1, it is not the reserved RBC, its tries are 1 to n where it waits, and
-- an incoming one is an RBC in Open, Lost or Ending
-- promise
pub place_ok-means : (l : Limits) (d : Direction) (ph : Phase) (p : Partner)
    → (place_ok l (seat d ph p) ≡ true)
    ↔ ((p.kind ≤ 1)
    × (reserved p ≡ false)
    × ((phase_number ph ≡ 3 → ⊥) → (1 ≤ tries ph) × (tries ph ≤ l.tries))
    × (direction_number d ≡ 1 → (p.kind ≡ 0) × (3 ≤ phase_number ph)))
place_ok-means l d ph p = (
  (λ h.
      let named = and_left (named_ok p) (phase_ok l ph && fits d ph p) h in
      let rest = and_right (named_ok p) (phase_ok l ph && fits d ph p) h in (
        leb-true p.kind 1 (and_left (partner_ok p) (not (reserved p)) named),
        by-not (reserved p) (and_right (partner_ok p) (not (reserved p)) named),
        (tries-means l ph).0 (and_left (phase_ok l ph) (fits d ph p) rest),
        (fits-means d ph p).0 (and_right (phase_ok l ph) (fits d ph p) rest),
      )),
  (λ f.
      and_both (named_ok p) (phase_ok l ph && fits d ph p)
      (and_both (partner_ok p) (not (reserved p)) (le-leb p.kind 1 f.0) (ap not f.1))
      (and_both (phase_ok l ph) (fits d ph p) ((tries-means l ph).1 f.2) ((fits-means d ph p).1 f.3))),
)

-- every place is sound by itself
none-bad : (l : Limits) (ps : List Place)
    → ((i : ℕ) → i < length ps → place_ok l (get_or ps i vacant) ≡ true)
    → sum (bad l) ps ≡ 0
unfolding sum
none-bad l [] good = refl
none-bad l (p ∷ ps) good =
    let first : bad l p ≡ 0 = ap (λ b. cond b 0 1) (good 0 (omega arith)) in
    let rest = none-bad l ps (λ i below. good (suc i) (omega arith)) in
    omega arith

limits-means : (l : Limits)
    → (limits_ok l ≡ true)
    ↔ ((l.lowest ≤ l.highest) × (l.highest ≤ 7) × (1 ≤ l.tries) × (l.tries ≤ 9))
limits-means l = (
  (λ h.
      let rest = and_right (leb l.lowest l.highest) _ h in
      let tried = both-leb 1 l.tries 9 (and_right (leb l.highest 7) _ rest) in (
        leb-true l.lowest l.highest (and_left _ _ h),
        leb-true l.highest 7 (and_left _ _ rest),
        tried.0,
        tried.1,
      )),
  (λ f.
      and_both _ _ (le-leb l.lowest l.highest f.0)
      (and_both _ _ (le-leb l.highest 7 f.1) (and_both _ _ (le-leb 1 l.tries f.2) (le-leb l.tries 9 f.3)))),
)

marks-means : (inside end : Bool) → (not (inside && end) ≡ true) ↔ ((inside ≡ true) → (end ≡ true) → ⊥)
marks-means true true = ((λ h i e. true≢false (sym h)), (λ f. absurd (f refl refl)))
marks-means true false = ((λ h i e. true≢false (sym e)), (λ f. refl))
marks-means false end = ((λ h i e. true≢false (sym i)), (λ f. refl))

-- "Lowest and highest supported version X, 0 to 7, lowest ≤ highest"; "Level 0 to 4"; mission 0 to 2; "'inside a hole' and 'hole end' are
-- not both 1"; "Four places"; each sound by itself; "no partner has two places"; Q-2, Q-3: the last known RBC has not the reserved number,
-- tries 1 to 9
-- promise
pub sound-means : (s : State)
    → (sound s ≡ true)
    ↔ (((s.limits.lowest ≤ s.limits.highest) × (s.limits.highest ≤ 7) × (1 ≤ s.limits.tries) × (s.limits.tries ≤ 9))
    × ((s.train.level ≤ 4) × (s.train.mission ≤ 2))
    × (s.marks.inside ≡ true → s.marks.end ≡ true → ⊥)
    × (length s.places ≡ 4)
    × ((i : ℕ) → i < 4 → place_ok s.limits (get_or s.places i vacant) ≡ true)
    × ((p : Partner) → sum (here (holds p)) s.places ≤ 1)
    × (last_ok s.last ≡ true))
sound-means s = (
  (λ ok.
      let f = sound-facts s ok in
      let four = f.four in (
        (limits-means s.limits).0 f.limits,
        (
          leb-true s.train.level 4 (and_left _ _ f.train),
          leb-true s.train.mission 2 (and_right (leb s.train.level 4) _ f.train),
        ),
        (marks-means s.marks.inside s.marks.end).0 f.marks,
        four,
        (λ i below. place_at s.limits s.places i f.places (omega arith)),
        f.places.1,
        f.last,
      )),
  (λ f.
      let four = f.3 in
      facts-sound s
      (record {
        limits = (limits-means s.limits).1 f.0;
        train = and_both _ _ (le-leb s.train.level 4 f.1.0) (le-leb s.train.mission 2 f.1.1);
        marks = (marks-means s.marks.inside s.marks.end).1 f.2;
        four = four;
        places = (none-bad s.limits s.places (λ i below. f.4 i (omega arith)), f.5);
        last = f.6;
      })),
)
