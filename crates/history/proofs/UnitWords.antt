-- Cross-checks only: rules told a second time.
-- What words of the promises on a step and on a run mean, in the paper's numbers.
-- Proves: kept-means, numbered-means, stands-means, says-means, concern-means, concern_of-means, was_free-means, is_closed_by-means,
-- weigh-more, here-means, run_code-means, all_codes-means, stops_by-means, steps_of-more, sum_of-more, course-more, steps-more,
-- meant_lines-codes.
use mathlib.Core.Path.{◌≡◌, refl, sym, ap, ◌∙◌, subst⁻¹}
use mathlib.Core.Logic.{◌↔◌, ◌⊎◌, inl, inr, ⊎_elim}
use mathlib.Core.Bool.{Bool, true, false, ◌&&◌, ◌||◌}
use mathlib.Core.List.{List, [], ◌∷◌, map}
use Prim.Native.Nat.{ℕ, zero, suc, ◌+◌, ◌≤◌, ◌<◌, suc-le-suc}
use native.Mathlib.Nat.{le_of_suc-le-suc}
use native.Mathlib.Omega.{arith}
use lib.Dec.{eqb, leb}
use lib.ListN.{length, get_or, take, drop}
use borrow.Author.Tests.{eqb-true, eqb-false, eq-eqb, leb-true, le-leb}
use Rattle.wire.specs.Bytes.{byte}
use Rattle.wire.proofs.Tests.{and_left, and_right, and_both, true-false}
use Rattle.record.specs.Records.{known, length_of}
use Rattle.record.specs.Takes.{taken, on_taken}
use Rattle.record.specs.declared.partner.Partner.{Partner}
use Rattle.record.specs.declared.event.Cause.{Cause}
use Rattle.record.specs.declared.event.PartnerEvent.{PartnerEvent}
use Rattle.record.specs.declared.event.Event.{Event}
use Rattle.record.specs.declared.event.Event.TheVariants.{Level, Mission, Mode, Hole, Order, EndAll, Call, Named}
use Rattle.record.specs.Readings.{Reading}
use Rattle.record.specs.Readings.{Meant, Refused}
use Rattle.record.specs.Takes.{Taken}
use Rattle.record.specs.Takes as taking
use Rattle.record.specs.Takes.{Whole, Stopped}
use Rattle.record.proofs.Partners.{same_refl, same-eq}
use Rattle.record.proofs.Bodies.{known-means}
use Rattle.place.specs.Places.{phase_number, vacant, seat, is_free, held_phase, holds}
use Rattle.place.specs.Table.{closes}
use Rattle.place.specs.declared.phase.Phase.{Phase}
use Rattle.place.specs.declared.place.Direction.{Direction}
use Rattle.place.specs.declared.place.Holding.{Holding}
use Rattle.place.specs.declared.place.Holding.TheVariants.{Free, Held}
use Rattle.place.specs.declared.place.Place.{Place}
use Rattle.place.specs.declared.turn.Closing.{Closing}
use Rattle.unit.specs.Kept.{here}
use Rattle.unit.specs.Examples.{meant_lines, want}
use Rattle.unit.specs.StepWords.{Kept, is_closed_by, WasFree}
use Rattle.wire.specs.Sums.{sum}
use Rattle.wire.specs.Bytes.{as_bit}
use Rattle.unit.specs.Lasts.{meant}
use Rattle.unit.specs.Standings.{Concern, nobody, order_to, call_of, naming, concern, concern_of, Numbered, Stands, Says}
use Rattle.unit.specs.Steps.{Outcome}
use Rattle.unit.specs.OnRecords.{on_record}
use Rattle.unit.specs.Runs.{Course, stops, applies, course}
use Rattle.unit.specs.RunWords.{steps_of, steps, StopsBy}
use Rattle.unit.specs.RunWords.{run_code, all_codes}
use Rattle.unit.specs.declared.last.Last.{Last}
use Rattle.unit.specs.declared.search.Standing.{Standing}
use Rattle.unit.specs.declared.state.State.{State}

-- a step keeps what it was given, the state and no action, unless its code is 0
-- meaning
pub kept-means : (s : State) (o : Outcome) → Kept s o ↔ ((o.code ≡ 0) ⊎ ((o.state ≡ s) × (o.actions ≡ [])))
kept-means s o = (by (eqb o.code 0) refl, back)
  where
    by : (b : Bool) → eqb o.code 0 ≡ b → Kept s o → (o.code ≡ 0) ⊎ ((o.state ≡ s) × (o.actions ≡ []))
    by true is h = inl (eqb-true o.code 0 is)
    by false is h = inr (h (eqb-false o.code 0 is))

    back : (o.code ≡ 0) ⊎ ((o.state ≡ s) × (o.actions ≡ [])) → Kept s o
    back (inl is) other = absurd (other is)
    back (inr same) other = same

-- "Refusals 5 and 7"
-- meaning
pub numbered-means : (r : ℕ) → Numbered r ↔ ((r ≡ 5) ⊎ (r ≡ 7))
numbered-means r = ((λ h. h), (λ h. h))

-- a place that holds a partner is a seat of it
held : (p : Partner) (k : Holding)
    → holds p (record { holding = k }) ≡ true
    → (d : Direction) × (ph : Phase) × (◌≡◌ {A = Place} (record { holding = k }) (seat d ph p))
held p Free h = true-false false h refl
held p (Held d ph q) h = (d, ph, ap (seat d ph) (sym (same-eq p q h)))

-- a standing is the number, 0 to 3, of a place that is a seat of the partner, and the number of its phase
-- meaning
pub stands-means : (ps : List Place) (p : Partner) (w : Standing)
    → Stands ps p w
    ↔ ((d : Direction)
    × (ph : Phase)
    × (w.place < 4)
    × (get_or ps w.place vacant ≡ seat d ph p)
    × (w.phase ≡ phase_number ph))
stands-means ps p w = (
  (λ h.
      let at = held p (get_or ps w.place vacant).holding h.1 in
      (at.0, at.1, h.0, at.2, h.2 ∙ ap (λ place. phase_number (held_phase place)) at.2)),
  (λ h.
      (h.2, ap (holds p) h.3 ∙ same_refl p, h.4 ∙ ap (λ place. phase_number (held_phase place)) (sym h.3))),
)

-- an answer says where the partner stands of an order, of a call or of a named event, and where it concerns nobody nothing
-- meaning
pub says-means : (ps : List Place) (c : Concern) (w : Standing)
    → Says ps c w
    ↔ ((p : Partner)
    × ((c ≡ order_to p) ⊎ ((c ≡ call_of p) ⊎ ((e : PartnerEvent) × (c ≡ naming p e))))
    × Stands ps p w)
says-means ps c w = (
  is c,
  (λ h.
      ⊎_elim (λ at. subst⁻¹ (λ c. Says ps c w) at h.2)
      (⊎_elim (λ at. subst⁻¹ (λ c. Says ps c w) at h.2) (λ at. subst⁻¹ (λ c. Says ps c w) at.1 h.2))
      h.1),
)
  where
    is : (c : Concern)
        → Says ps c w
        → (p : Partner)
        × ((c ≡ order_to p) ⊎ ((c ≡ call_of p) ⊎ ((e : PartnerEvent) × (c ≡ naming p e))))
        × Stands ps p w
    is nobody h = absurd h
    is (order_to p) h = (p, inl refl, h)
    is (call_of p) h = (p, inr (inl refl), h)
    is (naming p e) h = (p, inr (inr (e, refl)), h)

-- an order concerns the partner that it means, a call and a named event theirs, and any other event nobody
-- meaning
pub concern-means : (last : Last)
    → ((level : ℕ) (manual : Bool) → concern last (Level level manual) ≡ nobody)
    × ((mission : ℕ) → concern last (Mission mission) ≡ nobody)
    × (concern last Mode ≡ nobody)
    × ((entered : Bool) → concern last (Hole entered) ≡ nobody)
    × ((p : Partner) (accepting : Bool) (cause : Cause) → concern last (Order p accepting cause) ≡ order_to (meant last p))
    × (concern last EndAll ≡ nobody)
    × ((p : Partner) → concern last (Call p) ≡ call_of p)
    × ((p : Partner) (e : PartnerEvent) → concern last (Named p e) ≡ naming p e)
concern-means last = (
  (λ level manual. refl),
  (λ mission. refl),
  refl,
  (λ entered. refl),
  (λ p accepting cause. refl),
  refl,
  (λ p. refl),
  (λ p e. refl),
)

-- a record concerns whom its event does, and a refused one nobody
-- meaning
pub concern_of-means : (last : Last)
    → ((e : Event) → concern_of last (Meant e) ≡ concern last e) × ((r : ℕ) → concern_of last (Refused r) ≡ nobody)
concern_of-means last = ((λ e. refl), (λ r. refl))

-- every seat of the partner after a step with code 0 was vacant before it
-- meaning
pub was_free-means : (s : State) (p : Partner) (o : Outcome)
    → WasFree s p o
    ↔ (o.code ≡ 0
    → (i : ℕ) (d : Direction) (ph : Phase)
    → get_or o.state.places i vacant ≡ seat d ph p
    → get_or s.places i vacant ≡ vacant)
was_free-means s p o = (
  (λ h done i d ph is. freed (get_or s.places i vacant).holding (h done i (ap (holds p) is ∙ same_refl p))),
  (λ h done i is.
      let at = held p (get_or o.state.places i vacant).holding is in
      ap is_free (h done i at.0 at.1 at.2)),
)
  where
    freed : (k : Holding) → is_free (record { holding = k }) ≡ true → ◌≡◌ {A = Place} (record { holding = k }) vacant
    freed Free h = refl
    freed (Held d ph q) h = true-false false h refl

-- a closing is for a place that is a seat with a phase and a partner that it closes, and for no vacant one
-- meaning
pub is_closed_by-means : (which : Closing) (place : Place)
    → (is_closed_by which place ≡ true)
    ↔ ((d : Direction) × (ph : Phase) × (p : Partner) × (place ≡ seat d ph p) × (closes which ph p ≡ true))
is_closed_by-means which place = (is place.holding, λ h. ap (is_closed_by which) h.3 ∙ h.4)
  where
    is : (k : Holding)
        → is_closed_by which (record { holding = k }) ≡ true
        → (d : Direction)
        × (ph : Phase)
        × (p : Partner)
        × (◌≡◌ {A = Place} (record { holding = k }) (seat d ph p))
        × (closes which ph p ≡ true)
    is Free h = true-false false h refl
    is (Held d ph p) h = (d, ph, p, refl, h)

-- the sum of a weight: 0 of no place, and with each place its own more
-- meaning
pub weigh-more : (f : Place → ℕ)
    → (sum f [] ≡ 0) × ((p : Place) (ps : List Place) → sum f (p ∷ ps) ≡ f p + sum f ps)
unfolding sum
weigh-more f = (refl, λ p ps. refl)

-- a place that passes the test counts 1, and any other 0
-- meaning
pub here-means : (test : Place → Bool) (p : Place)
    → ((here test p ≡ 1) ↔ (test p ≡ true)) × ((here test p ≡ 0) ↔ (test p ≡ false))
here-means test p = by (test p)
  where
    by : (b : Bool) → ((as_bit b ≡ 1) ↔ (b ≡ true)) × ((as_bit b ≡ 0) ↔ (b ≡ false))
    by true = (((λ h. refl), (λ h. refl)), ((λ h. absurd (omega arith)), (λ h. true-false true refl h)))
    by false = (((λ h. absurd (omega arith)), (λ h. true-false false h refl)), ((λ h. refl), (λ h. refl)))

-- a test that passes, of two
or_case : (a b : Bool) → (a || b) ≡ true → (a ≡ true) ⊎ (b ≡ true)
or_case true b h = inl refl
or_case false b h = inr h

or-first : (a b : Bool) → a ≡ true → (a || b) ≡ true
or-first true b h = refl
or-first false b h = true-false false h refl

or_later : (a b : Bool) → b ≡ true → (a || b) ≡ true
or_later true b h = refl
or_later false b h = h

-- a step of a run has code 0, 3 to 9, or 15
-- meaning
pub run_code-means : (c : ℕ) → (run_code c ≡ true) ↔ ((c ≡ 0) ⊎ (((3 ≤ c) × (c ≤ 9)) ⊎ (c ≡ 15)))
run_code-means c = (
  (λ h. ⊎_elim (λ none. inl (eqb-true c 0 none)) (λ more. inr (later more)) (or_case (eqb c 0) _ h)),
  ⊎_elim (λ none. or-first (eqb c 0) _ (eq-eqb c 0 none)) (λ more. or_later (eqb c 0) _ (back more)),
)
  where
    between : Bool
    between = leb 3 c && leb c 9

    later : (between || eqb c 15) ≡ true → ((3 ≤ c) × (c ≤ 9)) ⊎ (c ≡ 15)
    later h =
        ⊎_elim
        (λ both. inl (leb-true 3 c (and_left (leb 3 c) (leb c 9) both), leb-true c 9 (and_right (leb 3 c) (leb c 9) both)))
        (λ last. inr (eqb-true c 15 last))
        (or_case between (eqb c 15) h)

    back : ((3 ≤ c) × (c ≤ 9)) ⊎ (c ≡ 15) → (between || eqb c 15) ≡ true
    back =
        ⊎_elim (λ both. or-first between (eqb c 15) (and_both _ _ (le-leb 3 c both.0) (le-leb c 9 both.1)))
        (λ last. or_later between (eqb c 15) (eq-eqb c 15 last))

-- all steps have such a code: the one at each number below their count
-- meaning
pub all_codes-means : (os : List Outcome) (o : Outcome)
    → (all_codes os ≡ true) ↔ ((i : ℕ) → i < length os → run_code (get_or os i o).code ≡ true)
unfolding all_codes
all_codes-means [] o = ((λ h i below. absurd (omega arith)), (λ h. refl))
all_codes-means (first ∷ os) o =
    let rest = all_codes-means os o in (
      there rest.0,
      (λ h.
          and_both (run_code first.code) (all_codes os) (h 0 (omega arith))
          (rest.1 (λ i below. h (suc i) (suc-le-suc below)))),
    )
  where
    there : (all_codes os ≡ true → (i : ℕ) → i < length os → run_code (get_or os i o).code ≡ true)
        → (run_code first.code && all_codes os) ≡ true
        → (i : ℕ)
        → i < suc (length os)
        → run_code (get_or (first ∷ os) i o).code ≡ true
    there rest h zero below = and_left (run_code first.code) (all_codes os) h
    there rest h (suc i) below = rest (and_right (run_code first.code) (all_codes os) h) i (le_of_suc-le-suc below)

-- 0: nothing left; 1: the budget read; 2 and 3: less read, a kind 1 to 11 with fewer bytes left than its length, and any other kind
-- meaning
pub stops_by-means : (budget read : ℕ) (log : List ℕ)
    → (StopsBy budget read 0 log ↔ (length log ≡ 0))
    × (StopsBy budget read 1 log ↔ ((0 < length log) × (read ≡ budget)))
    × (StopsBy budget read 2 log
    ↔ ((0 < length log) × (read < budget) × ((1 ≤ byte log 0) × (byte log 0 ≤ 11)) × (length log < length_of (byte log 0))))
    × (StopsBy budget read 3 log ↔ ((0 < length log) × (read < budget) × ((1 ≤ byte log 0) × (byte log 0 ≤ 11) → ⊥)))
    × ((stop : ℕ) → 4 ≤ stop → StopsBy budget read stop log → ⊥)
stops_by-means budget read [] = (
  ((λ h. refl), (λ h. refl)),
  ((λ h. absurd (omega arith)), (λ h. absurd (none h.0))),
  ((λ h. absurd (omega arith)), (λ h. absurd (none h.0))),
  ((λ h. absurd (omega arith)), (λ h. absurd (none h.0))),
  (λ stop more h. omega arith),
)
  where
    none : 0 < 0 → ⊥
    none h = omega arith
stops_by-means budget read (kind ∷ rest) = (
  ((λ h. absurd (zeroth h)), (λ h. absurd (omega arith))),
  ((λ h. (omega arith, first h)), (λ h. inl (refl, h.1))),
  ((λ h. second h), (λ h. inr (h.1, inr (refl, (known-means kind).1 h.2, h.3)))),
  ((λ h. third h), (λ h. inr (h.1, inl (refl, unknown (known kind) refl h.2)))),
  other,
)
  where
    zeroth : StopsBy budget read 0 (kind ∷ rest) → ⊥
    zeroth (inl (is, all)) = omega arith
    zeroth (inr (less, inl (is, un))) = omega arith
    zeroth (inr (less, inr (is, kn, short))) = omega arith

    first : StopsBy budget read 1 (kind ∷ rest) → read ≡ budget
    first (inl (is, all)) = all
    first (inr (less, inl (is, un))) = absurd (omega arith)
    first (inr (less, inr (is, kn, short))) = absurd (omega arith)

    second : StopsBy budget read 2 (kind ∷ rest)
        → (0 < suc (length rest)) × (read < budget) × ((1 ≤ kind) × (kind ≤ 11)) × (suc (length rest) < length_of kind)
    second (inl (is, all)) = absurd (omega arith)
    second (inr (less, inl (is, un))) = absurd (omega arith)
    second (inr (less, inr (is, kn, short))) = (omega arith, less, (known-means kind).0 kn, short)

    third : StopsBy budget read 3 (kind ∷ rest)
        → (0 < suc (length rest)) × (read < budget) × ((1 ≤ kind) × (kind ≤ 11) → ⊥)
    third (inl (is, all)) = absurd (omega arith)
    third (inr (less, inl (is, un))) = (omega arith, less, λ in_table. true-false (known kind) ((known-means kind).1 in_table) un)
    third (inr (less, inr (is, kn, short))) = absurd (omega arith)

    other : (stop : ℕ) → 4 ≤ stop → StopsBy budget read stop (kind ∷ rest) → ⊥
    other stop more (inl (is, all)) = omega arith
    other stop more (inr (less, inl (is, un))) = omega arith
    other stop more (inr (less, inr (is, kn, short))) = omega arith

    unknown : (b : Bool) → known kind ≡ b → ((1 ≤ kind) × (kind ≤ 11) → ⊥) → b ≡ false
    unknown true is not_in = absurd (not_in ((known-means kind).0 is))
    unknown false is not_in = refl

-- the steps of a course: none where it stops, and one with each record applied, in turn
-- meaning
pub steps_of-more :
    ((stop : ℕ) → steps_of (stops stop) ≡ [])
    × ((bytes : List ℕ) (o : Outcome) (rest : Course) → steps_of (applies bytes o rest) ≡ o ∷ steps_of rest)
unfolding steps_of
steps_of-more = ((λ stop. refl), (λ bytes o rest. refl))

-- a sum over steps: 0 of none, and with each step its own more
-- meaning
pub sum_of-more : (w : Outcome → ℕ)
    → (sum w [] ≡ 0) × ((o : Outcome) (os : List Outcome) → sum w (o ∷ os) ≡ w o + sum w os)
unfolding sum
sum_of-more w = (refl, λ o os. refl)

-- the course of a run: stop 0 or 1 with no budget left, else what was taken off the front, applied with 20 bytes, or the stop
-- meaning
pub course-more : (s : State) (log : List ℕ)
    → (course 0 s [] ≡ stops 0)
    × ((kind : ℕ) (rest : List ℕ) → course 0 s (kind ∷ rest) ≡ stops 1)
    × ((budget k : ℕ) (r : Reading)
    → taken log ≡ Whole k r
    → course (suc budget) s log
    ≡ applies (take k log) (on_record s (take k log) 20) (course budget (on_record s (take k log) 20).state (drop k log)))
    × ((budget stop : ℕ) → taken log ≡ Stopped stop → course (suc budget) s log ≡ stops stop)
    × ((budget r : ℕ) → taken log ≡ taking.Overlong r → course (suc budget) s log ≡ stops r)
unfolding course
course-more s log =
    (refl, (λ kind rest. refl), (λ budget k r. ap (on budget)), (λ budget stop. ap (on budget)), (λ budget r. ap (on budget)))
  where
    on : ℕ → Taken → Course
    on budget t =
        on_taken t stops
        (λ k. applies (take k log) (on_record s (take k log) 20) (course budget (on_record s (take k log) 20).state (drop k log)))

-- the steps of a run: none with no budget left, none where no record is taken, else that on the record, given 20 bytes, and those after
-- meaning
pub steps-more : (s : State) (log : List ℕ)
    → (steps 0 s log ≡ [])
    × ((budget k : ℕ) (r : Reading)
    → taken log ≡ Whole k r
    → steps (suc budget) s log ≡ on_record s (take k log) 20 ∷ steps budget (on_record s (take k log) 20).state (drop k log))
    × ((budget stop : ℕ) → taken log ≡ Stopped stop → steps (suc budget) s log ≡ [])
    × ((budget r : ℕ) → taken log ≡ taking.Overlong r → steps (suc budget) s log ≡ [])
unfolding course steps_of
steps-more s log =
    let by = course-more s log in (
      none log,
      (λ budget k r is. ap steps_of (by.2 budget k r is)),
      (λ budget stop is. ap steps_of (by.3 budget stop is)),
      (λ budget r is. ap steps_of (by.4 budget r is)),
    )
  where
    none : (log : List ℕ) → steps 0 s log ≡ []
    none [] = refl
    none (kind ∷ rest) = refl

-- the lines on the meant partner of Q-2, by the numbers that they say
-- meaning
pub meant_lines-codes :
    map (λ lines. map (λ (o : Outcome). o.code) (want lines)) meant_lines
    ≡ (15 ∷ 4 ∷ 3 ∷ 0 ∷ 0 ∷ 0 ∷ 0 ∷ 5 ∷ 3 ∷ 0 ∷ 0 ∷ []) ∷ (0 ∷ 0 ∷ 0 ∷ 0 ∷ 15 ∷ []) ∷ []
unfolding meant_lines want
meant_lines-codes = refl
