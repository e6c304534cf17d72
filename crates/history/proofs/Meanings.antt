-- Cross-checks only: rules told a second time.
-- What demand 3 counts, in the paper's numbers: a record by its bytes, an action by its number, a place by its phase, and how each count
-- goes on with one record, one action or one place more.
-- Proves: is_order-means, is_call-means, is_loss-means, is_release-means, release_of-means, waiting_phase-means, holds_place-means,
-- waits-means, places_held-more, held_tries-means, count-more, after_more, orders-more, calls-more, losses-more, orders_of-more,
-- calls_of-more, losses_of-more, actions-more, actions_of-more, releases-more, releases_of-more, sent-more, bounds-in-n,
-- one_to_nine-means, started-means, rbc5-means, held_to-means, sums_of-means.
use mathlib.Core.Path.{◌≡◌, refl, sym, ap, ◌∙◌}
use mathlib.Core.Logic.{◌↔◌}
use mathlib.Core.Bool.{Bool, true, false, cond, ◌&&◌, ◌||◌}
use mathlib.Core.List.{List, [], ◌∷◌, ◌++◌, append-nil, append_assoc}
use Prim.Native.Nat.{ℕ, zero, suc, ◌+◌, ◌-◌, ◌*◌, ◌≤◌, ◌<◌}
use native.Mathlib.Omega.{arith}
use lib.Dec.{eqb, leb}
use lib.ListN.{length, get_or, replicate}
use borrow.Author.Tests.{eqb-true, eq-eqb, le-leb}
use Rattle.wire.specs.Bytes.{byte}
use Rattle.wire.specs.Refusals.{accepted, bad_limits}
use Rattle.wire.proofs.Tests.{and_left, and_right, and_both, true-false}
use Rattle.record.specs.Partners.{same_partner}
use Rattle.record.specs.declared.partner.Partner.{Partner}
use Rattle.record.proofs.Partners.{same_refl, same-eq}
use Rattle.place.specs.Places.{phase_number, vacant, seat, held_phase, holds}
use Rattle.place.specs.declared.phase.Phase.{Phase}
use Rattle.place.specs.declared.phase.Phase.TheVariants.{Connecting, Contacting, Open, Lost, Ending}
use Rattle.place.specs.declared.place.Direction.{Direction}
use Rattle.place.specs.declared.place.Holding.{Holding}
use Rattle.place.specs.declared.place.Holding.TheVariants.{Free, Held}
use Rattle.place.specs.declared.place.Place.{Place}
use Rattle.unit.specs.Kept.{count}
use Rattle.unit.specs.Steps.{Outcome}
use Rattle.unit.specs.States.{some, no_limits, cold, cold_start}
use Rattle.unit.specs.OnRecords.{on_record}
use Rattle.unit.specs.declared.start.Started.{Started}
use Rattle.unit.specs.declared.state.State.{State}
use Rattle.unit.specs.declared.answer.Action.{Action}
use Rattle.history.specs.Counting.{OneMore}
use Rattle.history.specs.Histories.{after, summed, is_order, is_call, is_loss, accepted_as, orders, calls, losses}
use Rattle.history.specs.Histories.{actions, is_release, releases, places_held, names, holds_place, waiting_phase, waits_at, waits}
use Rattle.history.specs.Histories.{release_of, releases_of, actions_of}
use Rattle.history.specs.PerEvent.{held_tries}
use Rattle.history.specs.PerEvent.{per_order, per_call, per_loss, timeouts_to_release}
use Rattle.history.specs.Histories.{orders_of, calls_of, losses_of, sent}
use Rattle.history.specs.Histories.{silent, timeouts}
use Rattle.history.specs.Reaching.{rbc5, one_to_nine, HeldTo}
use Rattle.history.specs.Sums.{started, sums_of, counts}
use Rattle.unit.specs.States.{one_to_two}
use Rattle.history.proofs.Naming.{one_more}

-- kind 5 is an order
-- meaning
pub is_order-means : (bytes : List ℕ) → (is_order bytes ≡ true) ↔ (byte bytes 0 ≡ 5)
is_order-means bytes = (eqb-true (byte bytes 0) 5, eq-eqb (byte bytes 0) 5)

-- kind 11 with number 38 is a call
-- meaning
pub is_call-means : (bytes : List ℕ) → (is_call bytes ≡ true) ↔ ((byte bytes 0 ≡ 11) × (byte bytes 5 ≡ 38))
is_call-means bytes = (
  (λ h. (
    eqb-true (byte bytes 0) 11 (and_left _ (eqb (byte bytes 5) 38) h),
    eqb-true (byte bytes 5) 38 (and_right (eqb (byte bytes 0) 11) _ h),
  )),
  (λ h. and_both _ _ (eq-eqb (byte bytes 0) 11 h.0) (eq-eqb (byte bytes 5) 38 h.1)),
)

-- kind 9 is a loss
-- meaning
pub is_loss-means : (bytes : List ℕ) → (is_loss bytes ≡ true) ↔ (byte bytes 0 ≡ 9)
is_loss-means bytes = (eqb-true (byte bytes 0) 9, eq-eqb (byte bytes 0) 9)

-- "releases the actions 22"
-- meaning
pub is_release-means : (a : Action) → (is_release a ≡ true) ↔ (a.number ≡ 22)
is_release-means a = (eqb-true a.number 22, eq-eqb a.number 22)

-- a partner's release: a 22 to that very partner
-- meaning
pub release_of-means : (p : Partner) (a : Action) → (release_of p a ≡ true) ↔ ((a.number ≡ 22) × (p ≡ a.partner))
release_of-means p a = (
  (λ h. (
    eqb-true a.number 22 (and_left _ (same_partner p a.partner) h),
    same-eq p a.partner (and_right (is_release a) _ h),
  )),
  (λ h. and_both _ _ (eq-eqb a.number 22 h.0) (ap (same_partner p) (sym h.1) ∙ same_refl p)),
)

-- "waits (any phase but Open)", which is 3
-- meaning
pub waiting_phase-means : (ph : Phase) → (waiting_phase ph ≡ true) ↔ (phase_number ph ≡ 3 → ⊥)
waiting_phase-means (Connecting t) = ((λ h three. omega arith), (λ other. refl))
waiting_phase-means (Contacting t) = ((λ h three. omega arith), (λ other. refl))
waiting_phase-means Open = ((λ h three. true-false false h refl), (λ other. absurd (other refl)))
waiting_phase-means (Lost t) = ((λ h three. omega arith), (λ other. refl))
waiting_phase-means (Ending t) = ((λ h three. omega arith), (λ other. refl))

-- some place passes a test exactly where one of a number does; a vacant one must not
some_at : (test : Place → Bool)
    → test vacant ≡ false
    → (ps : List Place)
    → (some test ps ≡ true) ↔ ((i : ℕ) × (test (get_or ps i vacant) ≡ true))
unfolding some
some_at test none [] = ((λ h. true-false false h refl), (λ h. true-false (test vacant) h.1 none))
some_at test none (place ∷ ps) =
    let rest = some_at test none ps in
    (there (test place) refl rest.0, (λ h. back h.0 h.1 rest.1))
  where
    there : (b : Bool)
        → test place ≡ b
        → (some test ps ≡ true → (i : ℕ) × (test (get_or ps i vacant) ≡ true))
        → (b || some test ps) ≡ true
        → (i : ℕ) × (test (get_or (place ∷ ps) i vacant) ≡ true)
    there true is rest h = (0, is)
    there false is rest h = (suc (rest h).0, (rest h).1)

    first : (b c : Bool) → b ≡ true → (b || c) ≡ true
    first true c h = refl
    first false c h = true-false false h refl

    later : (b c : Bool) → c ≡ true → (b || c) ≡ true
    later true c h = refl
    later false c h = h

    back : (i : ℕ)
        → test (get_or (place ∷ ps) i vacant) ≡ true
        → ((i : ℕ) × (test (get_or ps i vacant) ≡ true) → some test ps ≡ true)
        → (test place || some test ps) ≡ true
    back zero h rest = first (test place) (some test ps) h
    back (suc i) h rest = later (test place) (some test ps) (rest (i, h))

-- a partner holds a place: one of them is a seat of it, with some direction and phase
-- meaning
pub holds_place-means : (p : Partner) (ps : List Place)
    → (holds_place p ps ≡ true) ↔ ((i : ℕ) × (d : Direction) × (ph : Phase) × (get_or ps i vacant ≡ seat d ph p))
holds_place-means p ps =
    let found = some_at (holds p) refl ps in (
      (λ h.
          let at = held (get_or ps (found.0 h).0 vacant).holding (found.0 h).1 in
          ((found.0 h).0, at.0, at.1, at.2)),
      (λ h. found.1 (h.0, ap (holds p) h.3 ∙ same_refl p)),
    )
  where
    held : (k : Holding)
        → holds p (record { holding = k }) ≡ true
        → (d : Direction) × (ph : Phase) × (◌≡◌ {A = Place} (record { holding = k }) (seat d ph p))
    held Free h = true-false false h refl
    held (Held d ph q) h = (d, ph, ap (seat d ph) (sym (same-eq p q h)))

-- a partner waits: it has such a seat in a phase that is not 3, with any number of tries
-- meaning
pub waits-means : (p : Partner) (ps : List Place)
    → (waits p ps ≡ true)
    ↔ ((i : ℕ) × (d : Direction) × (ph : Phase) × (get_or ps i vacant ≡ seat d ph p) × (phase_number ph ≡ 3 → ⊥))
waits-means p ps =
    let found = some_at (waits_at p) refl ps in (
      (λ h.
          let at = held (get_or ps (found.0 h).0 vacant).holding (found.0 h).1 in
          ((found.0 h).0, at.0, at.1, at.2, at.3)),
      (λ h. found.1 (h.0, ap (waits_at p) h.3 ∙ and_both _ _ (same_refl p) ((waiting_phase-means h.2).1 h.4))),
    )
  where
    held : (k : Holding)
        → waits_at p (record { holding = k }) ≡ true
        → (d : Direction)
        × (ph : Phase)
        × (◌≡◌ {A = Place} (record { holding = k }) (seat d ph p))
        × (phase_number ph ≡ 3 → ⊥)
    held Free h = true-false false h refl
    held (Held d ph q) h = (
      d,
      ph,
      ap (seat d ph) (sym (same-eq p q (and_left (same_partner p q) (waiting_phase ph) h))),
      (waiting_phase-means ph).0 (and_right (same_partner p q) (waiting_phase ph) h),
    )

-- the places held: none of none, a vacant one counts nothing, and each other one counts one
-- meaning
pub places_held-more :
    (places_held [] ≡ 0)
    × ((ps : List Place) → places_held (vacant ∷ ps) ≡ places_held ps)
    × ((d : Direction) (ph : Phase) (p : Partner) (ps : List Place) → places_held (seat d ph p ∷ ps) ≡ 1 + places_held ps)
unfolding places_held
places_held-more = (refl, (λ ps. omega arith), (λ d ph p ps. omega arith))

-- the tries used at a place: those of its phase, and 0 in Open and where it is vacant
-- meaning
pub held_tries-means : (d : Direction) (p : Partner) (t : ℕ)
    → (held_tries (seat d (Connecting t) p) ≡ t)
    × (held_tries (seat d (Contacting t) p) ≡ t)
    × (held_tries (seat d Open p) ≡ 0)
    × (held_tries (seat d (Lost t) p) ≡ t)
    × (held_tries (seat d (Ending t) p) ≡ t)
    × (held_tries vacant ≡ 0)
held_tries-means d p t = (refl, refl, refl, refl, refl, refl)

-- how many actions pass a test: none of none, and one more with each that does
-- meaning
pub count-more : (test : Action → Bool)
    → (count test [] ≡ 0)
    × ((a : Action) (acts : List Action) → OneMore (test a ≡ true) (count test acts) (count test (a ∷ acts)))
unfolding count
count-more test =
    (refl, λ a acts. one_more _ (test a) (λ is. is) (λ is. is) (count test acts) (count test (a ∷ acts)) (omega arith))

-- "All counted from the steps": the state after one record more is that of the step on it, with 20 bytes for its actions
-- meaning
pub after_more : (s : State)
    → (after s [] ≡ s)
    × ((history : List (List ℕ)) (bytes : List ℕ)
    → after s (history ++ (bytes ∷ [])) ≡ (on_record (after s history) bytes 20).state)
unfolding after
after_more s = (refl, by s)
  where
    by : (s : State) (history : List (List ℕ)) (bytes : List ℕ)
        → after s (history ++ (bytes ∷ [])) ≡ (on_record (after s history) bytes 20).state
    by s [] bytes = refl
    by s (first ∷ history) bytes = by (on_record s first 20).state history bytes

-- any sum goes on with what the record counts for
summed-more : (f : State → List ℕ → Outcome → ℕ) (s : State) (history : List (List ℕ)) (bytes : List ℕ)
    → summed f s (history ++ (bytes ∷ [])) ≡ summed f s history + f (after s history) bytes (on_record (after s history) bytes 20)
unfolding summed after
summed-more f s [] bytes = omega arith
summed-more f s (first ∷ history) bytes =
    let rest = summed-more f (on_record s first 20).state history bytes in
    omega arith

summed-none : (f : State → List ℕ → Outcome → ℕ) (s : State) → summed f s [] ≡ 0
unfolding summed
summed-none f s = refl

module _ (s : State) where
  -- a count of accepted records goes on with those that pass the test and are accepted
  accepted-more : (test : State → List ℕ → Bool) (P : State → List ℕ → Type 0)
      → ((s : State) (bytes : List ℕ) → (test s bytes ≡ true) ↔ P s bytes)
      → (history : List (List ℕ)) (bytes : List ℕ)
      → OneMore (P (after s history) bytes × ((on_record (after s history) bytes 20).code ≡ 0))
      (summed (accepted_as test) s history)
      (summed (accepted_as test) s (history ++ (bytes ∷ [])))
  accepted-more test P means history bytes =
      let t = test (after s history) bytes in
      let code = (on_record (after s history) bytes 20).code in
      one_more _ (t && eqb code 0)
      (λ h. ((means (after s history) bytes).0 (and_left t (eqb code 0) h), eqb-true code 0 (and_right t (eqb code 0) h)))
      (λ h. and_both t (eqb code 0) ((means (after s history) bytes).1 h.0) (eq-eqb code 0 h.1))
      _ _ (summed-more (accepted_as test) s history bytes)

  -- "for each order accepted": kind 5 with code 0
  -- meaning
  pub orders-more :
      (orders s [] ≡ 0)
      × ((history : List (List ℕ)) (bytes : List ℕ)
      → OneMore ((byte bytes 0 ≡ 5) × ((on_record (after s history) bytes 20).code ≡ 0))
      (orders s history) (orders s (history ++ (bytes ∷ []))))
  orders-more = (
    summed-none (accepted_as (λ s. is_order)) s,
    accepted-more (λ s. is_order) (λ s bytes. byte bytes 0 ≡ 5) (λ s. is_order-means),
  )

  -- "5 for each accepted call": 38 of kind 11 with code 0
  -- meaning
  pub calls-more :
      (calls s [] ≡ 0)
      × ((history : List (List ℕ)) (bytes : List ℕ)
      → OneMore (((byte bytes 0 ≡ 11) × (byte bytes 5 ≡ 38)) × ((on_record (after s history) bytes 20).code ≡ 0))
      (calls s history) (calls s (history ++ (bytes ∷ []))))
  calls-more = (
    summed-none (accepted_as (λ s. is_call)) s,
    accepted-more (λ s. is_call) (λ s bytes. (byte bytes 0 ≡ 11) × (byte bytes 5 ≡ 38)) (λ s. is_call-means),
  )

  -- "3 for each accepted loss": kind 9 with code 0
  -- meaning
  pub losses-more :
      (losses s [] ≡ 0)
      × ((history : List (List ℕ)) (bytes : List ℕ)
      → OneMore ((byte bytes 0 ≡ 9) × ((on_record (after s history) bytes 20).code ≡ 0))
      (losses s history) (losses s (history ++ (bytes ∷ []))))
  losses-more = (
    summed-none (accepted_as (λ s. is_loss)) s,
    accepted-more (λ s. is_loss) (λ s bytes. byte bytes 0 ≡ 9) (λ s. is_loss-means),
  )

  -- the actions are those of the steps
  -- meaning
  pub actions-more :
      (actions s [] ≡ 0)
      × ((history : List (List ℕ)) (bytes : List ℕ)
      → actions s (history ++ (bytes ∷ [])) ≡ actions s history + length (on_record (after s history) bytes 20).actions)
  actions-more =
      (summed-none (λ s bytes o. length o.actions) s, summed-more (λ s bytes o. length o.actions) s)

  -- and the releases those of their actions that are 22
  -- meaning
  pub releases-more :
      (releases s [] ≡ 0)
      × ((history : List (List ℕ)) (bytes : List ℕ)
      → releases s (history ++ (bytes ∷ []))
      ≡ releases s history + count is_release (on_record (after s history) bytes 20).actions)
  releases-more = (
    summed-none (λ s bytes o. count is_release o.actions) s,
    summed-more (λ s bytes o. count is_release o.actions) s,
  )

  -- the actions of a history, in their order
  -- meaning
  pub sent-more :
      (sent s [] ≡ [])
      × ((history : List (List ℕ)) (bytes : List ℕ)
      → sent s (history ++ (bytes ∷ [])) ≡ sent s history ++ (on_record (after s history) bytes 20).actions)
  unfolding sent after
  sent-more = (refl, by s)
    where
      by : (s : State) (history : List (List ℕ)) (bytes : List ℕ)
          → sent s (history ++ (bytes ∷ [])) ≡ sent s history ++ (on_record (after s history) bytes 20).actions
      by s [] bytes = append-nil (on_record s bytes 20).actions
      by s (first ∷ history) bytes =
          ap (λ acts. (on_record s first 20).actions ++ acts) (by (on_record s first 20).state history bytes)
          ∙ sym (append_assoc (on_record s first 20).actions _ _)

  -- of one partner: the accepted orders that mean it, and the accepted calls and losses that name it
  module _ (p : Partner) where
    named-too : (test : List ℕ → Bool) (P : List ℕ → Type 0)
        → ((bytes : List ℕ) → (test bytes ≡ true) ↔ P bytes)
        → (s : State) (bytes : List ℕ)
        → ((names p s bytes && test bytes) ≡ true) ↔ ((names p s bytes ≡ true) × P bytes)
    named-too test P means s bytes = (
      (λ h. (and_left (names p s bytes) (test bytes) h, (means bytes).0 (and_right (names p s bytes) (test bytes) h))),
      (λ h. and_both (names p s bytes) (test bytes) h.0 ((means bytes).1 h.1)),
    )

    -- meaning
    pub orders_of-more :
        (orders_of p s [] ≡ 0)
        × ((history : List (List ℕ)) (bytes : List ℕ)
        → OneMore
        (((names p (after s history) bytes ≡ true) × (byte bytes 0 ≡ 5)) × ((on_record (after s history) bytes 20).code ≡ 0))
        (orders_of p s history)
        (orders_of p s (history ++ (bytes ∷ []))))
    orders_of-more = (
      summed-none (accepted_as (λ s bytes. names p s bytes && is_order bytes)) s,
      accepted-more (λ s bytes. names p s bytes && is_order bytes) (λ s bytes. (names p s bytes ≡ true) × (byte bytes 0 ≡ 5))
          (named-too is_order (λ bytes. byte bytes 0 ≡ 5) is_order-means),
    )

    -- meaning
    pub calls_of-more :
        (calls_of p s [] ≡ 0)
        × ((history : List (List ℕ)) (bytes : List ℕ)
        → OneMore
        (((names p (after s history) bytes ≡ true) × ((byte bytes 0 ≡ 11) × (byte bytes 5 ≡ 38)))
        × ((on_record (after s history) bytes 20).code ≡ 0))
        (calls_of p s history)
        (calls_of p s (history ++ (bytes ∷ []))))
    calls_of-more = (
      summed-none (accepted_as (λ s bytes. names p s bytes && is_call bytes)) s,
      accepted-more (λ s bytes. names p s bytes && is_call bytes)
          (λ s bytes. (names p s bytes ≡ true) × ((byte bytes 0 ≡ 11) × (byte bytes 5 ≡ 38)))
          (named-too is_call (λ bytes. (byte bytes 0 ≡ 11) × (byte bytes 5 ≡ 38)) is_call-means),
    )

    -- meaning
    pub losses_of-more :
        (losses_of p s [] ≡ 0)
        × ((history : List (List ℕ)) (bytes : List ℕ)
        → OneMore
        (((names p (after s history) bytes ≡ true) × (byte bytes 0 ≡ 9)) × ((on_record (after s history) bytes 20).code ≡ 0))
        (losses_of p s history)
        (losses_of p s (history ++ (bytes ∷ []))))
    losses_of-more = (
      summed-none (accepted_as (λ s bytes. names p s bytes && is_loss bytes)) s,
      accepted-more (λ s bytes. names p s bytes && is_loss bytes) (λ s bytes. (names p s bytes ≡ true) × (byte bytes 0 ≡ 9))
          (named-too is_loss (λ bytes. byte bytes 0 ≡ 9) is_loss-means),
    )

    -- the actions to it
    -- meaning
    pub actions_of-more :
        (actions_of p s [] ≡ 0)
        × ((history : List (List ℕ)) (bytes : List ℕ)
        → actions_of p s (history ++ (bytes ∷ []))
        ≡ actions_of p s history + count (λ a. same_partner p a.partner) (on_record (after s history) bytes 20).actions)
    actions_of-more = (
      summed-none (λ s bytes o. count (λ a. same_partner p a.partner) o.actions) s,
      summed-more (λ s bytes o. count (λ a. same_partner p a.partner) o.actions) s,
    )

    -- and its releases
    -- meaning
    pub releases_of-more :
        (releases_of p s [] ≡ 0)
        × ((history : List (List ℕ)) (bytes : List ℕ)
        → releases_of p s (history ++ (bytes ∷ []))
        ≡ releases_of p s history + count (release_of p) (on_record (after s history) bytes 20).actions)
    releases_of-more = (
      summed-none (λ s bytes o. count (release_of p) o.actions) s,
      summed-more (λ s bytes o. count (release_of p) o.actions) s,
    )

-- Q-3: "3n + 2 for an order, n + 2 for a call, n for a loss, and n timeouts"
-- meaning
pub bounds-in-n : (n : ℕ)
    → (per_order n ≡ 3 * n + 2) × (per_call n ≡ n + 2) × (per_loss n ≡ n) × (timeouts_to_release n ≡ n)
bounds-in-n n = (refl, refl, refl, refl)

-- "n, 1 to 9": each of them, in its turn, and no other
-- meaning
pub one_to_nine-means : (length one_to_nine ≡ 9) × ((i : ℕ) → i < 9 → get_or one_to_nine i 0 ≡ i + 1)
one_to_nine-means = (refl, at)
  where
    at : (i : ℕ) → i < 9 → get_or one_to_nine i 0 ≡ i + 1
    at zero below = refl
    at (suc zero) below = refl
    at (suc (suc zero)) below = refl
    at (suc (suc (suc zero))) below = refl
    at (suc (suc (suc (suc zero)))) below = refl
    at (suc (suc (suc (suc (suc zero))))) below = refl
    at (suc (suc (suc (suc (suc (suc zero)))))) below = refl
    at (suc (suc (suc (suc (suc (suc (suc zero))))))) below = refl
    at (suc (suc (suc (suc (suc (suc (suc (suc zero)))))))) below = refl
    at (suc (suc (suc (suc (suc (suc (suc (suc (suc i))))))))) below = absurd (omega arith)

-- the histories that are shown begin at a cold start with X 1 to 2 and n tries, which is accepted for each n from 1 to 9
-- meaning
pub started-means : (n : ℕ)
    → 1 ≤ n
    → n ≤ 9
    → ((cold_start (record { lowest = 1; highest = 2; tries = n })).code ≡ 0)
    × (started n ≡ (cold_start (record { lowest = 1; highest = 2; tries = n })).state)
unfolding cold_start
started-means n some-try most =
    let taken : Started = record { code = accepted; state = cold (one_to_two n) } in
    let left : Started = record { code = bad_limits; state = cold no_limits } in
    (ap (λ b. (cond b taken left).code) (and_both (leb 1 n) (leb n 9) (le-leb 1 n some-try) (le-leb n 9 most)), refl)

-- and their partner is RBC 5
-- meaning
pub rbc5-means : rbc5 ≡ record { kind = 0; high = 0; middle = 0; low = 5 }
rbc5-means = refl

-- what `HeldTo` says: the phase after the records, that it waits and is silent, one timeout less than n, and a place held still
-- meaning
pub held_to-means : (n : ℕ) (records : List (List ℕ)) (ph : Phase)
    → HeldTo n records ph
    ↔ ((held_phase (get_or (after (started n) records).places 0 vacant) ≡ ph)
    × (waits rbc5 (after (started n) records).places ≡ true)
    × (silent rbc5 (after (started n) records) (replicate (n - 1) (10 ∷ 0 ∷ 0 ∷ 0 ∷ 5 ∷ [])) ≡ true)
    × (timeouts rbc5 (replicate (n - 1) (10 ∷ 0 ∷ 0 ∷ 0 ∷ 5 ∷ [])) + 1 ≡ n)
    × (holds_place rbc5 (after (after (started n) records) (replicate (n - 1) (10 ∷ 0 ∷ 0 ∷ 0 ∷ 5 ∷ []))).places ≡ true))
held_to-means n records ph = ((λ h. h), (λ h. h))

-- what `sums_of` adds up, and `counts` compares it with
-- meaning
pub sums_of-means : (n : ℕ) (history : List (List ℕ)) (a b c k : ℕ)
    → (sums_of n history ≡ counts a b c k)
    ↔ ((orders (started n) history ≡ a)
    × (calls (started n) history ≡ b)
    × (losses (started n) history ≡ c)
    × (actions (started n) history ≡ k))
unfolding sums_of
sums_of-means n history a b c k = (
  (λ h. (ap (λ x. x.orders) h, ap (λ x. x.calls) h, ap (λ x. x.losses) h, ap (λ x. x.actions) h)),
  (λ h. λ i. record { orders = h.0 i; calls = h.1 i; losses = h.2 i; actions = h.3 i }),
)
