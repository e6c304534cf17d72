-- Cross-checks only: rules told a second time.
-- What an accepted event makes of the places: the partner's place turns, what is closed is closed, and every other place stays.
-- Proves: named-turned, end-all-places, order-closings, order-others, order-holds, call-others.
use mathlib.Core.Path.{◌≡◌, refl, sym, ap, ◌∙◌}
use mathlib.Core.Logic.{◌⊎◌, ⊎_elim}
use mathlib.Core.Bool.{Bool, true, false, cond, ◌&&◌, ◌||◌, not, true≢false}
use mathlib.Core.List.{List, [], ◌∷◌, map}
use Prim.Native.Nat.{ℕ, zero, suc, ◌+◌, ◌≤◌, ◌<◌}
use native.Mathlib.Nat.{le_of_suc-le-suc}
use native.Mathlib.Omega.{arith}
use lib.Dec.{ltb}
use lib.ListN.{length, get_or, set, length-set}
use lib.Seq.{get_or-set_same, get_or-set_other}
use borrow.Author.Tests.{ltb-true, ltb-false}
use Rattle.wire.specs.Refusals.{accepted, not_taken}
use Rattle.wire.proofs.Tests.{cond-case}
use Rattle.record.specs.Partners.{is_rbc}
use Rattle.record.specs.Records.{mission_ended}
use Rattle.record.specs.declared.partner.Partner.{Partner}
use Rattle.record.specs.declared.event.Cause.{Cause}
use Rattle.record.specs.declared.event.PartnerEvent.{PartnerEvent}
use Rattle.record.specs.declared.event.Event.TheVariants.{Mission, Order, EndAll, Call, Named}
use Rattle.record.proofs.Partners.{same_refl}
use Rattle.place.specs.Places.{vacant, seat, on_holding, is_free, held_phase, holds}
use Rattle.place.specs.Table.{first_try, closing, turn, takes, numbers, place_after, closes, closed_by}
use Rattle.place.specs.declared.limits.Limits.{Limits}
use Rattle.place.specs.declared.phase.Phase.{Phase}
use Rattle.place.specs.declared.phase.Phase.TheVariants.{Connecting, Open}
use Rattle.place.specs.declared.place.Direction.{Direction}
use Rattle.place.specs.declared.place.Direction.TheVariants.{Outgoing, Incoming}
use Rattle.place.specs.declared.place.Holding.{Holding}
use Rattle.place.specs.declared.place.Holding.TheVariants.{Free, Held}
use Rattle.place.specs.declared.place.Place.{Place}
use Rattle.place.specs.declared.turn.Turn.TheVariants.{Stays}
use Rattle.place.specs.declared.turn.Closing.TheVariants.{Every, Sessions, Nothing}
use Rattle.unit.specs.Lasts.{meant}
use Rattle.unit.specs.States.{some, first, seek, standing, sound}
use Rattle.unit.specs.Steps.{Outcome, refused_at, act, closed, displaced, ordered_at, called_at}
use Rattle.unit.specs.Searching.{admitted}
use Rattle.unit.specs.Steps.{turned_at, step}
use Rattle.unit.specs.Searching.{named_at}
use Rattle.unit.specs.declared.state.State.{State}
use Rattle.unit.specs.declared.search.Found.{Found}
use Rattle.unit.specs.declared.search.Found.TheVariants.{At, Vacant, Full}
use Rattle.unit.specs.Kept.{here}
use Rattle.wire.specs.Bytes.{as_bit}
use Rattle.wire.specs.Sums.{sum}
use Rattle.unit.proofs.Facts.{PlacesFacts, sound-facts}
use Rattle.unit.proofs.Searches.{FoundOk, first_passes, first-lowest, seek_ok, seek-at}
use Rattle.unit.proofs.Weights.{weigh-at, length-closed, closed_at}
use Rattle.unit.proofs.ByFound.{order-by, call_by, named-found}

-- a place that passes a test is some place that does
some_at : (test : Place → Bool) (ps : List Place) (i : ℕ)
    → i < length ps
    → test (get_or ps i vacant) ≡ true
    → some test ps ≡ true
unfolding some
some_at test [] i below passes = absurd (omega arith)
some_at test (p ∷ ps) zero below passes = ap (λ b. b || some test ps) passes
some_at test (p ∷ ps) (suc i) below passes = by (test p) (some_at test ps i (le_of_suc-le-suc below) passes)
  where
    by : (b : Bool) → some test ps ≡ true → (b || some test ps) ≡ true
    by true rest = refl
    by false rest = rest

-- two places weigh no more than all
weigh-two : (f : Place → ℕ) (ps : List Place) (i j : ℕ)
    → i < j
    → j < length ps
    → f (get_or ps i vacant) + f (get_or ps j vacant) ≤ sum f ps
unfolding sum
weigh-two f [] i j less below = absurd (omega arith)
weigh-two f (p ∷ ps) i zero less below = absurd (omega arith)
weigh-two f (p ∷ ps) zero (suc j) less below =
    let rest = weigh-at f ps j (le_of_suc-le-suc below) in
    omega arith
weigh-two f (p ∷ ps) (suc i) (suc j) less below =
    let rest = weigh-two f ps i j (le_of_suc-le-suc less) (le_of_suc-le-suc below) in
    omega arith

-- among sound places the search finds the place that a partner has
found-held : (l : Limits) (ps : List Place) (p : Partner) (i : ℕ) (d : Direction) (ph : Phase)
    → PlacesFacts l ps
    → i < length ps
    → get_or ps i vacant ≡ seat d ph p
    → seek p ps ≡ At i ph
found-held l ps p i d ph facts below held =
    sym (seek-at p ps i (sym only) ph below (sym (ap held_phase held)))
  where
    holds-there : holds p (get_or ps i vacant) ≡ true
    holds-there = ap (holds p) held ∙ same_refl p

    only : 0 + first (holds p) ps ≡ i
    only =
        let k = first (holds p) ps in
        cond-case {A = ℕ} (λ n. 0 + k ≡ i) (ltb i k) 0 0
        (λ under. absurd (true≢false (sym holds-there ∙ first-lowest (holds p) ps i (ltb-true i k under))))
        (λ over.
        let at_most = ltb-false i k over in
        let found = first_passes (holds p) ps (omega arith) in
        cond-case {A = ℕ} (λ n. 0 + k ≡ i) (ltb k i) 0 0
        (λ less.
        let two = weigh-two (here (holds p)) ps k i (ltb-true k i less) below in
        let one : here (holds p) (get_or ps i vacant) ≡ 1 = ap as_bit holds-there in
        let other : here (holds p) (get_or ps k vacant) ≡ 1 = ap as_bit found in
        let most = facts.1 p in
        absurd (omega arith))
        (λ same. omega (arith, ltb-false k i same)))

-- a free place is not a held one
other_place : (ps : List Place) (i k : ℕ)
    → is_free (get_or ps k vacant) ≡ true
    → is_free (get_or ps i vacant) ≡ false
    → i ≡ k
    → ⊥
other_place ps i k free taken same = true≢false (sym free ∙ ap (λ n. is_free (get_or ps n vacant)) (sym same) ∙ taken)

-- a closing that is for nobody leaves every place
nothing-closed : (place : Place) → place_after place (closed_by Nothing place) ≡ place
nothing-closed place = by place.holding
  where
    by : (k : Holding)
        → place_after place (on_holding Stays (λ d ph p. cond (closes Nothing ph p) (closing ph) Stays) k) ≡ place
    by Free = refl
    by (Held d ph p) = refl

-- where a partner is put on a place, some place holds it
seated-some : (d : Direction) (ph : Phase) (q : Partner) (ps : List Place) (k : ℕ)
    → k < length ps
    → some (holds q) (set ps k (seat d ph q)) ≡ true
seated-some d ph q ps k below =
    some_at (holds q) (set ps k (seat d ph q)) k (simp length-set below)
    (ap (holds q) (get_or-set_same ps k (seat d ph q) vacant below) ∙ same_refl q)

module _ (s : State) where
  -- "For the other events that name a partner": the turn of the phase table is what is sent, and what becomes of the partner's place
  -- promise
  pub named-turned : sound s ≡ true
      → (p : Partner) (e : PartnerEvent) (i : ℕ) (d : Direction) (ph : Phase)
      → i < 4
      → get_or s.places i vacant ≡ seat d ph p
      → takes (turn s.limits ph e) ≡ true
      → ((step s (Named p e)).actions ≡ map (act p) (numbers (turn s.limits ph e)))
      × ((step s (Named p e)).state.places ≡ set s.places i (place_after (seat d ph p) (turn s.limits ph e)))
  named-turned ok p e i d ph below held taken =
      let facts = sound-facts s ok in
      let inside : i < length s.places = omega (arith, facts.four) in
      let at = found-held s.limits s.places p i d ph facts.places inside held in
      let next = turn s.limits ph e in
      let now : step s (Named p e) ≡ turned_at s i p next =
      named-found s p e ∙ ap (λ f. named_at s p e f) at ∙ by (takes next) taken in (
        ap (λ (o : Outcome). o.actions) now,
        ap (λ (o : Outcome). o.state.places) now
            ∙ ap (λ place. set s.places i (place_after place next)) held,
      )
    where
      by : (b : Bool)
          → b ≡ true
          → cond b (turned_at s i p (turn s.limits ph e)) (refused_at not_taken (standing (At i ph)) s)
          ≡ turned_at s i p (turn s.limits ph e)
      by true h = refl
      by false h = absurd (true≢false (sym h))

  -- what an accepted order makes of each place that was taken: what its closing makes of it
  abbrev OthersClosed : Partner → Bool → Outcome → Type 0
  OthersClosed q accepting o =
      o.code ≡ accepted
      → (i : ℕ)
      → is_free (get_or s.places i vacant) ≡ false
      → get_or o.state.places i vacant
      ≡ place_after (get_or s.places i vacant) (closed_by (displaced q accepting) (get_or s.places i vacant))

  others-closed : (q : Partner) (accepting : Bool) (cause : Cause) (found : Found)
      → FoundOk q s.places found
      → OthersClosed q accepting (admitted s (ordered_at s q accepting cause) found)
  others-closed q accepting cause (At k ph) ok h i taken = absurd (omega arith)
  others-closed q accepting cause (Vacant k) ok h i taken =
      let which = displaced q accepting in
      get_or-set_other (closed which s.places) k i (seat Outgoing (Connecting first_try) q) vacant
      (other_place s.places i k ok.1 taken)
      ∙ closed_at which s.places i
  others-closed q accepting cause Full ok h i taken = absurd (omega arith)

  module _ (p : Partner) (accepting : Bool) (cause : Cause) where
    order-closes : OthersClosed (meant s.last p) accepting (step s (Order p accepting cause))
    order-closes =
        let q = meant s.last p in
        order-by s p accepting cause (OthersClosed q accepting)
        (λ in-force known. others-closed q accepting cause (seek q s.places) (seek_ok q s.places))
        (λ h i taken. absurd (omega arith))
        (λ h i taken. absurd (omega arith))

    -- "If the partner is an RBC and accepting is 0, each RBC place in Open or Lost is closed"
    -- promise
    pub order-closings : (step s (Order p accepting cause)).code ≡ accepted
        → is_rbc (meant s.last p) ≡ true
        → accepting ≡ false
        → (i : ℕ)
        → is_free (get_or s.places i vacant) ≡ false
        → get_or (step s (Order p accepting cause)).state.places i vacant
        ≡ place_after (get_or s.places i vacant) (closed_by Sessions (get_or s.places i vacant))
    order-closings taken rbc displaces i held =
        let place = get_or s.places i vacant in
        order-closes taken i held
        ∙ ap (λ b. place_after place (closed_by (cond b Sessions Nothing) place))
        (both (is_rbc (meant s.last p)) accepting rbc displaces)
      where
        both : (rbc accepts : Bool) → rbc ≡ true → accepts ≡ false → (rbc && not accepts) ≡ true
        both true true r a = absurd (true≢false a)
        both true false r a = refl
        both false accepts r a = absurd (true≢false (sym r))

    -- "orders to an RIU never end RBC sessions"; an accepting one ends none either: every place that was taken stays
    -- promise
    pub order-others : (step s (Order p accepting cause)).code ≡ accepted
        → (is_rbc (meant s.last p) ≡ false) ⊎ (accepting ≡ true)
        → (i : ℕ)
        → is_free (get_or s.places i vacant) ≡ false
        → get_or (step s (Order p accepting cause)).state.places i vacant ≡ get_or s.places i vacant
    order-others taken none i held =
        let place = get_or s.places i vacant in
        order-closes taken i held
        ∙ ap (λ b. place_after place (closed_by (cond b Sessions Nothing) place)) (nobody (is_rbc (meant s.last p)) accepting none)
        ∙ nothing-closed place
      where
        nobody : (rbc accepts : Bool) → (rbc ≡ false) ⊎ (accepts ≡ true) → (rbc && not accepts) ≡ false
        nobody true true none = refl
        nobody true false none = absurd (⊎_elim true≢false (λ h. true≢false (sym h)) none)
        nobody false accepts none = refl

    -- "Then the partner takes the lowest-numbered free place": it has one
    -- promise
    pub order-holds : (step s (Order p accepting cause)).code ≡ accepted
        → some (holds (meant s.last p)) (step s (Order p accepting cause)).state.places ≡ true
    order-holds =
        let q = meant s.last p in
        order-by s p accepting cause (Seated q) (λ in-force known. seats q (seek q s.places) (seek_ok q s.places))
        (λ h. absurd (omega arith))
        (λ h. absurd (omega arith))
      where
        Seated : Partner → Outcome → Type 0
        Seated q o = o.code ≡ accepted → some (holds q) o.state.places ≡ true

        seats : (q : Partner) (found : Found)
            → FoundOk q s.places found
            → Seated q (admitted s (ordered_at s q accepting cause) found)
        seats q (At k ph) ok h = absurd (omega arith)
        seats q (Vacant k) ok h =
            let which = displaced q accepting in
            let same = length-closed which s.places in
            seated-some Outgoing (Connecting first_try) q (closed which s.places) k (omega (arith, ok.0))
        seats q Full ok h = absurd (omega arith)

  -- a call: every place that was taken stays, and the partner has one
  abbrev CalledIn : Partner → Outcome → Type 0
  CalledIn p o =
      o.code ≡ accepted
      → ((i : ℕ) → is_free (get_or s.places i vacant) ≡ false → get_or o.state.places i vacant ≡ get_or s.places i vacant)
      × (some (holds p) o.state.places ≡ true)

  called-in : (p : Partner) (found : Found) → FoundOk p s.places found → CalledIn p (admitted s (called_at s p) found)
  called-in p (At k ph) ok h = absurd (omega arith)
  called-in p (Vacant k) ok h = (
    (λ i taken. get_or-set_other s.places k i (seat Incoming Open p) vacant (other_place s.places i k ok.1 taken)),
    seated-some Incoming Open p s.places k ok.0,
  )
  called-in p Full ok h = absurd (omega arith)

  -- promise
  pub call-others : (p : Partner)
      → (step s (Call p)).code ≡ accepted
      → ((i : ℕ)
      → is_free (get_or s.places i vacant) ≡ false
      → get_or (step s (Call p)).state.places i vacant ≡ get_or s.places i vacant)
      × (some (holds p) (step s (Call p)).state.places ≡ true)
  call-others p =
      call_by s p (CalledIn p) (λ rbc. called-in p (seek p s.places) (seek_ok p s.places)) (λ h. absurd (omega arith))

  -- "End all: closes every place .. that is not Ending"; the end of the mission does the same
  -- promise
  pub end-all-places : (i : ℕ)
      → (get_or (step s EndAll).state.places i vacant
      ≡ place_after (get_or s.places i vacant) (closed_by Every (get_or s.places i vacant)))
      × (get_or (step s (Mission mission_ended)).state.places i vacant
      ≡ place_after (get_or s.places i vacant) (closed_by Every (get_or s.places i vacant)))
  unfolding step
  end-all-places i = (closed_at Every s.places i, closed_at Every s.places i)
