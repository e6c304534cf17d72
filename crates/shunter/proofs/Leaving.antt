-- How a place leaves the queue: it is served, its first 21 going out, or it is released, by drop, end all or mission 0, and by nothing
-- else.
-- Proves: leaves_by, released-only.
use mathlib.Core.Path.{◌≡◌, refl, sym, ap, subst, ◌∙◌}
use mathlib.Core.Bool.{Bool, true, false, cond, ◌&&◌, ◌||◌, not}
use mathlib.Core.Logic.{◌⊎◌, inl, inr}
use mathlib.Core.List.{List, [], ◌∷◌, ◌++◌}
use Prim.Native.Nat.{ℕ, ◌+◌, ◌≤◌}
use native.Mathlib.Omega.{arith}
use lib.Dec.{eqb}
use lib.ListN.{length, get_or, take, drop, take-append-drop}
use borrow.Author.Tests.{eqb-true, eqb-false, ltb-true}
use borrow.Table.Steps.{cases}
use Rattle.wire.specs.Refusals as refusal
use Rattle.wire.proofs.Tests.{and_both, true-false}
use Rattle.record.specs.Partners.{same_partner, is_rbc}
use Rattle.record.specs.Records.{reading, mission_ended}
use Rattle.record.specs.declared.partner.Partner.{Partner}
use Rattle.record.specs.declared.event.PartnerEvent.{PartnerEvent}
use Rattle.record.specs.declared.event.PartnerEvent.TheVariants.{Drop, Up, Loss, Timeout, Version, Ended}
use Rattle.record.specs.declared.event.Event.{Event}
use Rattle.record.specs.declared.event.Event.TheVariants.{Level, Mission, Mode, Hole, Order, EndAll, Call, Named}
use Rattle.record.proofs.Partners.{same-eq, same_refl}
use Rattle.place.specs.Places.{vacant, seat, is_free, partner_of, held_phase, holds}
use Rattle.place.specs.Table.{first_try, turn, takes, closed_by, place_after}
use Rattle.place.specs.declared.phase.Phase.{Phase}
use Rattle.place.specs.declared.phase.Phase.TheVariants.{Connecting, Contacting, Open, Lost, Ending}
use Rattle.place.specs.declared.place.Direction.TheVariants.{Outgoing, Incoming}
use Rattle.place.specs.declared.place.Holding.{Holding}
use Rattle.place.specs.declared.place.Holding.TheVariants.{Free, Held}
use Rattle.place.specs.declared.place.Place.{Place}
use Rattle.place.specs.declared.turn.Closing.TheVariants.{Sessions}
use Rattle.place.proofs.Again.Rows.{connecting-turns, closed_by-sessions}
use Rattle.shunter.specs.Shunting.{wakes}
use Rattle.unit.specs.Kept.{count}
use Rattle.unit.specs.Lasts.{meant}
use Rattle.unit.specs.OnRecords.{action_room}
use Rattle.unit.specs.Standings.{Concern, concern, concern_of}
use Rattle.unit.specs.States.{first, sound}
use Rattle.unit.specs.Steps.{step}
use Rattle.unit.specs.declared.answer.Action.{Action}
use Rattle.unit.specs.declared.state.State.{State}
use Rattle.unit.proofs.Again.Noted.{level-stored, mission-places, mode-marked, hole-entered, hole-left}
use Rattle.unit.proofs.Again.Precedence.{named-seven, hole-seven}
use Rattle.unit.proofs.Again.Turned.{order-closings, order-others, call-others}
use Rattle.unit.proofs.Counts.{count-append}
use Rattle.unit.proofs.Effects.{step-places}
use Rattle.unit.proofs.Facts.{sound-facts}
use Rattle.unit.proofs.Searches.{found_ok, first_passes, some_first}
use Rattle.unit.proofs.Shapes.{by-reading}
use Rattle.shunter.specs.Queues.{waiting, among, place_at, first_tried, just_ordered, ready}
use Rattle.shunter.specs.Shunting.{Shunting, kept, waits_for, held_back, newcomers, line_up, free_modems, served, unserved}
use Rattle.shunter.specs.Shunting.{first_requests, line_of, sends, call_too_many, stirs_waiting, concern_in, core_step, shunt}
use Rattle.shunter.specs.ShunterHistories.{queued_at}
use Rattle.shunter.specs.ShunterSums.{request_to}
use Rattle.shunter.specs.ShunterSums.{releasing, released_by}
use Rattle.shunter.specs.declared.state.Shunter.{Shunter}
use Rattle.shunter.proofs.TwoTests.{or-either, or-first, and_none}
use Rattle.shunter.proofs.InRow.{among-append, among-every, kept-among}
use Rattle.shunter.proofs.Modems.{just-held, one_place}
use Rattle.shunter.proofs.Ready.{ready-sound, ready-queued, some-waits}
use Rattle.shunter.proofs.LinedUp.{waiting-effect}
use Rattle.shunter.proofs.OnePartner.{place-some}
use Rattle.shunter.proofs.Goods.{moved}
use Rattle.shunter.proofs.Cases.{by-case, sends-waiting}

-- one of the served is sent its first 21
served-request : (ps : List Place) (i : ℕ) (js : List ℕ)
    → among i js ≡ true
    → 1 ≤ count (request_to (partner_of (place_at ps i))) (first_requests ps js)
unfolding count among
served-request ps i [] one = true-false false one refl
served-request ps i (j ∷ js) one = by (eqb i j) refl one (served-request ps i js)
  where
    p : Partner
    p = partner_of (place_at ps i)

    by : (b : Bool)
        → eqb i j ≡ b
        → (b || among i js) ≡ true
        → (among i js ≡ true → 1 ≤ count (request_to p) (first_requests ps js))
        → 1 ≤ count (request_to p) (first_requests ps (j ∷ js))
    by true same one rest =
        let own : count (request_to p) (first_requests ps (j ∷ js)) ≡ 1 + count (request_to p) (first_requests ps js) =
        ap (λ b. cond (b && true) 1 0 + count (request_to p) (first_requests ps js))
        (ap (λ k. same_partner p (partner_of (place_at ps k))) (sym (eqb-true i j same)) ∙ same_refl p) in
        omega arith
    by false other one rest =
        let more = rest one in
        omega arith

-- a place that does not wait any more after a step was served, as it is, or is left vacant
-- promise
pub leaves_by : (h : Shunter) (bytes : List ℕ) (i : ℕ)
    → ready h ≡ true
    → queued_at i h ≡ true
    → queued_at i (shunt h bytes action_room).shunter ≡ false
    → ((place_at (shunt h bytes action_room).shunter.state.places i ≡ place_at h.state.places i)
    × (1 ≤ count (request_to (partner_of (place_at h.state.places i))) (shunt h bytes action_room).actions))
    ⊎ (place_at (shunt h bytes action_room).shunter.state.places i ≡ vacant)
unfolding sends line_up
leaves_by h bytes i good waits =
    by-case Left h bytes action_room
    (λ short gone. true-false (queued_at i h) waits gone)
    (λ enough bad gone. true-false (queued_at i h) waits gone)
    (λ enough ok stirred gone. true-false (queued_at i h) waits gone)
    (λ enough ok calm other gone. true-false (queued_at i h) waits gone)
    (λ enough ok calm taken full gone. true-false (queued_at i h) waits gone)
    (λ enough ok calm taken free gone. sent ok calm taken free gone)
  where
    Left : Shunting → Type 0
    Left x =
        queued_at i x.shunter ≡ false
        → ((place_at x.shunter.state.places i ≡ place_at h.state.places i)
        × (1 ≤ count (request_to (partner_of (place_at h.state.places i))) x.actions))
        ⊎ (place_at x.shunter.state.places i ≡ vacant)

    sent : (good : ready h ≡ true)
        → (calm : stirs_waiting h (concern_in h bytes) ≡ false)
        → (taken : (core_step h bytes).code ≡ refusal.accepted)
        → call_too_many h (concern_in h bytes) ≡ false
        → Left (sends h (concern_in h bytes) (core_step h bytes))
    sent good calm taken free gone = by (waiting-effect c before after is (moved h bytes good calm taken) i waits)
      where
        c : Concern
        c = concern_in h bytes

        is : List ℕ
        is = waiting h.queue

        before : List Place
        before = h.state.places

        after : List Place
        after = (core_step h bytes).state.places

        line : List ℕ
        line = line_of h c (core_step h bytes)

        p : Partner
        p = partner_of (place_at before i)

        out : List Action
        out = kept (λ a. not (held_back (waits_for before is) c a)) (core_step h bytes).actions

        -- where it is as it was it is in the line, and not among those that go on waiting
        in-line : place_at after i ≡ place_at before i → among i line ≡ true
        in-line same =
            let fresh = among-every (λ j. just_ordered (place_at before j)) i is (ready-queued h good).fresh waits in
            let still = kept-among (λ j. not (is_free (place_at after j))) i is waits
            (ap (λ place. not (is_free place)) same ∙ just-held (place_at before i) fresh) in
            among-append i (kept (λ j. not (is_free (place_at after j))) is) (newcomers before c)
            ∙ or-first (among i (kept (λ j. not (is_free (place_at after j))) is)) (among i (newcomers before c)) still

        chosen : (among i (served after line) ≡ true) ⊎ (among i (unserved after line) ≡ true)
            → among i (served after line) ≡ true
        chosen (inl now) = now
        chosen (inr later) =
            true-false (among i (unserved after line)) later (sym (ap (among i) (sends-waiting h bytes good calm taken free)) ∙ gone)

        by : (place_at after i ≡ place_at before i) ⊎ (place_at after i ≡ vacant)
            → ((place_at after i ≡ place_at before i) × (1 ≤ count (request_to p) (out ++ first_requests after (served after line))))
            ⊎ (place_at after i ≡ vacant)
        by (inl same) =
            let n = free_modems after line in
            let split = ap (among i) (sym (take-append-drop n line)) ∙ among-append i (take n line) (drop n line) in
            let now = chosen (or-either (among i (take n line)) (among i (drop n line)) (sym split ∙ in-line same)) in
            let asked = served-request after i (served after line) now in
            let mine = ap (λ place. count (request_to (partner_of place)) (first_requests after (served after line))) same in
            let joined = count-append (request_to p) out (first_requests after (served after line)) in
            inl (same, omega arith)
        by (inr free) = inr free

-- a place as its order left it
just-seat : (place : Place) → just_ordered place ≡ true → place ≡ seat Outgoing (Connecting first_try) (partner_of place)
just-seat place h = by place.holding h
  where
    tried : (p : Partner) (ph : Phase) → first_tried ph ≡ true → seat Outgoing ph p ≡ seat Outgoing (Connecting first_try) p
    tried p (Connecting t) h = ap (λ n. seat Outgoing (Connecting n) p) (eqb-true t first_try h)
    tried p (Contacting t) h = true-false false h refl
    tried p Open h = true-false false h refl
    tried p (Lost t) h = true-false false h refl
    tried p (Ending t) h = true-false false h refl

    by : (k : Holding)
        → just_ordered (record { holding = k }) ≡ true
        → ◌≡◌ {A = Place} (record { holding = k }) (seat Outgoing (Connecting first_try) (partner_of (record { holding = k })))
    by Free h = true-false false h refl
    by (Held Outgoing ph p) h = tried p ph h
    by (Held Incoming ph p) h = true-false false h refl

module _ (s : State) (good : sound s ≡ true) (is : List ℕ) (i : ℕ) (one : among i is ≡ true)
    (fresh : just_ordered (place_at s.places i) ≡ true) where
  abbrev p : Partner
  p = partner_of (place_at s.places i)

  seated : place_at s.places i ≡ seat Outgoing (Connecting first_try) p
  seated = just-seat (place_at s.places i) fresh

  taken-now : is_free (place_at s.places i) ≡ false
  taken-now = ap is_free seated

  -- a place that is as it was is not free
  same_taken : {A : Type 0} (ps : List Place) → place_at ps i ≡ place_at s.places i → is_free (place_at ps i) ≡ true → A
  same_taken ps same free = true-false (is_free (place_at ps i)) free (ap is_free same ∙ taken-now)

  own : holds p (place_at s.places i) ≡ true
  own = ap (holds p) seated ∙ same_refl p

  -- the phase table says no to 32 and 39 there
  not_taken : (q : Partner) (e : PartnerEvent)
      → same_partner p q ≡ true
      → takes (turn s.limits (Connecting first_try) e) ≡ false
      → (step s (Named q e)).code ≡ 7
  not_taken q e same refuses =
      let there = place-some p s.places i ((sound-facts s good).places.1 p) own in
      let low = ltb-true (first (holds p) s.places) (length s.places) (sym (some_first (holds p) s.places) ∙ there) in
      let at =
      one_place p s.places (first (holds p) s.places) i ((sound-facts s good).places.1 p)
      (first_passes (holds p) s.places low)
      own in
      subst (λ r. (step s (Named r e)).code ≡ 7) (same-eq p q same)
      (named-seven s p e there
      (ap (λ j. takes (turn s.limits (held_phase (get_or s.places j vacant)) e)) at
      ∙ ap (λ place. takes (turn s.limits (held_phase place) e)) seated
      ∙ refuses))

  -- an event that leaves the place vacant
  event-releases : (e : Event)
      → wakes (waits_for s.places is) (concern s.last e) ≡ false
      → (step s e).code ≡ refusal.accepted
      → is_free (place_at (step s e).state.places i) ≡ true
      → releasing p e ≡ true
  event-releases (Level level manual) calm taken free =
      same_taken (step s (Level level manual)).state.places (ap (λ ps. place_at ps i) (level-stored s level manual).1) free
  event-releases (Mission mission) calm taken free = by (eqb mission mission_ended) refl
    where
      by : (b : Bool) → eqb mission mission_ended ≡ b → b ≡ true
      by true is = refl
      by false is =
          same_taken (step s (Mission mission)).state.places
          (ap (λ ps. place_at ps i) (mission-places s mission (eqb-false mission mission_ended is)).0)
          free
  event-releases Mode calm taken free = same_taken (step s Mode).state.places (ap (λ ps. place_at ps i) (mode-marked s).2) free
  event-releases (Hole true) calm taken free =
      cases s.marks.inside
      (λ inside.
      let seven = hole-seven s true inside in
      absurd (omega arith))
      (λ outside. same_taken (step s (Hole true)).state.places (ap (λ ps. place_at ps i) (hole-entered s outside).1) free)
  event-releases (Hole false) calm taken free =
      cases s.marks.inside
      (λ inside. same_taken (step s (Hole false)).state.places (ap (λ ps. place_at ps i) (hole-left s inside).1) free)
      (λ outside.
      let seven = hole-seven s false outside in
      absurd (omega arith))
  event-releases (Order q accepting cause) calm taken free = by (is_rbc (meant s.last q)) accepting refl refl
    where
      after : List Place
      after = (step s (Order q accepting cause)).state.places

      by : (rbc accepts : Bool) → is_rbc (meant s.last q) ≡ rbc → accepting ≡ accepts → false ≡ true
      by true true r a = same_taken after (order-others s q accepting cause taken (inr a) i taken-now) free
      by true false r a =
          same_taken after
          (order-closings s q accepting cause taken r a i taken-now
          ∙ ap (λ place. place_after place (closed_by Sessions place)) seated
          ∙ ap (place_after (seat Outgoing (Connecting first_try) p))
          ((closed_by-sessions Outgoing p 0).2 (Connecting first_try) (and_none (is_rbc p)))
          ∙ sym seated)
          free
      by false accepts r a = same_taken after (order-others s q accepting cause taken (inl r) i taken-now) free
  event-releases EndAll calm taken free = refl
  event-releases (Call q) calm taken free =
      same_taken (step s (Call q)).state.places ((call-others s q taken).0 i taken-now) free
  event-releases (Named q e) calm taken free = by (same_partner p q) refl e calm taken free
    where
      -- another partner's place is another place
      other : same_partner p q ≡ false → (e : PartnerEvent)
          → (step s (Named q e)).code ≡ refusal.accepted
          → is_free (place_at (step s (Named q e)).state.places i) ≡ true
          → {A : Type 0} → A
      other differs e taken free =
          let turned = step-places s (Named q e) taken in
          let found = found_ok q s.places _ turned.found in
          same_taken (step s (Named q e)).state.places
          (turned.others i
          (λ same.
          let theirs : same_partner q p ≡ true =
          sym (ap (holds q) seated) ∙ ap (λ j. holds q (place_at s.places j)) same ∙ found.1 in
          true-false (same_partner p q) (subst (λ r. same_partner p r ≡ true) (sym (same-eq q p theirs)) (same_refl p)) differs))
          free

      -- an up, lost or timeout for it is refused with 18
      stirred : same_partner p q ≡ true → (waits_for s.places is q && true) ≡ false → {A : Type 0} → A
      stirred same calm =
          true-false (waits_for s.places is q && true)
          (and_both (waits_for s.places is q) true
          (subst (λ r. waits_for s.places is r ≡ true) (same-eq p q same) (some-waits s.places p i is one own))
          refl)
          calm

      by : (b : Bool)
          → same_partner p q ≡ b
          → (e : PartnerEvent)
          → wakes (waits_for s.places is) (concern s.last (Named q e)) ≡ false
          → (step s (Named q e)).code ≡ refusal.accepted
          → is_free (place_at (step s (Named q e)).state.places i) ≡ true
          → releasing p (Named q e) ≡ true
      by true same Drop calm taken free = same
      by true same Up calm taken free = stirred same calm
      by true same Loss calm taken free = stirred same calm
      by true same Timeout calm taken free = stirred same calm
      by true same (Version v) calm taken free =
          let seven = not_taken q (Version v) same (ap takes (connecting-turns s.limits first_try v).5) in
          absurd (omega arith)
      by true same Ended calm taken free =
          let seven = not_taken q Ended same (ap takes (connecting-turns s.limits first_try 0).6) in
          absurd (omega arith)
      by false differs e calm taken free = other differs e taken free

-- "a waiting place that is released (by drop, end all or mission 0, and by nothing else)"
-- promise
pub released-only : (h : Shunter) (bytes : List ℕ) (i : ℕ)
    → ready h ≡ true
    → queued_at i h ≡ true
    → place_at (shunt h bytes action_room).shunter.state.places i ≡ vacant
    → released_by (partner_of (place_at h.state.places i)) (reading bytes) ≡ true
unfolding sends
released-only h bytes i good waits =
    by-case Released h bytes action_room (λ short. kept-place) (λ enough bad. kept-place) (λ enough ok stirred. kept-place)
    (λ enough ok calm other. kept-place)
    (λ enough ok calm taken full. kept-place)
    (λ enough ok calm taken free gone. core calm taken (ap is_free gone))
  where
    s : State
    s = h.state

    is : List ℕ
    is = waiting h.queue

    p : Partner
    p = partner_of (place_at s.places i)

    fresh : just_ordered (place_at s.places i) ≡ true
    fresh = among-every (λ j. just_ordered (place_at s.places j)) i is (ready-queued h good).fresh waits

    Released : Shunting → Type 0
    Released x = place_at x.shunter.state.places i ≡ vacant → released_by p (reading bytes) ≡ true

    kept-place : place_at s.places i ≡ vacant → released_by p (reading bytes) ≡ true
    kept-place gone = true-false false (sym (ap just_ordered gone) ∙ fresh) refl

    core : stirs_waiting h (concern_in h bytes) ≡ false
        → (core_step h bytes).code ≡ refusal.accepted
        → is_free (place_at (core_step h bytes).state.places i) ≡ true
        → released_by p (reading bytes) ≡ true
    core calm =
        by-reading s
        (λ o. o.code ≡ refusal.accepted → is_free (place_at o.state.places i) ≡ true → released_by p (reading bytes) ≡ true)
        bytes action_room
        (λ taken free. absurd (omega arith))
        (λ taken free. absurd (omega arith))
        (λ r unread low high taken free. absurd (omega arith))
        (λ e means sound-s ok taken free.
        ap (released_by p) means
        ∙ event-releases s (ready-sound h good) is i waits fresh e
        (sym (ap (λ r. wakes (waits_for s.places is) (concern_of s.last r)) means) ∙ calm)
        taken
        free)
