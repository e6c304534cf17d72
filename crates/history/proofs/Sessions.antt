-- One partner's session from its first action to its release, with as many actions as there can be.
-- Defines: box, idle, five.
-- Proves: started-idle, calling-leads, ordering-leads, connecting-starts, contacting-starts, lost-starts, ending-starts, connecting-holds,
-- contacting-holds, lost-holds, ending-holds.
use mathlib.Core.Path.{◌≡◌, refl, sym, ap, subst, ◌∙◌}
use mathlib.Core.Bool.{true, false, cond, ◌&&◌}
use mathlib.Core.List.{List, [], ◌∷◌, ◌++◌}
use Prim.Native.Nat.{ℕ, zero, suc, ◌+◌, ◌-◌, ◌*◌, ◌≤◌, ◌<◌}
use native.Mathlib.Omega.{arith}
use lib.Dec.{eqb, leb}
use lib.ListN.{length, replicate}
use borrow.Author.Tests.{le-leb, lt-ltb}
use Rattle.record.specs.Records.{reading}
use Rattle.record.specs.declared.event.PartnerEvent.{PartnerEvent}
use Rattle.record.specs.declared.event.PartnerEvent.TheVariants.{Drop, Up, Loss, Timeout, Version, Ended}
use Rattle.record.specs.declared.event.Event.TheVariants.{Named}
use Rattle.record.specs.Readings.{Meant}
use Rattle.wire.specs.Refusals.{accepted, bad_limits}
use Rattle.wire.proofs.Tests.{and_both}
use Rattle.place.specs.Places.{most_tries, tries, vacant, seat, phase_ok, fits_incoming, fits}
use Rattle.place.specs.Table.{established, one_more, again, turn}
use Rattle.place.specs.declared.phase.Phase.{Phase}
use Rattle.place.specs.declared.phase.Phase.TheVariants.{Connecting, Contacting, Open, Lost, Ending}
use Rattle.place.specs.declared.place.Direction.{Direction}
use Rattle.place.specs.declared.place.Direction.TheVariants.{Outgoing, Incoming}
use Rattle.place.specs.declared.turn.Turn.{Turn}
use Rattle.place.specs.declared.turn.Turn.TheVariants.{Released, Becomes, Sends}
use Rattle.unit.specs.Lasts.{last_ok, recalled}
use Rattle.unit.specs.States.{first, seek, limits_ok, places_ok, sound, no_marks, cold, no_limits, cold_start, some}
use Rattle.unit.specs.Steps.{Outcome, done, act, closed, closing_actions, step}
use Rattle.unit.specs.Searching.{turned}
use Rattle.unit.specs.OnRecords.{action_room, on_record}
use Rattle.unit.specs.declared.last.Last.{Last}
use Rattle.unit.specs.declared.last.Last.TheVariants.{Unknown, Known}
use Rattle.unit.specs.declared.start.Started.{Started}
use Rattle.unit.specs.declared.state.State.{State}
use Rattle.history.specs.Histories.{after, is_order, is_call, is_loss, accepted_as}
use Rattle.history.specs.PerEvent.{per_order, per_call, per_loss}
use Rattle.history.specs.Reaching.{retries, losses_in, ended_late, ordering, calling}
use Rattle.history.specs.Sums.{started}
use Rattle.unit.specs.States.{one_to_two}
use Rattle.history.specs.Reaching.{rbc5, order5, drop5, up5, lost5, timeout5, version5, call5, ended5}
use Rattle.history.proofs.Leads.{Leads, stays, begins, goes_on, counted-as}

-- the box that holds RBC 5 and nobody else, and the one that holds nobody, with n tries and this last known RBC
abbrev pub box : ℕ → Last → Direction → Phase → State
box n last d ph =
    record {
      limits = one_to_two n;
      train = record { level = 0; mission = 0 };
      marks = no_marks;
      places = seat d ph rbc5 ∷ vacant ∷ vacant ∷ vacant ∷ [];
      last = last;
    }

abbrev pub idle : ℕ → Last → State
idle n last =
    record {
      limits = one_to_two n;
      train = record { level = 0; mission = 0 };
      marks = no_marks;
      places = vacant ∷ vacant ∷ vacant ∷ vacant ∷ [];
      last = last;
    }

-- RBC 5 as the last known
abbrev pub five : Last
five = Known 0 0 5

module _ (n : ℕ) (ok : limits_ok (one_to_two n) ≡ true) (last : Last) (known : last_ok last ≡ true) (d : Direction) where
  -- the phase is sound in this direction
  abbrev Fit : Phase → Type 0
  Fit ph = (phase_ok (one_to_two n) ph ≡ true) × (fits d ph rbc5 ≡ true)

  places-fit : (ph : Phase) → Fit ph → places_ok (one_to_two n) (box n last d ph).places ≡ true
  unfolding places_ok first some
  places-fit ph fit = rw (fit.0, fit.1) refl

  -- and so is the box
  box-sound : (ph : Phase) → Fit ph → sound (box n last d ph) ≡ true
  unfolding sound
  box-sound ph fit =
      and_both (limits_ok (one_to_two n)) (places_ok (one_to_two n) (box n last d ph).places && last_ok last) ok
      (and_both (places_ok (one_to_two n) (box n last d ph).places) (last_ok last) (places-fit ph fit) known)

  -- what the box gives where its place makes this turn
  abbrev played : Phase → Turn → Outcome
  played ph t = turned (box n last d ph) 0 ph rbc5 t

  -- a record that names RBC 5 makes the turn that the table says
  turns : (ph : Phase) (e : PartnerEvent) (bytes : List ℕ)
      → Fit ph
      → reading bytes ≡ Meant (Named rbc5 e)
      → on_record (box n last d ph) bytes action_room ≡ played ph (turn (one_to_two n) ph e)
  unfolding on_record step seek first some
  turns ph e bytes fit means = rw (box-sound ph fit, means) refl

  -- such a record, then the rest
  via : (ph : Phase) (e : PartnerEvent) (bytes : List ℕ) (t : Turn) (history : List (List ℕ)) (u : State) (a b c k : ℕ)
      → Fit ph
      → reading bytes ≡ Meant (Named rbc5 e)
      → turn (one_to_two n) ph e ≡ t
      → Leads (played ph t).state history u a b c k
      → Leads (box n last d ph) (bytes ∷ history) u
      (accepted_as (λ s. is_order) (box n last d ph) bytes (played ph t) + a)
      (accepted_as (λ s. is_call) (box n last d ph) bytes (played ph t) + b)
      (accepted_as (λ s. is_loss) (box n last d ph) bytes (played ph t) + c)
      (length (played ph t).actions + k)
  via ph e bytes t history u a b c k fit means turning rest =
      let plays = turns ph e bytes fit means ∙ ap (played ph) turning in
      begins (box n last d ph) bytes (played ph t) history u a b c k plays rest

  -- the timeouts of a phase, from the first try to the last
  module _ (phase : ℕ → Phase) (number : ℕ) (other : eqb number established ≡ false)
      (fit : (t : ℕ) → 1 ≤ t → t ≤ n → Fit (phase t))
      (once_more : (t : ℕ) → t < n → turn (one_to_two n) (phase t) Timeout ≡ Sends number (phase (t + 1))) where
    -- no action of theirs is a 159
    kept : recalled last (act rbc5 number ∷ []) ≡ last
    unfolding recalled
    kept = ap (λ b. cond (b && true) five last) other

    -- the box at such a try
    abbrev tried : ℕ → State
    tried t = box n last d (phase t)

    -- so many timeouts
    timed-out : (k t : ℕ)
        → 1 ≤ t
        → t + k ≤ n
        → Leads (tried t) (replicate k timeout5) (tried (t + k)) 0 0 0 k
    unfolding reading
    timed-out zero t some fits = subst (λ u. Leads (tried t) [] (tried u) 0 0 0 0) (omega arith) (stays (tried t))
    timed-out (suc k) t some fits =
        let end = tried ((t + 1) + k) in
        let later = timed-out k (t + 1) (omega arith) (omega arith) in
        let rest = subst (λ x. Leads (box n x d (phase (t + 1))) (replicate k timeout5) end 0 0 0 k) (sym kept) later in
        let whole =
        via (phase t) Timeout timeout5 (Sends number (phase (t + 1))) (replicate k timeout5) end 0 0 0 k
        (fit t some (omega arith)) refl (once_more t (omega arith)) rest in
        subst (λ u. Leads (tried t) (timeout5 ∷ replicate k timeout5) (tried u) 0 0 0 (suc k)) (omega arith)
        (counted-as _ _ _ _ _ _ _ 0 0 0 (suc k) whole refl refl refl (omega arith))

    -- all that there can be without a release
    all-tries : 1 ≤ n → Leads (tried 1) (retries n) (tried n) 0 0 0 (n - 1)
    all-tries some-try =
        subst (λ t. Leads (tried 1) (retries n) (tried t) 0 0 0 (n - 1)) (omega arith)
        (timed-out (n - 1) 1 (omega arith) (omega arith))

    -- and then the rest
    retried :
        1 ≤ n
        → (history : List (List ℕ)) (u : State) (a b c k : ℕ)
        → Leads (tried n) history u a b c k
        → Leads (tried 1) (retries n ++ history) u (0 + a) (0 + b) (0 + c) ((n - 1) + k)
    retried some-try history u a b c k rest =
        goes_on (tried 1) (tried n) u (retries n) history 0 0 0 (n - 1) a b c k (all-tries some-try) rest

  within : (t : ℕ) → 1 ≤ t → t ≤ n → (leb 1 t && leb t n) ≡ true
  within t some most = and_both (leb 1 t) (leb t n) (le-leb 1 t some) (le-leb t n most)

  -- a session fits both directions
  session-fit : (ph : Phase) → phase_ok (one_to_two n) ph ≡ true → fits_incoming ph ≡ true → Fit ph
  session-fit ph ok h = (ok, by d)
    where
      by : (d : Direction) → fits d ph rbc5 ≡ true
      by Outgoing = refl
      by Incoming = h

  lost-fit : (t : ℕ) → 1 ≤ t → t ≤ n → Fit (Lost t)
  lost-fit t some most = session-fit (Lost t) (within t some most) refl

  ending-fit : (t : ℕ) → 1 ≤ t → t ≤ n → Fit (Ending t)
  ending-fit t some most = session-fit (Ending t) (within t some most) refl

  -- one more try while there is one
  try-again : (number : ℕ) (ph : Phase) → tries ph < n → again (one_to_two n) number ph ≡ Sends number (one_more ph)
  try-again number ph h = rw (lt-ltb (tries ph) n h)

  module _ (some-try : 1 ≤ n) where
    -- an open session dropped, its end timed out to the last try, and 39
    closed-leads : Leads (box n last d Open) (ended_late n) (idle n last) 0 0 0 (n + 1)
    unfolding reading turn recalled
    closed-leads =
        let fit = ending-fit n some-try (omega arith) in
        let released = via (Ending n) Ended ended5 Released [] (idle n last) 0 0 0 0 fit refl refl (stays (idle n last)) in
        let ending = retried Ending 156 refl ending-fit (λ t. try-again 156 (Ending t)) some-try _ _ _ _ _ _ released in
        let whole = via Open Drop drop5 (Sends 156 (Ending 1)) _ _ _ _ _ _ (session-fit Open refl refl) refl refl ending in
        counted-as _ _ _ _ _ _ _ 0 0 0 (n + 1) whole refl refl refl (omega arith)

    -- an open session lost so many times, timed out to the last try, and up again
    losses-lead : (c : ℕ) → Leads (box n last d Open) (losses_in n c) (box n last d Open) 0 0 c (n * c)
    unfolding reading turn losses_in recalled
    losses-lead zero = counted-as _ _ _ _ _ _ _ 0 0 0 (n * 0) (stays (box n last d Open)) refl refl refl (omega arith)
    losses-lead (suc c) =
        let fit = lost-fit n some-try (omega arith) in
        let restored = via (Lost n) Up up5 (Becomes Open) _ _ _ _ _ _ fit refl refl (losses-lead c) in
        let lost = retried Lost 21 refl lost-fit (λ t. try-again 21 (Lost t)) some-try _ _ _ _ _ _ restored in
        let whole = via Open Loss lost5 (Sends 21 (Lost 1)) _ _ _ _ _ _ (session-fit Open refl refl) refl refl lost in
        counted-as _ _ _ _ _ _ _ 0 0 (suc c) (n * suc c) whole (omega arith) (omega arith) (omega arith) (omega arith)

    -- the one, then the other
    session-leads : (c : ℕ) → Leads (box n last d Open) (losses_in n c ++ ended_late n) (idle n last) 0 0 c (n * c + (n + 1))
    session-leads c =
        let whole = goes_on _ _ _ (losses_in n c) (ended_late n) _ _ _ _ _ _ _ _ (losses-lead c) closed-leads in
        counted-as _ _ _ _ _ _ _ 0 0 c (n * c + (n + 1)) whole refl refl (omega arith) refl

module _ (n : ℕ) (some-try : 1 ≤ n) (most : n ≤ most_tries) where
  -- so many tries a cold start takes
  limits-ok : limits_ok (one_to_two n) ≡ true
  limits-ok = and_both (leb 1 n) (leb n most_tries) (le-leb 1 n some-try) (le-leb n most_tries most)

  -- it holds nobody, and knows none
  pub started-idle : started n ≡ idle n Unknown
  unfolding cold_start cold
  started-idle =
      let taken : Started = record { code = accepted; state = cold (one_to_two n) } in
      let left : Started = record { code = bad_limits; state = cold no_limits } in
      ap (λ b. (cond b taken left).state) limits-ok

  idle-sound : (last : Last) → last_ok last ≡ true → sound (idle n last) ≡ true
  unfolding sound places_ok first some
  idle-sound last known = and_both (limits_ok (one_to_two n)) (last_ok last) limits-ok known

  -- a session that a call opens
  called-five : (last : Last)
      → last_ok last ≡ true
      → on_record (idle n last) call5 action_room ≡ done (box n five Incoming Open) (act rbc5 159 ∷ [])
  unfolding reading first seek step on_record some recalled
  called-five last known = rw (idle-sound last known) refl

  pub calling-leads : (last : Last)
      → last_ok last ≡ true
      → (c : ℕ)
      → Leads (idle n last) (calling n c) (idle n five) 0 1 c (per_call n + per_loss n * c)
  unfolding calling
  calling-leads last known c =
      let first = done (box n five Incoming Open) (act rbc5 159 ∷ []) in
      let session = session-leads n limits-ok five refl Incoming some-try c in
      let whole = begins (idle n last) call5 first _ _ _ _ _ _ (called-five last known) session in
      counted-as _ _ _ _ _ _ _ 0 1 c (per_call n + per_loss n * c) whole (omega arith) (omega arith) (omega arith) (omega arith)

  -- a session that an order asks for
  ordered-five : (last : Last)
      → last_ok last ≡ true
      → on_record (idle n last) order5 action_room ≡ done (box n last Outgoing (Connecting 1)) (act rbc5 21 ∷ [])
  unfolding reading first seek closed closing_actions step on_record some
  ordered-five last known = rw (idle-sound last known) refl

  module _ (last : Last) (known : last_ok last ≡ true) where
    -- the phases before a session are outgoing
    connecting-fit : (t : ℕ) → 1 ≤ t → t ≤ n → Fit n limits-ok last known Outgoing (Connecting t)
    connecting-fit t some most = (within n limits-ok last known Outgoing t some most, refl)

    contacting-fit : (t : ℕ) → 1 ≤ t → t ≤ n → Fit n limits-ok last known Outgoing (Contacting t)
    contacting-fit t some most = (within n limits-ok last known Outgoing t some most, refl)

    again-on : (number : ℕ) (ph : Phase) → tries ph < n → again (one_to_two n) number ph ≡ Sends number (one_more ph)
    again-on = try-again n limits-ok last known Outgoing

    pub ordering-leads : (c : ℕ) → Leads (idle n last) (ordering n c) (idle n five) 1 0 c (per_order n + per_loss n * c)
    unfolding reading turn ordering recalled
    ordering-leads c =
        let first = done (box n last Outgoing (Connecting 1)) (act rbc5 21 ∷ []) in
        let session = session-leads n limits-ok five refl Outgoing some-try c in
        let opened =
        via n limits-ok last known Outgoing (Contacting n) (Version 17) version5 (Sends 159 Open) _ _ _ _ _ _
        (contacting-fit n some-try (omega arith)) refl refl session in
        let contacting =
        retried n limits-ok last known Outgoing Contacting 155 refl contacting-fit (λ t. again-on 155 (Contacting t)) some-try
        _ _ _ _ _ _ opened in
        let connected =
        via n limits-ok last known Outgoing (Connecting n) Up up5 (Sends 155 (Contacting 1)) _ _ _ _ _ _
        (connecting-fit n some-try (omega arith)) refl refl contacting in
        let connecting =
        retried n limits-ok last known Outgoing Connecting 21 refl connecting-fit (λ t. again-on 21 (Connecting t)) some-try
        _ _ _ _ _ _ connected in
        let whole = begins (idle n last) order5 first _ _ _ _ _ _ (ordered-five last known) connecting in
        counted-as _ _ _ _ _ _ _ 1 0 c (per_order n + per_loss n * c) whole (omega arith) (omega arith) (omega arith) (omega arith)

  -- an order is taken in
  pub connecting-starts : after (started n) (order5 ∷ []) ≡ box n Unknown Outgoing (Connecting 1)
  unfolding after
  connecting-starts = ap (λ s. (on_record s order5 action_room).state) started-idle ∙ ap (λ o. o.state) (ordered-five Unknown refl)

  -- its connection comes up
  pub contacting-starts : after (started n) (order5 ∷ up5 ∷ []) ≡ box n Unknown Outgoing (Contacting 1)
  unfolding after reading turn recalled
  contacting-starts =
      let first = connecting-fit Unknown refl 1 (omega arith) some-try in
      ap (λ s. (on_record s up5 action_room).state) connecting-starts
      ∙ ap (λ o. o.state) (turns n limits-ok Unknown refl Outgoing (Connecting 1) Up up5 first refl)

  -- a call is taken
  call-starts : after (started n) (call5 ∷ []) ≡ box n five Incoming Open
  unfolding after
  call-starts = ap (λ s. (on_record s call5 action_room).state) started-idle ∙ ap (λ o. o.state) (called-five Unknown refl)

  -- its connection is lost; it is dropped
  pub lost-starts : after (started n) (call5 ∷ lost5 ∷ []) ≡ box n five Incoming (Lost 1)
  unfolding after reading turn recalled
  lost-starts =
      let fit = session-fit n limits-ok five refl Incoming Open refl refl in
      ap (λ s. (on_record s lost5 action_room).state) call-starts
      ∙ ap (λ o. o.state) (turns n limits-ok five refl Incoming Open Loss lost5 fit refl)

  pub ending-starts : after (started n) (call5 ∷ drop5 ∷ []) ≡ box n five Incoming (Ending 1)
  unfolding after reading turn recalled
  ending-starts =
      let fit = session-fit n limits-ok five refl Incoming Open refl refl in
      ap (λ s. (on_record s drop5 action_room).state) call-starts
      ∙ ap (λ o. o.state) (turns n limits-ok five refl Incoming Open Drop drop5 fit refl)

  -- and a place is held through all tries of its phase but one
  pub connecting-holds : after (after (started n) (order5 ∷ [])) (retries n) ≡ box n Unknown Outgoing (Connecting n)
  unfolding turn
  connecting-holds =
      let tries =
      all-tries n limits-ok Unknown refl Outgoing Connecting 21 refl (connecting-fit Unknown refl)
      (λ t. again-on Unknown refl 21 (Connecting t)) some-try in
      ap (λ s. after s (retries n)) connecting-starts ∙ tries.ends

  pub contacting-holds : after (after (started n) (order5 ∷ up5 ∷ [])) (retries n) ≡ box n Unknown Outgoing (Contacting n)
  unfolding turn
  contacting-holds =
      let tries =
      all-tries n limits-ok Unknown refl Outgoing Contacting 155 refl (contacting-fit Unknown refl)
      (λ t. again-on Unknown refl 155 (Contacting t)) some-try in
      ap (λ s. after s (retries n)) contacting-starts ∙ tries.ends

  pub lost-holds : after (after (started n) (call5 ∷ lost5 ∷ [])) (retries n) ≡ box n five Incoming (Lost n)
  unfolding turn
  lost-holds =
      let tries =
      all-tries n limits-ok five refl Incoming Lost 21 refl (lost-fit n limits-ok five refl Incoming)
      (λ t. try-again n limits-ok five refl Incoming 21 (Lost t)) some-try in
      ap (λ s. after s (retries n)) lost-starts ∙ tries.ends

  pub ending-holds : after (after (started n) (call5 ∷ drop5 ∷ [])) (retries n) ≡ box n five Incoming (Ending n)
  unfolding turn
  ending-holds =
      let tries =
      all-tries n limits-ok five refl Incoming Ending 156 refl (ending-fit n limits-ok five refl Incoming)
      (λ t. try-again n limits-ok five refl Incoming 156 (Ending t)) some-try in
      ap (λ s. after s (retries n)) ending-starts ∙ tries.ends
