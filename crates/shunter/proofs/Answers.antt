-- The shunter's answer to the core's, by whom the event concerns.
-- Defines: Answered.
-- Proves: packed-count, answered-refused, answered-sent, called-missing, called_on, named-waits.
use mathlib.Core.Path.{◌≡◌, refl, sym, ap, ap₂, subst⁻¹, ◌∙◌}
use mathlib.Core.Bool.{Bool, true, false, cond, ◌&&◌}
use mathlib.Core.List.{List}
use Prim.Native.Nat.{ℕ, ◌-◌, ◌≤◌}
use native.Mathlib.Nat.{sub-zero}
use native.Mathlib.Omega.{arith}
use lib.Dec.{eqb}
use lib.ListN.{length, take}
use lib.Seq.{take-take}
use borrow.Author.Tests.{eq-eqb, ne_eqb}
use Rattle.wire.specs.Refusals.{accepted}
use Rattle.wire.proofs.Tests.{true-false}
use Rattle.record.specs.declared.partner.Partner.{Partner}
use Rattle.record.specs.declared.event.PartnerEvent.{PartnerEvent}
use Rattle.shunter.specs.Shunting.{up_lost_timeout, wakes}
use Rattle.unit.specs.Forms.{most_actions, listed, packed}
use Rattle.unit.specs.Standings.{Concern, nobody, call_of, naming}
use Rattle.unit.specs.Steps.{Outcome}
use Rattle.unit.specs.declared.answer.Action.{Action}
use Rattle.unit.specs.declared.answer.Answer.{Answer}
use Rattle.unit.proofs.Written.{listed-take}
use Rattle.shunter.specs.Queues.{no_place, waiting}
use Rattle.shunter.specs.Shunting.{Shunting, modem_missing, place_waits, shunt_refused_at, shunt_refused, waits_for, newcomers, sends}
use Rattle.shunter.specs.Shunting.{is_call_of, all_held, passed, on_concern, shunted}
use Rattle.shunter.specs.Sending.{joiner_of, line_after, sent_with, line_for, sent_own, Fits, Good}
use Rattle.shunter.specs.declared.answer.Shunted.{Shunted}
use Rattle.shunter.specs.declared.state.Shunter.{Shunter}

-- the actions counted in the core's answer
pub packed-count : (answer : Answer) (o : Outcome) → answer ≡ packed o → answer.actions.count ≡ length o.actions
unfolding packed listed
packed-count answer o is = ap (λ a. a.actions.count) is

-- the first of the actions in the code's array are the first of the list
take-listed : (acts : List Action) (count : ℕ)
    → length acts ≤ most_actions
    → count ≤ length acts
    → take count (listed acts).items ≡ take count acts
unfolding listed
take-listed acts count few within =
    sym (take-take count (length acts) (listed acts).items within) ∙ ap (take count) (listed-take acts few)

module _ (h : Shunter) where
  -- a partner that waits
  abbrev waits : Partner → Bool
  waits = waits_for h.state.places (waiting h.queue)

  module _ (c : Concern) (o : Outcome) (quiet : wakes waits c ≡ false) where
    -- where 17 and 18 do not refuse and the core accepts, the step is sent
    concern-sent : o.code ≡ accepted → (is_call_of c && all_held h) ≡ false → on_concern h c o ≡ sends h c o
    unfolding on_concern passed
    concern-sent accepts free =
        ap (λ b. cond b (shunt_refused place_waits h) (passed h c o)) quiet
        ∙ ap₂ (λ a b. cond a (cond b (shunt_refused modem_missing h) (sends h c o)) (shunt_refused_at o.code o.standing h))
        (eq-eqb o.code accepted accepts) free

    -- where 18 does not refuse and the core does, its refusal stands
    concern-refused : (o.code ≡ accepted → ⊥) → on_concern h c o ≡ shunt_refused_at o.code o.standing h
    unfolding on_concern passed
    concern-refused refuses =
        let stands = shunt_refused_at o.code o.standing h in
        ap (λ b. cond b (shunt_refused place_waits h) (passed h c o)) quiet
        ∙ ap (λ a. cond a (cond (is_call_of c && all_held h) (shunt_refused modem_missing h) (sends h c o)) stands)
        (ne_eqb o.code accepted refuses)

    module _ (answer : Answer) (is : answer ≡ packed o) (r : Shunted) where
      -- the core refuses
      pub answered-refused :
          (answer.code ≡ accepted → ⊥)
          → r ≡ shunted (shunt_refused_at answer.code answer.standing h)
          → r ≡ shunted (on_concern h c o)
      unfolding packed
      answered-refused refuses answers =
          let code : answer.code ≡ o.code = ap (λ a. a.code) is in
          answers
          ∙ ap (λ a. shunted (shunt_refused_at a.code a.standing h)) is
          ∙ ap shunted (sym (concern-refused (λ accepts. refuses (code ∙ accepts))))

      module _ (count joiner : ℕ) where
        -- who waits then
        abbrev line : List ℕ
        line = line_after (waiting h.queue) answer.state.places joiner

        -- the step of the first so many of the core's actions
        abbrev sent : Shunting
        sent = sent_with h answer.state (take count answer.actions.items) line

        -- the core accepts
        pub answered-sent :
            (is_call_of c && all_held h) ≡ false
            → count ≡ length o.actions - length (newcomers h.state.places c)
            → joiner ≡ joiner_of h.state.places c
            → Good h c o
            → answer.code ≡ accepted
            → (Fits sent line → r ≡ shunted sent)
            → r ≡ shunted (on_concern h c o)
        unfolding packed
        answered-sent free own joined good accepts answers =
            let code : answer.code ≡ o.code = ap (λ a. a.code) is in
            let done = sym code ∙ accepts in
            let known = good.1 quiet free done in
            let many = length o.actions - length (newcomers h.state.places c) in
            let row : line ≡ line_for h c o = ap₂ (λ a j. line_after (waiting h.queue) a.state.places j) is joined in
            let acts : take count answer.actions.items ≡ take many o.actions =
            ap₂ (λ a n. take n a.actions.items) is own ∙ take-listed o.actions many good.0 (omega arith) in
            let same : sent ≡ sent_own h c o = λ i. sent_with h (is i).state (acts i) (row i) in
            let fits = subst⁻¹ (λ x. Fits x line) same (subst⁻¹ (Fits (sent_own h c o)) row known.1) in
            answers fits ∙ ap shunted (same ∙ sym known.0 ∙ sym (concern-sent done free))

  -- what the code promises of the core's answer, for whomever it may concern
  abbrev pub Answered : Answer → ℕ → ℕ → Shunted → Type 0
  Answered answer count joiner r =
      (c : Concern) (o : Outcome)
      → answer ≡ packed o
      → wakes waits c ≡ false
      → (is_call_of c && all_held h) ≡ false
      → count ≡ length o.actions - length (newcomers h.state.places c)
      → joiner ≡ joiner_of h.state.places c
      → Good h c o
      → r ≡ shunted (on_concern h c o)

  module _ (p : Partner) (o : Outcome) where
    -- a call that the core accepts is refused where no modem is free
    pub called-missing : o.code ≡ accepted → all_held h ≡ true → on_concern h (call_of p) o ≡ shunt_refused modem_missing h
    unfolding on_concern passed
    called-missing accepts held =
        ap₂ (λ a b. cond a (cond b (shunt_refused modem_missing h) (sends h (call_of p) o)) (shunt_refused_at o.code o.standing h))
        (eq-eqb o.code accepted accepts) held

    -- another call is answered as the core answers it
    pub called_on : (answer : Answer) (r : Shunted)
        → answer ≡ packed o
        → (eqb answer.code accepted && all_held h) ≡ false
        → Answered answer answer.actions.count no_place r
        → Good h (call_of p) o
        → r ≡ shunted (on_concern h (call_of p) o)
    unfolding packed
    called_on answer r is other answers good = by (all_held h) refl
      where
        own : answer.actions.count ≡ length o.actions - 0
        own = packed-count answer o is ∙ sym (sub-zero (length o.actions))

        by : (b : Bool) → all_held h ≡ b → r ≡ shunted (on_concern h (call_of p) o)
        by false free = answers (call_of p) o is refl free own refl good
        by true held =
            let code : answer.code ≡ o.code = ap (λ a. a.code) is in
            let refuses : o.code ≡ accepted → ⊥ =
            λ accepts.
            true-false (eqb answer.code accepted && all_held h)
            (ap₂ ◌&&◌ (eq-eqb answer.code accepted (code ∙ accepts)) held) other in
            answers nobody o is refl refl own refl (good.0, λ quiet free accepts. absurd (refuses accepts))
            ∙ ap shunted (concern-refused nobody o refl refuses ∙ sym (concern-refused (call_of p) o refl refuses))

  -- up, lost or timeout of one that waits
  pub named-waits : (p : Partner) (e : PartnerEvent) (o : Outcome)
      → (waits p && up_lost_timeout e) ≡ true
      → on_concern h (naming p e) o ≡ shunt_refused place_waits h
  unfolding on_concern
  named-waits p e o stirred = ap (λ b. cond b (shunt_refused place_waits h) (passed h (naming p e) o)) stirred
