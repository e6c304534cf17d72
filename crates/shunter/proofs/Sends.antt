-- An accepted step as the code carries it out.
-- Proves: line-named, sent-by.
use mathlib.Core.Path.{◌≡◌, ap, ap₂, subst⁻¹, ◌∙◌}
use mathlib.Core.Bool.{Bool, true, not}
use mathlib.Core.List.{List, [], ◌∷◌, ◌++◌}
use Prim.Native.Nat.{ℕ, ◌-◌, ◌≤◌}
use lib.ListN.{length, take, drop}
use Rattle.wire.specs.Refusals.{accepted}
use Rattle.wire.proofs.Tests.{cond-case}
use Rattle.place.specs.Places.{is_free}
use Rattle.place.specs.declared.place.Place.{Place}
use Rattle.unit.specs.Forms.{most_actions, listed}
use Rattle.unit.specs.States.{nowhere}
use Rattle.unit.specs.declared.answer.Action.{Action}
use Rattle.unit.specs.declared.answer.Actions.{Actions}
use Rattle.unit.specs.declared.search.Standing.{Standing}
use Rattle.unit.specs.declared.state.State.{State}
use Rattle.shunter.specs.Queues.{modem_count, somebody, waiting, queued, in_order, place_at, modems_held}
use Rattle.shunter.specs.Shunting.{kept, waits_for, free_modems, first_requests, shunted}
use Rattle.shunter.specs.Sending.{outward, line_after, sent_with, Fits}
use Rattle.shunter.specs.declared.queue.Queue.{Queue}
use Rattle.shunter.specs.declared.state.Shunter.{Shunter}
use Rattle.shunter.proofs.Queued.{Named, somebody-named, named-append, waiting-named, waiting-queued, queued-ordered}
use Rattle.shunter.proofs.CodeLines.{ServedAs}

-- those kept of somebodies are somebodies
kept-named : (test : ℕ → Bool) (is : List ℕ) → Named is → Named (kept test is)
unfolding kept
kept-named test [] named = tt
kept-named test (i ∷ is) named =
    let rest = kept-named test is named.1 in
    cond-case Named (test i) (i ∷ kept test is) (kept test is) (λ passes. (named.0, rest)) (λ fails. rest)

-- who waits after a step is somebody
pub line-named : (q : Queue) (after : List Place) (joiner : ℕ) → Named (line_after (waiting q) after joiner)
line-named q after joiner =
    let test : ℕ → Bool = λ i. not (is_free (place_at after i)) in
    named-append (kept test (waiting q)) (somebody joiner) (kept-named test (waiting q) (waiting-named q)) (somebody-named joiner)

module _
    (h : Shunter)
    (next : State)
    (acts : List Action)
    (row : List ℕ)
    (named : Named row)
    (fits : Fits (sent_with h next acts row) row)
  where
    -- the places after the core's step
    abbrev ps : List Place
    ps = next.places

    -- what goes out of the core's actions
    abbrev going : List Action
    going = outward (waits_for h.state.places (waiting h.queue)) acts

    -- the row made a queue, the modems counted, the actions gathered, the free modems given away
    pub sent-by : (line q : Queue) (out a : Actions) (held free : ℕ) (w : Standing)
        → line ≡ queued row
        → held ≡ modems_held ps (waiting line)
        → free ≡ modem_count - held
        → out ≡ listed going
        → ((sent : List Action)
        → in_order line ≡ true
        → out ≡ listed sent
        → length (sent ++ first_requests ps (take free (waiting line))) ≤ most_actions
        → ServedAs ps sent free (waiting line) a q)
        → w ≡ nowhere
        → record { code = accepted; shunter = record { state = next; queue = q }; actions = a; standing = w }
        ≡ shunted (sent_with h next acts row)
    unfolding sent_with shunted
    sent-by line q out a held free w made counted left gathered serves stands =
        let wait : waiting line ≡ row = ap waiting made ∙ waiting-queued row named fits.1 in
        let many : free ≡ free_modems ps row = left ∙ ap (λ k. modem_count - k) (counted ∙ ap (modems_held ps) wait) in
        let now = ap₂ take many wait in
        let few = subst⁻¹ (λ l. length (going ++ first_requests ps l) ≤ most_actions) now fits.0 in
        let given = serves going (ap in_order made ∙ queued-ordered row named) gathered few in
        λ i.
        record {
          code = accepted;
          shunter = record { state = next; queue = (given.1 ∙ ap₂ (λ n l. queued (drop n l)) many wait) i };
          actions = (given.0 ∙ ap (λ l. listed (going ++ first_requests ps l)) now) i;
          standing = stands i;
        }
