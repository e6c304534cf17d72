-- A sound state steps to a sound state.
-- Proves: step-facts, step-sound, on_record-sound.
use mathlib.Core.Path.{◌≡◌, refl, ◌∙◌}
use mathlib.Core.Bool.{true, ◌&&◌}
use mathlib.Core.List.{List, ◌∷◌, []}
use Prim.Native.Nat.{ℕ, ◌≤◌, ◌<◌}
use native.Mathlib.Omega.{arith}
use lib.Dec.{leb}
use lib.ListN.{length, get_or, set, length-set}
use borrow.Author.Tests.{le-leb}
use Rattle.record.specs.Partners.{is_rbc, named_ok}
use Rattle.record.specs.Ranges.{event_ok}
use Rattle.record.specs.declared.partner.Partner.{Partner}
use Rattle.record.specs.declared.event.Event.{Event}
use Rattle.wire.proofs.Tests.{and_both}
use Rattle.place.specs.Places.{vacant, seat, holds, place_ok}
use Rattle.place.proofs.Holdings.{holding_turn}
use Rattle.place.specs.Table.{first_try, place_after, established, numbers}
use Rattle.place.specs.declared.phase.Phase.{Phase}
use Rattle.place.specs.declared.phase.Phase.TheVariants.{Connecting, Open}
use Rattle.place.specs.declared.place.Direction.{Direction}
use Rattle.place.specs.declared.place.Direction.TheVariants.{Outgoing, Incoming}
use Rattle.place.specs.declared.place.Place.{Place}
use Rattle.place.specs.declared.turn.Closing.TheVariants.{Every}
use Rattle.place.proofs.Turns.{event-sound, after_holds}
use Rattle.unit.proofs.Meant.{recalled-ok}
use Rattle.unit.specs.declared.last.Last.{Last}
use Rattle.unit.specs.Lasts.{last_ok}
use Rattle.unit.specs.States.{train_ok, marks_ok, sound}
use Rattle.unit.specs.Steps.{Outcome, closed, step}
use Rattle.unit.specs.Standings.{Concern}
use Rattle.unit.specs.OnRecords.{on_record}
use Rattle.unit.specs.declared.state.Train.{Train}
use Rattle.unit.specs.declared.state.Marks.{Marks}
use Rattle.unit.specs.declared.state.State.{State}
use Rattle.unit.specs.declared.search.Found.TheVariants.{Vacant}
use Rattle.unit.proofs.Shapes.{Shape, refuses, notes, closes_every, orders, calls, turns, shape, on-record}
use Rattle.unit.proofs.Weights.{length-closed}
use Rattle.unit.specs.Kept.{here}
use Rattle.wire.specs.Sums.{sum}
use Rattle.unit.proofs.Searches.{found_ok}
use Rattle.unit.proofs.Facts.{PlacesFacts, Facts, limits-tries, sound-facts, facts-sound}
use Rattle.unit.proofs.Facts.{set-facts, take-facts, closed-here, closed_by-facts, place_at}

module _ (s : State) (f : Facts s) where
  some-try : 1 ≤ s.limits.tries
  some-try = (limits-tries s.limits f.limits).0

  -- the state with other sound places, marks, train or last known RBC
  with-places : (m : Marks) (t : Train) (ps : List Place) (last : Last)
      → (train_ok t ≡ true) × (marks_ok m ≡ true)
      → length ps ≡ length s.places
      → PlacesFacts s.limits ps
      → last_ok last ≡ true
      → Facts (record { limits = s.limits; train = t; marks = m; places = ps; last = last })
  with-places m t ps last within same facts known =
      record { limits = f.limits; train = within.0; marks = within.1; four = same ∙ f.four; places = facts; last = known }

  -- a place taken by a partner that has none
  seated : (m : Marks) (ps : List Place) (last : Last) (i : ℕ) (d : Direction) (ph : Phase) (p : Partner)
      → marks_ok m ≡ true
      → length ps ≡ length s.places
      → PlacesFacts s.limits ps
      → i < length s.places
      → place_ok s.limits (seat d ph p) ≡ true
      → sum (here (holds p)) ps ≡ 0
      → last_ok last ≡ true
      → Facts (record { limits = s.limits; train = s.train; marks = m; places = set ps i (seat d ph p); last = last })
  seated m ps last i d ph p marks same facts below good absent known =
      with-places m s.train (set ps i (seat d ph p)) last (f.train, marks) (length-set ps i (seat d ph p) ∙ same)
      (take-facts s.limits ps i d ph p facts (omega arith) good absent)
      known

  facts : {e : Event} {c : Concern} {o : Outcome} → Shape s e c o → event_ok e ≡ true → Facts o.state
  facts (refuses r may said) event = f
  facts (notes t m within) event = with-places m t s.places s.last (within f.train f.marks event) refl f.places f.last
  facts (closes_every t within) event =
      with-places s.marks t (closed Every s.places) s.last (within f.train f.marks event) (length-closed Every s.places)
      (closed_by-facts s.limits some-try Every s.places f.places)
      f.last
  facts (orders p which m i within ok found) event =
      let n = s.limits.tries in
      let free = found_ok p s.places (Vacant i) found in
      let less = closed-here which s.places p in
      let absent = free.2 in
      seated m (closed which s.places) s.last i Outgoing (Connecting first_try) p (within f.train f.marks event).1
      (length-closed which s.places)
      (closed_by-facts s.limits some-try which s.places f.places)
      free.0
      (and_both (named_ok p) (leb 1 n && true) (ok event) (and_both (leb 1 n) true (le-leb 1 n some-try) refl))
      (omega arith)
      f.last
  facts (calls p i ok rbc found) event =
      let free = found_ok p s.places (Vacant i) found in
      seated s.marks s.places _ i Incoming Open p f.marks refl f.places free.0
      (and_both (named_ok p) (is_rbc p && true) (ok event) (and_both (is_rbc p) true rbc refl))
      free.2
      (recalled-ok p (established ∷ []) s.last (ok event) f.last)
  facts (turns p e i ok found taken) event =
      let place = get_or s.places i vacant in
      let t = holding_turn s.limits place.holding e in
      let next = place_after place t in
      let below = (found_ok p s.places _ found).0 in
      with-places s.marks s.train (set s.places i next) _ (f.train, f.marks) (length-set s.places i next)
      (set-facts s.limits s.places i next f.places below
      (event-sound s.limits some-try place.holding e (place_at s.limits s.places i f.places below))
      (λ q. after_holds q place t))
      (recalled-ok p (numbers t) s.last (ok event) f.last)

  pub step-facts : (e : Event) → event_ok e ≡ true → Facts (step s e).state
  step-facts e = facts (shape s e)

-- a sound state steps to a sound state, whatever the event
-- promise
pub step-sound : (s : State) (e : Event)
    → sound s ≡ true
    → event_ok e ≡ true
    → sound (step s e).state ≡ true
step-sound s e ok event =
    facts-sound (step s e).state (step-facts s (sound-facts s ok) e event)

-- and whatever the record, and the room for its actions
-- promise
pub on_record-sound : (s : State) (bytes : List ℕ) (room : ℕ)
    → sound s ≡ true
    → sound (on_record s bytes room).state ≡ true
on_record-sound s bytes room ok =
    on-record s (λ o. sound o.state ≡ true) bytes room (λ r some. ok) (λ e is good event. step-sound s e ok event)
