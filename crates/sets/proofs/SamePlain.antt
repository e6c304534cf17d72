-- What it says that the two engines answer alike, word by word: the refusal, the phase, the sets with their tries and directions, the other
-- fields, and how often each action goes to each partner.
-- Proves: same-refusal, same-phase, same-others, same-collection, place-member, member-place, sets-run-counts, sets-run-others.
use mathlib.Core.Path.{◌≡◌, refl, ap}
use mathlib.Core.Bool.{Bool, true, false, ◌&&◌}
use mathlib.Core.List.{List}
use Prim.Native.Nat.{ℕ, ◌<◌}
use native.Mathlib.Omega.{arith}
use lib.Dec.{eqb, ltb}
use lib.ListN.{length, get_or}
use borrow.Author.Tests.{ltb-true, ltb-false}
use Rattle.record.specs.Partners.{same_partner}
use Rattle.record.specs.declared.partner.Partner.{Partner}
use Rattle.place.specs.Places.{tries, vacant, seat, held_phase, holds}
use Rattle.place.specs.declared.phase.Phase.{Phase}
use Rattle.place.specs.declared.place.Direction.{Direction}
use Rattle.place.specs.declared.place.Holding.TheVariants.{Held}
use Rattle.place.specs.declared.place.Place.{Place}
use Rattle.unit.specs.Kept.{count}
use Rattle.unit.specs.OnRecords.{on_record}
use Rattle.unit.specs.Runs.{run}
use Rattle.unit.specs.States.{sound, first}
use Rattle.unit.specs.declared.state.State.{State}
use Rattle.unit.proofs.Facts.{sound-facts}
use Rattle.unit.proofs.Searches.{first_passes, first-none}
use Rattle.sets.specs.Members.{is_for, has_member, member_for}
use Rattle.sets.specs.SixSets.{set_in, six_in, unpacked, set_ready}
use Rattle.sets.specs.SetSteps.{new_member}
use Rattle.sets.specs.OnSets.{on_sets}
use Rattle.sets.specs.SetRuns.{set_run}
use Rattle.sets.specs.SameSets.{name_of, SameState, SameAnswer}
use Rattle.sets.specs.SameWords.{HeldAs, SameReport}
use Rattle.sets.specs.declared.names.SetName.{SetName}
use Rattle.sets.specs.declared.state.SetState.{SetState}
use Rattle.sets.proofs.Counting.{within-counted, many-in}
use Rattle.sets.proofs.SameSearch.{is_within, member-there, found-same}
use Rattle.sets.proofs.SameStep.{held-as}
use Rattle.sets.proofs.SameAnswers.{same_answer}
use Rattle.sets.proofs.SameRuns.{same-run}

module _ (s : State) (b : SetState) (ok : sound s ≡ true) (ready : set_ready b ≡ true) (same : SameState s (unpacked b)) where
  module _ (bytes : List ℕ) (room : ℕ) where
    -- the two answers to a record
    abbrev answer : SameAnswer (on_record s bytes room) (on_sets b bytes room)
    answer = same_answer s b ok ready same bytes room

    -- "the same refusal"
    -- promise
    pub same-refusal : (on_record s bytes room).code ≡ (on_sets b bytes room).code
    same-refusal = answer.code

    -- the phase of Q-6
    -- promise
    pub same-phase : (on_record s bytes room).standing.phase ≡ (on_sets b bytes room).phase
    same-phase = answer.phase

    -- "other fields"
    -- promise
    pub same-others : ((on_record s bytes room).state.limits ≡ (on_sets b bytes room).state.limits)
        × ((on_record s bytes room).state.train ≡ (on_sets b bytes room).state.train)
        × ((on_record s bytes room).state.marks ≡ (on_sets b bytes room).state.marks)
        × ((on_record s bytes room).state.last ≡ (on_sets b bytes room).state.last)
    unfolding unpacked
    same-others = (answer.state.limits, answer.state.train, answer.state.marks, answer.state.last)

    -- "the same number of each action for each partner"
    -- promise
    pub same-collection : (number : ℕ) (p : Partner)
        → count (λ a. eqb a.number number && same_partner p a.partner) (on_record s bytes room).actions
        ≡ count (λ a. eqb a.number number && same_partner p a.partner) (on_sets b bytes room).actions
    same-collection number p = answer.actions (λ a. eqb a.number number && same_partner p a.partner)

  -- whoever has a place is a member of the set of its phase and direction, with its tries
  -- promise
  pub place-member : (i : ℕ) (d : Direction) (ph : Phase) (p : Partner)
      → i < length s.places
      → get_or s.places i vacant ≡ seat d ph p
      → (has_member p (set_in (name_of d ph) (six_in b)) ≡ true)
      × (member_for p (set_in (name_of d ph) (six_in b)) ≡ new_member d (tries ph) p)
  unfolding unpacked
  place-member i d ph p below is =
      let one = (sound-facts s ok).places.1 p in
      let at : (get_or s.places i vacant).holding ≡ Held d ph p = ap (λ (q : Place). q.holding) is in (
        is_within p s.places (six_in b) same.members one i below d ph at,
        member-there p s.places (six_in b) same.members one i below d ph at,
      )

  -- and whoever is a member has a place, whose phase and direction are of that set and whose tries are the member's
  -- promise
  pub member-place : (p : Partner) (w : SetName)
      → has_member p (set_in w (six_in b)) ≡ true
      → HeldAs p w (member_for p (set_in w (six_in b))) (get_or s.places (first (holds p) s.places) vacant).holding
  unfolding unpacked
  member-place p w is =
      held-as p (held_phase (get_or s.places i vacant)) (get_or s.places i vacant).holding (first_passes (holds p) s.places below) refl
      (HeldAs p w (member_for p (set_in w (six_in b))))
      (λ d at.
      let one = (sound-facts s ok).places.1 p in
      let both = found-same p s.places (six_in b) same.members one i below d (held_phase (get_or s.places i vacant)) at w is in
      (refl, both.0, both.1))
    where
      i : ℕ
      i = first (holds p) s.places

      below : i < length s.places
      below = by (ltb i (length s.places)) refl
        where
          by : (c : Bool) → ltb i (length s.places) ≡ c → i < length s.places
          by true lt = ltb-true i (length s.places) lt
          by false ge =
              let none = first-none (holds p) s.places (ltb-false i (length s.places) ge) in
              let held = same.members (λ w. is_for p) in
              let one = within-counted p (set_in w (six_in b)) is in
              let all = many-in (λ w. is_for p) w (six_in b) in
              absurd (omega arith)

  -- of a run: refusal, stop, offset reached, records read and refused, totals
  module _ (log : List ℕ) (budget : ℕ) where
    -- the two reports
    abbrev report : SameReport (run s log budget) (set_run b log budget)
    report = same-run s b ok ready same log budget

    -- promise
    pub sets-run-counts : ((run s log budget).code ≡ (set_run b log budget).code)
        × ((run s log budget).stop ≡ (set_run b log budget).stop)
        × ((run s log budget).tally.offset ≡ (set_run b log budget).tally.offset)
        × ((run s log budget).tally.read ≡ (set_run b log budget).tally.read)
        × ((run s log budget).tally.refused ≡ (set_run b log budget).tally.refused)
        × ((run s log budget).tally.totals ≡ (set_run b log budget).tally.totals)
    sets-run-counts = (report.code, report.stop, report.offset, report.read, report.refused, report.totals)

    -- and the other fields of its state
    -- promise
    pub sets-run-others : ((run s log budget).tally.state.limits ≡ (set_run b log budget).tally.state.limits)
        × ((run s log budget).tally.state.train ≡ (set_run b log budget).tally.state.train)
        × ((run s log budget).tally.state.marks ≡ (set_run b log budget).tally.state.marks)
        × ((run s log budget).tally.state.last ≡ (set_run b log budget).tally.state.last)
    unfolding unpacked
    sets-run-others = (report.state.limits, report.state.train, report.state.marks, report.state.last)
