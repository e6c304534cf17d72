-- What a step sends, as the code holds it in an array and writes it to the buffer.
-- Proves: written_next, sent-few, sent-row, sent-answer, sent-written, short-answer, short-written.
use mathlib.Core.Path.{◌≡◌, refl, sym, ap, subst, ◌∙◌}
use mathlib.Core.List.{List}
use Prim.Native.Nat.{ℕ, ◌+◌, ◌*◌, ◌≤◌, ◌<◌}
use native.Mathlib.Omega.{arith}
use borrow.Author.Tests.{le-leb, lt-leb}
use lib.ListN.{length, get_or, take}
use lib.Seq.{sets, length-take-le}
use Rattle.std.proofs.lemmas.List.{take_more}
use Rattle.wire.specs.Refusals.{no_room}
use Rattle.unit.specs.Forms.{most_actions, no_action, listed}
use Rattle.unit.specs.OnRecords.{action_room, action_size, bytes_of, written}
use Rattle.unit.specs.declared.answer.Action.{Action}
use Rattle.unit.proofs.Written.{appended_one, written_none, listed-take}
use Rattle.sets.specs.OnSets.{apply_sets, on_sets, set_listed, set_stepped}
use Rattle.sets.specs.declared.answer.SetAnswer.{SetAnswer}
use Rattle.sets.specs.declared.state.SetState.{SetState}
use Rattle.sets.proofs.SetFew.{apply-few}

-- one more action of the array is written behind the others
pub written_next : (items : List Action) (i : ℕ) (before after buffer : List ℕ)
    → i < length items
    → i < most_actions
    → action_room ≤ length before
    → before ≡ written (take i items) buffer
    → after ≡ sets before (action_size * i) (bytes_of (get_or items i no_action))
    → after ≡ written (take (i + 1) items) buffer
written_next items i before after buffer some under room so_far put =
    let one = get_or items i no_action in
    let long = length-take-le i items (omega arith) in
    appended_one before after i one under room put (take i items) buffer (sym long) so_far
    ∙ ap (λ l. written l buffer) (sym (take_more items i no_action some))

module _ (b : SetState) (bytes : List ℕ) (answer : SetAnswer) (made : answer ≡ set_listed (apply_sets b bytes)) where
  -- the answer to a record counts few enough actions
  pub sent-few : answer.actions.count ≤ most_actions
  unfolding set_listed listed
  sent-few = subst (λ x. x.actions.count ≤ most_actions) (sym made) (apply-few b bytes)

  -- those that go out stand at the front of its array
  pub sent-row : take answer.actions.count answer.actions.items ≡ (apply_sets b bytes).actions
  unfolding set_listed
  sent-row =
      ap (λ (x : SetAnswer). take x.actions.count x.actions.items) made
      ∙ listed-take (apply_sets b bytes).actions (apply-few b bytes)

  -- where there is room, the step on bytes answers the same beside the buffer
  pub sent-answer : (room : ℕ)
      → action_room ≤ room
      → record { code = answer.code; state = answer.state; count = answer.actions.count; phase = answer.phase }
      ≡ set_stepped (on_sets b bytes room)
  unfolding set_listed listed set_stepped on_sets
  sent-answer room enough =
      rw (le-leb action_room room enough)
      (λ i. record { code = (made i).code; state = (made i).state; count = (made i).actions.count; phase = (made i).phase })

  -- and its actions are written there
  pub sent-written : (before after : List ℕ)
      → action_room ≤ length before
      → after ≡ written (take answer.actions.count answer.actions.items) before
      → after ≡ written (on_sets b bytes (length before)).actions before
  unfolding on_sets
  sent-written before after enough wrote =
      rw (le-leb action_room (length before) enough) (wrote ∙ ap (λ l. written l before) sent-row)

module _ (b : SetState) (bytes buffer : List ℕ) (short : length buffer < action_room) where
  -- a buffer that is too short is answered by the refusal alone
  pub short-answer : record { code = no_room; state = b; count = 0; phase = 0 } ≡ set_stepped (on_sets b bytes (length buffer))
  unfolding set_stepped on_sets
  short-answer = rw (lt-leb action_room (length buffer) short) refl

  -- and it stays as it was
  pub short-written : buffer ≡ written (on_sets b bytes (length buffer)).actions buffer
  unfolding on_sets
  short-written = rw (lt-leb action_room (length buffer) short) (sym (written_none buffer))
