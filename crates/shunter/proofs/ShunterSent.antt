-- What a step sends, as the code holds it in an array and writes it to the buffer.
-- Proves: written_next, sent-few, sent-row, sent-answer, sent-written, short-answer, short-written.
use mathlib.Core.Path.{◌≡◌, sym, ap, subst, ◌∙◌}
use mathlib.Core.List.{List}
use Prim.Native.Nat.{ℕ, ◌+◌, ◌*◌, ◌≤◌, ◌<◌}
use native.Mathlib.Numerals.{add-one}
use native.Mathlib.Omega.{arith}
use borrow.Author.Tests.{le-leb, lt-leb}
use lib.ListN.{length, get_or, take}
use lib.Seq.{sets, take-suc, length-take-le}
use Rattle.wire.specs.Refusals.{no_room}
use Rattle.unit.specs.Forms.{most_actions, no_action, listed}
use Rattle.unit.specs.OnRecords.{action_room, action_size, bytes_of, written}
use Rattle.unit.specs.States.{nowhere}
use Rattle.unit.specs.declared.answer.Action.{Action}
use Rattle.unit.specs.declared.search.Standing.{Standing}
use Rattle.unit.proofs.Written.{appended_one, written_none, listed-take}
use Rattle.shunter.specs.Shunting.{applying, shunt, shunted, sent_of}
use Rattle.shunter.specs.declared.answer.Shunted.{Shunted}
use Rattle.shunter.specs.declared.state.Shunter.{Shunter}
use Rattle.shunter.proofs.Goods.{few}

-- one more action of the array is written behind the others
pub written_next : (items : List Action) (i : ℕ) (before after buffer : List ℕ)
    → i < length items
    → i < most_actions
    → action_room ≤ length before
    → before ≡ written (take i items) buffer
    → after ≡ sets before (action_size * i) (bytes_of (get_or items i no_action))
    → after ≡ written (take (i + 1) items) buffer
written_next items i before after buffer some under room so_far put =
    let one = get_or items i no_action in
    let long = length-take-le i items (omega arith) in
    appended_one before after i one under room put (take i items) buffer (sym long) so_far
    ∙ ap (λ l. written l buffer) (sym (take-suc items i no_action some) ∙ ap (λ n. take n items) (sym (add-one i)))

module _ (h : Shunter) (bytes : List ℕ) (answer : Shunted) (made : answer ≡ shunted (applying h bytes)) where
  -- the answer to a record counts few enough actions
  pub sent-few : answer.actions.count ≤ most_actions
  unfolding shunted listed
  sent-few = subst (λ x. x.actions.count ≤ most_actions) (sym made) (few h bytes)

  -- those that go out stand at the front of its array
  pub sent-row : take answer.actions.count answer.actions.items ≡ (applying h bytes).actions
  unfolding shunted
  sent-row =
      ap (λ (x : Shunted). take x.actions.count x.actions.items) made ∙ listed-take (applying h bytes).actions (few h bytes)

  -- where there is room, the step on bytes answers the same beside the buffer
  pub sent-answer : (room : ℕ)
      → action_room ≤ room
      → record { code = answer.code; shunter = answer.shunter; count = answer.actions.count; standing = answer.standing }
      ≡ sent_of (shunt h bytes room)
  unfolding shunted listed sent_of shunt
  sent-answer room enough =
      rw (le-leb action_room room enough)
      (λ i. record { code = (made i).code; shunter = (made i).shunter; count = (made i).actions.count; standing = (made i).standing })

  -- and its actions are written there
  pub sent-written : (before after : List ℕ)
      → action_room ≤ length before
      → after ≡ written (take answer.actions.count answer.actions.items) before
      → after ≡ written (shunt h bytes (length before)).actions before
  unfolding shunt
  sent-written before after enough wrote =
      rw (le-leb action_room (length before) enough) (wrote ∙ ap (λ l. written l before) sent-row)

module _ (h : Shunter) (bytes buffer : List ℕ) (short : length buffer < action_room) where
  -- a buffer that is too short is answered by the refusal alone
  pub short-answer : (w : Standing)
      → w ≡ nowhere
      → record { code = no_room; shunter = h; count = 0; standing = w } ≡ sent_of (shunt h bytes (length buffer))
  unfolding sent_of shunt
  short-answer w is =
      rw (lt-leb action_room (length buffer) short)
      (λ i. record { code = no_room; shunter = h; count = 0; standing = is i })

  -- and it stays as it was
  pub short-written : buffer ≡ written (shunt h bytes (length buffer)).actions buffer
  unfolding shunt
  short-written = rw (lt-leb action_room (length buffer) short) (sym (written_none buffer))
