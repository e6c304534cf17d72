-- An event record with its answer and its actions, as bytes.
-- Proves: answered-bytes, answer-few, entry_length, sent-inside, entry-sent.
use mathlib.Core.Path.{◌≡◌, refl, sym, ap, ap₂, subst, ◌∙◌}
use mathlib.Core.List.{List, [], ◌∷◌, ◌++◌, map}
use Prim.Native.Nat.{ℕ, ◌+◌, ◌*◌, ◌≤◌}
use native.Mathlib.Omega.{arith}
use lib.ListN.{length, take, drop, length-append}
use lib.Seq.{take_at}
use Rattle.wire.specs.Blocks.{blocks}
use Rattle.wire.proofs.Blocks.{blocks-length}
use Rattle.unit.specs.Steps.{Outcome}
use Rattle.unit.specs.OnRecords.{action_room, action_size, on_record, bytes_of, action_bytes, written}
use Rattle.unit.specs.Forms.{most_actions, stepped}
use Rattle.unit.specs.declared.answer.Action.{Action}
use Rattle.unit.specs.declared.answer.Stepped.{Stepped}
use Rattle.unit.specs.declared.state.State.{State}
use Rattle.unit.proofs.Few.{on_record-few}
use Rattle.judge.specs.Sheets.{answer_kind, due_bytes, entry_of}
use Rattle.judge.specs.FrontWords.{answer_size}
use Rattle.judge.specs.declared.due.Due.TheVariants.{TheAnswer, TheAction}

actions-length : (acts : List Action) → length (action_bytes acts) ≡ action_size * length acts
actions-length = blocks-length bytes_of action_size (λ a. refl)

-- the actions that are due have the bytes of the actions
due-actions : (acts : List Action) → blocks due_bytes (map TheAction acts) ≡ action_bytes acts
unfolding blocks
due-actions [] = refl
due-actions (a ∷ acts) = ap (◌++◌ (bytes_of a)) (due-actions acts)

-- the answer, then the actions
pub answered-bytes : (code : ℕ) (acts : List Action)
    → blocks due_bytes (TheAnswer code ∷ map TheAction acts) ≡ answer_kind ∷ code ∷ action_bytes acts
unfolding blocks
answered-bytes code acts = ap (λ l. answer_kind ∷ code ∷ l) (due-actions acts)

-- the record, its answer and its actions
entry-bytes : (bytes : List ℕ) (o : Outcome) → entry_of bytes o ≡ bytes ++ (answer_kind ∷ o.code ∷ action_bytes o.actions)
entry-bytes bytes o = ap (◌++◌ bytes) (answered-bytes o.code o.actions)

-- of a record, and what the step on it answers
module _ (s : State) (bytes : List ℕ) (answer : Stepped) (made : answer ≡ stepped (on_record s bytes action_room)) where
  abbrev o : Outcome
  o = on_record s bytes action_room

  count : answer.count ≡ length o.actions
  unfolding stepped
  count = ap (λ (x : Stepped). x.count) made

  -- the step has few actions
  pub answer-few : answer.count ≤ most_actions
  answer-few = subst (λ n. n ≤ most_actions) (sym count) (on_record-few s bytes action_room)

  -- how long the record is with what follows it
  pub entry_length : length (entry_of bytes o) ≡ length bytes + (answer_size + action_size * answer.count)
  entry_length =
      let sent = actions-length o.actions in
      ap length (entry-bytes bytes o) ∙ simp length-append (omega (arith, count))

  -- the bytes of its actions stand in the buffer
  pub sent-inside : (before after : List ℕ) → after ≡ written o.actions before → action_size * answer.count ≤ length after
  unfolding written
  sent-inside before after wrote =
      let size = action_size * length o.actions in
      let all = ap length wrote ∙ length-append (action_bytes o.actions) (drop size before) in
      omega (arith, all, count, actions-length o.actions)

  -- its bytes, the actions read from the front of the buffer that the step wrote them to
  pub entry-sent : (before after : List ℕ)
      → after ≡ written o.actions before
      → entry_of bytes o ≡ bytes ++ (answer_kind ∷ answer.code ∷ take (action_size * answer.count) after)
  unfolding stepped written
  entry-sent before after wrote =
      let code : answer.code ≡ o.code = ap (λ (x : Stepped). x.code) made in
      let size = action_size * length o.actions in
      let front = take_at (action_bytes o.actions) (drop size before) size (actions-length o.actions) in
      let sent = ap₂ (λ n l. take (action_size * n) l) count wrote ∙ front in
      entry-bytes bytes o ∙ sym (ap₂ (λ x l. bytes ++ (answer_kind ∷ x ∷ l)) code sent)
