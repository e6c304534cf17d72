-- What is left to put are the actions from here on.
use Rattle.std.proofs.Common.{ℕ, ◌≡◌, ◌+◌, ◌<◌, List, ◌++◌, length, get_or, take, drop, sym, ap, subst, ◌∙◌}
use Rattle.std.proofs.Common.{min, add-one, arith, rules, drop-cons}
use Rattle.std.proofs.lemmas.List.{take_min}
use lib.ListN.{drop_of_length-le}
use Rattle.wire.specs.Blocks.{blocks}
use Rattle.unit.specs.Forms.{no_action}
use Rattle.unit.specs.declared.answer.Action.{Action}
use Rattle.text.specs.Texts.{action_text}
use Rattle.text.specs.Making.{Put}
use Rattle.text.proofs.Putting.{Putting, putting-room, putting-next, putting-none}
use Rattle.text.proofs.put_actions.Goals as goal

-- what is left, in the loop and after it
module _ (row : List Action) (at : ℕ) (buffer₀ : List ℕ) (next : ℕ) (buffer : List ℕ) where
  abbrev Left : List ℕ → Type 0
  Left l = Putting (blocks action_text row) at buffer₀ l next buffer

  left-next : (i : ℕ)
      → i < length row
      → Left (blocks action_text (drop i row))
      → Left (action_text (get_or row i no_action) ++ blocks action_text (drop (i + 1) row))
  unfolding blocks
  left-next i inside left =
      subst Left
      (ap (blocks action_text) (drop-cons row i no_action inside)
      ∙ ap (λ k. action_text (get_or row i no_action) ++ blocks action_text (drop k row)) (sym (add-one i)))
      left

pub put_action-next-requires : goal.put_action-next-requires
put_action-next-requires c =
    let row = take c.min-told.result c.args.actions.items in
    let i = c.loop-action.action-index in
    putting-room _ _ _ (action_text (get_or row i no_action)) (blocks action_text (drop (i + 1) row)) _ _
    (left-next row c.args.at c.args.buffer.now c.loop-action.next c.loop-action.buffer i c.loop-action-test.true
    c.loop-action.invariant)

pub loop-action-preserved : goal.loop-action-preserved
loop-action-preserved c =
    let row = take c.min-told.result c.args.actions.items in
    let i = c.loop-action.action-index in
    putting-next _ _ _ (action_text (get_or row i no_action)) (blocks action_text (drop (i + 1) row)) _ _
    (left-next row c.args.at c.args.buffer.now c.loop-action.next c.loop-action.buffer i c.loop-action-test.true
    c.loop-action.invariant)
    _ _
    c.put_action-next.ensures

pub returns : goal.returns
unfolding blocks
returns c =
    let at = c.args.at in
    let buffer = c.args.buffer.now in
    let items = c.args.actions.items in
    let row = take c.min-told.result items in
    let four : length items ≡ 4 = search rules in
    let all : row ≡ take c.args.actions.count items =
    ap (λ k. take k items) c.min-told.ensures
    ∙ subst (λ m. take (min c.args.actions.count m) items ≡ take c.args.actions.count items) four (take_min _ items) in
    subst (λ l. Put (blocks action_text l) at buffer c.loop-action.next c.loop-action.buffer) all
    (putting-none _ _ _ _ _
    (subst (λ l. Putting (blocks action_text row) at buffer (blocks action_text l) c.loop-action.next c.loop-action.buffer)
    (drop_of_length-le row {i = c.loop-action.action-index} (omega (arith, c.loop-action-test.false))) c.loop-action.invariant))
