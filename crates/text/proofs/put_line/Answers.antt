-- The fields one after the other.
use Rattle.std.proofs.Common.{ℕ, ◌≡◌, List, [], ◌∷◌, ◌++◌, take, sym, subst}
use Rattle.wire.specs.Blocks.{blocks}
use Rattle.unit.specs.declared.answer.Action.{Action}
use Rattle.text.specs.Texts.{space, newline, decimal, action_text, line_text}
use Rattle.text.specs.Making.{HasRoom, Put}
use Rattle.text.proofs.Putting.{Putting, putting-start, putting-room, putting-next, putting-last}
use Rattle.text.proofs.put_line.Goals as goal

-- a number after a space
abbrev field : ℕ → List ℕ
field n = space ∷ decimal n

-- the actions and the newline
abbrev from-actions : List Action → List ℕ
from-actions acts = blocks action_text acts ++ (newline ∷ [])

-- the fields, and what is left of them, the kind and the code as they are put: before the number
module _ (number kind code : ℕ) (acts : List Action) (at : ℕ) (buffer : List ℕ)
    (room : HasRoom (line_text number kind code acts) at buffer) where
  abbrev Left : List ℕ → ℕ → List ℕ → Type 0
  Left = Putting (line_text number kind code acts) at buffer

  left-number : Left (decimal number ++ (field kind ++ (field code ++ from-actions acts))) at buffer
  unfolding line_text
  left-number = putting-start _ at buffer room

  -- before the kind
  module _ (n : ℕ) (b : List ℕ) (numbered : Put (decimal number) at buffer n b) (x : ℕ) (is-kind : x ≡ kind) where
    left-kind : Left (field x ++ (field code ++ from-actions acts)) n b
    left-kind =
        subst (λ k. Left (field k ++ (field code ++ from-actions acts)) n b) (sym is-kind)
        (putting-next _ _ _ (decimal number) _ _ _ left-number _ _ numbered)

    -- before the code
    module _ (m : ℕ) (d : List ℕ) (kinded : Put (field x) n b m d) (y : ℕ) (is-code : y ≡ code) where
      left-code : Left (field y ++ from-actions acts) m d
      left-code =
          subst (λ k. Left (field k ++ from-actions acts) m d) (sym is-code)
          (putting-next _ _ _ (field x) _ _ _ left-kind _ _ kinded)

      -- before the actions
      module _ (k : ℕ) (e : List ℕ) (coded : Put (field y) m d k e) where
        left-actions : Left (from-actions acts) k e
        left-actions = putting-next _ _ _ (field y) _ _ _ left-code _ _ coded

        -- before the newline
        left-newline : (j : ℕ) (f : List ℕ) → Put (blocks action_text acts) k e j f → Left (newline ∷ []) j f
        left-newline j f told = putting-next _ _ _ (blocks action_text acts) _ _ _ left-actions _ _ told

pub put_number-numbered-requires : goal.put_number-numbered-requires
put_number-numbered-requires c =
    let acts = take c.args.actions.count c.args.actions.items in
    putting-room _ _ _ (decimal c.args.number) (field c.args.kind ++ (field c.args.code ++ from-actions acts)) _ _
    (left-number c.args.number c.args.kind c.args.code acts c.args.at c.args.buffer.now c.requires)

pub put_field-kinded-requires : goal.put_field-kinded-requires
put_field-kinded-requires c =
    let acts = take c.args.actions.count c.args.actions.items in
    putting-room _ _ _ (field c.from.result) (field c.args.code ++ from-actions acts) _ _
    (left-kind c.args.number c.args.kind c.args.code acts c.args.at c.args.buffer.now c.requires _ _
    c.put_number-numbered.ensures _ c.from.ensures)

pub put_field-coded-requires : goal.put_field-coded-requires
put_field-coded-requires c =
    let acts = take c.args.actions.count c.args.actions.items in
    putting-room _ _ _ (field c.from-2.result) (from-actions acts) _ _
    (left-code c.args.number c.args.kind c.args.code acts c.args.at c.args.buffer.now c.requires _ _
    c.put_number-numbered.ensures _ c.from.ensures _ _ c.put_field-kinded.ensures _ c.from-2.ensures)

pub put_actions-told-requires : goal.put_actions-told-requires
put_actions-told-requires c =
    let acts = take c.args.actions.count c.args.actions.items in
    putting-room _ _ _ (blocks action_text acts) (newline ∷ []) _ _
    (left-actions c.args.number c.args.kind c.args.code acts c.args.at c.args.buffer.now c.requires _ _
    c.put_number-numbered.ensures _ c.from.ensures _ _ c.put_field-kinded.ensures _ c.from-2.ensures _ _
    c.put_field-coded.ensures)

pub put_byte-requires : goal.put_byte-requires
put_byte-requires c =
    let acts = take c.args.actions.count c.args.actions.items in
    (left-newline c.args.number c.args.kind c.args.code acts c.args.at c.args.buffer.now c.requires _ _
    c.put_number-numbered.ensures _ c.from.ensures _ _ c.put_field-kinded.ensures _ c.from-2.ensures _ _
    c.put_field-coded.ensures _ _ c.put_actions-told.ensures).0

pub returns : goal.returns
returns c =
    let acts = take c.args.actions.count c.args.actions.items in
    putting-last _ _ _ (newline ∷ []) _ _
    (left-newline c.args.number c.args.kind c.args.code acts c.args.at c.args.buffer.now c.requires _ _
    c.put_number-numbered.ensures _ c.from.ensures _ _ c.put_field-kinded.ensures _ c.from-2.ensures _ _
    c.put_field-coded.ensures _ _ c.put_actions-told.ensures)
    _ _
    c.put_byte.ensures
