-- The three parts one after the other.
use Rattle.std.proofs.Common.{ℕ, ◌≡◌, List, ◌∷◌, ◌++◌, sym, subst}
use Rattle.unit.specs.declared.answer.Action.{Action}
use Rattle.text.specs.Texts.{space, colon, slash, decimal, partner_number, action_text}
use Rattle.text.specs.Making.{HasRoom, Put}
use Rattle.text.proofs.Putting.{Putting, putting-start, putting-room, putting-next, putting-last}
use Rattle.text.proofs.put_action.Goals as goal

-- the parts
abbrev number : ℕ → List ℕ
number n = space ∷ decimal n

abbrev type : ℕ → List ℕ
type n = colon ∷ decimal n

abbrev partner : ℕ → List ℕ
partner n = slash ∷ decimal n

-- what is left of them, each with the number as it is put: before the number
module _ (a : Action) (at : ℕ) (buffer : List ℕ) (room : HasRoom (action_text a) at buffer) where
  abbrev Left : List ℕ → ℕ → List ℕ → Type 0
  Left = Putting (action_text a) at buffer

  abbrev last : List ℕ
  last = partner (partner_number a.partner)

  module _ (x : ℕ) (is-number : x ≡ a.number) where
    left-number : Left (number x ++ (type a.partner.kind ++ last)) at buffer
    unfolding action_text
    left-number =
        subst (λ k. Left (number k ++ (type a.partner.kind ++ last)) at buffer) (sym is-number) (putting-start _ at buffer room)

    -- before the type
    module _ (n : ℕ) (b : List ℕ) (numbered : Put (number x) at buffer n b) (y : ℕ) (is-type : y ≡ a.partner.kind) where
      left-type : Left (type y ++ last) n b
      left-type =
          subst (λ k. Left (type k ++ last) n b) (sym is-type) (putting-next _ _ _ (number x) _ _ _ left-number _ _ numbered)

      -- before the partner
      left-partner : (m : ℕ) (d : List ℕ) → Put (type y) n b m d → (z : ℕ) → z ≡ partner_number a.partner
          → Left (partner z) m d
      left-partner m d typed z is-partner =
          subst (λ k. Left (partner k) m d) (sym is-partner) (putting-next _ _ _ (type y) _ _ _ left-type _ _ typed)

pub put_field-numbered-requires : goal.put_field-numbered-requires
put_field-numbered-requires c =
    let a = c.args.action in
    putting-room _ _ _ (number c.from.result) (type a.partner.kind ++ partner (partner_number a.partner)) _ _
    (left-number a c.args.at c.args.buffer.now c.requires _ c.from.ensures)

pub put_field-typed-requires : goal.put_field-typed-requires
put_field-typed-requires c =
    let a = c.args.action in
    putting-room _ _ _ (type c.from-2.result) (partner (partner_number a.partner)) _ _
    (left-type a c.args.at c.args.buffer.now c.requires _ c.from.ensures _ _ c.put_field-numbered.ensures _ c.from-2.ensures)

pub put_field-requires : goal.put_field-requires
put_field-requires c =
    (left-partner c.args.action c.args.at c.args.buffer.now c.requires _ c.from.ensures _ _ c.put_field-numbered.ensures _
    c.from-2.ensures _ _ c.put_field-typed.ensures _ c.partner_number.ensures).0

pub returns : goal.returns
returns c =
    putting-last _ _ _ (partner c.partner_number.result) _ _
    (left-partner c.args.action c.args.at c.args.buffer.now c.requires _ c.from.ensures _ _ c.put_field-numbered.ensures _
    c.from-2.ensures _ _ c.put_field-typed.ensures _ c.partner_number.ensures)
    _ _
    c.put_field.ensures
