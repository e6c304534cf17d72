-- Cross-checks only: nobody has to believe what stands here.
-- Request Q-11: "Our radio layer delivers events of different partners in whichever order they come": each partner's own events keep their
-- order, and the rows of the partners are mixed in any way.
-- Defines: of_partner (a partner's own row), Interleaved (two mixtures of the same rows), answers_to (what a partner's events get),
-- records_of.
use Rattle.std.specs.Prelude.{cond, ◌≡◌, List, [], ◌∷◌, ◌++◌, ℕ, map}
use Rattle.record.specs.Partners.{same_partner}
use Rattle.record.specs.declared.partner.Partner.{Partner}
use Rattle.unit.specs.declared.state.State.{State}
use Rattle.history.specs.EitherOrder.{Delivered, Reply, next, alone}

abbrev pub records_of : List Delivered → List (List ℕ)
records_of xs = map (λ x. x.bytes) xs

-- the events of a row that name this partner, in their order
unfoldable pub of_partner : Partner → List Delivered → List Delivered
of_partner p [] = []
of_partner p (x ∷ xs) = cond (same_partner p x.partner) (x ∷ []) [] ++ of_partner p xs

-- "in whichever order they come": of each partner the same records in the same order
abbrev pub Interleaved : List Delivered → List Delivered → Type 0
Interleaved xs ys = (p : Partner) → records_of (of_partner p xs) ≡ records_of (of_partner p ys)

-- "each its own same number and actions": what the events that name this partner get along a row, in their order
unfoldable pub answers_to : Partner → State → List Delivered → List Reply
answers_to p s [] = []
answers_to p s (x ∷ xs) = cond (same_partner p x.partner) (alone s x ∷ []) [] ++ answers_to p (next s x) xs
