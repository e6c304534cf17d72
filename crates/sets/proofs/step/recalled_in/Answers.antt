-- What is known after the actions of each move.
use Rattle.std.proofs.Common.{◌≡◌, map, sym, ap, ◌∙◌}
use mathlib.Core.Logic.{inl, inr}
use Rattle.record.specs.declared.partner.Partner.{Partner}
use Rattle.unit.specs.Lasts.{recalled_by, recalled}
use Rattle.unit.specs.Steps.{act}
use Rattle.unit.specs.declared.last.Last.{Last}
use Rattle.sets.specs.Moves.{sent_in}
use Rattle.sets.specs.declared.moves.Move.{Move}
use Rattle.sets.proofs.step.recalled_in.Goals as goal

-- what is known goes by the move
by : (l : Last) (p : Partner) {mv other : Move}
    → mv ≡ other
    → recalled l (map (act p) (sent_in other)) ≡ recalled l (map (act p) (sent_in mv))
by l p told = ap (λ mv. recalled l (map (act p) (sent_in mv))) (sym told)

pub returns-in-Stays : goal.returns-in-Stays
unfolding recalled
returns-in-Stays c =
    elim c.in-Stays.is [
      | inl is ↦ by c.args.last c.args.partner is
      | inr (set, tries, is) ↦ by c.args.last c.args.partner is
    ]

pub returns-in-Leaves : goal.returns-in-Leaves
unfolding recalled
returns-in-Leaves c = c.recall.ensures ∙ by c.args.last c.args.partner c.in-Leaves.is

pub returns-in-Sends : goal.returns-in-Sends
unfolding recalled
returns-in-Sends c = c.recall-in-Sends.ensures ∙ by c.args.last c.args.partner c.in-Sends.is

pub returns-in-SendsBoth : goal.returns-in-SendsBoth
unfolding recalled
returns-in-SendsBoth c =
    c.recall-in-SendsBoth-2.ensures
    ∙ ap (λ l. recalled_by l (act c.args.partner c.in-SendsBoth.second)) c.recall-in-SendsBoth.ensures
    ∙ by c.args.last c.args.partner c.in-SendsBoth.is
