-- The actions of each move, in their order.
use Rattle.std.proofs.Common.{◌≡◌, map, sym, ap, ◌∙◌, arith}
use Rattle.record.specs.declared.partner.Partner.{Partner}
use Rattle.place.specs.Table.{release}
use Rattle.unit.specs.Forms.{listed}
use Rattle.unit.specs.Steps.{act}
use Rattle.sets.specs.Moves.{sent_in}
use Rattle.sets.specs.declared.moves.Move.{Move}
use Rattle.sets.proofs.SentLaws.{listed-room, listed-sent, none-room, none-sent}
use Rattle.sets.proofs.step.sent_in.Goals as goal

-- what is sent goes by the move
by : (p : Partner) {mv other : Move} → mv ≡ other → listed (map (act p) (sent_in other)) ≡ listed (map (act p) (sent_in mv))
by p told = ap (λ mv. listed (map (act p) (sent_in mv))) (sym told)

pub send-requires : goal.send-requires
send-requires c = none-room _ c.no_actions-in-Leaves.ensures

pub send-requires-in-Sends : goal.send-requires-in-Sends
send-requires-in-Sends c = none-room _ c.no_actions-in-Sends.ensures

pub send-requires-in-SendsBoth : goal.send-requires-in-SendsBoth
send-requires-in-SendsBoth c = none-room _ c.no_actions-in-SendsBoth.ensures

pub send-requires-in-SendsBoth-2 : goal.send-requires-in-SendsBoth-2
send-requires-in-SendsBoth-2 c =
    let first = c.send-in-SendsBoth.ensures ∙ none-sent _ _ _ c.no_actions-in-SendsBoth.ensures in
    listed-room _ _ first (omega arith)

pub returns-in-Leaves : goal.returns-in-Leaves
returns-in-Leaves c =
    c.send.ensures ∙ none-sent _ c.args.partner release c.no_actions-in-Leaves.ensures ∙ by c.args.partner c.in-Leaves.is

pub returns-in-Sends : goal.returns-in-Sends
returns-in-Sends c =
    c.send-in-Sends.ensures
    ∙ none-sent _ c.args.partner _ c.no_actions-in-Sends.ensures
    ∙ by c.args.partner c.in-Sends.is

pub returns-in-SendsBoth : goal.returns-in-SendsBoth
returns-in-SendsBoth c =
    let first = c.send-in-SendsBoth.ensures ∙ none-sent _ _ _ c.no_actions-in-SendsBoth.ensures in
    c.send-in-SendsBoth-2.ensures
    ∙ listed-sent _ _ c.args.partner _ first (omega arith)
    ∙ by c.args.partner c.in-SendsBoth.is
