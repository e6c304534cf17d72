-- The place of the partner turns.
use Rattle.std.proofs.Common.{sym, ◌∙◌, arith}
use Rattle.unit.proofs.Searches.{found_ok}
use Rattle.unit.proofs.Rules.{named-is}
use Rattle.unit.proofs.FourPlaces.{four-places}
use Rattle.unit.proofs.state.State.named.Goals as goal

pub turn-requires : goal.turn-requires
turn-requires c =
    let four = four-places c.args.self c.well_formed.0 in
    let ok = found_ok c.args.partner c.args.self.places _ (sym c.in-At.ensures) in
    (omega (arith, four, ok.0), ok.2)

pub returns-in-At : goal.returns-in-At
returns-in-At c =
    c.turn.ensures ∙ sym (named-is c.args.self c.args.partner c.args.event _ (sym c.in-At.ensures))

pub returns-in-Vacant : goal.returns-in-Vacant
returns-in-Vacant c =
    c.refuse.ensures ∙ sym (named-is c.args.self c.args.partner c.args.event _ (sym c.in-Vacant.ensures))

pub returns-in-Full : goal.returns-in-Full
returns-in-Full c =
    c.refuse-in-Full.ensures ∙ sym (named-is c.args.self c.args.partner c.args.event _ (sym c.in-Full.ensures))
