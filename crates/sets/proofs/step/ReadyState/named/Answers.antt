-- The member that is the partner moves.
use Rattle.std.proofs.Common.{sym, ap, ◌∙◌}
use Rattle.sets.proofs.SixByName.{found-names}
use Rattle.sets.proofs.StepLaws.{answering, named-is}
use Rattle.sets.proofs.step.ReadyState.named.Goals as goal

pub returns-in-Some : goal.returns-in-Some
returns-in-Some c =
    let stands = c.in-Some.ensures ∙ found-names c.args.partner c.args.self.state.sets in
    c.move_in.ensures ∙ ap answering (named-is c.args.self.state c.args.partner c.args.event _ (sym stands))

pub returns-in-None : goal.returns-in-None
returns-in-None c =
    let absent = c.in-None.ensures ∙ found-names c.args.partner c.args.self.state.sets in
    c.refuse.ensures ∙ ap answering (named-is c.args.self.state c.args.partner c.args.event _ (sym absent))
