-- The new action stands after the others.
use Rattle.unit.specs.Steps.{act}
use Rattle.sets.specs.Holding.{sent_so_far}
use Rattle.sets.proofs.SentLaws.{listed-push}
use Rattle.sets.proofs.answer.send.Goals as goal

pub returns : goal.returns
returns c =
    let actions = c.args.actions in
    listed-push actions (sent_so_far actions) (act c.args.partner c.args.number) c.requires.0.1 c.requires.1
