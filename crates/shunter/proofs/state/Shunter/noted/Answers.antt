-- Nobody is named.
use Rattle.std.proofs.Common.{refl, sym, ◌∙◌}
use Rattle.std.proofs.Math.Nat.{sub-zero}
use Rattle.unit.specs.Standings.{nobody}
use Rattle.shunter.proofs.Answers.{packed-count}
use Rattle.shunter.proofs.state.Shunter.noted.Goals as goal

pub returns : goal.returns
returns c o is good =
    let own = packed-count c.args.answer o is ∙ sym (sub-zero _) in
    c.answered.ensures nobody o is refl refl own refl good
