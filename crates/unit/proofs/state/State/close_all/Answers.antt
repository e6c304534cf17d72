-- Every place is due.
use Rattle.std.proofs.Common.{rules, ◌≡◌, ◌∙◌, ap, length}
use Rattle.unit.specs.Changes.{carried}
use Rattle.unit.proofs.Settling.{carried-noted}
use Rattle.unit.proofs.state.State.close_all.Goals as goal

pub returns : goal.returns
returns c =
    let four : length c.args.self.places ≡ 4 = search rules in
    ap (carried c.args.self) c.noted.ensures ∙ carried-noted c.args.self four _ _ _ _
