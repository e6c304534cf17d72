-- The train and the marks alone.
use Rattle.std.proofs.Common.{◌≡◌, ◌∙◌, ap, length, rules}
use Rattle.unit.specs.Changes.{carried}
use Rattle.unit.proofs.Settling.{carried-quiet}
use Rattle.unit.proofs.state.State.note.Goals as goal

pub returns : goal.returns
returns c =
    let four : length c.args.self.places ≡ 4 = search rules in
    ap (carried c.args.self) c.noted.ensures ∙ carried-quiet c.args.self four _ _ _
