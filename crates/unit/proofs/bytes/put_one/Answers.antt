-- The action stands behind the others.
use Rattle.std.proofs.Common.{refl}
use Rattle.unit.proofs.Written.{appended_one}
use Rattle.unit.proofs.bytes.put_one.Goals as goal

pub returns : goal.returns
returns c =
    let count = c.args.count in
    (refl, appended_one c.args.s.now _ count _ c.requires.0 c.requires.1 c.put.ensures)
