-- A phase and a direction that there are, and no tries in Open.
use Rattle.std.proofs.Common.{ap₂, ◌∙◌, ◌&&◌}
use Rattle.image.proofs.Spelt.{held-spelt}
use Rattle.image.proofs.read.held_spelt.Goals as goal

pub returns : goal.returns
returns c =
    c.and-2.ensures
    ∙ ap₂ ◌&&◌ c.and.ensures c.or.ensures
    ∙ held-spelt c.args.phase c.args.direction c.args.used c.requires
