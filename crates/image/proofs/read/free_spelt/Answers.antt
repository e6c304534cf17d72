-- Six bytes, each compared with 0.
use Rattle.std.proofs.Common.{ap₂, ◌∙◌, ◌&&◌}
use Rattle.image.proofs.Spelt.{zeros-after}
use Rattle.image.proofs.read.free_spelt.Goals as goal

pub returns : goal.returns
returns c =
    c.and-5.ensures
    ∙ ap₂ ◌&&◌ (c.and-3.ensures ∙ ap₂ ◌&&◌ c.and.ensures c.and-2.ensures) c.and-4.ensures
    ∙ zeros-after c.args.s.now c.args.at c.requires
