-- Each of the four.
use Rattle.std.proofs.Common.{ap₂, ◌∙◌, ◌&&◌}
use Rattle.image.proofs.Spelt.{marks-spelt}
use Rattle.image.proofs.read.marks_spelt.Goals as goal

pub returns : goal.returns
returns c =
    c.and-3.ensures
    ∙ ap₂ ◌&&◌ c.and.ensures c.and-2.ensures
    ∙ marks-spelt c.args.body.now c.requires _ _ _ _
    c.mark_spelt.ensures
    c.mark_spelt-2.ensures
    c.mark_spelt-3.ensures
    c.mark_spelt-4.ensures
