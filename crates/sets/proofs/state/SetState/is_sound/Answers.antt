-- Each part is tested, the sets last.
use Rattle.std.proofs.Common.{ap₂, ◌∙◌, ◌&&◌}
use Rattle.sets.proofs.SixLaws.{ready-parts}
use Rattle.sets.proofs.state.SetState.is_sound.Goals as goal

pub returns : goal.returns
returns c =
    ap₂ ◌&&◌ c.limits_ok.ensures
    (ap₂ ◌&&◌ c.train_ok.ensures
    (ap₂ ◌&&◌ c.marks_ok.ensures (ap₂ ◌&&◌ c.is_sound.ensures c.is_sound-2.ensures)))
    ∙ ready-parts c.args.self
