-- Two bytes.
use Rattle.std.proofs.Common.{◌∙◌}
use Rattle.image.specs.Images.{state_in}
use Rattle.image.proofs.read.train_in.Goals as goal

pub returns : goal.returns
unfolding state_in
returns c =
    let level = c.from.ensures ∙ c.byte_at.ensures in
    let mission = c.from-2.ensures ∙ c.byte_at-2.ensures in
    λ i. record { level = level i; mission = mission i }
