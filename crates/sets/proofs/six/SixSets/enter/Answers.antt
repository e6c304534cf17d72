-- The set of this name gets the member.
use Rattle.std.proofs.Common.{ap, ◌∙◌, arith}
use Rattle.sets.specs.Members.{tidy}
use Rattle.sets.proofs.StepLaws.{held-count, enter-is}
use Rattle.sets.proofs.SixByName.{held-tidy}
use Rattle.sets.proofs.six.SixSets.enter.Goals as goal

pub with-requires : goal.with-requires
with-requires c =
    let a = c.args in
    let held = c.set.ensures in
    let many = ap (λ s. s.count) held in
    let fits = held-count a.set a.self c.requires.0 in
    (ap tidy held ∙ held-tidy a.set a.self c.requires.0, omega (arith, c.requires.1))

pub returns : goal.returns
returns c =
    let a = c.args in
    c.with_set.ensures
    ∙ enter-is a.self a.set a.member _ _ c.requires.0 c.set.ensures c.with.ensures
