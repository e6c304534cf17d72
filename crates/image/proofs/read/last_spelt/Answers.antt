-- Four bytes compared with 0, or a first one of 1; the number is always its own.
use Rattle.std.proofs.Common.{sym, ap, ap₂, ◌∙◌, ◌&&◌, drop}
use Rattle.image.specs.Images.{last_bytes, is_unknown, same_bytes}
use Rattle.image.specs.Bodies.{last_from}
use Rattle.image.proofs.Spelt.{unknown-spelt, known-spelt}
use Rattle.image.proofs.read.last_spelt.Goals as goal

pub returns-in-Unknown : goal.returns-in-Unknown
returns-in-Unknown c =
    let body = c.args.body.now in
    c.and-in-Unknown-2.ensures
    ∙ ap₂ ◌&&◌ c.and.ensures c.and-in-Unknown.ensures
    ∙ unknown-spelt body c.requires.0
    ∙ ap (λ last. same_bytes (last_bytes last) (drop last_from body)) (sym c.in-Unknown.is)

pub returns-in-Known : goal.returns-in-Known
returns-in-Known c = known-spelt c.args.body.now c.requires.0 c.args.last c.requires.1 (ap is_unknown c.in-Known.is)
