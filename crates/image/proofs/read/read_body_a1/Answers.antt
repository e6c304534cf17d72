-- The bytes are copied; three tries and no RBC follow them.
use Rattle.std.proofs.Common.{◌++◌, ◌∷◌, [], set, ap, ◌∙◌}
use Rattle.place.specs.Places.{fleet_tries}
use Rattle.image.specs.Bodies.{read_body}
use Rattle.image.proofs.Taking.{copy-end}
use Rattle.image.proofs.read.read_body_a1.Goals as goal

pub returns : goal.returns
returns c =
    c.read_body.ensures
    ∙ ap (λ l. read_body (set (l ++ (0 ∷ 0 ∷ 0 ∷ 0 ∷ 0 ∷ [])) 36 fleet_tries)) c.copy_from_slice.ensures.after
    ∙ ap read_body (copy-end c.args.body.now c.requires)
