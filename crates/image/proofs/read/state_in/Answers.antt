-- The head, then four places, then the last known RBC.
use Rattle.std.proofs.Common.{sym, ap, ◌∙◌, [], ◌∷◌, drop}
use lib.Seq.{drop-drop}
use Rattle.image.specs.Images.{place_in, places_in, state_in}
use Rattle.image.proofs.read.state_in.Goals as goal

pub returns : goal.returns
unfolding state_in places_in
returns c =
    let body = c.args.body.now in
    let second = drop-drop 7 8 body in
    let third = ap (drop 7) second ∙ drop-drop 7 15 body in
    let fourth = ap (drop 7) third ∙ drop-drop 7 22 body in
    λ i.
    record {
      limits = c.limits_in.ensures i;
      train = c.train_in.ensures i;
      marks = c.marks_in.ensures i;
      places =
          c.place_at.ensures i
          ∷ (c.place_at-2.ensures ∙ ap place_in (sym second)) i
          ∷ (c.place_at-3.ensures ∙ ap place_in (sym third)) i
          ∷ (c.place_at-4.ensures ∙ ap place_in (sym fourth)) i
          ∷ [];
      last = c.last_in.ensures i;
    }
