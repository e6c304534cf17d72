-- The places passed are spelt.
use Rattle.std.proofs.Common.{◌+◌, ◌-◌, ◌*◌, ◌&&◌, drop, refl, sym, ap, ◌∙◌, arith}
use Rattle.unit.specs.States.{place_count}
use Rattle.image.specs.Images.{place_size, head_size}
use Rattle.image.proofs.Spelt.{PlacesSpelt, spelt-end, spelt-at}
use Rattle.image.proofs.read.places_spelt.Goals as goal

pub loop-i-preserved : goal.loop-i-preserved
loop-i-preserved c = (
  omega arith,
  spelt-at c.args.body.now c.requires c.loop-i.i (head_size + place_size * c.loop-i.i) refl c.loop-i.invariant.1 (omega arith)
      ∙ ap (λ t. t && PlacesSpelt (place_count - (c.loop-i.i + 1))
      (drop (head_size + place_size * c.loop-i.i + place_size) c.args.body.now))
      (sym c.place_spelt.ensures ∙ c.if-not-place_spelt.false)
      ∙ ap (λ k. PlacesSpelt (place_count - (c.loop-i.i + 1)) (drop k c.args.body.now)) (omega arith),
)

pub returns : goal.returns
returns c =
    spelt-end c.args.body.now c.requires c.loop-i.i (head_size + place_size * c.loop-i.i) refl c.loop-i.invariant.1 (omega arith)

pub returns-then-not-place_spelt : goal.returns-then-not-place_spelt
returns-then-not-place_spelt c =
    sym
    (spelt-at c.args.body.now c.requires c.loop-i.i (head_size + place_size * c.loop-i.i) refl c.loop-i.invariant.1 (omega arith)
    ∙ ap (λ t. t && PlacesSpelt (place_count - (c.loop-i.i + 1))
    (drop (head_size + place_size * c.loop-i.i + place_size) c.args.body.now))
    (sym c.place_spelt.ensures ∙ c.if-not-place_spelt.true))
