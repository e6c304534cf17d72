-- The places passed are mended.
use Rattle.std.proofs.Common.{◌≡◌, refl, Bool, ◌&&◌, List, ℕ, ◌+◌, ◌*◌, length, drop, ap, subst, ◌∙◌, arith}
use Rattle.unit.specs.States.{absent_from}
use Rattle.image.specs.Images.{size_a2, place_size, place_in, places_in, state_in}
use Rattle.image.specs.Bodies.{places_at}
use Rattle.image.specs.Rescue.{is_place_of}
use Rattle.image.specs.Mends.{MendedTo}
use Rattle.image.proofs.Fields.{cleared-long}
use Rattle.image.proofs.EachField.{place-next}
use Rattle.image.proofs.rescue.mend_places.Goals as goal
use Rattle.image.proofs.rescue.mend_places.Goals.{After-mend_place-listed}

-- where a place was mended
module _ (c : After-mend_place-listed) where
  abbrev at : ℕ
  at = places_at + place_size * c.loop-i.i

  abbrev Kept : ℕ → Bool
  Kept k =
      is_place_of c.args.limits (drop k c.loop-i.image)
      && absent_from (places_in c.loop-i.i (drop places_at c.loop-i.image)) (place_in (drop k c.loop-i.image)).holding

  is-good : c.keeps_place-good.result ≡ Kept at
  is-good =
      c.keeps_place-good.ensures c.loop-i.i c.from.ensures ∙ ap Kept c.from.ensures

  mended : (old : List ℕ)
      → length old ≡ size_a2
      → c.args.limits ≡ (state_in (drop 1 old)).limits
      → MendedTo old 6 places_at c.args.image.now c.args.fields.now c.args.count
      → MendedTo old (6 + (c.loop-i.i + 1)) (places_at + place_size * (c.loop-i.i + 1)) c.mend_place-listed.new.image
      c.mend_place-listed.new.fields c.mend_place-listed.result
  mended old long own so_far =
      let passed = c.loop-i in
      let call = c.mend_place-listed in
      let next : 6 + passed.i + 1 ≡ 6 + (passed.i + 1) = omega arith in
      let along : at + place_size ≡ places_at + place_size * (passed.i + 1) = omega arith in
      subst (λ k. MendedTo old (6 + (passed.i + 1)) k call.new.image call.new.fields call.result) along
      (subst (λ k. MendedTo old k (at + place_size) call.new.image call.new.fields call.result) next
      (place-next old long passed.i at c.loop-i-test.true refl passed.image passed.fields passed.listed
      (passed.invariant.1.1.1.1 old long own so_far) c.args.limits c.keeps_place-good.result call.new.image call.new.fields
      call.result own is-good call.ensures))

pub loop-i-preserved : goal.loop-i-preserved
loop-i-preserved c =
    let passed = c.loop-i in
    let inv = passed.invariant in
    let call = c.mend_place-listed in
    let sizes =
    cleared-long c.keeps_place-good.result (places_at + place_size * passed.i) place_size passed.image passed.fields passed.listed
    call.new.image
    call.new.fields call.result call.ensures in (
      omega (arith, c.loop-i-test.true),
      (
        sizes.0 ∙ inv.1.0,
        (
          sizes.1.0 ∙ inv.1.1.0,
          (omega (arith, sizes.1.1, inv.1.1.1.0), mended (goal.at.loop-i-preserved c).After-mend_place-listed),
        ),
      ),
    )
