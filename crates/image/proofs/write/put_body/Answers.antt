-- The kind and the head, then the places passed, then what stood there.
use Rattle.std.proofs.Common.{ℕ, ◌+◌, ◌*◌, ◌≡◌, refl, sym, ap, ◌∙◌, ◌≤◌, length, get_or, arith}
use lib.ListN.{take-append-drop}
use lib.Seq.{sets, length-sets}
use Rattle.wire.specs.Blocks.{blocks}
use Rattle.wire.proofs.Blocks.{FilledTo, filled_more}
use Rattle.place.specs.Places.{vacant}
use Rattle.unit.proofs.Facts.{sound-facts}
use Rattle.image.specs.Images.{place_size, place_bytes}
use Rattle.image.proofs.Bytes.{place_bytes-length}
use Rattle.image.proofs.Putting.{body_end}
use Rattle.image.proofs.write.put_body.Goals as goal

-- where a place begins
abbrev at : ℕ → ℕ
at i = 9 + place_size * i

pub loop-i-init : goal.loop-i-init
unfolding blocks
loop-i-init c = (omega arith, refl, sym (take-append-drop 9 c.put_head.new.s))

pub loop-i-preserved : goal.loop-i-preserved
loop-i-preserved c =
    let places = c.args.state.places in
    let buffer = c.put_head.new.s in
    let stored = c.put_place.ensures in
    let inv = c.loop-i.invariant in
    let four : length places ≡ 4 = (sound-facts c.args.state c.requires.1).four in
    let room : 37 ≤ length buffer = omega (arith, c.requires.0, c.put_head.auto.s) in
    let seven = place_bytes (get_or places c.loop-i.i vacant) in (
      omega arith,
      ap length stored ∙ length-sets c.loop-i.s (at c.loop-i.i) seven ∙ inv.1,
      stored
          ∙ ap (λ l. sets l (at c.loop-i.i) seven) inv.2
          ∙ filled_more place_bytes place_size (λ p. place_bytes-length p.holding) 9 places buffer c.loop-i.i (at c.loop-i.i)
          vacant
          (omega (arith, four))
          refl
          (omega (arith, room))
          ∙ ap (FilledTo place_bytes 9 places buffer (c.loop-i.i + 1)) (omega arith),
    )

pub returns : goal.returns
returns c =
    let state = c.args.state in
    let all : c.loop-i.i ≡ 4 = omega arith in
    let end : at c.loop-i.i ≡ 37 = omega (arith, all) in
    c.loop-i.invariant.2
    ∙ (λ j. FilledTo place_bytes 9 state.places (c.put_head.ensures j) (all j) (end j))
    ∙ body_end state c.args.s.now (sound-facts state c.requires.1).four c.args.kind c.requires.0
