-- By the tests: these are its bytes, it is free, it is sound by itself, no lower place holds its partner.
use Rattle.std.proofs.Common.{◌≡◌, Bool, not, List, ℕ, ◌+◌, drop, sym, ap, ◌∙◌}
use Rattle.wire.specs.Bytes.{byte}
use Rattle.place.specs.Places.{seat, place_ok}
use Rattle.image.specs.Images.{phase_of, direction_of, place_in, places_in}
use Rattle.image.specs.Bodies.{places_at}
use Rattle.image.proofs.Keeping.{held-here, kept-held, kept-unsound}
use Rattle.image.proofs.rescue.keeps_place.Goals as goal
use Rattle.image.proofs.rescue.keeps_place.Goals.{After-is_sound}

-- where a held one was tested for being sound
module _ (c : After-is_sound) where
  abbrev image : List ℕ
  image = c.args.image.now

  abbrev at : ℕ
  at = c.args.at

  is-here : c.held_of-place.result ≡ place_in (drop at image)
  is-here =
      let byte_at : ℕ → ℕ = λ k. byte image (at + k) in
      c.held_of-place.ensures
      ∙ ap (seat (direction_of (byte_at 1)) (phase_of (byte image at) (byte_at 2))) c.partner_in.ensures
      ∙ held-here image at c.if-phase-eq0.false

  sound : (b : Bool) → c.is_sound.result ≡ b → place_ok c.args.limits (place_in (drop at image)) ≡ b
  sound b test = ap (place_ok c.args.limits) (sym is-here) ∙ sym c.is_sound.ensures ∙ test

pub returns-then-is_sound : goal.returns-then-is_sound
returns-then-is_sound c i own =
    let judged = (goal.at.returns-then-is_sound c).After-is_sound in
    c.negated.ensures
    ∙ ap not (c.repeats.ensures i own)
    ∙ kept-held (image judged) (at judged) c.args.limits (places_in i (drop places_at (image judged)))
    (sym c.place_spelt.ensures ∙ c.if-place_spelt.true)
    (sound judged _ c.if-is_sound.true)
    c.if-phase-eq0.false

pub returns-else-is_sound : goal.returns-else-is_sound
returns-else-is_sound c i own =
    let judged = (goal.at.returns-else-is_sound c).After-is_sound in
    kept-unsound (image judged) (at judged) c.args.limits (places_in i (drop places_at (image judged)))
    (sound judged _ c.if-is_sound.false)
