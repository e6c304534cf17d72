-- The marks, the last known RBC and the places; every other byte is always its own.
use Rattle.std.proofs.Common.{◌≡◌, sym, ap, ◌∙◌, Bool, true, false, ◌&&◌, List, ℕ, length, take, drop}
use Rattle.unit.specs.States.{place_count}
use Rattle.unit.specs.declared.state.State.{State}
use Rattle.image.specs.Images.{head_bytes, last_bytes, whole_bytes, head_size, state_in, same_bytes}
use Rattle.image.specs.Bodies.{last_from}
use Rattle.image.proofs.Spelt.{PlacesSpelt, body-spelt}
use Rattle.image.proofs.read.is_spelt.Goals as goal

module _ (body : List ℕ) (long : length body ≡ 41) where
  -- the marks are tested
  marked : (b : Bool)
      → same_bytes (drop 4 (head_bytes (state_in body))) (take 4 (drop 4 body)) ≡ b
      → same_bytes (whole_bytes (state_in body)) body
      ≡ (b && (same_bytes (last_bytes (state_in body).last) (drop last_from body) && PlacesSpelt place_count (drop head_size body)))
  marked b test =
      body-spelt body long
      ∙ ap (λ t. t && (same_bytes (last_bytes (state_in body).last) (drop last_from body)
      && PlacesSpelt place_count (drop head_size body)))
      test

  -- and the last known RBC
  ended : (s : State)
      → s ≡ state_in body
      → same_bytes (drop 4 (head_bytes (state_in body))) (take 4 (drop 4 body)) ≡ true
      → (b : Bool)
      → same_bytes (last_bytes s.last) (drop last_from body) ≡ b
      → same_bytes (whole_bytes (state_in body)) body ≡ (b && PlacesSpelt place_count (drop head_size body))
  ended s read marks b test =
      marked true marks
      ∙ ap (λ t. t && PlacesSpelt place_count (drop head_size body))
      (ap (λ (s : State). same_bytes (last_bytes s.last) (drop last_from body)) (sym read) ∙ test)

pub last_spelt-requires : goal.last_spelt-requires
unfolding state_in
last_spelt-requires c = (c.requires.0, ap (λ (s : State). s.last) c.requires.1)

pub returns : goal.returns
returns c =
    let marks = sym c.marks_spelt.ensures ∙ c.if-not-marks_spelt.false in
    let last = sym c.last_spelt.ensures ∙ c.if-not-last_spelt.false in
    c.places_spelt.ensures ∙ sym (ended c.args.body.now c.requires.0 c.args.state c.requires.1 marks true last)

pub returns-then-not-last_spelt : goal.returns-then-not-last_spelt
returns-then-not-last_spelt c =
    let marks = sym c.marks_spelt.ensures ∙ c.if-not-marks_spelt.false in
    let last = sym c.last_spelt.ensures ∙ c.if-not-last_spelt.true in
    sym (ended c.args.body.now c.requires.0 c.args.state c.requires.1 marks false last)

pub returns-then-not-marks_spelt : goal.returns-then-not-marks_spelt
returns-then-not-marks_spelt c =
    sym (marked c.args.body.now c.requires.0 false (sym c.marks_spelt.ensures ∙ c.if-not-marks_spelt.true))
