-- Only private contracts and laws use what stands here: the parts of a body, and reading by parts, a body whose image has its kind and
-- its length.
-- Defines: places_bytes, tail_bytes, places_at, last_at, last_from, read_body, of_length.
use Rattle.std.specs.Prelude.{ℕ, ◌+◌, ◌*◌, cond, List, ◌∷◌, eqb, length}
use Rattle.wire.specs.Refusals.{accepted, wrong_length, not_sound}
use Rattle.wire.specs.Blocks.{blocks}
use Rattle.place.specs.declared.place.Place.{Place}
use Rattle.unit.specs.States.{place_count}
use Rattle.unit.specs.declared.start.Started.{Started}
use Rattle.unit.specs.declared.state.State.{State}
use Rattle.image.specs.Images.{place_size, place_bytes, last_bytes, head_size, old_body_size, state_in, is_body_of, read_refused}

-- the bytes of the places, one after the other
abbrev pub places_bytes : List Place → List ℕ
places_bytes = blocks place_bytes

-- what A2 has after the 36 bytes of both kinds
abbrev pub tail_bytes : State → List ℕ
tail_bytes s = s.limits.tries ∷ last_bytes s.last

-- where the places and the last known RBC of an image begin
abbrev pub places_at : ℕ
places_at = 1 + head_size

abbrev pub last_at : ℕ
last_at = places_at + place_count * place_size + 1

-- where the last known RBC begins in a body, after n
abbrev pub last_from : ℕ
last_from = 1 + old_body_size

-- "11"
abbrev pub read_body : List ℕ → Started
read_body body =
    cond (is_body_of (state_in body) body)
    (record { code = accepted; state = state_in body })
    (read_refused not_sound)

-- "1 (length), 11": the bytes of an image of this size, and its body as A2 has it
abbrev pub of_length : ℕ → List ℕ → List ℕ → Started
of_length size image body = cond (eqb (length image) size) (read_body body) (read_refused wrong_length)
