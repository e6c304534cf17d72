-- Document 01, "Stored image", and request Q-4: the bytes of a state as A1 and as A2, and the state of such bytes.
-- Defines: kind_a1, kind_a2, size_a1, size_a2, place_size, place_bytes, head_bytes, body_bytes, last_size, last_bytes, whole_bytes,
-- image_a1, image_a2,
-- is_unknown, fits_a1, stored, needs_a2, needs_a1, write_a2, write_a1, imaged_a2, imaged_a1, phase_of, direction_of, held_in, place_in,
-- places_in, head_size, old_body_size, last_in, state_in, same_bytes, read_refused, is_body_of, tail_of_a1, read_as, read_a2, read_image.
use Rattle.std.specs.Prelude.{ℕ, zero, suc, ◌+◌, ◌*◌, Bool, true, false, cond, ◌&&◌, not, List, [], ◌∷◌, ◌++◌, eqb}
use Rattle.std.specs.Prelude.{leb, length, get_or, drop, replicate}
use Rattle.wire.specs.Blocks.{blocks}
use Rattle.wire.specs.Bytes.{byte, is_empty, flag, as_bit}
use Rattle.wire.specs.Orders.{first_that_applies}
use Rattle.wire.specs.Refusals.{accepted, wrong_length, unknown_kind, no_room, not_sound, not_in_a1}
use Rattle.record.specs.Partners.{partner_at, partner_bytes}
use Rattle.place.specs.Places.{phase_number, tries, direction_number, fleet_tries, vacant, seat, on_holding}
use Rattle.place.specs.declared.phase.Phase.{Phase}
use Rattle.place.specs.declared.phase.Phase.TheVariants.{Connecting, Contacting, Open, Lost, Ending}
use Rattle.place.specs.declared.place.Direction.{Direction}
use Rattle.place.specs.declared.place.Direction.TheVariants.{Outgoing, Incoming}
use Rattle.place.specs.declared.place.Place.{Place}
use Rattle.unit.specs.States.{cold, no_limits, place_count, sound}
use Rattle.unit.specs.declared.last.Last.{Last}
use Rattle.unit.specs.declared.last.Last.TheVariants.{Unknown, Known}
use Rattle.unit.specs.declared.state.State.{State}
use Rattle.unit.specs.declared.start.Started.{Started}
use Rattle.image.specs.declared.write.Stored.{Stored}

-- "kind A1 hex"; Q-4: "Kind A2"
abbrev pub kind_a1 : ℕ
kind_a1 = 0xA1

abbrev pub kind_a2 : ℕ
kind_a2 = 0xA2

-- "37 bytes"; Q-4: "42 bytes"
abbrev pub size_a1 : ℕ
size_a1 = 37

abbrev pub size_a2 : ℕ
size_a2 = 42

-- "four places of seven bytes"
abbrev pub place_size : ℕ
place_size = 7

-- "A free place is seven zeros"; "phase, direction, tries, partner"
abbrev pub place_bytes : Place → List ℕ
place_bytes place =
    on_holding (replicate place_size 0) (λ d ph p. phase_number ph ∷ direction_number d ∷ tries ph ∷ partner_bytes p) place.holding

-- "lowest X, highest X, level, mission; the marks in the order listed above"; "Otherwise each byte is the value itself"
abbrev pub head_bytes : State → List ℕ
head_bytes s =
    s.limits.lowest ∷ s.limits.highest ∷ s.train.level ∷ s.train.mission
    ∷ as_bit s.marks.inside ∷ as_bit s.marks.mode ∷ as_bit s.marks.manual ∷ as_bit s.marks.end
    ∷ []

-- the 36 bytes of both kinds after the first: the head, then the bytes of the places, one after the other
unfoldable pub body_bytes : State → List ℕ
body_bytes s = head_bytes s ++ blocks place_bytes s.places

-- Q-4: "then 1 and the last RBC's three bytes, or four zeros when none is known"
abbrev pub last_size : ℕ
last_size = 4

abbrev pub last_bytes : Last → List ℕ
last_bytes Unknown = replicate last_size 0
last_bytes (Known high middle low) = 1 ∷ high ∷ middle ∷ low ∷ []

-- all of A2 behind its kind; Q-4: "the 36 old body bytes, then n, then .."
unfoldable pub whole_bytes : State → List ℕ
whole_bytes s = body_bytes s ++ (s.limits.tries ∷ last_bytes s.last)

-- the images of a state
unfoldable pub image_a1 : State → List ℕ
image_a1 s = kind_a1 ∷ body_bytes s

unfoldable pub image_a2 : State → List ℕ
image_a2 s = kind_a2 ∷ whole_bytes s

-- Q-4: "A1 can hold neither the last RBC nor n"; "Going back to A1 is possible exactly when" n is 3 and none is known
abbrev pub is_unknown : Last → Bool
is_unknown Unknown = true
is_unknown (Known high middle low) = false

abbrev pub fits_a1 : State → Bool
fits_a1 s = eqb s.limits.tries fleet_tries && is_unknown s.last

-- the answer of a write: 0 or the number of its refusal, the bytes that it wrote, and the state as given
abbrev pub stored : ℕ → ℕ → State → Stored
stored number size s = record { code = number; state = s; count = size }

-- "Image write: 10, 11": room is the length of the buffer; Q-4: "Image buffers must have 42 bytes for A2"
abbrev pub needs_a2 : State → ℕ → List (Bool × ℕ)
needs_a2 s room = (leb size_a2 room, no_room) ∷ (sound s, not_sound) ∷ []

-- "Image write: 10, 11"; "image buffer under 37"; Q-4: "16, the state doesn't fit A1, after 10 and 11"
abbrev pub needs_a1 : State → ℕ → List (Bool × ℕ)
needs_a1 s room = (leb size_a1 room, no_room) ∷ (sound s, not_sound) ∷ (fits_a1 s, not_in_a1) ∷ []

-- what a write answers
unfoldable pub write_a2 : State → ℕ → Stored
write_a2 s room = first_that_applies (λ r. stored r 0 s) (needs_a2 s room) (stored accepted size_a2 s)

unfoldable pub write_a1 : State → ℕ → Stored
write_a1 s room = first_that_applies (λ r. stored r 0 s) (needs_a1 s room) (stored accepted size_a1 s)

-- the buffer after a write: "An accepted call writes only its .. image; later bytes stay"; a refused one "writes nothing"
unfoldable pub imaged_a2 : State → List ℕ → List ℕ
imaged_a2 s buffer = first_that_applies (λ r. buffer) (needs_a2 s (length buffer)) (image_a2 s ++ drop size_a2 buffer)

unfoldable pub imaged_a1 : State → List ℕ → List ℕ
imaged_a1 s buffer = first_that_applies (λ r. buffer) (needs_a1 s (length buffer)) (image_a1 s ++ drop size_a1 buffer)

-- Reading an image: it is accepted exactly when these bytes are the image of a sound state (`read_as`; that it is so are the promises
-- `read-written` and `Written-Read`). The one state that can write them is found by decoding. Bytes that no state writes decode to
-- some state too, and that one writes others.

-- the phase of a phase number, 1 to 5, and its tries (any other number is read as a phase that writes 5)
abbrev pub phase_of : ℕ → ℕ → Phase
phase_of number t = get_or (Ending t ∷ Connecting t ∷ Contacting t ∷ Open ∷ Lost t ∷ []) number (Ending t)

abbrev pub direction_of : ℕ → Direction
direction_of number = cond (eqb number (direction_number Outgoing)) Outgoing Incoming

-- "phase, direction, tries, partner"
abbrev pub held_in : List ℕ → Place
held_in s = seat (direction_of (byte s 1)) (phase_of (byte s 0) (byte s 2)) (partner_at 3 s)

-- the place that the next seven bytes stand for: free where the phase is 0
abbrev pub place_in : List ℕ → Place
place_in s = cond (eqb (byte s 0) 0) vacant (held_in s)

unfoldable pub places_in : ℕ → List ℕ → List Place
places_in zero s = []
places_in (suc k) s = place_in s ∷ places_in k (drop place_size s)

-- the head of a body, eight bytes
abbrev pub head_size : ℕ
head_size = 8

-- "the 36 old body bytes": the head and the places, which n and the last known RBC follow
abbrev pub old_body_size : ℕ
old_body_size = head_size + place_count * place_size

-- the last known RBC that four bytes stand for: none where the first is 0
abbrev pub last_in : List ℕ → Last
last_in s = cond (eqb (byte s 0) 0) Unknown (Known (byte s 1) (byte s 2) (byte s 3))

-- the state that a body of A2 stands for, if any does
unfoldable pub state_in : List ℕ → State
state_in s =
    record {
      limits = record { lowest = byte s 0; highest = byte s 1; tries = byte s old_body_size };
      train = record { level = byte s 2; mission = byte s 3 };
      marks = record { inside = flag (byte s 4); mode = flag (byte s 5); manual = flag (byte s 6); end = flag (byte s 7) };
      places = places_in place_count (drop head_size s);
      last = last_in (drop (1 + old_body_size) s);
    }

unfoldable pub same_bytes : List ℕ → List ℕ → Bool
same_bytes [] [] = true
same_bytes [] (y ∷ ys) = false
same_bytes (x ∷ xs) [] = false
same_bytes (x ∷ xs) (y ∷ ys) = eqb x y && same_bytes xs ys

abbrev pub read_refused : ℕ → Started
read_refused r = record { code = r; state = cold no_limits }

-- these bytes are the body of the image of this state, and the state is sound: "no other bytes mean free"
abbrev pub is_body_of : State → List ℕ → Bool
is_body_of s body = sound s && same_bytes (whole_bytes s) body

-- Q-4: "A1 is read as n = 3 and none known": what A2 has after the body of A1
abbrev pub tail_of_a1 : List ℕ
tail_of_a1 = fleet_tries ∷ last_bytes Unknown

-- "Image read: 1 (empty), 2, 1 (length), 11": whether the first byte is a kind that is read, the size of that kind, the bytes behind it as
-- A2 has them (for A1 with `tail_of_a1` added), and the image. It is accepted exactly where these bytes are the body of the image of a
-- sound state, which is then the one that they decode to
abbrev pub read_as : Bool → ℕ → List ℕ → List ℕ → Started
read_as known size body image =
    first_that_applies read_refused
    ((not (is_empty image), wrong_length)
    ∷ (known, unknown_kind)
    ∷ (eqb (length image) size, wrong_length)
    ∷ (is_body_of (state_in body) body, not_sound)
    ∷ [])
    (record { code = accepted; state = state_in body })

-- of A2 alone: the kind of any other image is unknown
unfoldable pub read_a2 : List ℕ → Started
read_a2 image = read_as (eqb (byte image 0) kind_a2) size_a2 (drop 1 image) image

-- and of either kind
unfoldable pub read_image : List ℕ → Started
read_image image = cond (eqb (byte image 0) kind_a1) (read_as true size_a1 (drop 1 image ++ tail_of_a1) image) (read_a2 image)
