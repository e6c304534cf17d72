-- Request Q-13: a spoilt image A2 is mended, and what was mended is listed.
-- Defines: within, mend_train, mend_marks, is_place_of, mend_place, mend_places, keep, keep_first, is_last_of, mend_last, mended,
-- field_offsets, most_fields, size_of, part, changed, listing, told, spoilt, left, rescue, rescued.
use Rattle.std.specs.Prelude.{ℕ, zero, suc, ◌+◌, Bool, cond, ◌&&◌, not, List, [], ◌∷◌, ◌++◌, eqb, leb, length, take}
use Rattle.std.specs.Prelude.{drop, replicate}
use Rattle.wire.specs.Refusals.{accepted, not_sound}
use Rattle.record.specs.Records.{highest_level, mission_under_way}
use Rattle.place.specs.Places.{vacant, place_ok}
use Rattle.place.specs.declared.limits.Limits.{Limits}
use Rattle.place.specs.declared.place.Place.{Place}
use Rattle.unit.specs.Lasts.{last_ok}
use Rattle.unit.specs.States.{place_count, limits_ok, absent_from}
use Rattle.unit.specs.declared.last.Last.{Last}
use Rattle.unit.specs.declared.last.Last.TheVariants.{Unknown}
use Rattle.unit.specs.declared.state.Train.{Train}
use Rattle.unit.specs.declared.state.Marks.{Marks}
use Rattle.unit.specs.declared.state.State.{State}
use Rattle.image.specs.Images.{place_size, place_bytes, head_size, old_body_size, last_size, last_bytes, image_a2, place_in}
use Rattle.image.specs.Images.{last_in, state_in, same_bytes, read_a2}
use Rattle.image.specs.declared.rescue.Rescued.{Rescued}

-- "Level, mission or a mark out of range becomes 0": a mark is read as 1 or not, so that one out of range is read as 0
abbrev pub within : ℕ → ℕ → ℕ
within most n = cond (leb n most) n 0

abbrev pub mend_train : Train → Train
mend_train t = record { level = within highest_level t.level; mission = within mission_under_way t.mission }

-- "inside and hole end both 1 clears hole end"
abbrev pub mend_marks : Marks → Marks
mend_marks m = record { inside = m.inside; mode = m.mode; manual = m.manual; end = m.end && not m.inside }

-- the next seven bytes are those of a place that is sound by itself
abbrev pub is_place_of : Limits → List ℕ → Bool
is_place_of l s = place_ok l (place_in s) && same_bytes (place_bytes (place_in s)) (take place_size s)

-- "a place that is not sound by itself .. becomes free"
abbrev pub mend_place : Limits → List ℕ → Place
mend_place l s = cond (is_place_of l s) (place_in s) vacant

unfoldable pub mend_places : Limits → ℕ → List ℕ → List Place
mend_places l zero s = []
mend_places l (suc k) s = mend_place l s ∷ mend_places l k (drop place_size s)

-- "or repeats the partner of a lower kept place"
abbrev pub keep : List Place → Place → Place
keep kept p = cond (absent_from kept p.holding) p vacant

-- "going upwards": the places that were gone through stand in `kept`, the free ones with no partner
unfoldable pub keep_first : List Place → List Place → List Place
keep_first kept [] = []
keep_first kept (p ∷ ps) = keep kept p ∷ keep_first (keep kept p ∷ kept) ps

-- the next four bytes are those of a last known RBC that is sound, or of none
abbrev pub is_last_of : List ℕ → Bool
is_last_of s = last_ok (last_in s) && same_bytes (last_bytes (last_in s)) (take last_size s)

-- "a bad last RBC becomes none"
abbrev pub mend_last : List ℕ → Last
mend_last s = cond (is_last_of s) (last_in s) Unknown

-- what is left of a body of A2
unfoldable pub mended : List ℕ → State
mended body =
    record {
      limits = (state_in body).limits;
      train = mend_train (state_in body).train;
      marks = mend_marks (state_in body).marks;
      places = keep_first [] (mend_places (state_in body).limits place_count (drop head_size body));
      last = mend_last (drop (1 + old_body_size) body);
    }

-- the fields that can change, by their first offset: level, mission, the four marks, the four places, the last RBC
abbrev pub field_offsets : List ℕ
field_offsets = 3 ∷ 4 ∷ 5 ∷ 6 ∷ 7 ∷ 8 ∷ 9 ∷ 16 ∷ 23 ∷ 30 ∷ 38 ∷ []

abbrev pub most_fields : ℕ
most_fields = 11

-- the bytes of a listed field that begins here: behind kind and head those of a place, behind n those of the last RBC
abbrev pub size_of : ℕ → ℕ
size_of at = cond (leb (1 + head_size) at) (cond (leb (2 + old_body_size) at) last_size place_size) 1

abbrev pub part : ℕ → List ℕ → List ℕ
part at image = take (size_of at) (drop at image)

-- "It lists each changed field by its first offset, ascending"
unfoldable pub changed : List ℕ → List ℕ → List ℕ → List ℕ
changed [] old new = []
changed (at ∷ rest) old new = cond (same_bytes (part at old) (part at new)) (changed rest old new) (at ∷ changed rest old new)

-- the answer: the list stands at the front of the array, zeros follow
abbrev pub listing : ℕ → List ℕ → Rescued
listing r list = record { code = r; fields = take most_fields (list ++ replicate most_fields 0); count = length list }

-- the offsets that an answer lists
abbrev pub told : Rescued → List ℕ
told r = take r.count r.fields

-- an image that a reading refuses with 11, and whose X numbers and n are good: "then 11 if the X numbers or n are bad"
abbrev pub spoilt : List ℕ → Bool
spoilt image = eqb (read_a2 image).code not_sound && limits_ok (state_in (drop 1 image)).limits

-- the image that is left of a spoilt one
abbrev pub left : List ℕ → List ℕ
left image = image_a2 (mended (drop 1 image))

-- what a rescue answers, and the bytes after it: "Refusals: 1 and 2 as for reading", 11; "a sound image is unchanged with an empty list"
unfoldable pub rescue : List ℕ → Rescued
rescue image =
    cond (spoilt image) (listing accepted (changed field_offsets image (left image))) (listing (read_a2 image).code [])

-- "The result is sound; a sound image is unchanged ..; a second rescue changes nothing": the bytes after it
unfoldable pub rescued : List ℕ → List ℕ
rescued image = cond (spoilt image) (left image) image
