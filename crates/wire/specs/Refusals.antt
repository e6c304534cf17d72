-- Document 01, "Numbers of refusal": the numbers of the core, each with its one name; 14 stands in `onsight`, 17 and 18 in `shunter`, 19 in
-- `marks`.
-- Defines: accepted, wrong_length, unknown_kind, out_of_range, not_in_force, has_place, has_none, not_taken, all_taken, call_from_riu,
-- no_room, not_sound, log_too_long, bad_limits, none_known, not_in_a1, number.
use Rattle.std.specs.Prelude.{ℕ}
use Rattle.wire.specs.declared.refusal.Refusal.{Refusal}
use Rattle.wire.specs.declared.refusal.Refusal.TheVariants.{WrongLength, UnknownKind, OutOfRange, NotInForce, HasPlace, HasNone}
use Rattle.wire.specs.declared.refusal.Refusal.TheVariants.{NotTaken, AllTaken, CallFromRiu, NoRoom, NotSound, LogTooLong}
use Rattle.wire.specs.declared.refusal.Refusal.TheVariants.{BadLimits, NoneKnown, NotInA1}

-- what an answer carries where nothing was refused
abbrev pub accepted : ℕ
accepted = 0

-- "record or image empty, or not of its kind's length"
abbrev pub wrong_length : ℕ
wrong_length = 1

-- "kind unknown"
abbrev pub unknown_kind : ℕ
unknown_kind = 2

-- "a record's field outside its range"
abbrev pub out_of_range : ℕ
out_of_range = 3

-- "the order's cause is not in force"
abbrev pub not_in_force : ℕ
not_in_force = 4

-- "the partner of an order or 38 has a place"
abbrev pub has_place : ℕ
has_place = 5

-- "the partner of another event has none"
abbrev pub has_none : ℕ
has_none = 6

-- "the phase, or the hole mark, does not take this event"
abbrev pub not_taken : ℕ
not_taken = 7

-- "order or 38 with all places taken"
abbrev pub all_taken : ℕ
all_taken = 8

-- "38 from an RIU"
abbrev pub call_from_riu : ℕ
call_from_riu = 9

-- "action buffer under 20 bytes, image buffer under 37"; Q-4: "Image buffers must have 42 bytes for A2"
abbrev pub no_room : ℕ
no_room = 10

-- "state not sound, or image content not sound"
abbrev pub not_sound : ℕ
not_sound = 11

-- "log longer than 1,048,576 bytes"
abbrev pub log_too_long : ℕ
log_too_long = 12

-- "cold start with an X over 7 or lowest over highest"; Q-3: "also for n outside 1 to 9"
abbrev pub bad_limits : ℕ
bad_limits = 13

-- Q-2: "15 .. when none is known"
abbrev pub none_known : ℕ
none_known = 15

-- Q-4: "16, the state doesn't fit A1"
abbrev pub not_in_a1 : ℕ
not_in_a1 = 16

-- "Each refusal has its number": of what the code calls a refusal
abbrev pub number : Refusal → ℕ
number WrongLength = wrong_length
number UnknownKind = unknown_kind
number OutOfRange = out_of_range
number NotInForce = not_in_force
number HasPlace = has_place
number HasNone = has_none
number NotTaken = not_taken
number AllTaken = all_taken
number CallFromRiu = call_from_riu
number NoRoom = no_room
number NotSound = not_sound
number LogTooLong = log_too_long
number BadLimits = bad_limits
number NoneKnown = none_known
number NotInA1 = not_in_a1
