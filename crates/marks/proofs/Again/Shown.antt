-- A log of 258 records, computed: what the promises ask for is met there.
-- Proves: shown-built, shown-looked, shown-stands, shown-right, shown-past, shown-any, shown-eleven, shown-afresh, shown-full, shown-twice,
-- shown-nothing.
use mathlib.Core.Path.{◌≡◌, refl, ap, ◌∙◌}
use mathlib.Core.List.{[], ◌∷◌, ◌++◌}
use native.Mathlib.Omega.{arith}
use lib.ListN.{take, set, replicate}
use Rattle.wire.specs.Blocks.{blocks}
use Rattle.record.specs.Records.{reading}
use Rattle.record.specs.Takes.{take_one, taken}
use Rattle.place.specs.Table.{turn}
use Rattle.unit.specs.States.{some, first, seek, places_ok, sound, cold}
use Rattle.unit.specs.Lasts.{recalled}
use Rattle.unit.specs.Steps.{closed, closing_actions, step}
use Rattle.unit.specs.OnRecords.{on_record}
use Rattle.unit.specs.Runs.{course, counted, tallied, total_of, totalled, run}
use Rattle.image.specs.Images.{body_bytes, whole_bytes, image_a2, places_in, state_in, same_bytes, read_a2}
use Rattle.marks.specs.Marks.{mark_of, records_in, whole_records, marks_from, begun_at}
use Rattle.marks.specs.Building.{extend_code, extended, extended_room, built, built_room}
use Rattle.marks.specs.Lookup.{look_refused, look_code, looked_up}
use Rattle.marks.specs.LogMarks.{marks_of}
use Rattle.marks.specs.MarkWords.{ran_to}
use Rattle.marks.specs.MarkExamples.{marked_limits, mode_log, marked_log, shown_mark, cut_log, later_part}
use Rattle.marks.proofs.Again.Built.{build-made}
use Rattle.marks.proofs.Again.Covered.{mark-stands}
use Rattle.marks.proofs.Again.Found.{lookup-right, lookup-past, lookup-built, lookup-any}
use Rattle.marks.proofs.Again.Unfound.{look-eleven}
use Rattle.marks.proofs.Again.Afresh.{extend-afresh, extend-full, extend-nothing, extend-twice}

-- the shown mark is all that the log has
front : shown_mark ≡ marks_of marked_limits marked_log
unfolding records_in take_one marks_from mark_of body_bytes whole_bytes image_a2 blocks course taken reading turn first seek
    places_ok sound cold
    closed closing_actions step on_record some recalled counted tallied total_of totalled
front = refl

-- 258 records have one mark, and three bytes behind it stay
-- instance
pub shown-built :
    (whole_records marked_log ≡ 258)
    × (built marked_limits marked_log (replicate 50 7) ≡ record { code = 0; marks = 1 })
    × (built_room marked_limits marked_log (replicate 50 7) ≡ shown_mark ++ (7 ∷ 7 ∷ 7 ∷ []))
unfolding records_in take_one begun_at extend_code extended extended_room marks_from mark_of body_bytes whole_bytes image_a2
    blocks course taken
    reading turn first seek places_ok sound cold closed closing_actions step on_record some recalled counted tallied total_of totalled
shown-built = (refl, (build-made marked_limits marked_log (replicate 50 7) refl (omega arith) (omega arith)).0, refl)

-- the state after record 258 is found from it in two steps: the session has ended, and its place is free
-- instance
pub shown-looked :
    ((looked_up marked_limits marked_log shown_mark 258).code ≡ 0)
    × ((looked_up marked_limits marked_log shown_mark 258).steps ≡ 2)
    × ((looked_up marked_limits marked_log shown_mark 258).offset ≡ 284)
    × (image_a2 (looked_up marked_limits marked_log shown_mark 258).state
    ≡ 0xA2 ∷ 1 ∷ 2 ∷ 0 ∷ 0 ∷ 0 ∷ 1 ∷ 0 ∷ 0 ∷ (replicate 28 0 ++ (3 ∷ 1 ∷ 0 ∷ 0 ∷ 5 ∷ [])))
unfolding records_in take_one begun_at body_bytes whole_bytes image_a2 blocks course taken reading turn first seek places_ok
    sound cold closed
    closing_actions step on_record some recalled counted tallied total_of totalled look_code looked_up places_in state_in same_bytes read_a2
shown-looked = ((lookup-right marked_limits marked_log shown_mark 258 refl (omega arith) front (omega arith)).0, refl, refl, refl)

made : (built marked_limits marked_log (replicate 50 7)).code ≡ 0
made = ap (λ x. x.code) shown-built.1

-- it is the mark of the run of 256 records
-- instance
pub shown-stands : shown_mark ≡ mark_of (ran_to marked_limits marked_log 256).offset (ran_to marked_limits marked_log 256).state
unfolding records_in take_one
shown-stands = ap (take 47) front ∙ mark-stands marked_limits marked_log refl (omega arith) 0 (omega arith)

-- the state after record 258 in the room that was built is the run's
-- instance
pub shown-right :
    (looked_up marked_limits marked_log (built_room marked_limits marked_log (replicate 50 7)) 258).state
    ≡ (run (cold marked_limits) marked_log 258).tally.state
shown-right = (lookup-built marked_limits marked_log (replicate 50 7) 258 made (omega (arith, shown-built.0))).1

-- there is no record 259
-- instance
pub shown-past : looked_up marked_limits marked_log shown_mark 259 ≡ look_refused 19
unfolding records_in take_one
shown-past = lookup-past marked_limits marked_log shown_mark 259 refl (omega arith) front (omega arith) (omega arith)

-- a mark of another kind
-- instance
pub shown-eleven : looked_up marked_limits marked_log (set shown_mark 0 0xA2) 258 ≡ look_refused 11
shown-eleven = look-eleven marked_limits marked_log (set shown_mark 0 0xA2) 258 refl (omega arith) (omega arith) (omega arith) refl

-- marks of another log lead elsewhere: the run of 257 records stands at 277
-- instance
pub shown-any : (looked_up marked_limits marked_log (marks_of marked_limits (mode_log 256)) 257).offset ≡ 257
unfolding records_in take_one begun_at marks_from mark_of body_bytes whole_bytes image_a2 blocks course taken reading turn first seek
    places_ok sound
    cold closed closing_actions step on_record some recalled counted tallied total_of totalled look_code looked_up places_in
    state_in same_bytes
    read_a2 run
shown-any = (lookup-any marked_limits marked_log (marks_of marked_limits (mode_log 256)) 257 refl).1

-- the log with a loss cut off has the same mark, and with all of it and 256 mode changes one more
-- instance
pub shown-afresh :
    extended_room marked_limits (cut_log ++ later_part) 1 (built_room marked_limits cut_log (replicate 94 7))
    ≡ built_room marked_limits (cut_log ++ later_part) (replicate 94 7)
unfolding records_in take_one begun_at extend_code extended
shown-afresh = (extend-afresh marked_limits cut_log later_part (replicate 94 7) (omega arith) refl (omega arith)).2

-- a room with one byte less is too small for both
-- instance
pub shown-full :
    extended_room marked_limits (cut_log ++ later_part) 1 (built_room marked_limits cut_log (replicate 93 7))
    ≡ built_room marked_limits cut_log (replicate 93 7)
unfolding records_in take_one begun_at extend_code extended
shown-full = (extend-full marked_limits cut_log later_part (replicate 93 7) (omega arith) refl (omega arith)).1

-- nothing appended, nothing changed
-- instance
pub shown-nothing :
    extended_room marked_limits cut_log 1 (built_room marked_limits cut_log (replicate 94 7))
    ≡ built_room marked_limits cut_log (replicate 94 7)
unfolding records_in take_one begun_at extend_code extended
shown-nothing = (extend-nothing marked_limits cut_log (replicate 94 7) refl).1

-- first the two bytes, then the others
-- instance
pub shown-twice :
    extended marked_limits (cut_log ++ later_part) 1
    (extended_room marked_limits cut_log 1 (built_room marked_limits marked_log (replicate 94 7)))
    ≡ extended marked_limits (marked_log ++ ((9 ∷ 0 ∷ []) ++ later_part)) 1 (built_room marked_limits marked_log (replicate 94 7))
unfolding records_in take_one begun_at extend_code extended extended_room marks_from mark_of body_bytes whole_bytes image_a2
    blocks course taken
    reading turn first seek places_ok sound cold closed closing_actions step on_record some recalled counted tallied total_of
    totalled places_in
    state_in same_bytes read_a2
shown-twice = (extend-twice marked_limits marked_log (9 ∷ 0 ∷ []) later_part (replicate 94 7) (omega arith) refl (omega arith)).0
