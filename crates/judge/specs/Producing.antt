-- Request Q-9, the other way: our own sheet of a log.
-- Defines: course_sheet, course_records, course_stop, own_course, own_sheet, produce_code, produce_refused, produced, produced_room.
use Rattle.std.specs.Prelude.{ℕ, ◌+◌, cond, List, [], ◌++◌, eqb, leb, length, drop}
use Rattle.wire.specs.Refusals.{accepted, no_room, log_too_long, bad_limits}
use Rattle.record.specs.Takes.{longest_log}
use Rattle.place.specs.declared.limits.Limits.{Limits}
use Rattle.unit.specs.States.{limits_ok, cold}
use Rattle.unit.specs.Runs.{Course, stops, applies, course}
use Rattle.judge.specs.declared.produce.Produced.{Produced}
use Rattle.judge.specs.Sheets.{entry_of}
use Rattle.judge.specs.Judging.{longest_sheet}

-- the sheet of a run's course: each record with its answer and its actions
unfoldable pub course_sheet : Course → List ℕ
course_sheet (stops stop) = []
course_sheet (applies bytes o rest) = entry_of bytes o ++ course_sheet rest

-- its records, and its stop
unfoldable pub course_records : Course → ℕ
course_records (stops stop) = 0
course_records (applies bytes o rest) = course_records rest + 1

unfoldable pub course_stop : Course → ℕ
course_stop (stops stop) = stop
course_stop (applies bytes o rest) = course_stop rest

-- the run over a whole log: it has no more records than bytes, so that the budget is never used up before the log
abbrev pub own_course : Limits → List ℕ → Course
own_course l log = course (length log) (cold l) log

-- "the records before the run's stop, each with its answer (kind 30, decimal) and its actions"
abbrev pub own_sheet : Limits → List ℕ → List ℕ
own_sheet l log = course_sheet (own_course l log)

-- "13; 12 for the log as for a run, and for a sheet that would have over 1,048,576 bytes; 10 where the lent room is under the sheet's own
-- length"
unfoldable pub produce_code : Limits → List ℕ → ℕ → ℕ
produce_code l log room =
    cond (limits_ok l)
    (cond (leb (length log) longest_log)
    (cond (leb (length (own_sheet l log)) longest_sheet) (cond (leb (length (own_sheet l log)) room) accepted no_room) log_too_long)
    log_too_long)
    bad_limits

-- a refused one answers its number alone
abbrev pub produce_refused : ℕ → Produced
produce_refused r = record { code = r; written = 0; records = 0; stop = 0 }

-- "The answer has the bytes written, the records and the stop"
unfoldable pub produced : Limits → List ℕ → ℕ → Produced
produced l log room =
    cond (eqb (produce_code l log room) accepted)
    (record {
      code = accepted;
      written = length (own_sheet l log);
      records = course_records (own_course l log);
      stop = course_stop (own_course l log);
    })
    (produce_refused (produce_code l log room))

-- "nothing is written on a refusal"; else the sheet to the front of the room, and later bytes stay
unfoldable pub produced_room : Limits → List ℕ → List ℕ → List ℕ
produced_room l log room =
    cond (eqb (produce_code l log (length room)) accepted)
    (own_sheet l log ++ drop (length (own_sheet l log)) room)
    room
