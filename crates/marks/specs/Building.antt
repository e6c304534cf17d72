-- Request Q-12: building the marks of a log, and extending them after an append.
-- Defines: new_marks, last_held, extend_code, extended, extended_room, built, built_room.
use Rattle.std.specs.Prelude.{ℕ, ◌+◌, ◌*◌, cond, List, ◌++◌, eqb, leb, length, take, drop}
use Rattle.wire.specs.Blocks.{blocks}
use Rattle.wire.specs.Refusals.{accepted, no_room, log_too_long, bad_limits}
use Rattle.record.specs.Takes.{longest_log}
use Rattle.place.specs.declared.limits.Limits.{Limits}
use Rattle.unit.specs.States.{limits_ok, cold}
use Rattle.marks.specs.declared.mark.Begun.{Begun}
use Rattle.marks.specs.declared.build.Marked.{Marked}
use Rattle.marks.specs.Marks.{mark_size, marks_from, mark_count, begun_at}

-- the bytes of the marks that come after a point of the log
abbrev pub new_marks : Begun → List ℕ → List ℕ
new_marks b log = blocks (λ mark. mark) (marks_from (mark_count b.offset log) b.state b.offset log)

-- the point that the last mark held leads to
abbrev pub last_held : Limits → List ℕ → ℕ → List ℕ → Begun
last_held l log held room = begun_at (cold l) log room held no_room

-- "building: 13; 12; 10, room lent for marks too small; extending: also 11, before 10, for a last mark that lookup would refuse with 11";
-- with none held it is building; a last mark that does not lie in the room cannot be read: 10
unfoldable pub extend_code : Limits → List ℕ → ℕ → List ℕ → ℕ
extend_code l log held room =
    cond (limits_ok l)
    (cond (leb (length log) longest_log)
    (cond (eqb (last_held l log held room).code accepted)
    (cond (leb (mark_size * (held + mark_count (last_held l log held room).offset log)) (length room)) accepted no_room)
    (last_held l log held room).code)
    log_too_long)
    bad_limits

-- "Marks extended after an append": how many there are; none told where it is refused
unfoldable pub extended : Limits → List ℕ → ℕ → List ℕ → Marked
extended l log held room =
    cond (eqb (extend_code l log held room) accepted)
    (record { code = accepted; marks = held + mark_count (last_held l log held room).offset log })
    (record { code = extend_code l log held room; marks = 0 })

-- the marks held, the new ones behind them, and later bytes as they were; a refused call writes nothing
unfoldable pub extended_room : Limits → List ℕ → ℕ → List ℕ → List ℕ
extended_room l log held room =
    cond (eqb (extend_code l log held room) accepted)
    (take (mark_size * held) room
    ++ (new_marks (last_held l log held room) log
    ++ drop (mark_size * (held + mark_count (last_held l log held room).offset log)) room))
    room

-- building is extending where none is held
abbrev pub built : Limits → List ℕ → List ℕ → Marked
built l log room = extended l log 0 room

abbrev pub built_room : Limits → List ℕ → List ℕ → List ℕ
built_room l log room = extended_room l log 0 room
