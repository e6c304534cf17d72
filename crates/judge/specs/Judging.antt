-- Request Q-9: the judge: what stands at an offset of a sheet, and how far a sheet is ours.
-- Defines: longest_sheet, starts_with, compared, stopped_as, against, stands_at, is_right, point_at, dues_at, on_point, verdict_at,
-- stopped_at, judged_from, judge_refused, judge_from, judgement.
use Rattle.std.specs.Prelude.{ℕ, zero, suc, ◌+◌, Bool, true, false, cond, ◌&&◌, List, [], ◌∷◌, eqb, leb, ltb, length, take}
use Rattle.std.specs.Prelude.{drop}
use Rattle.wire.specs.Bytes.{byte}
use Rattle.wire.specs.Refusals.{accepted, log_too_long, bad_limits}
use Rattle.record.specs.Takes.{nothing_left, record_short, take_one, on_taken}
use Rattle.place.specs.declared.limits.Limits.{Limits}
use Rattle.unit.specs.States.{limits_ok, cold}
use Rattle.unit.specs.Steps.{Outcome}
use Rattle.unit.specs.OnRecords.{action_room, on_record}
use Rattle.unit.specs.declared.state.State.{State}
use Rattle.judge.specs.declared.due.Due.{Due}
use Rattle.judge.specs.declared.due.Due.TheVariants.{AnEvent, TheAnswer, TheAction}
use Rattle.judge.specs.declared.due.Finding.{Finding}
use Rattle.judge.specs.declared.due.Finding.TheVariants.{Right, Wrong, Short, Missing}
use Rattle.judge.specs.declared.due.Point.{Point}
use Rattle.judge.specs.declared.judge.Verdict.{Verdict}
use Rattle.judge.specs.Sheets.{due_bytes, dues}

-- "a sheet over 1,048,576 bytes"
abbrev pub longest_sheet : ℕ
longest_sheet = 1_048_576

-- bytes that begin with these
unfoldable pub starts_with : List ℕ → List ℕ → Bool
starts_with [] rest = true
starts_with (b ∷ due) [] = false
starts_with (b ∷ due) (c ∷ rest) = eqb b c && starts_with due rest

-- what stands at the front of the rest of a sheet where these bytes are due: they themselves; "short", where the kind is theirs and fewer
-- bytes are left; else "wrong"; and "missing" where nothing is left: "a missing one counts at the
-- end of the sheet"
abbrev pub compared : List ℕ → List ℕ → Finding
compared due [] = Missing
compared due (kind ∷ rest) =
    cond (starts_with due (kind ∷ rest)) Right
    (cond (eqb kind (byte due 0) && ltb (length (kind ∷ rest)) (length due)) Short Wrong)

-- where an event record is due: a sheet may end there; a kind that no event has is "wrong", a record that is cut off "short"
abbrev pub stopped_as : ℕ → Finding
stopped_as stop = cond (eqb stop nothing_left) Right (cond (eqb stop record_short) Short Wrong)

abbrev pub against : Due → List ℕ → Finding
against AnEvent rest = on_taken (take_one rest) stopped_as (λ k. Right)
against (TheAnswer code) rest = compared (due_bytes (TheAnswer code)) rest
against (TheAction a) rest = compared (due_bytes (TheAction a)) rest

-- what stands at an offset of a sheet
unfoldable pub stands_at : Due → List ℕ → ℕ → Finding
stands_at due sheet at = against due (drop at sheet)

abbrev pub is_right : Finding → Bool
is_right Right = true
is_right Wrong = false
is_right Short = false
is_right Missing = false

abbrev pub point_at : Finding → ℕ → Due → Point
point_at stands at due = record { stands = stands; at = at; due = due }

-- the first of the due records that is not right, from an offset on; behind the last of them an event record is due
unfoldable pub dues_at : List Due → List ℕ → ℕ → Point
dues_at [] sheet at = point_at Right at AnEvent
dues_at (d ∷ ds) sheet at =
    cond (is_right (stands_at d sheet at)) (dues_at ds sheet (at + length (due_bytes d))) (point_at (stands_at d sheet at) at d)

-- what is done at a point: with the offset where all was right, or with the point
abbrev pub on_point : {A : Type 0} → Point → (ℕ → A) → (Point → A) → A
on_point p on stops = cond (is_right p.stands) (on p.at) (stops p)

-- a judgement: the event records that stand right with all that follows them, and the point reached
abbrev pub verdict_at : ℕ → Point → Verdict
verdict_at records p = record { code = accepted; records = records; point = p }

-- where no whole event record stands
abbrev pub stopped_at : ℕ → ℕ → ℕ → Verdict
stopped_at records stop at = verdict_at records (point_at (stopped_as stop) at AnEvent)

-- the rest of a sheet, from an offset where an event record is due on: "the offset of the first record that is wrong, short or missing".
-- The first number bounds the event records; a sheet has no more of them than bytes
unfoldable pub judged_from : ℕ → State → List ℕ → ℕ → ℕ → Verdict
judged_from zero s sheet at records = verdict_at records (point_at Right at AnEvent)
judged_from (suc most) s sheet at records =
    on_taken (take_one (drop at sheet)) (λ stop. stopped_at records stop at)
    (λ k.
    let o : Outcome = on_record s (take k (drop at sheet)) action_room in
    on_point (dues_at (dues o) sheet (at + k)) (λ to. judged_from most o.state sheet to (records + 1)) (verdict_at records))

-- a refused judge: its number, offset 0
abbrev pub judge_refused : ℕ → Verdict
judge_refused r = record { code = r; records = 0; point = point_at Right 0 AnEvent }

-- "13 for the cold start, then 12 for a sheet over 1,048,576 bytes"; from an offset on
unfoldable pub judge_from : Limits → List ℕ → ℕ → Verdict
judge_from l sheet at =
    cond (limits_ok l)
    (cond (leb (length sheet) longest_sheet) (judged_from (length sheet) (cold l) sheet at 0) (judge_refused log_too_long))
    (judge_refused bad_limits)

-- a whole sheet
abbrev pub judgement : Limits → List ℕ → Verdict
judgement l sheet = judge_from l sheet 0
