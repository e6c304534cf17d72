-- Request Q-12: what a mark is, which marks a log has, and where a mark leads.
-- Defines: mark_kind, mark_every, image_at, mark_size, four_bytes, offset_in, mark_of, records_in, whole_records, after_many, marks_from,
-- mark_count, begun_refused, mark_in, begun_at.
use Rattle.std.specs.Prelude.{ℕ, zero, suc, ◌+◌, ◌*◌, ◌/◌, ◌%◌, cond, ◌&&◌, List, [], ◌∷◌, ◌++◌, eqb, leb}
use Rattle.std.specs.Prelude.{length, take, drop}
use Rattle.wire.specs.Bytes.{byte}
use Rattle.wire.specs.Refusals.{accepted, not_sound}
use Rattle.record.specs.Takes.{take_one, on_taken}
use Rattle.unit.specs.States.{cold, no_limits}
use Rattle.unit.specs.Runs.{fresh, go}
use Rattle.unit.specs.declared.state.State.{State}
use Rattle.unit.specs.declared.run.Tally.{Tally}
use Rattle.image.specs.Images.{image_a2, read_a2}
use Rattle.marks.specs.declared.mark.Begun.{Begun}

-- "kind A3"
abbrev pub mark_kind : ℕ
mark_kind = 0xA3

-- "after each 256th record"
abbrev pub mark_every : ℕ
mark_every = 256

-- "kind A3, the offset in four bytes, big-endian, and the A2 image, 47 bytes in all"
abbrev pub image_at : ℕ
image_at = 5

abbrev pub mark_size : ℕ
mark_size = 47

-- "in four bytes, big-endian"
abbrev pub four_bytes : ℕ → List ℕ
four_bytes n = n / 16777216 % 256 ∷ n / 65536 % 256 ∷ n / 256 % 256 ∷ n % 256 ∷ []

-- the offset that a mark holds
abbrev pub offset_in : List ℕ → ℕ
offset_in mark = byte mark 1 * 16777216 + (byte mark 2 * 65536 + (byte mark 3 * 256 + byte mark 4))

unfoldable pub mark_of : ℕ → State → List ℕ
mark_of offset s = mark_kind ∷ (four_bytes offset ++ image_a2 s)

-- the records before the stop, by their lengths alone: at most so many are counted
unfoldable pub records_in : ℕ → List ℕ → ℕ
records_in zero log = 0
records_in (suc most) log = on_taken (take_one log) (λ stop. 0) (λ k. suc (records_in most (drop k log)))

abbrev pub whole_records : List ℕ → ℕ
whole_records log = records_in (length log) log

-- the run of so many records
abbrev pub after_many : State → List ℕ → ℕ → Tally
after_many s log n = (go n (fresh s) log).tally

-- so many marks, from a state at an offset of a log on: one after each 256th record, with the offset and the state that the run has there
unfoldable pub marks_from : ℕ → State → ℕ → List ℕ → List (List ℕ)
marks_from zero s at log = []
marks_from (suc count) s at log =
    let t : Tally = after_many s (drop at log) mark_every in
    mark_of (at + t.offset) t.state ∷ marks_from count t.state (at + t.offset) log

-- "Marks cover the records before the run's stop": how many there are from an offset on
abbrev pub mark_count : ℕ → List ℕ → ℕ
mark_count at log = whole_records (drop at log) / mark_every

-- a refused one leads to the refused cold start's state
abbrev pub begun_refused : ℕ → Begun
begun_refused r = record { code = r; state = cold no_limits; offset = 0 }

-- where a mark leads; "11, that mark has another kind, an offset past the log or an unsound image"
abbrev pub mark_in : List ℕ → List ℕ → Begun
mark_in log mark =
    cond (eqb (byte mark 0) mark_kind && (leb (offset_in mark) (length log) && eqb (read_a2 (drop image_at mark)).code accepted))
    (record { code = accepted; state = (read_a2 (drop image_at mark)).state; offset = offset_in mark })
    (begun_refused not_sound)

-- where the mark of this number leads, from 1 on; number 0 is the cold start; this refusal where the mark is not there whole
unfoldable pub begun_at : State → List ℕ → List ℕ → ℕ → ℕ → Begun
begun_at s log marks zero missing = record { code = accepted; state = s; offset = 0 }
begun_at s log marks (suc number) missing =
    cond (leb (mark_size * suc number) (length marks)) (mark_in log (take mark_size (drop (mark_size * number) marks)))
    (begun_refused missing)
