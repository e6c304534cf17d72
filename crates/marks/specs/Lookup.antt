-- Request Q-12: the state after record n, from the nearest mark at or before it.
-- Defines: no_mark, look_refused, mark_for, to_record, look_code, looked_up.
use Rattle.std.specs.Prelude.{ℕ, ◌+◌, ◌/◌, ◌%◌, cond, List, eqb, leb, length, drop}
use Rattle.wire.specs.Refusals.{accepted, log_too_long, bad_limits}
use Rattle.record.specs.Takes.{longest_log}
use Rattle.place.specs.declared.limits.Limits.{Limits}
use Rattle.unit.specs.States.{limits_ok, cold, no_limits}
use Rattle.unit.specs.declared.run.Tally.{Tally}
use Rattle.marks.specs.declared.mark.Begun.{Begun}
use Rattle.marks.specs.declared.lookup.Looked.{Looked}
use Rattle.marks.specs.Marks.{mark_every, after_many, begun_at}

-- "19, the mark that n calls for is not there"
abbrev pub no_mark : ℕ
no_mark = 19

-- "A refused lookup answers the refused cold start's state, 0 steps"
abbrev pub look_refused : ℕ → Looked
look_refused r = record { code = r; state = cold no_limits; steps = 0; offset = 0 }

-- the point that the nearest mark at or before record n leads to: n under 256 needs none
abbrev pub mark_for : Limits → List ℕ → List ℕ → ℕ → Begun
mark_for l log marks n = begun_at (cold l) log marks (n / mark_every) no_mark

-- the run from there to record n
abbrev pub to_record : Begun → List ℕ → ℕ → Tally
to_record b log n = after_many b.state (drop b.offset log) (n % mark_every)

-- "Lookup: 13; 12; 19, the mark that n calls for is not there; 11, that mark has another kind, ..; 19, the stop comes before record n"
unfoldable pub look_code : Limits → List ℕ → List ℕ → ℕ → ℕ
look_code l log marks n =
    cond (limits_ok l)
    (cond (leb (length log) longest_log)
    (cond (eqb (mark_for l log marks n).code accepted)
    (cond (eqb (to_record (mark_for l log marks n) log n).read (n % mark_every)) accepted no_mark)
    (mark_for l log marks n).code)
    log_too_long)
    bad_limits

-- "The state after record n, found from the nearest mark at or before n ..; it reports how many it stepped", and the offset reached
unfoldable pub looked_up : Limits → List ℕ → List ℕ → ℕ → Looked
looked_up l log marks n =
    cond (eqb (look_code l log marks n) accepted)
    (record {
      code = accepted;
      state = (to_record (mark_for l log marks n) log n).state;
      steps = n % mark_every;
      offset = (mark_for l log marks n).offset + (to_record (mark_for l log marks n) log n).offset;
    })
    (look_refused (look_code l log marks n))
