-- Document 01, "Run over a log".
-- Defines: Course, course, total_of, no_totals, totalled, fresh, counted, ended, tallied, go, run_refused, run.
use Rattle.std.specs.Prelude.{ℕ, zero, suc, ◌+◌, cond, List, [], ◌∷◌, eqb, leb, length, take, drop}
use Rattle.wire.specs.Orders.{first_that_applies}
use Rattle.record.specs.Takes.{nothing_left, budget_used, longest_log, taken, on_taken}
use Rattle.wire.specs.Refusals.{accepted, not_sound, log_too_long}
use Rattle.place.specs.Table.{request, release, incompatible, initiate, terminate, established}
use Rattle.unit.specs.States.{sound}
use Rattle.unit.specs.Kept.{count}
use Rattle.unit.specs.Steps.{Outcome}
use Rattle.unit.specs.OnRecords.{action_room, on_record}
use Rattle.unit.specs.declared.state.State.{State}
use Rattle.unit.specs.declared.answer.Action.{Action}
use Rattle.unit.specs.declared.run.Totals.{Totals}
use Rattle.unit.specs.declared.run.Tally.{Tally}
use Rattle.unit.specs.declared.run.Report.{Report}

-- the course of a run: a record and what it gave, then the rest; at the end the stop
pub data Course : Type 0 where
  stops : ℕ → Course
  applies : List ℕ → Outcome → Course → Course

-- "Records stand back to back"; "Before each record, in order: nothing left ..; budget used up ..; kind unknown ..; fewer bytes"; Q-8:
-- "The run is then the two in turn": a record is taken off the front and applied, given 20 bytes for its actions, and so on from there
unfoldable pub course : ℕ → State → List ℕ → Course
course zero s [] = stops nothing_left
course zero s (kind ∷ rest) = stops budget_used
course (suc budget) s log =
    on_taken (taken log) stops
    (λ k. let o : Outcome = on_record s (take k log) action_room in applies (take k log) o (course budget o.state (drop k log)))

-- how many of the actions have this number
unfoldable pub total_of : ℕ → List Action → ℕ
unfolding count
total_of number acts = count (λ a. eqb a.number number) acts

abbrev pub no_totals : Totals
no_totals = record { request = 0; release = 0; incompatible = 0; initiate = 0; terminate = 0; established = 0 }

-- "each total is the sum over those steps' actions": the totals with a step's actions counted
unfoldable pub totalled : Totals → List Action → Totals
totalled t acts =
    record {
      request = t.request + total_of request acts;
      release = t.release + total_of release acts;
      incompatible = t.incompatible + total_of incompatible acts;
      initiate = t.initiate + total_of initiate acts;
      terminate = t.terminate + total_of terminate acts;
      established = t.established + total_of established acts;
    }

-- a run before its first record
abbrev pub fresh : State → Tally
fresh s = record { state = s; offset = 0; read = 0; refused = 0; totals = no_totals }

-- "A record refused with 3 to 9", or 15, "is counted, changes nothing, and the run goes on": as read, and as refused
unfoldable pub counted : Tally → ℕ → Outcome → Tally
counted t k o =
    record {
      state = o.state;
      offset = t.offset + k;
      read = t.read + 1;
      refused = t.refused + cond (eqb o.code accepted) 0 1;
      totals = totalled t.totals o.actions;
    }

-- a run that stopped: "The answer holds the last state, the stop, the offset reached, records read, records refused, and a total for each
-- of the six actions"
abbrev pub ended : Tally → ℕ → Report
ended t stop = record { code = accepted; stop = stop; tally = t }

-- what a course adds to a run so far
unfoldable pub tallied : Tally → Course → Report
tallied t (stops stop) = ended t stop
tallied t (applies bytes o rest) = tallied (counted t (length bytes) o) rest

-- the rest of a run, with what is left of the budget and of the log
abbrev pub go : ℕ → Tally → List ℕ → Report
go budget t log = tallied t (course budget t.state log)

-- "A refused .. run .. returns its number, the state as given, counts 0 (a run's stop and offset too)"
abbrev pub run_refused : ℕ → State → Report
run_refused r s = record { code = r; stop = 0; tally = fresh s }

-- "The run takes a state and a budget of records"; "Run: 12, 11"
unfoldable pub run : State → List ℕ → ℕ → Report
run s log budget =
    first_that_applies (λ r. run_refused r s) ((leb (length log) longest_log, log_too_long) ∷ (sound s, not_sound) ∷ [])
    (go budget (fresh s) log)
