-- The run of the engine of sets over a log is the run of the box over it.
-- Proves: same-run.
use mathlib.Core.Path.{◌≡◌, refl, sym, ap, ap₂, ◌∙◌, subst⁻¹}
use mathlib.Core.Bool.{Bool, true, false, cond}
use mathlib.Core.List.{List, [], ◌∷◌}
use Prim.Native.Nat.{ℕ, zero, suc, ◌+◌}
use lib.Dec.{eqb, leb}
use lib.ListN.{length, take, drop}
use lib.Seq.{length-take-le}
use Rattle.wire.specs.Refusals.{accepted, not_sound, log_too_long}
use Rattle.wire.proofs.Tests.{true-false}
use Rattle.record.specs.Takes.{longest_log, taken, on_taken}
use Rattle.record.specs.TakeWords.{TakenOk}
use Rattle.record.proofs.Takes.{taken-ok}
use Rattle.record.specs.Takes.{Taken}
use Rattle.record.specs.Takes.{Whole, Stopped, Overlong}
use Rattle.place.specs.Table.{request, release, incompatible, initiate, terminate, established}
use Rattle.unit.specs.Kept.{count}
use Rattle.unit.specs.OnRecords.{action_room, on_record}
use Rattle.unit.specs.Runs.{stops, applies, course, total_of, totalled, fresh, counted, ended, tallied, go, run_refused, run}
use Rattle.unit.specs.States.{sound}
use Rattle.unit.specs.declared.answer.Action.{Action}
use Rattle.unit.specs.declared.run.Tally.{Tally}
use Rattle.unit.specs.declared.run.Totals.{Totals}
use Rattle.unit.specs.declared.state.State.{State}
use Rattle.unit.proofs.Again.Records.{total_of-counts}
use Rattle.sets.specs.SixSets.{unpacked, set_ready}
use Rattle.sets.specs.OnSets.{on_sets}
use Rattle.runs.specs.MachineRuns.{machine_fresh, machine_counted, machine_ended, machine_go, machine_run}
use Rattle.sets.specs.SetRuns.{set_gives, set_run}
use Rattle.sets.specs.SetGoings.{set_go, set_run_refused}
use Rattle.sets.specs.SameSets.{SameState}
use Rattle.sets.specs.SameWords.{SameReport}
use Rattle.runs.specs.declared.run.MachineTally.{MachineTally}
use Rattle.sets.specs.declared.state.SetState.{SetState}
use Rattle.sets.proofs.SameAnswers.{Alike, same_answer, alike_next}

-- the same collection of actions adds the same totals
totals-same : (t : Totals) (xs ys : List Action)
    → ((test : Action → Bool) → count test xs ≡ count test ys)
    → totalled t xs ≡ totalled t ys
unfolding totalled
totals-same t xs ys same =
    let each : (number : ℕ) → total_of number xs ≡ total_of number ys =
    λ number. total_of-counts number xs ∙ same (λ a. eqb a.number number) ∙ sym (total_of-counts number ys) in
    λ i.
    record {
      request = t.request + each request i;
      release = t.release + each release i;
      incompatible = t.incompatible + each incompatible i;
      initiate = t.initiate + each initiate i;
      terminate = t.terminate + each terminate i;
      established = t.established + each established i;
    }

-- two runs so far that are the same
record SoFar (t : Tally) (u : MachineTally SetState) : Type 0 where
  alike : Alike t.state u.state
  offset : t.offset ≡ u.offset
  read : t.read ≡ u.read
  refused : t.refused ≡ u.refused
  totals : t.totals ≡ u.totals

-- and stop
stops_same : (t : Tally) (u : MachineTally SetState) (stop : ℕ) → SoFar t u → SameReport (ended t stop) (machine_ended u stop)
stops_same t u stop same =
    record {
      code = refl;
      stop = refl;
      state = same.alike.same;
      offset = same.offset;
      read = same.read;
      refused = same.refused;
      totals = same.totals;
    }

-- with one record more
counted_same : (t : Tally) (u : MachineTally SetState) (bytes : List ℕ) (k : ℕ)
    → SoFar t u
    → SoFar (counted t k (on_record t.state bytes action_room)) (machine_counted u k (set_gives u.state bytes))
unfolding counted machine_counted
counted_same t u bytes k same =
    let alike = same.alike in
    let answer = same_answer t.state u.state alike.sound alike.ready alike.same bytes action_room in
    let o = on_record t.state bytes action_room in
    record {
      alike = alike_next t.state u.state bytes action_room alike;
      offset = ap (λ n. n + k) same.offset;
      read = ap (λ n. n + 1) same.read;
      refused = ap₂ (λ n c. n + cond (eqb c accepted) 0 1) same.refused answer.code;
      totals =
          ap (λ n. totalled n o.actions) same.totals
          ∙ totals-same u.totals o.actions (on_sets u.state bytes action_room).actions answer.actions;
    }

-- they go on the same, whatever the budget and the log
goes_same : (budget : ℕ) (t : Tally) (u : MachineTally SetState) (log : List ℕ)
    → SoFar t u
    → SameReport (tallied t (course budget t.state log)) (set_go budget u log)
unfolding tallied course machine_go counted
goes_same zero t u [] same = stops_same t u _ same
goes_same zero t u (kind ∷ rest) same = stops_same t u _ same
goes_same (suc budget) t u log same =
    by (taken log) (taken-ok log)
    (λ k.
    goes_same budget (counted t k (on_record t.state (take k log) action_room))
    (machine_counted u k (set_gives u.state (take k log)))
    (drop k log)
    (counted_same t u (take k log) k same))
  where
    by : (x : Taken)
        → TakenOk log x
        → ((k : ℕ)
        → SameReport (tallied (counted t k (on_record t.state (take k log) action_room))
        (course budget (counted t k (on_record t.state (take k log) action_room)).state (drop k log)))
        (set_go budget (machine_counted u k (set_gives u.state (take k log))) (drop k log)))
        → SameReport
        (tallied t (on_taken x stops
        (λ k. applies (take k log) (on_record t.state (take k log) action_room)
        (course budget (on_record t.state (take k log) action_room).state (drop k log)))))
        (on_taken x (machine_ended u) (λ k. set_go budget (machine_counted u k (set_gives u.state (take k log))) (drop k log)))
    by (Whole k r) (some, fits, reads) rest =
        subst⁻¹ (λ n. SameReport (tallied (counted t n (on_record t.state (take k log) action_room))
        (course budget (on_record t.state (take k log) action_room).state (drop k log)))
        (set_go budget (machine_counted u k (set_gives u.state (take k log))) (drop k log)))
        (length-take-le k log fits)
        (rest k)
    by (Stopped stop) ok rest = stops_same t u stop same
    by (Overlong r) ok rest = stops_same t u r same

-- "records read, records refused, and a total for each of the six actions", the stop and the state: the same of both engines
-- promise
pub same-run : (s : State) (b : SetState)
    → sound s ≡ true
    → set_ready b ≡ true
    → SameState s (unpacked b)
    → (log : List ℕ) (budget : ℕ)
    → SameReport (run s log budget) (set_run b log budget)
unfolding run machine_run
same-run s b ok ready same log budget = by (leb (length log) longest_log) (sound s) ok (set_ready b) ready
  where
    start : SoFar (fresh s) (machine_fresh b)
    start = record { alike = record { sound = ok; ready = ready; same = same }; offset = refl; read = refl; refused = refl; totals = refl }

    by : (c : Bool) (d : Bool)
        → d ≡ true
        → (e : Bool)
        → e ≡ true
        → SameReport
        (cond c (cond d (go budget (fresh s) log) (run_refused not_sound s)) (run_refused log_too_long s))
        (cond c (cond e (set_go budget (machine_fresh b) log) (set_run_refused not_sound b)) (set_run_refused log_too_long b))
    by true true h true g = goes_same budget (fresh s) (machine_fresh b) log start
    by true true h false g = true-false false g refl
    by true false h e g = true-false false h refl
    by false d h e g =
        record { code = refl; stop = refl; state = same; offset = refl; read = refl; refused = refl; totals = refl }
