-- The counts of a run are those of its steps.
-- Proves: tallied-sum, is-go, run-read, run-refused, run-request, run-release, run-incompatible, run-initiate, run-terminate,
-- run-established.
use mathlib.Core.Path.{◌≡◌, refl, sym, ap, ◌∙◌}
use mathlib.Core.Bool.{cond}
use mathlib.Core.List.{List, [], ◌∷◌}
use Prim.Native.Nat.{ℕ, ◌+◌}
use native.Mathlib.Nat.{add-zero, zero-add}
use native.Mathlib.Omega.{arith}
use lib.Dec.{eqb, leb}
use lib.ListN.{length}
use Rattle.wire.specs.Refusals as refusal
use Rattle.wire.proofs.Tests.{cond-case, cond-holds}
use Rattle.place.specs.Table.{request, release, incompatible, initiate, terminate, established}
use Rattle.unit.specs.States.{sound}
use Rattle.unit.specs.Steps.{Outcome}
use Rattle.unit.specs.declared.state.State.{State}
use Rattle.record.specs.Takes.{longest_log}
use Rattle.unit.specs.Runs.{Course, stops, applies, course}
use Rattle.unit.specs.RunWords.{steps_of, steps}
use Rattle.unit.specs.Runs.{total_of, totalled, counted, fresh, tallied, go, run_refused, run}
use Rattle.wire.specs.Sums.{sum}
use Rattle.unit.specs.declared.run.Tally.{Tally}

-- a count that each record changes by what its step counts for is the sum over the steps
module _ (f : Tally → ℕ) (w : Outcome → ℕ) (each : (t : Tally) (k : ℕ) (o : Outcome) → f (counted t k o) ≡ f t + w o) where
  pub tallied-sum : (t : Tally) (c : Course) → f (tallied t c).tally ≡ f t + sum w (steps_of c)
  unfolding tallied steps_of sum
  tallied-sum t (stops stop) = sym (add-zero (f t))
  tallied-sum t (applies bytes o rest) =
      let here = each t (length bytes) o in
      let later = tallied-sum (counted t (length bytes) o) rest in
      omega arith

sum_one : (os : List Outcome) → sum (λ o. 1) os ≡ length os
unfolding sum
sum_one [] = refl
sum_one (o ∷ os) =
    let rest = sum_one os in
    omega arith

-- the run that is not refused, as its steps
module _ (s : State) (log : List ℕ) (budget : ℕ) (taken : (run s log budget).code ≡ refusal.accepted) where
  pub is-go : run s log budget ≡ go budget (fresh s) log
  unfolding run
  is-go =
      let goes = go budget (fresh s) log in
      let unsound = run_refused refusal.not_sound s in
      cond-case (λ r. r.code ≡ refusal.accepted → r ≡ goes) (leb (length log) longest_log) (cond (sound s) goes unsound)
      (run_refused refusal.log_too_long s)
      (λ fits.
      cond-holds (λ r. r.code ≡ refusal.accepted → r ≡ goes) (sound s) goes unsound
      (λ h. refl)
      (λ h. absurd (omega arith)))
      (λ long h. absurd (omega arith))
      taken

  the-steps : List Outcome
  the-steps = steps budget s log

  summed : (f : Tally → ℕ) (w : Outcome → ℕ)
      → ((t : Tally) (k : ℕ) (o : Outcome) → f (counted t k o) ≡ f t + w o)
      → f (fresh s) ≡ 0
      → f (run s log budget).tally ≡ sum w the-steps
  unfolding the-steps
  summed f w each none =
      ap (λ r. f r.tally) is-go
      ∙ tallied-sum f w each (fresh s) (course budget s log)
      ∙ ap (λ x. x + sum w (steps budget s log)) none
      ∙ zero-add (sum w (steps budget s log))

  -- "Records read are the steps taken"
  -- promise
  pub run-read : (run s log budget).tally.read ≡ length (steps budget s log)
  unfolding the-steps counted
  run-read = summed (λ t. t.read) (λ o. 1) (λ t k o. refl) refl ∙ sum_one (steps budget s log)

  -- those refused are the steps with a number
  -- promise
  pub run-refused :
      (run s log budget).tally.refused
      ≡ sum (λ o. cond (eqb o.code refusal.accepted) 0 1) (steps budget s log)
  unfolding the-steps counted
  run-refused = summed (λ t. t.refused) (λ o. cond (eqb o.code refusal.accepted) 0 1) (λ t k o. refl) refl

  -- "each total is the sum over those steps' actions"
  -- promise
  pub run-request :
      (run s log budget).tally.totals.request
      ≡ sum (λ o. total_of request o.actions) (steps budget s log)
  unfolding the-steps counted totalled
  run-request = summed (λ t. t.totals.request) (λ o. total_of request o.actions) (λ t k o. refl) refl

  -- promise
  pub run-release :
      (run s log budget).tally.totals.release
      ≡ sum (λ o. total_of release o.actions) (steps budget s log)
  unfolding the-steps counted totalled
  run-release = summed (λ t. t.totals.release) (λ o. total_of release o.actions) (λ t k o. refl) refl

  -- promise
  pub run-incompatible :
      (run s log budget).tally.totals.incompatible
      ≡ sum (λ o. total_of incompatible o.actions) (steps budget s log)
  unfolding the-steps counted totalled
  run-incompatible = summed (λ t. t.totals.incompatible) (λ o. total_of incompatible o.actions) (λ t k o. refl) refl

  -- promise
  pub run-initiate :
      (run s log budget).tally.totals.initiate
      ≡ sum (λ o. total_of initiate o.actions) (steps budget s log)
  unfolding the-steps counted totalled
  run-initiate = summed (λ t. t.totals.initiate) (λ o. total_of initiate o.actions) (λ t k o. refl) refl

  -- promise
  pub run-terminate :
      (run s log budget).tally.totals.terminate
      ≡ sum (λ o. total_of terminate o.actions) (steps budget s log)
  unfolding the-steps counted totalled
  run-terminate = summed (λ t. t.totals.terminate) (λ o. total_of terminate o.actions) (λ t k o. refl) refl

  -- promise
  pub run-established :
      (run s log budget).tally.totals.established
      ≡ sum (λ o. total_of established o.actions) (steps budget s log)
  unfolding the-steps counted totalled
  run-established = summed (λ t. t.totals.established) (λ o. total_of established o.actions) (λ t k o. refl) refl
