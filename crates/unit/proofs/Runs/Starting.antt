-- The run by what its two tests showed.
-- Proves: run_long, run-unsound, run_sound.
use mathlib.Core.Path.{◌≡◌}
use mathlib.Core.Bool.{true, false}
use mathlib.Core.List.{List}
use Prim.Native.Nat.{ℕ, ◌≤◌, ◌<◌}
use lib.ListN.{length}
use borrow.Author.Tests.{le-leb, lt-leb}
use Rattle.wire.specs.Refusals.{not_sound, log_too_long}
use Rattle.unit.specs.States.{sound}
use Rattle.unit.specs.declared.state.State.{State}
use Rattle.record.specs.Takes.{longest_log}
use Rattle.unit.specs.Runs.{fresh, go, run_refused, run}

module _ (s : State) (log : List ℕ) (budget : ℕ) where
  pub run_long : longest_log < length log → run_refused log_too_long s ≡ run s log budget
  unfolding run
  run_long long = simp (lt-leb (length log) longest_log long)

  module _ (fits : length log ≤ longest_log) where
    pub run-unsound : sound s ≡ false → run_refused not_sound s ≡ run s log budget
    unfolding run
    run-unsound bad = simp (le-leb (length log) longest_log fits, bad)

    pub run_sound : sound s ≡ true → go budget (fresh s) log ≡ run s log budget
    unfolding run
    run_sound good = simp (le-leb (length log) longest_log fits, good)
