-- Cross-checks only: nobody has to believe what stands here.
-- Further words of laws on a run: a run taken up where another came to, and the numbers that its steps may have.
-- Defines: taken_up, run_code, all_codes, steps_of, steps, StopsBy.
use Rattle.std.specs.Prelude.{ℕ, Bool, true, ◌&&◌, ◌||◌, List, [], ◌∷◌, eqb, leb, drop, ◌<◌, ◌≡◌, ◌⊎◌}
use Rattle.std.specs.Prelude.{false, length}
use Rattle.wire.specs.Refusals.{accepted, out_of_range, call_from_riu, none_known}
use Rattle.unit.specs.Steps.{Outcome}
use Rattle.unit.specs.Runs.{run}
use Rattle.unit.specs.declared.state.State.{State}
use Rattle.unit.specs.declared.run.Report.{Report}
use Rattle.record.specs.Records.{known, length_of}
use Rattle.unit.specs.Runs.{Course, stops, applies, course}

-- its steps: "Records read are the steps taken"
unfoldable pub steps_of : Course → List Outcome
steps_of (stops stop) = []
steps_of (applies bytes o rest) = o ∷ steps_of rest

abbrev pub steps : ℕ → State → List ℕ → List Outcome
steps budget s log = steps_of (course budget s log)

-- "nothing left, stop 0; budget used up, stop 1; kind unknown, stop 3; fewer bytes than the kind's length, stop 2": of a budget, the
-- records read, the stop, and the rest of the log
abbrev pub StopsBy : ℕ → ℕ → ℕ → List ℕ → Type 0
StopsBy budget read stop [] = stop ≡ 0
StopsBy budget read stop (kind ∷ rest) =
    ((stop ≡ 1) × (read ≡ budget))
    ⊎ ((read < budget)
    × (((stop ≡ 3) × (known kind ≡ false)) ⊎ ((stop ≡ 2) × (known kind ≡ true) × (length (kind ∷ rest) < length_of kind))))

-- the run of so many records taken up where a run of m records came to
abbrev pub taken_up : State → List ℕ → ℕ → ℕ → Report
taken_up s log m b = run (run s log m).tally.state (drop (run s log m).tally.offset log) b

-- "A record refused with 3 to 9", and of Q-2 15, "counted by the run like 3 to 9": the numbers that a step of a run may have
abbrev pub run_code : ℕ → Bool
run_code code = eqb code accepted || ((leb out_of_range code && leb code call_from_riu) || eqb code none_known)

unfoldable pub all_codes : List Outcome → Bool
all_codes [] = true
all_codes (o ∷ os) = run_code o.code && all_codes os
