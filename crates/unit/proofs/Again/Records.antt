-- Cross-checks only: rules told a second time.
-- A run goes on after a record, counts one that it refuses, and counts each action of a step.
-- Proves: go_both, counted-refusal, total_of-counts.
use mathlib.Core.Path.{◌≡◌, refl, ap}
use mathlib.Core.Bool.{cond}
use mathlib.Core.List.{List, [], ◌∷◌}
use Prim.Native.Nat.{ℕ, ◌+◌}
use lib.Dec.{eqb}
use borrow.Author.Tests.{ne_eqb}
use Rattle.wire.specs.Refusals.{accepted}
use Rattle.unit.specs.Steps.{Outcome}
use Rattle.record.specs.Takes.{take_one, taken}
use Rattle.unit.specs.Runs.{course, total_of, counted, tallied, go}
use Rattle.unit.specs.Kept.{count}
use Rattle.unit.specs.declared.answer.Action.{Action}
use Rattle.unit.specs.declared.run.Tally.{Tally}

-- of two records, here two mode changes, both are read
-- promise
pub go_both : (t : Tally) → (go 2 t (3 ∷ 3 ∷ [])).tally.read ≡ t.read + 1 + 1
unfolding course tallied taken take_one counted
go_both t = refl

-- "A record refused with 3 to 9 is counted": as refused
-- promise
pub counted-refusal : (t : Tally) (k : ℕ) (o : Outcome)
    → (o.code ≡ accepted → ⊥)
    → (counted t k o).refused ≡ t.refused + 1
unfolding counted
counted-refusal t k o refused = ap (λ b. t.refused + cond b 0 1) (ne_eqb o.code accepted refused)

-- "a total for each of the six actions": how many of a step's actions have the number
-- promise
pub total_of-counts : (number : ℕ) (acts : List Action) → total_of number acts ≡ count (λ a. eqb a.number number) acts
unfolding total_of
total_of-counts number acts = refl
