-- Cross-checks only: rules told a second time.
-- The definitions that walk a history walk the same one: `after`, `summed` and `sent` are read from the outcomes of `trace`.
-- Proves: after-trace, sum_over-short, summed-trace, sent-trace.
use mathlib.Core.Path.{◌≡◌, refl, ap}
use mathlib.Core.List.{List, [], ◌∷◌, ◌++◌}
use Prim.Native.Nat.{ℕ, ◌+◌}
use Rattle.unit.specs.Steps.{Outcome}
use Rattle.unit.specs.OnRecords.{trace, action_room, on_record}
use Rattle.unit.specs.declared.state.State.{State}
use Rattle.history.specs.Histories.{after, summed, sent}
use Rattle.history.specs.Walked.{end_of, sum_over, sent_by}

-- the state after a history is the one that its outcomes end in
-- meaning
pub after-trace : (s : State) (history : List (List ℕ)) → after s history ≡ end_of s (trace s history)
unfolding after end_of trace
after-trace s [] = refl
after-trace s (bytes ∷ history) = after-trace (on_record s bytes action_room).state history

-- where no outcome is left nothing is counted
-- meaning
pub sum_over-short : (f : State → List ℕ → Outcome → ℕ) (s : State) (history : List (List ℕ)) → sum_over f s history [] ≡ 0
unfolding sum_over
sum_over-short f s [] = refl
sum_over-short f s (bytes ∷ history) = refl

-- a sum over a history is one over its outcomes
-- meaning
pub summed-trace : (f : State → List ℕ → Outcome → ℕ) (s : State) (history : List (List ℕ))
    → summed f s history ≡ sum_over f s history (trace s history)
unfolding summed sum_over trace
summed-trace f s [] = refl
summed-trace f s (bytes ∷ history) =
    let o = on_record s bytes action_room in
    ap (◌+◌ (f s bytes o)) (summed-trace f o.state history)

-- and its actions are theirs
-- meaning
pub sent-trace : (s : State) (history : List (List ℕ)) → sent s history ≡ sent_by (trace s history)
unfolding sent sent_by trace
sent-trace s [] = refl
sent-trace s (bytes ∷ history) =
    let o = on_record s bytes action_room in
    ap (◌++◌ o.actions) (sent-trace o.state history)
