-- A procedure accepts at most five events; no state is a trap, and none is out of reach.
-- Proves: accepted_in-most, longest-accepted, way_to-reaches, way_to_done-done.
use mathlib.Core.Path.{◌≡◌, refl}
use mathlib.Core.Bool.{true, cond}
use mathlib.Core.List.{List, [], ◌∷◌}
use Prim.Native.Nat.{ℕ, ◌≤◌, ◌<◌}
use native.Mathlib.Omega.{arith}
use lib.Dec.{eqb, ltb}
use lib.ListN.{length}
use borrow.Author.Tests.{ltb-true}
use Rattle.std.specs.Prelude.{Some}
use Rattle.onsight.specs.Numbers.{accepted}
use Rattle.onsight.specs.Procedures.{cell, fresh}
use Rattle.onsight.specs.Histories.{after}
use Rattle.onsight.specs.HistoryWords.{met, accepted_of, accepted_in, most_accepted, longest, way_to, way_to_done}
use Rattle.onsight.specs.declared.event.Event.{Event}
use Rattle.onsight.specs.declared.procedure.State.{State}
use Rattle.onsight.specs.declared.procedure.State.TheVariants.{Idle, Waiting, Asked, Late, Braking, Done}
use Rattle.onsight.proofs.WholeTable.{taken-rule, by-cell}

-- how many events can still be accepted
abbrev left : State → ℕ
left Idle = 5
left Waiting = 4
left Asked = 3
left Late = 2
left Braking = 1
left Done = 0

-- each event that is taken leaves fewer
left_less : (s : State) (e : Event) (next : State) → cell s e ≡ Some next → left next < left s
left_less s e next gives =
    ltb-true (left next) (left s) (taken-rule (λ s e next. ltb (left next) (left s)) (λ s e. true) refl s e next gives)

accepted-left : (s : State) (es : List Event) → length (accepted_in s es) ≤ left s
unfolding met accepted_of
accepted-left s [] = omega arith
accepted-left s (e ∷ es) =
    by-cell
    (λ a. length
    (cond (eqb a.code accepted)
    (record { state = s; event = e; answer = a } ∷ accepted_in a.state es)
    (accepted_in a.state es))
    ≤ left s)
    s
    (cell s e)
    (λ is. accepted-left s es)
    (λ next gives.
    let rest = accepted-left next es in
    let less = left_less s e next gives in
    omega arith)

-- promise
pub accepted_in-most : (es : List Event) → length (accepted_in fresh es) ≤ most_accepted
accepted_in-most es = accepted-left fresh es

-- a history that reaches five
-- promise
pub longest-accepted : length (accepted_in fresh longest) ≡ most_accepted
unfolding met accepted_of
longest-accepted = refl

-- every state is reached from a fresh Idle
-- promise
pub way_to-reaches : (s : State) → after fresh (way_to s) ≡ s
unfolding after
way_to-reaches Idle = refl
way_to-reaches Waiting = refl
way_to-reaches Asked = refl
way_to-reaches Late = refl
way_to-reaches Braking = refl
way_to-reaches Done = refl

-- from every state a history leads to Done
-- promise
pub way_to_done-done : (s : State) → after s (way_to_done s) ≡ Done
unfolding after
way_to_done-done Idle = refl
way_to_done-done Waiting = refl
way_to_done-done Asked = refl
way_to_done-done Late = refl
way_to_done-done Braking = refl
way_to_done-done Done = refl
