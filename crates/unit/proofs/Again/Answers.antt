-- Cross-checks only: rules told a second time.
-- What the doors answer, told of the step that they carry out: its code, its next state, its actions, the place that it tells.
-- Proves: nowhere-numbered, stepped-told, packed-told, on_record-applied, bytes_of-fields.
use mathlib.Core.Path.{◌≡◌, refl, ap}
use mathlib.Core.Bool.{cond}
use mathlib.Core.List.{List, [], ◌∷◌, ◌++◌}
use Prim.Native.Nat.{ℕ, ◌≤◌}
use native.Mathlib.Omega.{arith}
use lib.ListN.{length, take, replicate}
use borrow.Author.Tests.{le-leb}
use Rattle.wire.specs.Refusals.{no_room}
use Rattle.unit.specs.States.{nowhere}
use Rattle.unit.specs.Steps.{Outcome, refused}
use Rattle.unit.specs.OnRecords.{action_room, applied, on_record, bytes_of}
use Rattle.unit.specs.Forms.{most_actions, no_action, listed, packed, stepped}
use Rattle.unit.specs.declared.state.State.{State}
use Rattle.unit.specs.declared.answer.Action.{Action}

-- Q-6: "every other answer, carries place 4 and phase 0"
-- promise
pub nowhere-numbered : (nowhere.place ≡ 4) × (nowhere.phase ≡ 0)
nowhere-numbered = (refl, refl)

-- the step on bytes answers what its step is, with the number of its actions
-- promise
pub stepped-told : (o : Outcome)
    → ((stepped o).code ≡ o.code)
    × ((stepped o).state ≡ o.state)
    × ((stepped o).count ≡ length o.actions)
    × ((stepped o).standing ≡ o.standing)
unfolding stepped
stepped-told o = (refl, refl, refl, refl)

-- the step on values answers what its step is; its actions stand at the front of the four that it hands over
-- promise
pub packed-told : (o : Outcome)
    → ((packed o).code ≡ o.code)
    × ((packed o).state ≡ o.state)
    × ((packed o).standing ≡ o.standing)
    × ((packed o).actions.count ≡ length o.actions)
    × (length o.actions ≤ 4 → take (length o.actions) (packed o).actions.items ≡ o.actions)
unfolding packed listed
packed-told o = (refl, refl, refl, refl, front o.actions)
  where
    front : (acts : List Action)
        → length acts ≤ 4
        → take (length acts) (take most_actions (acts ++ replicate most_actions no_action)) ≡ acts
    front [] few = refl
    front (a ∷ []) few = refl
    front (a ∷ b ∷ []) few = refl
    front (a ∷ b ∷ d ∷ []) few = refl
    front (a ∷ b ∷ d ∷ e ∷ []) few = refl
    front (a ∷ b ∷ d ∷ e ∷ f ∷ more) few = absurd (omega arith)

-- "applying has the step's" refusals: with room for the actions, the step on bytes is the step on values
-- promise
pub on_record-applied : (s : State) (bytes : List ℕ) (room : ℕ) → 20 ≤ room → on_record s bytes room ≡ applied s bytes
unfolding on_record
on_record-applied s bytes room enough =
    ap (λ b. cond b (applied s bytes) (refused no_room s)) (le-leb action_room room enough)

-- "Actions are five bytes: number, partner"; "Partner = type byte, three number bytes"
-- promise
pub bytes_of-fields : (a : Action)
    → bytes_of a ≡ a.number ∷ a.partner.kind ∷ a.partner.high ∷ a.partner.middle ∷ a.partner.low ∷ []
bytes_of-fields a = refl
