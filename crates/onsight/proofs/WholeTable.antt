-- Rules of the whole table: a rule that the checker computes at every state with every event holds of each.
-- Defines: line, drawn, on_taken.
-- Proves: line-rule, rule, taken-rule, by-cell.
use mathlib.Core.Path.{◌≡◌, refl, sym, ap, ◌∙◌}
use mathlib.Core.List.{List, [], ◌∷◌}
use Prim.Native.Nat.{ℕ}
use lib.ListN.{get_or}
use Rattle.std.specs.Prelude.{Option, Some, None}
use Rattle.onsight.specs.Numbers.{state_number}
use Rattle.onsight.specs.Procedures.{cell, taken, refused, answered}
use Rattle.onsight.specs.declared.event.Area.TheVariants.{Ahead, Entered}
use Rattle.onsight.specs.declared.event.Mode.TheVariants.{OS, SB, PT, Another}
use Rattle.onsight.specs.declared.event.Event.{Event}
use Rattle.onsight.specs.declared.event.Event.TheVariants.{Profile, Window, Start, Acknowledgement, Expiry}
use Rattle.onsight.specs.declared.procedure.State.{State}
use Rattle.onsight.specs.declared.procedure.State.TheVariants.{Idle, Waiting, Asked, Late, Braking, Done}
use Rattle.onsight.specs.declared.procedure.Answer.{Answer}
use Rattle.onsight.proofs.Again.Each.{by_state}

-- what a function says of each event, and of each state with each event
abbrev pub line : {A : Type 0} → (Event → A) → List A
line f =
    f (Profile Ahead OS)
    ∷ f (Profile Ahead SB)
    ∷ f (Profile Ahead PT)
    ∷ f (Profile Ahead Another)
    ∷ f (Profile Entered OS)
    ∷ f (Profile Entered SB)
    ∷ f (Profile Entered PT)
    ∷ f (Profile Entered Another)
    ∷ f Window
    ∷ f Start
    ∷ f Acknowledgement
    ∷ f Expiry
    ∷ []

abbrev pub drawn : {A : Type 0} → (State → Event → A) → List (List A)
drawn f = line (f Idle) ∷ line (f Waiting) ∷ line (f Asked) ∷ line (f Late) ∷ line (f Braking) ∷ line (f Done) ∷ []

-- where an event stands in its line
abbrev spot : Event → ℕ
spot (Profile Ahead OS) = 0
spot (Profile Ahead SB) = 1
spot (Profile Ahead PT) = 2
spot (Profile Ahead Another) = 3
spot (Profile Entered OS) = 4
spot (Profile Entered SB) = 5
spot (Profile Entered PT) = 6
spot (Profile Entered Another) = 7
spot Window = 8
spot Start = 9
spot Acknowledgement = 10
spot Expiry = 11

line-at : {A : Type 0} (f : Event → A) (d : A) (e : Event) → get_or (line f) (spot e) d ≡ f e
line-at f d (Profile Ahead OS) = refl
line-at f d (Profile Ahead SB) = refl
line-at f d (Profile Ahead PT) = refl
line-at f d (Profile Ahead Another) = refl
line-at f d (Profile Entered OS) = refl
line-at f d (Profile Entered SB) = refl
line-at f d (Profile Entered PT) = refl
line-at f d (Profile Entered Another) = refl
line-at f d Window = refl
line-at f d Start = refl
line-at f d Acknowledgement = refl
line-at f d Expiry = refl

-- two functions of the events that are drawn alike say the same
pub line-rule : {A : Type 0} (f g : Event → A) → line f ≡ line g → (e : Event) → f e ≡ g e
line-rule f g same e = sym (line-at f (f e) e) ∙ ap (λ l. get_or l (spot e) (f e)) same ∙ line-at g (f e) e

drawn-at : {A : Type 0} (f : State → Event → A) (s : State) → get_or (drawn f) (state_number s) [] ≡ line (f s)
drawn-at f = by_state (λ s. get_or (drawn f) (state_number s) [] ≡ line (f s)) refl refl refl refl refl refl

-- two functions of the states and events that are drawn alike say the same
pub rule : {A : Type 0} (f g : State → Event → A) → drawn f ≡ drawn g → (s : State) (e : Event) → f s e ≡ g s e
rule f g same s = line-rule (f s) (g s) (sym (drawn-at f s) ∙ ap (λ t. get_or t (state_number s) []) same ∙ drawn-at g s)

-- what is said of the state that a cell gives; where the event is not taken, another thing
abbrev pub on_taken : {A : Type 0} → (State → A) → A → Option State → A
on_taken f other None = other
on_taken f other (Some next) = f next

-- a rule of the events that are taken
pub taken-rule : {A : Type 0} (f : State → Event → State → A) (g : State → Event → A)
    → drawn (λ s e. on_taken (f s e) (g s e) (cell s e)) ≡ drawn g
    → (s : State) (e : Event) (next : State)
    → cell s e ≡ Some next
    → f s e next ≡ g s e
taken-rule f g same s e next gives =
    sym (ap (on_taken (f s e) (g s e)) gives) ∙ rule (λ s e. on_taken (f s e) (g s e) (cell s e)) g same s e

-- what holds of a refusal, and of every state that the cell gives, holds of the answer
pub by-cell : (P : Answer → Type 0) (s : State) (c : Option State)
    → (c ≡ None → P (refused s))
    → ((next : State) → c ≡ Some next → P (taken next))
    → P (answered s c)
by-cell P s None stays goes = stays refl
by-cell P s (Some next) stays goes = goes next refl
