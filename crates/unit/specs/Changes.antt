-- Only private contracts use what stands here: actions as they are gathered, and a step as the code reads it before it is carried out.
-- Defines: pushed, push_all, given, closing_number, sent_for, sending, noted, closes_any, settled, made, carried, sent_behind, Appended.
use Rattle.place.specs.declared.turn.Closing.{Closing}
use Rattle.place.specs.declared.turn.Closing.TheVariants.{Every, Sessions, Nothing}
use Rattle.unit.specs.declared.state.Train.{Train}
use Rattle.unit.specs.declared.state.Marks.{Marks}
use Rattle.unit.specs.declared.state.State.{State}
use Rattle.record.specs.declared.partner.Partner.{Partner}
use Rattle.unit.specs.declared.last.Last.{Last}
use Rattle.unit.specs.declared.search.Standing.{Standing}
use Rattle.unit.specs.declared.answer.Action.{Action}
use Rattle.unit.specs.declared.answer.Actions.{Actions}
use Rattle.unit.specs.declared.answer.Stepped.{Stepped}
use Rattle.unit.specs.declared.change.Change.{Change}
use Rattle.std.specs.Prelude.{ℕ, ◌+◌, Bool, true, false, cond, ◌≡◌, List, [], ◌∷◌, ◌++◌, map, eqb, ltb, length, set}
use Rattle.std.specs.Prelude.{Option, get_or}
use Rattle.wire.specs.Codes.{coded}
use Rattle.wire.specs.Refusals.{accepted}
use Rattle.wire.specs.declared.refusal.Refusal.{Refusal}
use Rattle.unit.specs.Forms.{most_actions, no_action}
use Rattle.unit.specs.OnRecords.{written}
use Rattle.unit.specs.States.{place_count, nowhere}
use Rattle.place.specs.Places.{vacant, partner_of}
use Rattle.place.specs.Table.{numbers, closed_by}
use Rattle.place.specs.declared.place.Place.{Place}
use Rattle.unit.specs.Steps.{Outcome, refused_at, done, act, with_places, closed, closing_actions}

-- one more action, where there is room for it
unfoldable pub pushed : Actions → Partner → ℕ → Actions
pushed a p number =
    cond (ltb a.count most_actions) (record { items = set a.items a.count (act p number); count = a.count + 1 }) a

-- the actions of these numbers for one partner, in their order
unfoldable pub push_all : Actions → Partner → List ℕ → Actions
push_all a p [] = a
push_all a p (number ∷ ks) = push_all (pushed a p number) p ks

-- the action that a number gives; 0 gives none
unfoldable pub given : ℕ → List ℕ
given number = cond (eqb number 0) [] (number ∷ [])

-- the number of the action that a closing sends to the partner of a place, 0 for none: it has at most one
abbrev pub closing_number : Closing → Place → ℕ
closing_number which p = get_or (numbers (closed_by which p)) 0 0

-- the actions of these numbers, each for the partner of its place
unfoldable pub sent_for : List Place → List ℕ → List Action
sent_for [] ks = []
sent_for (p ∷ ps) [] = []
sent_for (p ∷ ps) (number ∷ ks) = map (act (partner_of p)) (given number) ++ sent_for ps ks

-- the actions that a change sends last
abbrev pub sending : Change → List Action
sending c = map (act c.partner) (given c.first ++ given c.second)

-- a change that sets no place
unfoldable pub noted : Option Refusal → Train → Marks → Closing → Standing → Last → Change
noted r t m which w last =
    record {
      refusal = r;
      train = t;
      marks = m;
      which = which;
      at = place_count;
      place = vacant;
      partner = no_action.partner;
      first = 0;
      second = 0;
      standing = w;
      last = last;
    }

-- the closing is for some place
abbrev pub closes_any : Closing → Bool
closes_any Every = true
closes_any Sessions = true
closes_any Nothing = false

-- the state with the train, the marks, the place and the last known RBC that a change names; past the last place it sets none
unfoldable pub settled : State → Change → State
settled s c =
    record {
      limits = s.limits;
      train = c.train;
      marks = c.marks;
      places = set s.places c.at c.place;
      last = c.last;
    }

-- what a change makes of a state: first the closings, then the place and the actions that are sent last
unfoldable pub made : State → Change → Outcome
made s c =
    done (settled (with_places s (closed c.which s.places)) c)
    (closing_actions c.which s.places ++ sending c)

-- a change carried out, or refused
unfoldable pub carried : State → Change → Outcome
carried s c = cond (eqb (coded c.refusal) accepted) (made s c) (refused_at (coded c.refusal) c.standing s)

-- an accepted step as it is answered beside the buffer, its last actions behind so many others
abbrev pub sent_behind : ℕ → State → List Action → Stepped
sent_behind count s acts = record { code = accepted; state = s; count = count + length acts; standing = nowhere }

-- a buffer that had so many actions at its front has these behind them
abbrev pub Appended : List ℕ → List ℕ → ℕ → List Action → Type 0
Appended before after count more =
    (acts : List Action) (buffer : List ℕ)
    → count ≡ length acts
    → before ≡ written acts buffer
    → after ≡ written (acts ++ more) buffer
