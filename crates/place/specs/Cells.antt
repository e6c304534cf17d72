-- Only private contracts use what stands here: the entries of the phase table by the numbers that the code gives them, and the phase whose
-- tries are not tested.
-- Defines: legend, chosen_turn, row_number, Draws, Chooses, is_open.
use Rattle.record.specs.declared.event.PartnerEvent.{PartnerEvent}
use Rattle.place.specs.Places.{by_phase}
use Rattle.place.specs.Table.{request, initiate, terminate, first_try, closing, judged, again, table, version_of, turn}
use Rattle.place.specs.declared.phase.Phase.{Phase}
use Rattle.place.specs.declared.phase.Phase.TheVariants.{Contacting, Open, Lost}
use Rattle.place.specs.declared.limits.Limits.{Limits}
use Rattle.place.specs.declared.turn.Turn.{Turn}
use Rattle.place.specs.declared.turn.Turn.TheVariants.{Stays, Released, Becomes, Sends}
use Rattle.std.specs.Prelude.{ℕ, Bool, true, false, ◌≡◌, List, [], ◌∷◌, get_or}

-- the ten turns that the table has, by the numbers that the code gives them
abbrev pub legend : Limits → ℕ → Phase → List Turn
legend l version ph =
    Stays
    ∷ closing ph
    ∷ Released
    ∷ Sends initiate (Contacting first_try)
    ∷ Sends request (Lost first_try)
    ∷ Becomes Open
    ∷ again l request ph
    ∷ again l initiate ph
    ∷ again l terminate ph
    ∷ judged l version
    ∷ []

abbrev pub chosen_turn : Limits → ℕ → Phase → ℕ → Turn
chosen_turn l version ph choice = get_or (legend l version ph) choice Stays

-- the row of the table that a phase stands in
abbrev pub row_number : Phase → ℕ
row_number = by_phase 0 1 2 3 4

-- a number draws the table at this row and column: it stands for the turn there
abbrev pub Draws : ℕ → ℕ → ℕ → Type 0
Draws row column choice =
    (l : Limits) (version : ℕ) (ph : Phase)
    → row_number ph ≡ row
    → chosen_turn l version ph choice ≡ get_or (table l version ph) column Stays

-- a number stands for what the event makes of the phase
abbrev pub Chooses : Phase → PartnerEvent → ℕ → Type 0
Chooses ph e choice = (l : Limits) → chosen_turn l (version_of e) ph choice ≡ turn l ph e

-- the phase is Open, which has no tries
abbrev pub is_open : Phase → Bool
is_open = by_phase false false true false false
