-- The rule of the whole table: drawn number by number as the code has it, it is the table of 01, and so is each of its entries.
-- Proves: entry_at, row-none, column-none, draws-turn.
use mathlib.Core.Path.{◌≡◌, sym, ap, ◌∙◌}
use mathlib.Core.List.{List, [], map}
use Prim.Native.Nat.{ℕ, ◌≤◌}
use native.Mathlib.Omega.{arith}
use lib.ListN.{length, get_or, get_or-eq_default}
use Rattle.wire.proofs.Tests.{get_or-map}
use Rattle.record.specs.declared.event.PartnerEvent.{PartnerEvent}
use Rattle.place.specs.Table.{table, column, version_of, turn}
use Rattle.place.specs.Cells.{chosen_turn, row_number, Draws, Chooses}
use Rattle.place.specs.declared.phase.Phase.{Phase}
use Rattle.place.specs.declared.phase.Phase.TheVariants.{Connecting, Contacting, Open, Lost, Ending}
use Rattle.place.specs.declared.limits.Limits.{Limits}
use Rattle.place.specs.declared.turn.Turn.TheVariants.{Stays}

-- a row of numbers that stands for the row of a phase stands for it at every column
at-column : (l : Limits) (v : ℕ) (ph : Phase) (numbers : List ℕ) (column : ℕ)
    → map (chosen_turn l v ph) numbers ≡ table l v ph
    → chosen_turn l v ph (get_or numbers column 0) ≡ get_or (table l v ph) column Stays
at-column l v ph numbers column same =
    sym (get_or-map (chosen_turn l v ph) numbers column 0) ∙ ap (λ r. get_or r column Stays) same

-- a table of numbers whose rows stand for the rows of 01's table draws it at every row and column
pub entry_at : (numbered : List (List ℕ)) (row column : ℕ)
    → ((l : Limits) (v : ℕ) (ph : Phase) → map (chosen_turn l v ph) (get_or numbered (row_number ph) []) ≡ table l v ph)
    → Draws row column (get_or (get_or numbered row []) column 0)
entry_at numbered row column same l v ph is =
    ap (λ r. chosen_turn l v ph (get_or (get_or numbered r []) column 0)) (sym is)
    ∙ at-column l v ph (get_or numbered (row_number ph) []) column (same l v ph)

-- outside the table stands "no"
pub row-none : (row column : ℕ) → 5 ≤ row → Draws row column 0
row-none row column outside l v ph is = absurd (by ph is)
  where
    by : (ph : Phase) → row_number ph ≡ row → ⊥
    by (Connecting t) is = omega arith
    by (Contacting t) is = omega arith
    by Open is = omega arith
    by (Lost t) is = omega arith
    by (Ending t) is = omega arith

pub column-none : (row column : ℕ) → 6 ≤ column → Draws row column 0
column-none row column outside l v ph is = sym (get_or-eq_default (table l v ph) Stays (by ph))
  where
    by : (ph : Phase) → length (table l v ph) ≤ column
    by (Connecting t) = outside
    by (Contacting t) = outside
    by Open = outside
    by (Lost t) = outside
    by (Ending t) = outside

-- the number drawn at the row of a phase and the column of an event stands for what the event makes of the phase
pub draws-turn : (ph : Phase) (e : PartnerEvent) (row at choice : ℕ)
    → row ≡ row_number ph
    → at ≡ column e
    → Draws row at choice
    → Chooses ph e choice
unfolding turn
draws-turn ph e row at choice of-phase of-event draws l =
    draws l (version_of e) ph (sym of-phase) ∙ ap (λ k. get_or (table l (version_of e) ph) k Stays) of-event
