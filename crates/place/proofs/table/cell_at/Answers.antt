-- The whole table is the one of 01.
use Rattle.std.proofs.Common.{◌≡◌, ℕ, List, [], ◌∷◌, map, get_or, refl}
use Rattle.place.specs.Table.{table}
use Rattle.place.specs.Cells.{chosen_turn, row_number}
use Rattle.place.specs.declared.phase.Phase.{Phase}
use Rattle.place.specs.declared.phase.Phase.TheVariants.{Connecting, Contacting, Open, Lost, Ending}
use Rattle.place.specs.declared.limits.Limits.{Limits}
use Rattle.place.proofs.Drawn.{entry_at}
use Rattle.place.proofs.table.cell_at.Goals as goal

-- the constant of the code
abbrev numbered : List (List ℕ)
numbered =
    (1 ∷ 3 ∷ 0 ∷ 6 ∷ 0 ∷ 0 ∷ [])
    ∷ (1 ∷ 0 ∷ 2 ∷ 7 ∷ 9 ∷ 0 ∷ [])
    ∷ (1 ∷ 0 ∷ 4 ∷ 0 ∷ 0 ∷ 0 ∷ [])
    ∷ (1 ∷ 5 ∷ 0 ∷ 6 ∷ 0 ∷ 0 ∷ [])
    ∷ (0 ∷ 0 ∷ 2 ∷ 8 ∷ 0 ∷ 2 ∷ [])
    ∷ []

-- it draws the table of 01
draws : (l : Limits) (v : ℕ) (ph : Phase) → map (chosen_turn l v ph) (get_or numbered (row_number ph) []) ≡ table l v ph
draws l v (Connecting t) = refl
draws l v (Contacting t) = refl
draws l v Open = refl
draws l v (Lost t) = refl
draws l v (Ending t) = refl

pub returns-then-column-lt-EVENTS : goal.returns-then-column-lt-EVENTS
returns-then-column-lt-EVENTS c = entry_at numbered c.args.row c.args.column draws
