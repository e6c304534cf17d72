-- A state that is held has four places: its array's length, as the checker tells it of a parameter.
-- Proves: four-places.
use mathlib.Core.Path.{◌≡◌}
use mathlib.Core.List.{[], ◌∷◌}
use lib.ListN.{length}
use denote.Laws.{Is}
use denote.Struct.Declared as declared-type
use denote.Struct.Laws.{val}
use Rattle.unit.specs.declared.state.State.{State}
use Rattle.unit.specs.contracts.state.State.{the_type}
use Rattle.unit.proofs.state.State.TheLaws.{the_laws}

pub four-places : (s : State) → Is (declared-type.row the_type) s (val the_type the_laws s ∷ []) → length s.places ≡ 4
four-places s good = good.1.1.1.1.1.0.1.0.1
