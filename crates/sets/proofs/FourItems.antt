-- A set that is held has room for four: its array's length, as the checker tells it of a parameter.
-- Proves: four-items.
use mathlib.Core.Path.{◌≡◌}
use mathlib.Core.List.{[], ◌∷◌}
use lib.ListN.{length}
use denote.Laws.{Is}
use denote.Struct.Declared as declared-type
use denote.Struct.Laws.{val}
use Rattle.sets.specs.Members.{most_members}
use Rattle.sets.specs.declared.members.Members.{Members}
use Rattle.sets.specs.contracts.members.Members.{the_type}
use Rattle.sets.proofs.members.Members.TheLaws.{the_laws}

pub four-items : (ms : Members)
    → Is (declared-type.row the_type) ms (val the_type the_laws ms ∷ [])
    → length ms.items ≡ most_members
four-items ms good = good.1.1.0.1.0.1
