-- The turn of the place is taken or refused.
use Rattle.unit.proofs.Turning.{turned_set, turned-refused}
use Rattle.unit.proofs.state.State.turn.Goals as goal

pub returns-then-turned : goal.returns-then-turned
returns-then-turned c =
    let a = c.args in
    turned_set a.self a.at a.phase a.partner a.event _ _
    c.place_at-place.ensures c.requires.1
    c.turn-turned.ensures
    c.if-turned.true _
    c.set_place.ensures

pub returns-else-turned : goal.returns-else-turned
returns-else-turned c =
    let a = c.args in
    turned-refused a.self a.at a.phase a.partner a.event _ _
    c.place_at-place.ensures c.requires.1
    c.turn-turned.ensures
    c.if-turned.false _
    c.refuse_at.ensures
