-- Past the last place none is set.
use Rattle.std.proofs.Common.{◌≡◌, ◌∙◌, ap, length, arith, rules, List}
use Rattle.place.specs.declared.place.Place.{Place}
use Rattle.unit.specs.Changes.{settled}
use Rattle.unit.specs.declared.state.State.{State}
use Rattle.unit.proofs.Settling.{settled-past}
use Rattle.unit.proofs.state.State.settle.Goals as goal
use Rattle.unit.proofs.state.State.settle.Goals.{then-change-lt-PLACES, else-change-lt-PLACES}

pub returns : goal.returns
unfolding settled
returns c =
    let s = c.args.self in
    let change = c.args.change in
    let with : List Place → State =
    λ ps. record { limits = s.limits; train = change.train; marks = change.marks; places = ps; last = change.last } in
    let four : length s.places ≡ 4 = search rules in
    elim c.if-change-lt-PLACES.branch [
      | then-change-lt-PLACES w ↦ ap with w.places-is
      | else-change-lt-PLACES w ↦
          ap with w.places-is ∙ settled-past s change (omega (arith, four, w.if-change-lt-PLACES.false))
    ]
