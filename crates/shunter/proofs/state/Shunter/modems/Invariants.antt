-- The modems of the places passed are counted, one at most at each.
use Rattle.std.proofs.Common.{◌≡◌, ◌≤◌}
use Rattle.shunter.specs.Queues.{sum_to, has_modem, waiting}
use Rattle.wire.specs.Bytes.{as_bit}
use Rattle.shunter.proofs.state.Shunter.modems.Given as goal

abbrev pub invariant-loop-at : goal.invariant-loop-at
invariant-loop-at l =
    (l.at ≤ 4)
    × (l.held ≤ l.at)
    × (l.held ≡ sum_to l.at (λ i. as_bit (has_modem l.fn.self.state.places (waiting l.fn.self.queue) i)))
