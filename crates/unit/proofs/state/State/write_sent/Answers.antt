-- Two numbers, then the state.
use Rattle.std.proofs.Common.{◌≡◌, ◌+◌, arith, length}
use Rattle.wire.specs.Refusals.{accepted}
use Rattle.unit.specs.Changes.{given, sending}
use Rattle.unit.proofs.Written.{appended-numbers, sending-length}
use Rattle.unit.proofs.state.State.write_sent.Goals as goal

pub returns : goal.returns
returns c =
    let change = c.args.change in
    let one = c.put_number-next.ensures in
    let two = c.put_number-sent.ensures in
    let total : c.put_number-sent.result ≡ c.args.count + length (sending change) =
    omega (arith, one.0, two.0, sending-length change) in (
      λ i.
          record { code = accepted; state = c.settle.ensures i; count = total i; standing = c.nowhere.ensures i },
      appended-numbers c.args.s.now _ _ c.args.count _ change.partner (given change.first) (given change.second) one.1 one.0 two.1,
    )
