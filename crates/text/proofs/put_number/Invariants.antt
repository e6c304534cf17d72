-- The digits of what is left, put before those that stand already, are those of the number.
use Rattle.std.proofs.Common.{◌≡◌, ◌+◌, ◌≤◌, ◌<◌, length}
use Rattle.text.specs.Texts.{decimal}
use Rattle.text.specs.Making.{put_at}
use Rattle.text.proofs.put_number.Given as goal

abbrev pub invariant-loop-rest : goal.invariant-loop-rest
invariant-loop-rest l =
    (l.rest < 10_000_000_000)
    × (l.i ≡ l.at + length (decimal l.rest))
    × (l.i ≤ length l.buffer)
    × (length l.buffer ≡ length l.fn.buffer)
    × (put_at (decimal l.rest) l.at l.buffer ≡ put_at (decimal l.n) l.at l.fn.buffer)

abbrev pub decreases-loop-rest : goal.decreases-loop-rest
decreases-loop-rest l = l.rest
