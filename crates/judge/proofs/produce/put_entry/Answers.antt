-- The record, the two bytes of its answer, and its actions stand one behind the other.
use Rattle.std.proofs.Common.{arith}
use Rattle.judge.specs.Sheets.{answer_kind}
use Rattle.judge.proofs.Putting.{entry-put}
use Rattle.judge.proofs.produce.put_entry.Goals as goal

pub returns : goal.returns
returns c = (
  omega arith,
  entry-put c.args.room.now c.args.at c.args.bytes.now answer_kind c.args.code c.args.actions.now _ _ c.requires
      c.copy_from_slice.ensures.after c.copy_from_slice-2.ensures.after,
)
