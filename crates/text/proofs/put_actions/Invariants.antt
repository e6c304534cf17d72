-- What is left to put are the actions from here on.
use Rattle.std.proofs.Common.{drop}
use Rattle.wire.specs.Blocks.{blocks}
use Rattle.text.specs.Texts.{action_text}
use Rattle.text.proofs.Putting.{Putting}
use Rattle.text.proofs.put_actions.Given as goal

abbrev pub invariant-loop-action : goal.invariant-loop-action
invariant-loop-action l =
    Putting (blocks action_text l.action-items) l.at l.fn.buffer (blocks action_text (drop l.action-index l.action-items))
    l.next l.buffer
