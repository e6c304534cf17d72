-- The actions looked at are gathered, but the releases of those that wait.
use Rattle.std.proofs.Common.{◌≡◌, ◌≤◌, take}
use Rattle.unit.specs.Forms.{most_actions, listed}
use Rattle.shunter.specs.Queues.{waiting}
use Rattle.shunter.specs.Shunting.{waits_for}
use Rattle.shunter.specs.Sending.{outward}
use Rattle.shunter.proofs.state.Shunter.outward.Given as goal

abbrev pub invariant-loop-action : goal.invariant-loop-action
invariant-loop-action l =
    (l.action-index ≤ l.fn.count)
    × (l.action-index ≤ most_actions)
    × (l.out ≡ listed (outward (waits_for l.self.state.places (waiting l.self.queue)) (take l.action-index l.fn.actions.items)))
