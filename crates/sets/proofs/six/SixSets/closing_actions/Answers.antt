-- The actions of the sets passed.
use Rattle.std.proofs.Common.{ℕ, ap, ◌∙◌, flat_map}
use lib.Seq.{take_all}
use Rattle.unit.specs.Forms.{listed}
use Rattle.sets.specs.SixSets.{set_in, unpacked_six}
use Rattle.sets.specs.SetSteps.{goers}
use Rattle.sets.specs.declared.names.SetName.{SetName}
use Rattle.sets.proofs.SentLaws.{Sends}
use Rattle.sets.proofs.SixByName.{closing_order, turn, sent_at, sent_to, goers-held, sends-next, sent-next, sent-last}
use Rattle.sets.proofs.six.SixSets.closing_actions.Goals.{After-goers}
use Rattle.sets.proofs.six.SixSets.closing_actions.Goals as goal

-- a set whose actions are still to be sent
module _ (c : After-goers) where
  abbrev one : SetName × ℕ
  one = turn c.args.which (unpacked_six c.args.self) c.loop-name.name-index c.loop-name-test.true

  sending : Sends c.loop-name.sent c.goers.result (sent_to c.args.which (unpacked_six c.args.self) c.loop-name.name-index)
      (goers c.args.which one.0 (set_in one.0 (unpacked_six c.args.self)))
  sending =
      let gone = goers-held c.args.which _ c.args.self c.set.result c.goers.result c.set.ensures c.goers.ensures in
      sends-next c.args.which (unpacked_six c.args.self) c.loop-name.name-index c.loop-name-test.true c.loop-name.sent
      c.goers.result c.requires.1 c.loop-name.invariant gone

pub send_all-sent-requires : goal.send_all-sent-requires
send_all-sent-requires c = (sending c).0

pub loop-name-preserved : goal.loop-name-preserved
loop-name-preserved c =
    (sending (goal.at.loop-name-preserved c).After-goers).1 _ c.send_all-sent.result c.send_all-sent.ensures
    ∙ ap listed (sent-next c.args.which (unpacked_six c.args.self) c.loop-name.name-index c.loop-name-test.true)

pub returns : goal.returns
returns c =
    let which = c.args.which in
    let six = unpacked_six c.args.self in
    c.loop-name.invariant
    ∙ ap listed
    (ap (flat_map (sent_at which six)) (take_all c.loop-name.name-index closing_order c.loop-name-test.false)
    ∙ sent-last which six)
