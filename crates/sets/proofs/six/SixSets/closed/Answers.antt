-- The others stay; those in session that the closing is for stand after those that terminate.
use Rattle.std.proofs.Common.{map}
use Rattle.place.specs.Table.{first_try}
use Rattle.sets.specs.SixSets.{unpacked_six}
use Rattle.sets.specs.SetSteps.{tried, closed_six}
use Rattle.sets.proofs.SixLaws.{Joins, ended, ended-joins, ended-tidy, ended-onto}
use Rattle.sets.proofs.six.SixSets.closed.Goals.{After-tried-ended}
use Rattle.sets.proofs.six.SixSets.closed.Goals as goal

pub joined-requires : goal.joined-requires
joined-requires c =
    (ended-joins c.args.which c.args.self c.requires.0 c.requires.1 _ _ c.goers-called.ensures c.goers-ours.ensures).0

pub tried-ended-requires : goal.tried-ended-requires
tried-ended-requires c =
    ended-tidy c.args.which c.args.self c.requires.0 c.requires.1 _ _ c.goers-called.ensures c.goers-ours.ensures _ c.joined.ensures

-- the union stands behind those that terminate
module _ (c : After-tried-ended) where
  behind : Joins c.args.self.terminating c.tried-ended.result (unpacked_six c.args.self).terminating
      (map (tried first_try) (ended c.args.which (unpacked_six c.args.self)))
  behind =
      ended-onto c.args.which c.args.self c.requires.0 c.requires.1 _ _ c.goers-called.ensures c.goers-ours.ensures _
      c.joined.ensures c.tried-ended.result c.tried-ended.ensures

pub joined-requires-2 : goal.joined-requires-2
joined-requires-2 c = (behind (goal.at.joined-requires-2 c).After-tried-ended).0

pub returns : goal.returns
unfolding closed_six
returns c =
    λ i.
    record {
      calling = c.stayers.ensures i;
      contacted = c.stayers-2.ensures i;
      incoming = c.stayers-3.ensures i;
      outgoing = c.stayers-4.ensures i;
      lost = c.stayers-5.ensures i;
      terminating = (behind (goal.at.returns c).After-tried-ended).1 c.joined-2.result c.joined-2.ensures i;
    }
