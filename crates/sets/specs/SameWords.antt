-- Cross-checks only: nobody has to believe what stands here.
-- Where a member stands in the box, and two runs side by side.
-- Defines: HeldAs, SameReport.
use Rattle.std.specs.Prelude.{◌≡◌}
use Rattle.record.specs.declared.partner.Partner.{Partner}
use Rattle.place.specs.Places.{tries}
use Rattle.place.specs.declared.place.Holding.{Holding}
use Rattle.place.specs.declared.place.Holding.TheVariants.{Free, Held}
use Rattle.unit.specs.declared.run.Report.{Report}
use Rattle.sets.specs.SixSets.{unpacked}
use Rattle.sets.specs.SameSets.{name_of, SameState}
use Rattle.sets.specs.SetSteps.{new_member}
use Rattle.sets.specs.declared.members.Member.{Member}
use Rattle.sets.specs.declared.names.SetName.{SetName}
use Rattle.sets.specs.declared.state.SetState.{SetState}
use Rattle.runs.specs.declared.run.MachineReport.{MachineReport}

-- what a place holds is this member of the set of this name
abbrev pub HeldAs : Partner → SetName → Member → Holding → Type 0
HeldAs p w m Free = ⊥
HeldAs p w m (Held d ph q) = (q ≡ p) × (name_of d ph ≡ w) × (new_member d (tries ph) q ≡ m)

-- two runs are the same: refusal, stop, state, offset reached, records read and refused, and the totals
pub record SameReport (r : Report) (q : MachineReport SetState) : Type 0 where
  pub code : r.code ≡ q.code
  pub stop : r.stop ≡ q.stop
  pub state : SameState r.tally.state (unpacked q.tally.state)
  pub offset : r.tally.offset ≡ q.tally.offset
  pub read : r.tally.read ≡ q.tally.read
  pub refused : r.tally.refused ≡ q.tally.refused
  pub totals : r.tally.totals ≡ q.tally.totals
