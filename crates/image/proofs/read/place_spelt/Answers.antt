-- A phase of 0 is a free place, any other a held one.
use Rattle.std.proofs.Common.{◌∙◌}
use Rattle.image.proofs.Spelt.{spelt_free, spelt-held}
use Rattle.image.proofs.read.place_spelt.Goals as goal

pub returns-then-phase-eq0 : goal.returns-then-phase-eq0
returns-then-phase-eq0 c = c.free_spelt.ensures ∙ spelt_free c.args.s.now c.args.at c.requires c.if-phase-eq0.true

pub returns : goal.returns
returns c = c.held_spelt.ensures ∙ spelt-held c.args.s.now c.args.at c.requires c.if-phase-eq0.false
