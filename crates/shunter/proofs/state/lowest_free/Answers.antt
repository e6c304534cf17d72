-- The places passed are held.
use Rattle.std.proofs.Common.{sym, ◌∙◌, arith, zero-add}
use Rattle.unit.proofs.FourPlaces.{four-places}
use Rattle.unit.proofs.Searches.{searched-more, searched-found, searched-none}
use Rattle.shunter.proofs.state.lowest_free.Goals as goal

pub loop-at-preserved : goal.loop-at-preserved
loop-at-preserved c = (
  omega arith,
  searched-more _ c.args.state.places _ _ c.loop-at.invariant.1 (omega (arith, four-places c.args.state c.well_formed.0))
      (sym c.is_free.ensures ∙ c.if-is_free.false),
)

pub returns : goal.returns
returns c =
    let four = four-places c.args.state c.well_formed.0 in
    let none = searched-none _ c.args.state.places _ _ c.loop-at.invariant.1 (omega (arith, four)) in
    omega (arith, none)

pub returns-then-is_free : goal.returns-then-is_free
returns-then-is_free c =
    searched-found _ c.args.state.places _ _ c.loop-at.invariant.1 (omega (arith, four-places c.args.state c.well_formed.0))
    (sym c.is_free.ensures ∙ c.if-is_free.true) ∙ zero-add _
