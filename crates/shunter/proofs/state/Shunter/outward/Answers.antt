-- The actions looked at are gathered, but the releases of those that wait.
use Rattle.std.proofs.Common.{ℕ, ◌<◌, Bool, true, false, ◌&&◌, ◌≡◌, List, [], ◌∷◌, ◌++◌, length, get_or, take}
use Rattle.std.proofs.Common.{eqb, sym, ap, ◌∙◌, rules, arith}
use Rattle.std.proofs.lemmas.List.{get_or-take}
use Rattle.record.specs.declared.partner.Partner.{Partner}
use Rattle.place.specs.Table.{release}
use Rattle.unit.specs.Forms.{most_actions, no_action, listed}
use Rattle.unit.specs.declared.answer.Action.{Action}
use Rattle.shunter.specs.Queues.{waiting}
use Rattle.shunter.specs.Shunting.{kept, waits_for}
use Rattle.shunter.specs.Sending.{outward}
use Rattle.shunter.proofs.Gathered.{outward-more, outward-held, outward-few}
use Rattle.shunter.proofs.state.Shunter.outward.Goals.{After-waits}
use Rattle.shunter.proofs.state.Shunter.outward.Goals as goal

-- the action looked at stands in the array
module _ (c : After-waits) where
  abbrev items : List Action
  items = c.args.actions.items

  abbrev i : ℕ
  i = c.loop-action.action-index

  under : i < c.min.result
  under = search rules

  inside : i < length items
  inside =
      let four : length items ≡ 4 = search rules in
      omega (arith, four, under, c.min.ensures)

  read : get_or (take c.min.result items) i no_action ≡ get_or items i no_action
  read = get_or-take c.min.result items i no_action under

  abbrev waits : Partner → Bool
  waits = waits_for c.args.self.state.places (waiting c.args.self.queue)

  abbrev so_far : List Action
  so_far = outward waits (take i items)

  -- what the test showed of it
  shown : (b : Bool)
      → (c.waits.result && eqb (get_or (take c.min.result items) i no_action).number release) ≡ b
      → (waits (get_or items i no_action).partner && eqb (get_or items i no_action).number release) ≡ b
  shown b test =
      ap (λ a. waits a.partner && eqb a.number release) (sym read)
      ∙ ap (λ w. w && eqb (get_or (take c.min.result items) i no_action).number release) (sym c.waits.ensures)
      ∙ test

pub loop-action-init : goal.loop-action-init
unfolding kept
loop-action-init c = (omega arith, omega arith, c.silence-out.ensures)

pub loop-action-preserved-then-waits-action : goal.loop-action-preserved-then-waits-action
loop-action-preserved-then-waits-action c =
    let at = (goal.at.loop-action-preserved-then-waits-action c).After-waits in (
      omega (arith, under at, c.min.ensures),
      omega (arith, under at, c.min.ensures),
      c.loop-action.invariant.2
          ∙ ap listed (outward-held (waits at) (items at) (i at) (inside at) (shown at true c.if-waits-action.true)),
    )

pub loop-action-preserved : goal.loop-action-preserved
loop-action-preserved c =
    let at = (goal.at.loop-action-preserved c).After-waits in
    let few = outward-few (waits at) (items at) (i at) (inside at) in
    let room : length (so_far at) < most_actions = omega (arith, few, under at, c.min.ensures) in (
      omega (arith, under at, c.min.ensures),
      omega (arith, under at, c.min.ensures),
      c.with_action-out.ensures (so_far at) room c.loop-action.invariant.2
          ∙ ap (λ a. listed (so_far at ++ (a ∷ []))) (read at)
          ∙ ap listed (outward-more (waits at) (items at) (i at) (inside at) (shown at false c.if-waits-action.false)),
    )
