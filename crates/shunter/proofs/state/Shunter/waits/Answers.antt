-- The place in one half of the queue or the other.
use Rattle.std.proofs.Common.{◌≡◌, ◌||◌, length, sym, ap, ap₂, ◌∙◌, rules}
use Rattle.place.specs.Places.{holds}
use Rattle.shunter.proofs.Waits.{waits-is}
use Rattle.shunter.proofs.state.Shunter.waits.Goals as goal

pub returns : goal.returns
returns c =
    let ps = c.args.self.state.places in
    let four : length ps ≡ 4 = search rules in
    let partner = c.args.partner in
    ap₂ ◌||◌ (c.holds.ensures ∙ ap (holds partner) c.place_at.ensures)
    (c.holds-2.ensures ∙ ap (holds partner) c.place_at-2.ensures)
    ∙ sym (waits-is ps partner four c.args.self.queue)
