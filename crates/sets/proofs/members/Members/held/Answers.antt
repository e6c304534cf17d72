-- The items up to the count, of which there are four at most.
use Rattle.std.proofs.Common.{rules, sym, ap, ◌≡◌, ◌∙◌, min, length, take}
use Rattle.std.proofs.lemmas.List.{take_min}
use Rattle.sets.specs.Members.{members_of}
use Rattle.sets.proofs.members.Members.held.Goals as goal

pub returns : goal.returns
unfolding members_of
returns c =
    let self = c.args.self.now in
    let four : length self.items ≡ 4 = search rules in
    ap (λ n. take n self.items) (c.min.ensures ∙ ap (min self.count) (sym four))
    ∙ take_min self.count self.items
