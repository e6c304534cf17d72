-- Those that still have their places join, then the newcomer.
use Rattle.std.proofs.Common.{◌≡◌, ◌≤◌, ◌++◌, length, sym, ap, ap₂, subst, ◌∙◌}
use Rattle.shunter.specs.Queues.{modem_count, somebody, waiting, queued}
use Rattle.shunter.specs.Sending.{line_after}
use Rattle.shunter.proofs.CodeLines.{joined-three, waiting_kept}
use Rattle.shunter.proofs.state.Shunter.line.Goals as goal

pub returns : goal.returns
returns c few =
    let q = c.args.self.queue in
    let after = c.args.next.places in
    let joiner = c.args.joiner in
    let first = c.still_held-first in
    let second = c.still_held-second in
    let same : line_after (waiting q) after joiner
    ≡ (somebody first.result ++ somebody second.result) ++ somebody joiner =
    ap (λ l. l ++ somebody joiner)
    (waiting_kept after q ∙ ap₂ (λ i j. somebody i ++ somebody j) (sym first.ensures) (sym second.ensures)) in
    joined-three c.none.result c.joined.result c.joined-2.result c.joined-3.result
    first.result second.result joiner c.none.ensures c.joined.ensures
    c.joined-2.ensures c.joined-3.ensures (subst (λ l. length l ≤ modem_count) same few)
    ∙ ap queued (sym same)
