-- The line, the free modems, what goes out, and who is served.
use Rattle.std.proofs.Common.{◌≡◌, ◌-◌, take, rules}
use Rattle.shunter.specs.Queues.{modem_count, waiting}
use Rattle.shunter.specs.Sending.{line_after}
use Rattle.shunter.proofs.Sends.{line-named, sent-by}
use Rattle.shunter.proofs.state.Shunter.send.Goals as goal

pub returns : goal.returns
returns c fits =
    let args = c.args in
    let q = args.self.queue in
    let after = args.next.places in
    let served = c.serve-served in
    let left : c.saturating_sub-free.result ≡ modem_count - c.modems.result = search rules in
    sent-by args.self args.next (take args.count args.actions.items) (line_after (waiting q) after args.joiner)
    (line-named q after args.joiner) fits c.line.result served.result.queue c.outward.result
    served.result.actions c.modems.result c.saturating_sub-free.result c.nowhere.result
    (c.line.ensures fits.1) c.modems.ensures left c.outward.ensures served.ensures
    c.nowhere.ensures
