-- Histories on two modems, computed: what the promises ask for is met there, and the bound of service is reached.
-- Proves: shown-three, shown-four, shown-left, shown-waits, shown-served, shown-modem, shown-firsts, shown-released, shown-out,
-- shown-silent.
use mathlib.Core.Path.{◌≡◌, refl}
use mathlib.Core.Bool.{true, false}
use mathlib.Core.List.{[], ◌∷◌}
use Prim.Native.Nat.{◌+◌, ◌≤◌}
use native.Mathlib.Omega.{arith}
use Rattle.wire.specs.Blocks.{blocks}
use Rattle.record.specs.Records.{reading}
use Rattle.place.specs.Table.{turn}
use Rattle.unit.specs.Kept.{count}
use Rattle.unit.specs.Lasts.{recalled, rbc_of}
use Rattle.unit.specs.OnRecords.{on_record}
use Rattle.unit.specs.States.{some, first, seek, places_ok, sound, cold, cold_start}
use Rattle.unit.specs.Steps.{closed, closing_actions, step}
use Rattle.history.specs.Histories.{summed, silent, timeouts, holds_place}
use Rattle.shunter.specs.Queues.{waiting, queued, among, every, distinct, sum_to, modems_held, queue_ok, rules_hold, ready, cold_shunter}
use Rattle.shunter.specs.Shunting.{kept, waits_for, line_up, sends, passed, on_concern, applying, shunt}
use Rattle.shunter.specs.ShunterHistories.{shunter_after, shunter_sum, modem_releases, ahead, waits_through}
use Rattle.shunter.specs.ShunterSums.{modem_seen}
use Rattle.shunter.specs.ShunterSums.{orders_to, went_out, released_by}
use Rattle.shunter.specs.ShunterHistories.{reached}
use Rattle.shunter.specs.ShunterExamples.{fitted_limits, fitted, order_rbc, order_alone, drop_rbc, timeout_rbc, end_all, answers_of}
use Rattle.shunter.specs.ShunterExamples.{three_partners, four_wait, two_lost}
use Rattle.shunter.specs.declared.state.Shunter.{Shunter}
use Rattle.shunter.proofs.Cases.{cold-ready}
use Rattle.shunter.proofs.Service.{history-ready, served-in-time, served-after}
use Rattle.shunter.proofs.SeenModems.{cold-modem-seen, firsts-once}
use Rattle.shunter.proofs.Leaving.{released-only}
use Rattle.shunter.proofs.CoreHistory.{shunter-waiting, cold-went-out}

-- a history of three partners, each answer: number, what went out, who waits
-- meaning
pub shown-three : answers_of fitted three_partners
    ≡ (0 ∷ 0xFF ∷ 21 ∷ 0 ∷ 0 ∷ 0 ∷ 1 ∷ 0xFF ∷ [])
    ∷ (0 ∷ 0xFF ∷ 21 ∷ 0 ∷ 0 ∷ 0 ∷ 2 ∷ 0xFF ∷ [])
    ∷ (0 ∷ 0xFF ∷ 0xFF ∷ 2 ∷ [])
    ∷ (18 ∷ 0xFF ∷ 0xFF ∷ 2 ∷ [])
    ∷ (18 ∷ 0xFF ∷ 0xFF ∷ 2 ∷ [])
    ∷ (18 ∷ 0xFF ∷ 0xFF ∷ 2 ∷ [])
    ∷ (17 ∷ 0xFF ∷ 0xFF ∷ 2 ∷ [])
    ∷ (5 ∷ 0xFF ∷ 0xFF ∷ 2 ∷ [])
    ∷ (0 ∷ 0xFF ∷ 22 ∷ 0 ∷ 0 ∷ 0 ∷ 1 ∷ 21 ∷ 0 ∷ 0 ∷ 0 ∷ 3 ∷ 0xFF ∷ [])
    ∷ (0 ∷ 0xFF ∷ 155 ∷ 0 ∷ 0 ∷ 0 ∷ 3 ∷ 0xFF ∷ [])
    ∷ []
unfolding answers_of shunt applying on_concern passed sends line_up kept waits_for modems_held sum_to among queue_ok every distinct
    rules_hold ready
    waiting queued cold_shunter cold_start cold sound places_ok some first seek reading turn step closed closing_actions recalled
    on_record blocks
shown-three = refl

-- a step that sends four: two Lost RBCs with modems are closed by an order that ends sessions, and the one that waits and the ordered one
-- are served: 22, 22, 21, 21
-- meaning
pub shown-four : answers_of (shunter_after fitted two_lost) (order_alone 4 ∷ [])
    ≡ (0 ∷ 0xFF
    ∷ 22 ∷ 0 ∷ 0 ∷ 0 ∷ 1 ∷ 22 ∷ 0 ∷ 0 ∷ 0 ∷ 2
    ∷ 21 ∷ 0 ∷ 0 ∷ 0 ∷ 3 ∷ 21 ∷ 0 ∷ 0 ∷ 0 ∷ 4 ∷ 0xFF ∷ [])
    ∷ []
unfolding shunter_after answers_of shunt applying on_concern passed sends line_up kept waits_for modems_held sum_to among queue_ok
    every distinct
    rules_hold ready waiting queued cold_shunter cold_start cold sound places_ok some first seek reading turn step closed closing_actions
    recalled on_record blocks
shown-four = refl

-- two that wait are released by an end of all with no 22: only the two with modems get theirs
-- meaning
pub shown-left : answers_of (shunter_after fitted four_wait) (end_all ∷ [])
    ≡ (0 ∷ 0xFF ∷ 22 ∷ 0 ∷ 0 ∷ 0 ∷ 1 ∷ 22 ∷ 0 ∷ 0 ∷ 0 ∷ 2 ∷ 0xFF ∷ [])
    ∷ []
unfolding shunter_after answers_of shunt applying on_concern passed sends line_up kept waits_for modems_held sum_to among queue_ok
    every distinct
    rules_hold ready waiting queued cold_shunter cold_start cold sound places_ok some first seek reading turn step closed closing_actions
    recalled on_record blocks
shown-left = refl

-- four partners: place 3 waits with one in front of it
abbrev waits-fourth : Shunter
waits-fourth = shunter_after fitted four_wait

good-fourth : ready waits-fourth ≡ true
good-fourth = history-ready fitted four_wait (cold-ready fitted_limits)

-- with as many releases as it has in front of it, one, it still waits ..
-- instance
pub shown-waits : (waits_through 3 (shunter_after fitted four_wait) (drop_rbc 1 ∷ []) ≡ true)
    × (ahead 3 (waiting (shunter_after fitted four_wait).queue) ≡ 1)
    × (modem_releases (shunter_after fitted four_wait) (drop_rbc 1 ∷ []) ≡ 1)
    × (1 + ahead 3 (waiting (shunter_after (shunter_after fitted four_wait) (drop_rbc 1 ∷ [])).queue) ≤ 1)
unfolding ahead waits_through shunter_sum count shunter_after shunt applying on_concern passed sends line_up kept waits_for modems_held
    sum_to among queue_ok every distinct rules_hold ready waiting queued cold_shunter cold_start cold sound places_ok some first
    seek reading turn
    step closed closing_actions recalled on_record blocks
shown-waits = (refl, refl, refl, served-in-time waits-fourth 3 (drop_rbc 1 ∷ []) good-fourth refl)

-- .. and with one more it does not
-- instance
pub shown-served : waits_through 3 (shunter_after fitted four_wait) (drop_rbc 1 ∷ drop_rbc 2 ∷ []) ≡ false
unfolding ahead shunter_sum count shunter_after shunt applying on_concern passed sends line_up kept waits_for modems_held
    sum_to among queue_ok every distinct rules_hold ready waiting queued cold_shunter cold_start cold sound places_ok some first
    seek reading turn
    step closed closing_actions recalled on_record blocks
shown-served = served-after waits-fourth 3 (drop_rbc 1 ∷ drop_rbc 2 ∷ []) good-fourth (omega arith)

-- the third partner has a modem at the end, as what went out says
-- instance
pub shown-modem : modem_seen (rbc_of 0 0 3) false fitted three_partners ≡ true
unfolding shunter_after shunt applying on_concern passed sends line_up kept waits_for modems_held
    sum_to among queue_ok every distinct rules_hold ready waiting queued cold_shunter cold_start cold sound places_ok some first
    seek reading turn
    step closed closing_actions recalled on_record blocks
shown-modem = cold-modem-seen (rbc_of 0 0 3) fitted_limits three_partners

-- its one order has one first 21
-- instance
pub shown-firsts : orders_to (rbc_of 0 0 3) fitted three_partners + 0 ≡ 1 + 0 + 0
unfolding shunter_sum count shunter_after shunt applying on_concern passed sends line_up kept waits_for modems_held
    sum_to among queue_ok every distinct rules_hold ready waiting queued cold_shunter cold_start cold sound places_ok some first
    seek reading turn
    step closed closing_actions recalled on_record blocks
shown-firsts = firsts-once (rbc_of 0 0 3) fitted three_partners (cold-ready fitted_limits)

-- a waiting place that a drop releases
-- instance
pub shown-released : released_by (rbc_of 0 0 4) (reading (drop_rbc 4)) ≡ true
unfolding shunter_after shunt applying on_concern passed sends line_up kept waits_for modems_held
    sum_to among queue_ok every distinct rules_hold ready waiting queued cold_shunter cold_start cold sound places_ok some first
    seek reading turn
    step closed closing_actions recalled on_record blocks
shown-released = released-only waits-fourth (drop_rbc 4) 3 good-fourth refl refl

-- four actions went out of the five that the core sent to the records that reached it: the order's 21 that was held back went out later
-- instance
pub shown-out : went_out fitted three_partners ≤ 5
unfolding summed reached shunter_sum shunter_after shunt applying on_concern passed sends line_up kept waits_for modems_held
    sum_to among queue_ok every distinct rules_hold ready waiting queued cold_shunter cold_start cold sound places_ok some first
    seek reading turn
    step closed closing_actions recalled on_record blocks
shown-out = cold-went-out fitted_limits three_partners

-- while a third partner waits for a modem, and its timeout gets 18, the first one is silent: with its third timeout it has no place
-- instance
pub shown-silent : holds_place (rbc_of 0 0 1)
    (shunter_after (shunter_after fitted (order_rbc 1 ∷ order_rbc 2 ∷ order_rbc 3 ∷ []))
    (timeout_rbc 3 ∷ timeout_rbc 1 ∷ timeout_rbc 1 ∷ timeout_rbc 1 ∷ [])).state.places
    ≡ false
unfolding silent timeouts reached shunter_after shunt applying on_concern passed sends line_up kept waits_for modems_held
    sum_to among queue_ok every distinct rules_hold ready waiting queued cold_shunter cold_start cold sound places_ok some first
    seek reading turn
    step closed closing_actions recalled on_record blocks
shown-silent =
    shunter-waiting (shunter_after fitted (order_rbc 1 ∷ order_rbc 2 ∷ order_rbc 3 ∷ []))
    (history-ready fitted (order_rbc 1 ∷ order_rbc 2 ∷ order_rbc 3 ∷ []) (cold-ready fitted_limits))
    (rbc_of 0 0 1)
    refl
    (timeout_rbc 3 ∷ timeout_rbc 1 ∷ timeout_rbc 1 ∷ timeout_rbc 1 ∷ [])
    refl
    (omega arith)
