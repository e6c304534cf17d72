-- The core under a shunter: its state after a history is the one after the records that reached it; demand 3 is read from its steps there;
-- and no more actions went out than it sent.
-- Proves: core-after, shunter-bound, shunter-taken-in, shunter-waiting, went-out, cold-went-out.
use mathlib.Core.Path.{◌≡◌, refl, sym, ap, ◌∙◌}
use mathlib.Core.Bool.{Bool, true, false, cond, ◌||◌, not}
use mathlib.Core.List.{List, [], ◌∷◌}
use Prim.Native.Nat.{ℕ, ◌+◌, ◌*◌, ◌≤◌}
use native.Mathlib.Omega.{arith}
use lib.Dec.{eqb}
use lib.ListN.{length, length-append, length-take, length-drop, length-map}
use Rattle.wire.specs.Refusals as refusal
use Rattle.wire.proofs.Tests.{true-false}
use Rattle.record.specs.declared.partner.Partner.{Partner}
use Rattle.place.specs.Places.{is_free, partner_of}
use Rattle.place.specs.Table.{request}
use Rattle.place.specs.declared.limits.Limits.{Limits}
use Rattle.place.specs.declared.place.Place.{Place}
use Rattle.unit.specs.Concerns.{action_for}
use Rattle.unit.specs.OnRecords.{action_room}
use Rattle.unit.specs.Standings.{Concern}
use Rattle.unit.specs.States.{cold_start}
use Rattle.unit.specs.Steps.{Outcome, act}
use Rattle.unit.specs.declared.state.State.{State}
use Rattle.unit.proofs.Again.Refusals.{on_record-kept}
use Rattle.unit.proofs.Counts.{count-all}
use Rattle.history.specs.Histories.{after, summed, orders, calls, losses, actions, releases, places_held}
use Rattle.history.specs.PerEvent.{per_order, per_call, per_loss, timeouts_to_release}
use Rattle.history.specs.Histories.{waits, silent, timeouts, holds_place}
use Rattle.history.proofs.Bounds.{bound}
use Rattle.history.proofs.TakenIn.{taken_in}
use Rattle.history.proofs.Waiting as waited
use Rattle.shunter.specs.Queues.{waiting, queued, place_at, ready, cold_shunter}
use Rattle.shunter.specs.Shunting.{Shunting, modem_missing, place_waits, kept, waits_for, held_back, free_modems, served, first_requests}
use Rattle.shunter.specs.Shunting.{line_of, sends, call_too_many, stirs_waiting, concern_in, core_step, shunt}
use Rattle.shunter.specs.ShunterHistories.{shunter_after, shunter_sum, reaches, reached}
use Rattle.shunter.specs.ShunterSums.{cold_reached, went_out}
use Rattle.shunter.specs.declared.state.Shunter.{Shunter}
use Rattle.shunter.proofs.Gathered.{kept-length}
use Rattle.shunter.proofs.Ready.{ready-sound, ready-queued}
use Rattle.shunter.proofs.Balance.{own-counted, kept-others, line-length}
use Rattle.shunter.proofs.OnePartner.{count-implied}
use Rattle.shunter.proofs.Goods.{moved, acted}
use Rattle.shunter.proofs.Cases.{by-case, sends-waiting, shunt-ready, cold-ready}

-- two choices that are the same
either : (b : Bool) (x y : State) → x ≡ y → y ≡ cond b x y
either true x y same = sym same
either false x y same = refl

module _ (h : Shunter) (bytes : List ℕ) (good : ready h ≡ true) where
  -- a record that reaches the core steps it, and one that does not leaves it
  abbrev Stepped : Shunting → Type 0
  Stepped x = x.shunter.state ≡ cond (reaches x) (core_step h bytes).state h.state

  core-step : Stepped (shunt h bytes action_room)
  unfolding sends
  core-step =
      by-case Stepped h bytes action_room
      (λ short. true-false true refl short)
      (λ enough bad. true-false (ready h) good bad)
      (λ enough ok stirred. refl)
      (λ enough ok calm other.
      either (not (eqb (core_step h bytes).code modem_missing || eqb (core_step h bytes).code place_waits)) (core_step h bytes).state
      h.state
      (on_record-kept h.state bytes action_room other).0)
      (λ enough ok calm taken full. refl)
      (λ enough ok calm taken free. refl)

-- "the core's state after a shunter history is the core's after the records that reached it"
-- promise
pub core-after : (h : Shunter) (history : List (List ℕ))
    → ready h ≡ true
    → (shunter_after h history).state ≡ after h.state (reached h history)
unfolding shunter_after reached after
core-after h [] good = refl
core-after h (bytes ∷ history) good =
    core-after next history (shunt-ready h bytes action_room good)
    ∙ ap (λ s. after s (reached next history)) (core-step h bytes good)
    ∙ by (reaches (shunt h bytes action_room))
  where
    next : Shunter
    next = (shunt h bytes action_room).shunter

    by : (b : Bool)
        → after (cond b (core_step h bytes).state h.state) (reached next history)
        ≡ after h.state (cond b (bytes ∷ reached next history) (reached next history))
    by true = refl
    by false = refl

-- demand 3, read from the core's steps on the records that reached it
module _ (l : Limits) (started : (cold_start l).code ≡ refusal.accepted) (history : List (List ℕ)) where
  -- "at most .. actions for each order accepted, .. for each accepted call from an RBC, .. for each accepted loss"
  -- promise
  pub shunter-bound : actions (cold_start l).state (cold_reached l history)
      ≤ per_order l.tries * orders (cold_start l).state (cold_reached l history)
      + per_call l.tries * calls (cold_start l).state (cold_reached l history)
      + per_loss l.tries * losses (cold_start l).state (cold_reached l history)
  shunter-bound = bound l started (cold_reached l history)

  -- "Partners taken in equal releases plus places held": the places are the shunter's
  -- promise
  pub shunter-taken-in : orders (cold_start l).state (cold_reached l history) + calls (cold_start l).state (cold_reached l history)
      ≡ releases (cold_start l).state (cold_reached l history)
      + places_held (shunter_after (cold_shunter l).shunter history).state.places
  unfolding cold_shunter
  shunter-taken-in =
      taken_in l started (cold_reached l history)
      ∙ ap (λ s. releases (cold_start l).state (cold_reached l history) + places_held s.places)
      (sym (core-after (cold_shunter l).shunter history (cold-ready l)))

-- "A partner that waits (any phase but Open) and is from then on named by nothing but timeouts holds no place after its n-th one": of the
-- records that reached the core. Those for a place that waits for a modem are refused with 18 and do not
-- promise
pub shunter-waiting : (h : Shunter)
    → ready h ≡ true
    → (p : Partner)
    → waits p h.state.places ≡ true
    → (history : List (List ℕ))
    → silent p h.state (reached h history) ≡ true
    → timeouts_to_release h.state.limits.tries ≤ timeouts p (reached h history)
    → holds_place p (shunter_after h history).state.places ≡ false
shunter-waiting h good p now history quiet enough =
    ap (λ s. holds_place p s.places) (core-after h history good)
    ∙ waited.waiting h.state (ready-sound h good) p now (reached h history) quiet enough

module _ (h : Shunter) (bytes : List ℕ) (good : ready h ≡ true) (calm : stirs_waiting h (concern_in h bytes) ≡ false)
    (accepted : (core_step h bytes).code ≡ refusal.accepted)
    (free : call_too_many h (concern_in h bytes) ≡ false) where
  abbrev c : Concern
  c = concern_in h bytes

  abbrev o : Outcome
  o = core_step h bytes

  abbrev is : List ℕ
  is = waiting h.queue

  abbrev before : List Place
  before = h.state.places

  abbrev ended : List Place
  ended = o.state.places

  abbrev line : List ℕ
  line = line_of h c o

  -- what goes out, and who waits then, are no more than the core's actions and who waited
  sends-length : length (sends h c o).actions + length (waiting (sends h c o).shunter.queue) ≤ length o.actions + length is
  unfolding sends
  sends-length =
      let step = moved h bytes good calm accepted in
      let sent = acted h bytes good calm accepted in
      let facts = ready-queued h good in
      let waits = waits_for before is in
      let out = kept (λ a. not (held_back waits c a)) o.actions in
      let left = ap length (sends-waiting h bytes good calm accepted free) ∙ length-drop (free_modems ended line) line in
      let given = length-take (free_modems ended line) line in
      let new = length-map (served ended line) (λ i. act (partner_of (place_at ended i)) request) in
      let joined = length-append out (first_requests ended (served ended line)) in
      let lined = line-length c before ended is o.actions step sent facts in
      let old = kept-length (λ i. not (is_free (place_at ended i))) is in
      let core = kept-others c before ended is o.actions step sent facts in
      let own = own-counted before o.actions c sent.ends in
      let most = count-implied (action_for (λ p. not (waits p))) (λ a. true) (λ a h. refl) o.actions in
      let all = count-all o.actions in
      omega arith

-- of any step
step-length : (h : Shunter) (bytes : List ℕ)
    → ready h ≡ true
    → length (shunt h bytes action_room).actions + length (waiting (shunt h bytes action_room).shunter.queue)
    ≤ cond (reaches (shunt h bytes action_room)) (length (core_step h bytes).actions) 0 + length (waiting h.queue)
unfolding sends
step-length h bytes good =
    by-case (λ x. length x.actions + length (waiting x.shunter.queue)
    ≤ cond (reaches x) (length (core_step h bytes).actions) 0 + length (waiting h.queue)) h bytes action_room
    (λ short. omega arith)
    (λ enough bad. omega arith)
    (λ enough ok stirred. omega arith)
    (λ enough ok calm other. omega arith)
    (λ enough ok calm taken full. omega arith)
    (λ enough ok calm taken free. sends-length h bytes ok calm taken free)

-- over any history: what went out, and who waits after it, are no more than the core sent and who waited before
-- promise
pub went-out : (h : Shunter) (history : List (List ℕ))
    → ready h ≡ true
    → went_out h history + length (waiting (shunter_after h history).queue)
    ≤ actions h.state (reached h history) + length (waiting h.queue)
unfolding shunter_after shunter_sum reached summed
went-out h [] good = omega arith
went-out h (bytes ∷ history) good =
    by (reaches x) (step-length h bytes good) (core-step h bytes good) (went-out next history (shunt-ready h bytes action_room good))
  where
    x : Shunting
    x = shunt h bytes action_room

    next : Shunter
    next = x.shunter

    rest : List (List ℕ)
    rest = reached next history

    by : (b : Bool)
        → length x.actions + length (waiting next.queue)
        ≤ cond b (length (core_step h bytes).actions) 0 + length (waiting h.queue)
        → next.state ≡ cond b (core_step h bytes).state h.state
        → went_out next history + length (waiting (shunter_after next history).queue)
        ≤ actions next.state rest + length (waiting next.queue)
        → length x.actions + went_out next history + length (waiting (shunter_after next history).queue)
        ≤ actions h.state (cond b (bytes ∷ rest) rest) + length (waiting h.queue)
    by true own same later =
        let then = ap (λ s. actions s rest) same in
        omega arith
    by false own same later =
        let then = ap (λ s. actions s rest) same in
        omega arith

-- "over a history at most as many actions went out as the core sent"
-- promise
pub cold-went-out : (l : Limits) (history : List (List ℕ))
    → went_out (cold_shunter l).shunter history ≤ actions (cold_start l).state (cold_reached l history)
unfolding cold_shunter waiting queued
cold-went-out l history =
    let most = went-out (cold_shunter l).shunter history (cold-ready l) in
    let none : length (waiting (cold_shunter l).shunter.queue) ≡ 0 = nobody in
    omega arith
  where
    nobody : length (waiting (queued [])) ≡ 0
    nobody = refl
