-- What goes out of an accepted step: the core's actions without the order's own 21 and the 22s of places that wait, then the 21s of
-- the served.
-- Proves: shunt-out, waiting-sent, out-balance.
use mathlib.Core.Path.{◌≡◌, refl, ap, ◌∙◌}
use mathlib.Core.Bool.{Bool, true, false, not}
use mathlib.Core.List.{List, [], ◌∷◌, ◌++◌}
use Prim.Native.Nat.{ℕ, ◌+◌, ◌≤◌}
use native.Mathlib.Omega.{arith}
use lib.Dec.{eqb}
use lib.ListN.{length, length-append, length-map}
use Rattle.wire.proofs.Tests.{and_left}
use Rattle.record.specs.Partners.{same_partner}
use Rattle.record.specs.declared.partner.Partner.{Partner}
use Rattle.record.proofs.Partners.{same_refl}
use Rattle.place.specs.Places.{is_free, partner_of}
use Rattle.place.specs.Table.{request}
use Rattle.place.specs.declared.place.Place.{Place}
use Rattle.unit.specs.Concerns.{action_for}
use Rattle.unit.specs.Kept.{count}
use Rattle.wire.specs.Bytes.{as_bit}
use Rattle.unit.specs.OnRecords.{action_room}
use Rattle.unit.specs.Standings.{Concern, nobody, order_to, call_of, naming}
use Rattle.unit.specs.Steps.{Outcome, act}
use Rattle.unit.specs.declared.answer.Action.{Action}
use Rattle.unit.proofs.Counts.{count-append}
use Rattle.unit.proofs.Facts.{sound-facts}
use Rattle.unit.proofs.Sound.{on_record-sound}
use Rattle.history.proofs.Counted.{and-true}
use Rattle.shunter.specs.Queues.{waiting, place_at, ready}
use Rattle.shunter.specs.Shunting.{kept, waits_for, own_request, held_back, newcomers, served, first_requests, line_of, sends}
use Rattle.shunter.specs.Shunting.{call_too_many, stirs_waiting, concern_in, core_step, shunt}
use Rattle.shunter.specs.ShunterSums.{request_to, partner_waits}
use Rattle.shunter.specs.ShunterSums.{order_of}
use Rattle.shunter.specs.declared.state.Shunter.{Shunter}
use Rattle.shunter.proofs.TwoTests.{or-first}
use Rattle.shunter.proofs.Ready.{ready-sound}
use Rattle.shunter.proofs.LinedUp.{Moved}
use Rattle.shunter.proofs.Accounts.{waits-before, waits-after, newcomer-waits}
use Rattle.shunter.proofs.Balance.{EndsIn, Acted, own-counted, back_count, out-length}
use Rattle.shunter.proofs.OnePartner.{count-implied, core-silent}
use Rattle.shunter.proofs.Goods.{moved, acted}
use Rattle.shunter.proofs.FirstThatApplies.{shunt-sends}

-- nothing passes a test that always fails
none_pass : (acts : List Action) → count (λ a. false) acts ≡ 0
unfolding count
none_pass [] = refl
none_pass (a ∷ acts) =
    let rest = none_pass acts in
    omega arith

-- an order's own 21 is one action, any other event has none
own-exactly : (before : List Place) (acts : List Action) (c : Concern)
    → EndsIn c acts
    → count (own_request c) acts ≡ length (newcomers before c)
unfolding count
own-exactly before acts nobody ends = none_pass acts
own-exactly before acts (order_to p) ends =
    let own = own_request (order_to p) in
    let mine = action_for (same_partner p) in
    let some = own-counted before acts (order_to p) ends in
    let few = count-implied own mine (λ a h. and_left (same_partner p a.partner) (eqb a.number request) h) acts in
    let all = ap (count mine) ends.last ∙ count-append mine ends.closings (act p request ∷ []) in
    let closings = ends.others in
    let last : count mine (act p request ∷ []) ≡ 1 = ap (λ b. as_bit b + 0) (same_refl p) in
    omega arith
own-exactly before acts (call_of p) ends = none_pass acts
own-exactly before acts (naming p e) ends = none_pass acts

module _ (h : Shunter) (bytes : List ℕ) (room : ℕ) (enough : 20 ≤ room) (good : ready h ≡ true)
    (calm : stirs_waiting h (concern_in h bytes) ≡ false)
    (accepted : (core_step h bytes).code ≡ 0)
    (free : call_too_many h (concern_in h bytes) ≡ false) where
  abbrev c : Concern
  c = concern_in h bytes

  abbrev o : Outcome
  o = core_step h bytes

  abbrev waits : Partner → Bool
  waits = waits_for h.state.places (waiting h.queue)

  -- "When the core's other actions of the step are out, each free modem goes to the place waiting longest, whose 21 follows them"
  -- promise
  pub shunt-out : (shunt h bytes room).actions
      ≡ kept (λ a. not (held_back (λ p. partner_waits p h) (concern_in h bytes) a)) (core_step h bytes).actions
      ++ first_requests (core_step h bytes).state.places
      (served (core_step h bytes).state.places (line_of h (concern_in h bytes) (core_step h bytes)))
  unfolding sends
  shunt-out = ap (λ x. x.actions) (shunt-sends h bytes room enough good calm accepted free).0

  step : Moved c h.state.places o.state.places (waiting h.queue)
  step = moved h bytes good calm accepted

  sent : Acted c h.state.places o.state.places (waiting h.queue) o.actions
  sent = acted h bytes good calm accepted

  -- to a partner that waits nothing goes out but its 21
  -- promise
  pub waiting-sent : (p : Partner)
      → partner_waits p h ≡ true
      → count (λ a. same_partner p a.partner) (shunt h bytes room).actions ≡ count (request_to p) (shunt h bytes room).actions
  unfolding count
  waiting-sent p mine =
      let out = kept (λ a. not (held_back waits c a)) o.actions in
      let new = first_requests o.state.places (served o.state.places (line_of h c o)) in
      let one = (sound-facts o.state (on_record-sound h.state bytes action_room (ready-sound h good))).places.1 p in
      let none =
      core-silent p c h.state.places o.state.places (waiting h.queue) o.actions step sent one
      (or-first (waits p) (order_of p c) mine) in
      let few =
      count-implied (request_to p) (λ a. same_partner p a.partner)
      (λ a r. and_left (same_partner p a.partner) (eqb a.number request) r) out in
      let all = ap (count (λ a. same_partner p a.partner)) shunt-out ∙ count-append (λ a. same_partner p a.partner) out new in
      let requests = ap (count (request_to p)) shunt-out ∙ count-append (request_to p) out new in
      let same = requests-only p o.state.places (served o.state.places (line_of h c o)) in
      omega arith
    where
      requests-only : (p : Partner) (ps : List Place) (is : List ℕ)
          → count (λ a. same_partner p a.partner) (first_requests ps is) ≡ count (request_to p) (first_requests ps is)
      requests-only p ps [] = refl
      requests-only p ps (i ∷ is) =
          let rest = requests-only p ps is in
          let own = ap as_bit (and-true (same_partner p (partner_of (place_at ps i)))) in
          omega arith

  -- "nothing else is missing or added": the order's own 21 and a 22 for each that left the queue are missing, the 21s of the served added
  -- promise
  pub out-balance : length (shunt h bytes room).actions
      + length (newcomers h.state.places (concern_in h bytes))
      + length (waiting h.queue)
      ≡ length (core_step h bytes).actions
      + length (kept (λ i. not (is_free (place_at (core_step h bytes).state.places i))) (waiting h.queue))
      + length (served (core_step h bytes).state.places (line_of h (concern_in h bytes) (core_step h bytes)))
  out-balance =
      let after = o.state.places in
      let is = waiting h.queue in
      let out = kept (λ a. not (held_back waits c a)) o.actions in
      let joined = ap length shunt-out ∙ length-append out (first_requests after (served after (line_of h c o))) in
      let new = length-map (served after (line_of h c o)) (λ i. act (partner_of (place_at after i)) request) in
      let both = out-length c waits o.actions in
      let back = back_count c waits o.actions in
      let own = own-exactly h.state.places o.actions c sent.ends in
      let theirs = sent.conserved waits in
      let none = ap as_bit (newcomer-waits c h.state.places after is step) in
      let w = waits-before c h.state.places after is step in
      let v = waits-after c h.state.places after is step in
      omega arith
