-- Who has a modem, read from what went out: "from its first 21, or from its 38, until its 22"; and each first 21 goes out once.
-- Proves: modem-seen, cold-modem-seen, firsts-once.
use mathlib.Core.Path.{◌≡◌, refl, sym, ap, ap₂, subst, ◌∙◌}
use mathlib.Core.Bool.{Bool, true, false, cond, ◌&&◌, ◌||◌, not}
use mathlib.Core.Logic.{◌⊎◌, inl, inr}
use mathlib.Core.List.{List, [], ◌∷◌}
use Prim.Native.Nat.{ℕ, ◌+◌, ◌≤◌}
use native.Mathlib.Omega.{arith}
use lib.Dec.{eqb, leb}
use lib.ListN.{take, drop}
use borrow.Author.Tests.{ne_eqb}
use Rattle.wire.specs.Refusals as refusal
use Rattle.wire.proofs.Tests.{and_left, and_right, true-false}
use Rattle.record.specs.Partners.{same_partner}
use Rattle.record.specs.declared.partner.Partner.{Partner}
use Rattle.record.proofs.Partners.{same-eq}
use Rattle.place.specs.Places.{holds}
use Rattle.place.specs.Table.{request, release}
use Rattle.place.specs.declared.limits.Limits.{Limits}
use Rattle.place.specs.declared.place.Place.{Place}
use Rattle.unit.specs.Concerns.{takes_in, action_for}
use Rattle.unit.specs.Kept.{here, count}
use Rattle.wire.specs.Bytes.{as_bit}
use Rattle.wire.specs.Sums.{sum}
use Rattle.unit.specs.OnRecords.{action_room}
use Rattle.unit.specs.Standings.{Concern, nobody, order_to, call_of, naming}
use Rattle.unit.specs.States.{some, cold_start}
use Rattle.unit.specs.Steps.{Outcome}
use Rattle.unit.specs.declared.answer.Action.{Action}
use Rattle.unit.proofs.Counts.{nothing, count-append}
use Rattle.unit.proofs.Facts.{sound-facts}
use Rattle.unit.proofs.Sound.{on_record-sound}
use Rattle.unit.proofs.Starts.{cold-vacant}
use Rattle.unit.proofs.Few.{busy}
use Rattle.history.specs.Histories.{is_release}
use Rattle.shunter.specs.Queues.{waiting, among, distinct, place_at, ready, cold_shunter}
use Rattle.shunter.specs.Shunting.{Shunting, modem_missing, place_waits, shunt_refused_at, shunt_refused, kept, waits_for, held_back}
use Rattle.shunter.specs.Shunting.{free_modems, served, unserved, first_requests, line_of, sends, shunt, call_too_many, stirs_waiting}
use Rattle.shunter.specs.Shunting.{concern_in, core_step}
use Rattle.shunter.specs.ShunterHistories.{shunter_after, shunter_sum}
use Rattle.shunter.specs.ShunterSums.{request_to, release_to, call_by, accepts, modem_after}
use Rattle.shunter.specs.ShunterSums.{order_of, orders_to, firsts_to, left_waiting}
use Rattle.shunter.specs.ShunterSums.{modem_seen, partner_waits, partner_modem}
use Rattle.shunter.specs.declared.state.Shunter.{Shunter}
use Rattle.shunter.proofs.TwoTests.{fails-then, or-either, or-second, no-first, no_second, and_none}
use Rattle.shunter.proofs.InRow.{distinct-drop, distinct-take, among-take, among-drop}
use Rattle.shunter.proofs.Modems.{just-held}
use Rattle.shunter.proofs.Ready.{ready-sound, waits-some}
use Rattle.shunter.proofs.LinedUp.{Moved, line-each, line-apart}
use Rattle.shunter.proofs.Accounts.{newcomer-waits}
use Rattle.shunter.proofs.Balance.{Acted}
use Rattle.shunter.proofs.Goods.{moved, acted}
use Rattle.shunter.proofs.Cases.{by-case, sends-waiting, shunt-ready, cold-ready}
use Rattle.shunter.proofs.Service.{no-release}
use Rattle.shunter.proofs.OnePartner.{count-implied, hits-once, hits-split, line-place, line-nobody, core-silent, core-releases}
use Rattle.shunter.proofs.OnePartner.{place-account, newcomer-absent, caller-seated, core-none, place-some, some-has, ordered-line}

module _ (p : Partner) (h : Shunter) (bytes : List ℕ) (good : ready h ≡ true) (calm : stirs_waiting h (concern_in h bytes) ≡ false)
    (accepted : (core_step h bytes).code ≡ refusal.accepted)
    (free : call_too_many h (concern_in h bytes) ≡ false) where
  abbrev c : Concern
  c = concern_in h bytes

  abbrev o : Outcome
  o = core_step h bytes

  abbrev is : List ℕ
  is = waiting h.queue

  abbrev before : List Place
  before = h.state.places

  abbrev after : List Place
  after = o.state.places

  abbrev line : List ℕ
  line = line_of h c o

  abbrev out : List Action
  out = kept (λ a. not (held_back (waits_for before is) c a)) o.actions

  step : Moved c before after is
  step = moved h bytes good calm accepted

  sent : Acted c before after is o.actions
  sent = acted h bytes good calm accepted

  one-after : sum (here (holds p)) after ≤ 1
  one-after = (sound-facts o.state (on_record-sound h.state bytes action_room (ready-sound h good))).places.1 p

  line-held : (i : ℕ) → among i line ≡ true → busy (place_at after i) ≡ true
  line-held i one = just-held (place_at after i) (line-each c before after is step i one)

  apart : distinct line ≡ true
  apart = line-apart c before after is step

  -- one that is served is sent one 21
  served-hits : count (request_to p) (first_requests after (served after line)) ≡ as_bit (waits_for after (served after line) p)
  served-hits =
      let n = free_modems after line in
      hits-once p after one-after (take n line) (λ i one. line-held i (among-take n i line one)) (distinct-take n line apart)

  -- the served and those that go on waiting are those in the line
  served-or-left : as_bit (waits_for after (served after line) p) + as_bit (waits_for after (unserved after line) p)
      ≡ as_bit (waits_for after line p)
  served-or-left =
      let n = free_modems after line in
      let split = hits-split p after n line in
      let all = hits-once p after one-after line line-held apart in
      let now = served-hits in
      let later =
      hits-once p after one-after (drop n line) (λ i one. line-held i (among-drop n i line one)) (distinct-drop n line apart) in
      omega arith

  -- the 21s and the 22s that go out to the partner
  requests-out : count (request_to p) (sends h c o).actions ≡ count (request_to p) out + as_bit (waits_for after (served after line) p)
  unfolding sends
  requests-out =
      let joined = count-append (request_to p) out (first_requests after (served after line)) in
      let now = served-hits in
      omega arith

  releases-out : count (release_to p) (sends h c o).actions ≡ count (release_to p) out
  unfolding sends
  releases-out =
      let new = first_requests after (served after line) in
      let joined = count-append (release_to p) out new in
      let few =
      count-implied (release_to p) is_release (λ a r. and_right (same_partner p a.partner) (eqb a.number release) r) new in
      let none = no-release after (served after line) in
      omega arith

  silent : count (action_for (same_partner p)) out ≡ 0 → (count (request_to p) out ≡ 0) × (count (release_to p) out ≡ 0)
  silent none =
      let requests =
      count-implied (request_to p) (action_for (same_partner p))
      (λ a r. and_left (same_partner p a.partner) (eqb a.number request) r) out in
      let releases =
      count-implied (release_to p) (action_for (same_partner p))
      (λ a r. and_left (same_partner p a.partner) (eqb a.number release) r) out in
      (omega arith, omega arith)

  -- a partner that waited, or is ordered, does not call, and had no modem
  mine-quiet : (waits_for before is p || order_of p c) ≡ true
      → (call_by p c ≡ false) × ((some (holds p) before && not (waits_for before is p)) ≡ false)
  mine-quiet mine = by (or-either (waits_for before is p) (order_of p c) mine)
    where
      no_call : (c : Concern) → takes_in (waits_for before is) c ≡ false → waits_for before is p ≡ true → call_by p c ≡ false
      no_call nobody none own = refl
      no_call (order_to q) none own = refl
      no_call (call_of q) none own =
          fails-then (same_partner p q)
          (λ same. true-false (waits_for before is q) (subst (λ r. waits_for before is r ≡ true) (same-eq p q same) own) none)
      no_call (naming q e) none own = refl

      order-alone : (c : Concern) → order_of p c ≡ true → call_by p c ≡ false
      order-alone nobody own = refl
      order-alone (order_to q) own = refl
      order-alone (call_of q) own = true-false false own refl
      order-alone (naming q e) own = refl

      no_place : order_of p c ≡ true → some (holds p) before ≡ false
      no_place own =
          fails-then (some (holds p) before)
          (λ has. true-false (order_of p c) own (newcomer-absent p c before after is o.actions step sent one-after has).0)

      by : (waits_for before is p ≡ true) ⊎ (order_of p c ≡ true)
          → (call_by p c ≡ false) × ((some (holds p) before && not (waits_for before is p)) ≡ false)
      by (inl own) = (
        no_call c (newcomer-waits c before after is step) own,
        ap (λ b. some (holds p) before && not b) own ∙ and_none (some (holds p) before),
      )
      by (inr own) =
          (order-alone c own, ap (λ b. b && not (waits_for before is p)) (no_place own))

  -- the partner's modem after an accepted step, in numbers: what was sent, its place, whether it goes on waiting
  abbrev had : Bool
  had = some (holds p) before && not (waits_for before is p)

  abbrev has : Bool
  has = some (holds p) after && not (waits_for after (unserved after line) p)

  abbrev told : Bool → Bool → ℕ → ℕ → Bool
  told b call q r = (b || (leb 1 q || (call && true))) && not (leb 1 r)

  sent-modem : told had (call_by p c) (count (request_to p) (sends h c o).actions) (count (release_to p) (sends h c o).actions) ≡ has
  sent-modem = by (waits_for before is p || order_of p c) refl
    where
      sv : Bool
      sv = waits_for after (served after line) p

      left : Bool
      left = waits_for after (unserved after line) p

      seated : Bool
      seated = some (holds p) after

      -- served, or it goes on waiting
      given : (s l y : Bool) → as_bit s + as_bit l ≡ as_bit y → told false false (as_bit s) 0 ≡ (y && not l)
      given true true true e = absurd (omega arith)
      given true true false e = absurd (omega arith)
      given true false true e = refl
      given true false false e = absurd (omega arith)
      given false true true e = refl
      given false true false e = absurd (omega arith)
      given false false true e = absurd (omega arith)
      given false false false e = refl

      -- it had a modem, or calls, or has nothing to do with the step
      other : (x call y : Bool) (q r : ℕ)
          → r + as_bit y ≡ as_bit x + as_bit call
          → (x ≡ true → call ≡ false)
          → (call ≡ true → y ≡ true)
          → (x ≡ false → call ≡ false → q ≡ 0)
          → told (x && true) call q r ≡ (y && true)
      other true true y q r e alone then none = true-false true refl (alone refl)
      other true false true q r e alone then none = ap (λ n. not (leb 1 n)) (let z : r ≡ 0 = omega arith in z)
      other true false false q r e alone then none = ap (λ n. not (leb 1 n)) (let z : r ≡ 1 = omega arith in z)
      other false true true q r e alone then none =
          let z : r ≡ 0 = omega arith in
          ap (told false true q) z ∙ whole (leb 1 q)
        where
          whole : (b : Bool) → ((b || true) && true) ≡ true
          whole true = refl
          whole false = refl
      other false true false q r e alone then none = true-false false (then refl) refl
      other false false true q r e alone then none = absurd (omega arith)
      other false false false q r e alone then none = ap (λ m. (leb 1 m || false) && not (leb 1 r)) (none refl refl)

      none_of : (b : Bool) → as_bit b ≡ 0 → b ≡ false
      none_of true e = absurd (omega arith)
      none_of false e = refl

      by : (b : Bool) → (waits_for before is p || order_of p c) ≡ b
          → told had (call_by p c) (count (request_to p) (sends h c o).actions) (count (release_to p) (sends h c o).actions) ≡ has
      by true mine =
          let quiet = mine-quiet mine in
          let none = silent (core-silent p c before after is o.actions step sent one-after mine) in
          let line-is = line-place p c before after is o.actions step sent one-after mine in
          let split = served-or-left ∙ ap as_bit line-is in
          let q = requests-out in
          let r = releases-out in
          let q-is : count (request_to p) (sends h c o).actions ≡ as_bit sv = omega arith in
          let r-is : count (release_to p) (sends h c o).actions ≡ 0 = omega arith in
          ap₂ (λ b k. told b k (count (request_to p) (sends h c o).actions) (count (release_to p) (sends h c o).actions))
          quiet.1 quiet.0
          ∙ ap₂ (told false false) q-is r-is
          ∙ given sv left seated split
      by false nothing =
          let no-wait = no-first (waits_for before is p) (order_of p c) nothing in
          let no-order = no_second (waits_for before is p) (order_of p c) nothing in
          let line-is = line-nobody p c before after is o.actions step sent one-after nothing in
          let split = served-or-left ∙ ap as_bit line-is in
          let left_is = none_of left (omega arith) in
          let q = requests-out in
          let r = releases-out ∙ core-releases p c before after is o.actions step sent one-after no-wait in
          let account = place-account p c before after is o.actions step sent one-after in
          let ordered = ap as_bit no-order in
          let q-is : count (request_to p) (sends h c o).actions ≡ count (request_to p) out = omega arith in
          ap₂ (λ b m. told (some (holds p) before && not b) (call_by p c) m (count (release_to p) (sends h c o).actions)) no-wait q-is
          ∙ ap (told (some (holds p) before && true) (call_by p c) (count (request_to p) out)) r
          ∙ other (some (holds p) before) (call_by p c) seated (count (request_to p) out) (count (release_to p) o.actions) (omega arith)
          (λ x. (newcomer-absent p c before after is o.actions step sent one-after x).1)
          (caller-seated p c before after is o.actions step sent one-after)
          (λ x call. (silent (core-none p c before after is o.actions step sent one-after x no-order call)).0)
          ∙ sym (ap (λ b. seated && not b) left_is)

  -- an accepted step, read from what went out
  sends-modem : modem_after p (partner_modem p h) h bytes (sends h c o) ≡ partner_modem p (sends h c o).shunter
  unfolding sends
  sends-modem =
      sent-modem
      ∙ sym (ap (λ js. some (holds p) after && not (waits_for after js p)) (sends-waiting h bytes good calm accepted free))

  -- each first 21: an order, or a wait, ends in one 21, in a release, or goes on
  sends-first : as_bit (order_of p c && true) + as_bit (partner_waits p h)
      ≡ cond (partner_waits p h || (order_of p c && true)) (count (request_to p) (sends h c o).actions) 0
      + as_bit (partner_waits p h && not (some (holds p) (sends h c o).shunter.state.places))
      + as_bit (partner_waits p (sends h c o).shunter)
  unfolding sends
  sends-first =
      let left = ap (λ js. as_bit (waits_for after js p)) (sends-waiting h bytes good calm accepted free) in
      let account =
      settled (waits_for before is p) (order_of p c) (some (holds p) after) (count (request_to p) (sends h c o).actions)
      (as_bit (waits_for after (unserved after line) p))
      (λ waits. (newcomer-absent p c before after is o.actions step sent one-after (waits-place waits)).0)
      mine
      none
      (λ ordered.
      sym (line-place p c before after is o.actions step sent one-after (or-second (waits_for before is p) (order_of p c) ordered))
      ∙ ordered-line p c before after is o.actions step sent one-after ordered) in
      omega arith
    where
      waits-place : waits_for before is p ≡ true → some (holds p) before ≡ true
      waits-place waits =
          waits-some before p is waits (some (holds p) before ≡ true)
          (λ i one own. place-some p before i (step.one p) own)

      mine : (waits_for before is p || order_of p c) ≡ true
          → count (request_to p) (sends h c o).actions + as_bit (waits_for after (unserved after line) p)
          ≡ as_bit (some (holds p) after)
      mine own =
          let quiet = silent (core-silent p c before after is o.actions step sent one-after own) in
          let split = served-or-left ∙ ap as_bit (line-place p c before after is o.actions step sent one-after own) in
          let q = requests-out in
          let r = quiet.0 in
          omega arith

      none : (waits_for before is p || order_of p c) ≡ false → as_bit (waits_for after (unserved after line) p) ≡ 0
      none other =
          let split = served-or-left ∙ ap as_bit (line-nobody p c before after is o.actions step sent one-after other) in
          omega arith

      settled : (w x y : Bool) (q l : ℕ)
          → (w ≡ true → x ≡ false)
          → ((w || x) ≡ true → q + l ≡ as_bit y)
          → ((w || x) ≡ false → l ≡ 0)
          → (x ≡ true → y ≡ true)
          → as_bit (x && true) + as_bit w ≡ cond (w || (x && true)) q 0 + as_bit (w && not y) + l
      settled true true y q l apart own none seated = true-false true refl (apart refl)
      settled true false true q l apart own none seated =
          let e = own refl in
          omega arith
      settled true false false q l apart own none seated =
          let e = own refl in
          omega arith
      settled false true true q l apart own none seated =
          let e = own refl in
          omega arith
      settled false true false q l apart own none seated = true-false false (seated refl) refl
      settled false false y q l apart own none seated =
          let e = none refl in
          omega arith

-- a step that is not accepted says nothing of a modem
module _ (p : Partner) (h : Shunter) (bytes : List ℕ) where
  refused-modem : (x : Shunting)
      → (x.code ≡ refusal.accepted → ⊥)
      → x.shunter ≡ h
      → x.actions ≡ []
      → modem_after p (partner_modem p h) h bytes x ≡ partner_modem p x.shunter
  unfolding count
  refused-modem x other same none =
      ap₂ (λ acts b. (partner_modem p h || (leb 1 (count (request_to p) acts) || (call_by p (concern_in h bytes) && b)))
      && not (leb 1 (count (release_to p) acts))) none (ne_eqb x.code refusal.accepted other)
      ∙ by (partner_modem p h) (call_by p (concern_in h bytes))
      ∙ sym (ap (partner_modem p) same)
    where
      by : (a b : Bool) → ((a || (false || (b && false))) && true) ≡ a
      by true b = refl
      by false true = refl
      by false false = refl

  -- the partner has a modem after a step exactly where what went out says so
  step-modem : ready h ≡ true
      → modem_after p (partner_modem p h) h bytes (shunt h bytes action_room) ≡ partner_modem p (shunt h bytes action_room).shunter
  step-modem good =
      by-case (λ x. modem_after p (partner_modem p h) h bytes x ≡ partner_modem p x.shunter) h bytes action_room
      (λ short. refused-modem (shunt_refused refusal.no_room h) (λ e. omega arith) refl refl)
      (λ enough bad. refused-modem (shunt_refused refusal.not_sound h) (λ e. omega arith) refl refl)
      (λ enough ok stirred. refused-modem (shunt_refused place_waits h) (λ e. omega arith) refl refl)
      (λ enough ok calm other. refused-modem (shunt_refused_at (core_step h bytes).code (core_step h bytes).standing h) other refl refl)
      (λ enough ok calm taken full. refused-modem (shunt_refused modem_missing h) (λ e. omega arith) refl refl)
      (λ enough ok calm taken free. sends-modem p h bytes ok calm taken free)

  -- what a step counts for
  abbrev FirstOf : Shunting → Type 0
  FirstOf x =
      as_bit (accepts (order_of p) h bytes x) + as_bit (partner_waits p h)
      ≡ cond (partner_waits p h || accepts (order_of p) h bytes x) (count (request_to p) x.actions) 0
      + as_bit (partner_waits p h && not (some (holds p) x.shunter.state.places))
      + as_bit (partner_waits p x.shunter)

  refused-first : ready h ≡ true
      → (x : Shunting)
      → (x.code ≡ refusal.accepted → ⊥)
      → x.shunter ≡ h
      → x.actions ≡ []
      → FirstOf x
  unfolding count
  refused-first good x other same none =
      let no = ne_eqb x.code refusal.accepted other in
      let w = ap (λ k. as_bit (partner_waits p k)) same in
      let y = ap (λ k. as_bit (partner_waits p h && not (some (holds p) k.state.places))) same in
      let first = ap (λ b. as_bit (order_of p (concern_in h bytes) && b)) no ∙ ap as_bit (and_none (order_of p (concern_in h bytes))) in
      let asked =
      ap₂ (λ acts b. cond (partner_waits p h || (order_of p (concern_in h bytes) && b)) (count (request_to p) acts) 0) none no
      ∙ nothing (partner_waits p h || (order_of p (concern_in h bytes) && false)) in
      let gone = stays (partner_waits p h) (some (holds p) h.state.places) placed in
      omega arith
    where
      stays : (w y : Bool) → (w ≡ true → y ≡ true) → as_bit (w && not y) ≡ 0
      stays true true then = refl
      stays true false then = true-false false (then refl) refl
      stays false y then = refl

      placed : partner_waits p h ≡ true → some (holds p) h.state.places ≡ true
      placed waits =
          waits-some h.state.places p (waiting h.queue) waits (some (holds p) h.state.places ≡ true)
          (λ i one own. place-some p h.state.places i ((sound-facts h.state (ready-sound h good)).places.1 p) own)

  step-first : ready h ≡ true → FirstOf (shunt h bytes action_room)
  unfolding sends
  step-first good =
      by-case FirstOf h bytes action_room
      (λ short. refused-first good (shunt_refused refusal.no_room h) (λ e. omega arith) refl refl)
      (λ enough bad. refused-first good (shunt_refused refusal.not_sound h) (λ e. omega arith) refl refl)
      (λ enough ok stirred. refused-first good (shunt_refused place_waits h) (λ e. omega arith) refl refl)
      (λ enough ok calm other. refused-first good (shunt_refused_at (core_step h bytes).code (core_step h bytes).standing h)
      other refl refl)
      (λ enough ok calm taken full. refused-first good (shunt_refused modem_missing h) (λ e. omega arith) refl refl)
      (λ enough ok calm taken free. sends-first p h bytes ok calm taken free)

-- "a place has a modem exactly from its first 21 that went out, or its 38, until its 22": from a sound shunter on
-- promise
pub modem-seen : (p : Partner) (h : Shunter) (history : List (List ℕ))
    → ready h ≡ true
    → modem_seen p (partner_modem p h) h history ≡ partner_modem p (shunter_after h history)
unfolding modem_seen shunter_after
modem-seen p h [] good = refl
modem-seen p h (bytes ∷ history) good =
    let next = (shunt h bytes action_room).shunter in
    ap (λ b. modem_seen p b next history) (step-modem p h bytes good)
    ∙ modem-seen p next history (shunt-ready h bytes action_room good)

-- and from a cold start, where nobody has one
-- promise
pub cold-modem-seen : (p : Partner) (l : Limits) (history : List (List ℕ))
    → modem_seen p false (cold_shunter l).shunter history ≡ partner_modem p (shunter_after (cold_shunter l).shunter history)
unfolding cold_shunter
cold-modem-seen p l history =
    ap (λ b. modem_seen p b (cold_shunter l).shunter history) (sym none)
    ∙ modem-seen p (cold_shunter l).shunter history (cold-ready l)
  where
    no_place : some (holds p) (cold_start l).state.places ≡ false
    no_place =
        fails-then (some (holds p) (cold_start l).state.places)
        (λ has.
        some-has p (cold_start l).state.places has (some (holds p) (cold_start l).state.places ≡ false)
        (λ i own. true-false (holds p (place_at (cold_start l).state.places i)) own (ap (holds p) (cold-vacant l i))))

    none : partner_modem p (cold_shunter l).shunter ≡ false
    none = ap (λ b. b && not (partner_waits p (cold_shunter l).shunter)) no_place

-- each order accepted, and each wait, ends in one first 21, in a release, or goes on: "each place's first 21 goes out once"
-- promise
pub firsts-once : (p : Partner) (h : Shunter) (history : List (List ℕ))
    → ready h ≡ true
    → orders_to p h history + as_bit (partner_waits p h)
    ≡ firsts_to p h history + left_waiting p h history + as_bit (partner_waits p (shunter_after h history))
unfolding shunter_sum shunter_after
firsts-once p h [] good = omega arith
firsts-once p h (bytes ∷ history) good =
    let own = step-first p h bytes good in
    let rest = firsts-once p (shunt h bytes action_room).shunter history (shunt-ready h bytes action_room good) in
    omega arith
