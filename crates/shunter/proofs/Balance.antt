-- The account of a step: releases that go out, modems held before and after, who joins and who calls; and the queue after it.
-- Defines: EndsIn, Acted.
-- Proves: own-counted, own-other, back_count, out-length, line-length, account, line-few, queue-after, left-few, kept-others, out-few.
use mathlib.Core.Path.{◌≡◌, refl, sym, ap, ◌∙◌}
use mathlib.Core.Bool.{Bool, true, false, cond, ◌&&◌, ◌||◌, not}
use mathlib.Core.List.{List, [], ◌∷◌}
use Prim.Native.Nat.{ℕ, zero, suc, ◌+◌, ◌-◌, ◌≤◌}
use native.Mathlib.Omega.{arith}
use lib.Dec.{eqb, leb}
use lib.ListN.{length, length-append, length-take, length-drop, length-map}
use borrow.Author.Tests.{eqb-true, ne_eqb, leb-false}
use Rattle.wire.proofs.Tests.{true-false}
use Rattle.record.specs.Partners.{same_partner}
use Rattle.record.specs.declared.partner.Partner.{Partner}
use Rattle.record.proofs.Partners.{same_refl}
use Rattle.place.specs.Places.{is_free, partner_of}
use Rattle.place.specs.Table.{request, release}
use Rattle.place.specs.declared.place.Holding.{Holding}
use Rattle.place.specs.declared.place.Holding.TheVariants.{Free, Held}
use Rattle.place.specs.declared.place.Place.{Place}
use Rattle.unit.specs.Concerns.{takes_in, action_for, release_for, other_for, place_of}
use Rattle.unit.specs.Forms.{most_actions}
use Rattle.unit.specs.Kept.{here, count}
use Rattle.wire.specs.Bytes.{as_bit}
use Rattle.wire.specs.Sums.{sum}
use Rattle.unit.specs.Standings.{Concern, nobody, order_to, call_of, naming}
use Rattle.unit.specs.States.{place_count}
use Rattle.unit.specs.Steps.{act}
use Rattle.unit.specs.declared.answer.Action.{Action}
use Rattle.unit.proofs.Counts.{count-append, count-all}
use Rattle.unit.proofs.Effects.{Places}
use Rattle.unit.proofs.Few.{busy, once-few, room-free}
use Rattle.unit.proofs.Sent.{most_for, Ordered}
use Rattle.unit.proofs.Weights.{weigh-few}
use Rattle.history.specs.Histories.{is_release}
use Rattle.shunter.specs.Queues.{modem_count, place_at, just_ordered, modems_held}
use Rattle.shunter.specs.Shunting.{kept, waits_for, own_request, held_back, newcomers, line_up, free_modems, served, unserved}
use Rattle.shunter.specs.Shunting.{first_requests, goes_out, is_call_of}
use Rattle.shunter.proofs.Gathered.{kept-length}
use Rattle.shunter.proofs.InRow.{every_drop, distinct-drop}
use Rattle.shunter.proofs.Modems.{held_all, modems-count}
use Rattle.shunter.proofs.Ready.{Queued}
use Rattle.shunter.proofs.LinedUp.{Moved, stayers, line-fresh, line-apart}
use Rattle.shunter.proofs.Accounts.{count_kept, count-plus, waits-before, waits-after, newcomer-waits}

-- how an accepted order's actions end; nothing is said of another event's
abbrev pub EndsIn : Concern → List Action → Type 0
EndsIn nobody acts = Unit
EndsIn (order_to p) acts = Ordered p acts
EndsIn (call_of p) acts = Unit
EndsIn (naming p e) acts = Unit

-- what the core's laws say of the actions of an accepted step that stirs none of those that wait
pub record Acted (c : Concern) (before after : List Place) (is : List ℕ) (acts : List Action) : Type 0 where
  pub conserved : (mine : Partner → Bool)
      → count (release_for mine) acts + sum (here (place_of mine)) after ≡ sum (here (place_of mine)) before + as_bit (takes_in mine c)
  pub most : (mine : Partner → Bool) → count (action_for mine) acts ≤ most_for mine before c
  pub quiet : count (other_for (waits_for before is)) acts ≡ 0
  pub ends : EndsIn c acts

-- an order's own 21 is among its actions
pub own-counted : (before : List Place) (acts : List Action) (c : Concern)
    → EndsIn c acts
    → length (newcomers before c) ≤ count (own_request c) acts
unfolding count
own-counted before acts nobody ends = omega arith
own-counted before acts (order_to p) ends =
    let own = own_request (order_to p) in
    let joined = ap (count own) ends.last ∙ count-append own ends.closings (act p request ∷ []) in
    let one : as_bit (same_partner p p && true) ≡ 1 = ap (λ b. as_bit (b && true)) (same_refl p) in
    omega arith
own-counted before acts (call_of p) ends = omega arith
own-counted before acts (naming p e) ends = omega arith

-- every partner
abbrev anybody : Partner → Bool
anybody p = true

-- an order's own 21 is no release
pub own-other : (c : Concern) (a : Action) → is_release a ≡ true → own_request c a ≡ false
own-other nobody a is = refl
own-other (order_to p) a is =
    let number = eqb-true a.number release is in
    by (same_partner p a.partner) (ne_eqb a.number request (λ same. omega arith))
  where
    by : (b : Bool) → eqb a.number request ≡ false → (b && eqb a.number request) ≡ false
    by true h = h
    by false h = refl
own-other (call_of p) a is = refl
own-other (naming p e) a is = refl

module _ (c : Concern) (waits : Partner → Bool) (acts : List Action) where
  -- the releases that go out are all but those of partners that wait
  releases-out : count is_release (kept (λ a. not (held_back waits c a)) acts) + count (release_for waits) acts
      ≡ count (release_for anybody) acts
  releases-out =
      let out = count_kept (λ a. not (held_back waits c a)) is_release acts in
      let both =
      count-plus (λ a. not (held_back waits c a) && is_release a) (release_for waits) (release_for anybody)
      (λ a. by a (own_request c a) (waits a.partner) (is_release a) refl refl) acts in
      omega arith
    where
      by : (a : Action) (own w r : Bool) → own_request c a ≡ own → is_release a ≡ r
          → as_bit (not (own || (w && r)) && r) + as_bit (w && r) ≡ as_bit r
      by a true w true own is = true-false true refl (sym own ∙ own-other c a is)
      by a true true false own is = refl
      by a true false false own is = refl
      by a false true true own is = refl
      by a false true false own is = refl
      by a false false true own is = refl
      by a false false false own is = refl

  -- held back are the order's own 21 and the releases of partners that wait
  pub back_count : count (own_request c) acts + count (release_for waits) acts ≡ count (held_back waits c) acts
  back_count =
      count-plus (own_request c) (release_for waits) (held_back waits c)
      (λ a. by a (own_request c a) (waits a.partner) (is_release a) refl refl) acts
    where
      by : (a : Action) (own w r : Bool)
          → own_request c a ≡ own
          → is_release a ≡ r
          → as_bit own + as_bit (w && r) ≡ as_bit (own || (w && r))
      by a true w true own is = true-false true refl (sym own ∙ own-other c a is)
      by a true true false own is = refl
      by a true false false own is = refl
      by a false w r own is = omega arith

  -- what goes out and what is held back are all the actions
  pub out-length : length (kept (λ a. not (held_back waits c a)) acts) + count (held_back waits c) acts ≡ length acts
  out-length =
      let out = kept (λ a. not (held_back waits c a)) acts in
      let long = sym (count-all out) ∙ count_kept (λ a. not (held_back waits c a)) (λ a. true) acts in
      let both =
      count-plus (λ a. not (held_back waits c a) && true) (held_back waits c) (λ a. true) (λ a. one_of (held_back waits c a)) acts in
      let all = count-all acts in
      omega arith
    where
      one_of : (b : Bool) → as_bit (not b && true) + as_bit b ≡ 1
      one_of true = refl
      one_of false = refl

module _ (c : Concern) (before after : List Place) (is : List ℕ) (acts : List Action) (step : Moved c before after is)
    (acted : Acted c before after is acts)
    (facts : Queued before is) where
  abbrev waits : Partner → Bool
  waits = waits_for before is

  abbrev lined : List ℕ
  lined = line_up before is c after

  -- who is taken in joins or calls
  taken_in : (c : Concern) → as_bit (takes_in anybody c) ≡ length (newcomers before c) + as_bit (is_call_of c)
  taken_in nobody = refl
  taken_in (order_to p) = refl
  taken_in (call_of p) = refl
  taken_in (naming p e) = refl

  -- the line is those that still have their places and the one that joins
  pub line-length : length lined ≡ length (stayers c before after is step) + length (newcomers before c)
  unfolding line_up
  line-length = length-append (stayers c before after is step) (newcomers before c)

  -- the held places before the step
  held-before : modems_held before is + length is ≡ sum (here busy) before
  held-before = modems-count before is step.four facts.fresh facts.apart

  -- and after it
  held_after : modems_held after lined + length lined ≡ sum (here busy) after
  held_after =
      modems-count after lined step.still-four (line-fresh c before after is step) (line-apart c before after is step)

  -- the modems that were held, and one for a call, are released or held
  pub account : count is_release (kept (λ a. not (held_back waits c a)) acts) + modems_held after lined
      ≡ modems_held before is + as_bit (is_call_of c)
  account =
      let out = releases-out c waits acts in
      let theirs = acted.conserved waits in
      let all = acted.conserved anybody in
      let none = ap as_bit (newcomer-waits c before after is step) in
      let w = waits-before c before after is step in
      let v = waits-after c before after is step in
      let a = held_all before in
      let b = held_all after in
      let t = taken_in c in
      let l = line-length in
      let h = held-before in
      let k = held_after in
      omega arith

  -- no more than four are held
  busy-four : sum (here busy) before + 0 ≤ place_count
  busy-four =
      let most = weigh-few (here busy) before (λ place. once-few (busy place)) in
      let four = step.four in
      omega arith

  -- an order finds a place free
  free-for-order : (c : Concern) → Places c before after → sum (here busy) before + length (newcomers before c) ≤ place_count
  free-for-order nobody changed = busy-four
  free-for-order (order_to p) changed =
      let less = room-free before changed.at changed.below changed.free in
      let four = step.four in
      omega arith
  free-for-order (call_of p) changed = busy-four
  free-for-order (naming p e) changed = busy-four

  -- one joins at most
  joins-few : (c : Concern) → length (newcomers before c) ≤ 1
  joins-few nobody = omega arith
  joins-few (order_to p) = omega arith
  joins-few (call_of p) = omega arith
  joins-few (naming p e) = omega arith

  -- no more than two wait when the core's step is done
  pub line-few : length lined ≤ modem_count
  line-few = by (length is) refl
    where
      by : (n : ℕ) → length is ≡ n → length lined ≤ modem_count
      by zero none =
          let l = line-length in
          let j = joins-few c in
          let s = kept-length (λ i. not (is_free (place_at after i))) is in
          omega arith
      by (suc n) some =
          let l = line-length in
          let s = kept-length (λ i. not (is_free (place_at after i))) is in
          let room = free-for-order c step.changed in
          let h = held-before in
          let full = facts.busy (omega arith) in
          omega arith

  -- the modems held before each free one is given away
  modems-most : (is_call_of c && leb modem_count (modems_held before is)) ≡ false → modems_held after lined ≤ modem_count
  modems-most free = by (is_call_of c) refl free
    where
      by : (b : Bool)
          → is_call_of c ≡ b
          → (b && leb modem_count (modems_held before is)) ≡ false
          → modems_held after lined ≤ modem_count
      by true call free =
          let less = leb-false modem_count (modems_held before is) free in
          let a = account in
          let one : as_bit (is_call_of c) ≡ 1 = ap as_bit call in
          omega arith
      by false call free =
          let most = facts.most in
          let a = account in
          let none : as_bit (is_call_of c) ≡ 0 = ap as_bit call in
          omega arith

  module _ (free : (is_call_of c && leb modem_count (modems_held before is)) ≡ false) where
    left-length : length (unserved after lined) ≡ length lined - free_modems after lined
    left-length = length-drop (free_modems after lined) lined

    -- when each free modem is given away, the rules hold of those that go on waiting
    pub queue-after : Queued after (unserved after lined)
    queue-after =
        let fresh = every_drop (λ i. just_ordered (place_at after i)) (free_modems after lined) lined
        (line-fresh c before after is step) in
        let apart = distinct-drop (free_modems after lined) lined (line-apart c before after is step) in
        let counted = modems-count after (unserved after lined) step.still-four fresh apart in
        let all = held_after in
        let left = left-length in
        let most = modems-most free in
        record { fresh = fresh; apart = apart; most = omega arith; busy = λ some. omega arith }

    -- no more than two go on waiting
    pub left-few : length (unserved after lined) ≤ modem_count
    left-few =
        let left = left-length in
        let few = line-few in
        omega arith

  -- the core's actions for those that do not wait, of which an order's own 21 is held back
  abbrev others : Partner → Bool
  others p = not (waits p)

  -- a test passes or fails
  either : (b : Bool) → as_bit b + as_bit (not b) ≡ 1
  either true = refl
  either false = refl

  -- those that do not wait have the modems
  others-held : sum (here (place_of others)) before ≡ modems_held before is
  unfolding sum
  others-held =
      let w = waits-before c before after is step in
      let h = held-before in
      let split = weigh-plus before in
      omega arith
    where
      split_one : (k : Holding)
          → as_bit (place_of others (record { holding = k })) + as_bit (place_of waits (record { holding = k }))
          ≡ as_bit (busy (record { holding = k }))
      split_one Free = refl
      split_one (Held d ph p) =
          let one = either (waits p) in
          omega arith

      weigh-plus : (ps : List Place) → sum (here (place_of others)) ps + sum (here (place_of waits)) ps ≡ sum (here busy) ps
      weigh-plus [] = refl
      weigh-plus (p ∷ ps) =
          let own = split_one p.holding in
          let rest = weigh-plus ps in
          omega arith

  -- what goes out of the core's actions, and the order's own 21, are the actions for those that do not wait
  pub kept-others : length (kept (λ a. not (held_back waits c a)) acts) + count (own_request c) acts ≡ count (action_for others) acts
  kept-others =
      let both = out-length c waits acts in
      let back = back_count c waits acts in
      let all = count-all acts in
      let whose =
      count-plus (action_for waits) (action_for others) (λ a. true) (λ a. either (waits a.partner)) acts in
      let theirs =
      count-plus (release_for waits) (other_for waits) (action_for waits) (λ a. split-of (waits a.partner) (is_release a)) acts in
      let quiet = acted.quiet in
      omega arith
    where
      split-of : (b r : Bool) → as_bit (b && r) + as_bit (b && not r) ≡ as_bit b
      split-of true true = refl
      split-of true false = refl
      split-of false r = refl

  -- two of the core's actions go out at the most
  kept-few : length (kept (λ a. not (held_back waits c a)) acts) ≤ modem_count
  kept-few = by c (acted.most others) kept-others (own-counted before acts c acted.ends)
    where
      cond-few : (b : Bool) → cond b 2 0 ≤ 2
      cond-few true = omega arith
      cond-few false = omega arith

      by : (d : Concern)
          → count (action_for others) acts ≤ most_for others before d
          → length (kept (λ a. not (held_back waits c a)) acts) + count (own_request c) acts ≡ count (action_for others) acts
          → length (newcomers before d) ≤ count (own_request c) acts
          → length (kept (λ a. not (held_back waits c a)) acts) ≤ modem_count
      by nobody most long own =
          let h = others-held in
          let m = facts.most in
          omega arith
      by (order_to p) most long own =
          let h = others-held in
          let m = facts.most in
          let one = once-few (others p) in
          omega arith
      by (call_of p) most long own =
          let one = once-few (others p) in
          omega arith
      by (naming p e) most long own =
          let two = cond-few (others p) in
          omega arith

  -- four actions go out at the most
  pub out-few : length (goes_out waits c acts after lined) ≤ most_actions
  out-few =
      let out = kept (λ a. not (held_back waits c a)) acts in
      let both = length-append out (first_requests after (served after lined)) in
      let new = length-map (served after lined) (λ i. act (partner_of (place_at after i)) request) in
      let given = length-take (free_modems after lined) lined in
      let most = kept-few in
      omega arith
