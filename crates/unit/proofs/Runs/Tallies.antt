-- The counts of a run, one record more.
-- Proves: totalled_none, totalled-append, totalled-one, totalled-given, totalled-sending, below_more, added-below, counted-made,
-- counted-refused, counted-kept, totalled-below, bounded-fresh, bounded-next.
use mathlib.Core.Path.{◌≡◌, sym, ap, ◌∙◌}
use mathlib.Core.Bool.{Bool, true, false, cond}
use mathlib.Core.List.{List, [], ◌∷◌, ◌++◌, map, map-append}
use Prim.Native.Nat.{ℕ, suc, ◌+◌, ◌*◌, ◌≤◌}
use native.Mathlib.Nat.{add-zero}
use native.Mathlib.Omega.{arith}
use lib.Dec.{eqb}
use lib.ListN.{length, set}
use borrow.Author.Tests.{ne_eqb, eqb-true}
use Rattle.wire.specs.Refusals.{accepted, out_of_range}
use Rattle.wire.proofs.Tests.{cond-case, cond-holds}
use Rattle.record.specs.declared.partner.Partner.{Partner}
use Rattle.place.specs.declared.place.Place.{Place}
use Rattle.place.specs.Table.{request, release, incompatible, initiate, terminate, established}
use Rattle.unit.specs.Steps.{Outcome, refused, act, closed, closing_actions}
use Rattle.unit.specs.Forms.{most_actions}
use Rattle.unit.specs.Changes.{given, sending, settled, made}
use Rattle.unit.specs.declared.change.Change.{Change}
use Rattle.unit.specs.declared.state.State.{State}
use Rattle.unit.specs.declared.answer.Action.{Action}
use Rattle.wire.specs.Bytes.{as_bit}
use Rattle.unit.specs.Runs.{total_of, totalled, fresh, counted}
use Rattle.unit.specs.Counting.{added, Below, Bounded, tally_of, refused_rest, accepted_rest}
use Rattle.unit.specs.declared.run.Totals.{Totals}
use Rattle.unit.specs.declared.run.Tally.{Tally}
use Rattle.unit.specs.declared.run.Rest.{Rest}

-- no action adds nothing
pub totalled_none : (t : Totals) → totalled t [] ≡ t
unfolding totalled total_of
totalled_none t =
    λ i.
    record {
      request = add-zero t.request i;
      release = add-zero t.release i;
      incompatible = add-zero t.incompatible i;
      initiate = add-zero t.initiate i;
      terminate = add-zero t.terminate i;
      established = add-zero t.established i;
    }

one_more : (b : Bool) (x c : ℕ) → x + (as_bit b + c) ≡ cond b (x + 1) x + c
one_more true x c = omega arith
one_more false x c = omega arith

-- the first action is counted, then the others
totalled-cons : (t : Totals) (a : Action) (acts : List Action) → totalled t (a ∷ acts) ≡ totalled (added t a.number) acts
unfolding totalled added total_of
totalled-cons t a acts =
    λ i.
    record {
      request = one_more (eqb a.number request) t.request (total_of request acts) i;
      release = one_more (eqb a.number release) t.release (total_of release acts) i;
      incompatible = one_more (eqb a.number incompatible) t.incompatible (total_of incompatible acts) i;
      initiate = one_more (eqb a.number initiate) t.initiate (total_of initiate acts) i;
      terminate = one_more (eqb a.number terminate) t.terminate (total_of terminate acts) i;
      established = one_more (eqb a.number established) t.established (total_of established acts) i;
    }

-- some actions, then others
pub totalled-append : (t : Totals) (acts more : List Action) → totalled t (acts ++ more) ≡ totalled (totalled t acts) more
totalled-append t [] more = ap (λ u. totalled u more) (sym (totalled_none t))
totalled-append t (a ∷ acts) more =
    totalled-cons t a (acts ++ more)
    ∙ totalled-append (added t a.number) acts more
    ∙ ap (λ u. totalled u more) (sym (totalled-cons t a acts))

-- one action
pub totalled-one : (t : Totals) (a : Action) → totalled t (a ∷ []) ≡ added t a.number
totalled-one t a = totalled-cons t a [] ∙ totalled_none (added t a.number)

-- the action of a number; 0 is none of the six
pub totalled-given : (t : Totals) (p : Partner) (number : ℕ) → totalled t (map (act p) (given number)) ≡ added t number
unfolding given added
totalled-given t p number =
    cond-case (λ ks. totalled t (map (act p) ks) ≡ added t number) (eqb number 0) [] (number ∷ [])
    (λ none. totalled_none t ∙ ap (added t) (sym (eqb-true number 0 none)))
    (λ some. totalled-one t (act p number))

-- the actions that a change sends last
pub totalled-sending : (t : Totals) (c : Change) → totalled t (sending c) ≡ added (added t c.first) c.second
totalled-sending t c =
    ap (totalled t) (map-append (act c.partner) (given c.first) (given c.second))
    ∙ totalled-append t (map (act c.partner) (given c.first)) (map (act c.partner) (given c.second))
    ∙ totalled-given (totalled t (map (act c.partner) (given c.first))) c.partner c.second
    ∙ ap (λ u. added u c.second) (totalled-given t c.partner c.first)

-- what is under a number is under a larger one, and one more action adds at most one
pub below_more : {b c : ℕ} {t : Totals} → b ≤ c → Below b t → Below c t
below_more h below =
    let r₁ = below.request in
    let r₂ = below.release in
    let r₃ = below.incompatible in
    let r₄ = below.initiate in
    let r₅ = below.terminate in
    let r₆ = below.established in
    record {
      request = omega arith;
      release = omega arith;
      incompatible = omega arith;
      initiate = omega arith;
      terminate = omega arith;
      established = omega arith;
    }

at_most : (b : ℕ) (test : Bool) (x : ℕ) → x ≤ b → cond test (x + 1) x ≤ b + 1
at_most b true x h = omega arith
at_most b false x h = omega arith

pub added-below : (b : ℕ) (t : Totals) (number : ℕ) → Below b t → Below (b + 1) (added t number)
unfolding added
added-below b t number below =
    record {
      request = at_most b (eqb number request) t.request below.request;
      release = at_most b (eqb number release) t.release below.release;
      incompatible = at_most b (eqb number incompatible) t.incompatible below.incompatible;
      initiate = at_most b (eqb number initiate) t.initiate below.initiate;
      terminate = at_most b (eqb number terminate) t.terminate below.terminate;
      established = at_most b (eqb number established) t.established below.established;
    }

-- an accepted record: the change made, its closings in these totals
pub counted-made : (r : Rest) (ps next : List Place) (k : ℕ) (c : Change) (t : Totals)
    → next ≡ set (closed c.which ps) c.at c.place
    → t ≡ totalled r.totals (closing_actions c.which ps)
    → tally_of (accepted_rest r k c t) next ≡ counted (tally_of r ps) k (made (tally_of r ps).state c)
unfolding counted made settled
counted-made r ps next k c t places closings =
    let sum =
    ap (λ u. added (added u c.first) c.second) closings
    ∙ sym
    (totalled-append r.totals (closing_actions c.which ps) (sending c)
    ∙ totalled-sending (totalled r.totals (closing_actions c.which ps)) c) in
    λ i.
    record {
      state = record { limits = r.limits; train = c.train; marks = c.marks; places = places i; last = c.last };
      offset = r.offset + k;
      read = r.read + 1;
      refused = sym (add-zero r.refused) i;
      totals = sum i;
    }

-- a refused record: the state and the totals stay
pub counted-refused : (r : Rest) (ps : List Place) (k : ℕ)
    → tally_of (refused_rest r k) ps ≡ counted (tally_of r ps) k (refused out_of_range (tally_of r ps).state)
unfolding counted
counted-refused r ps k =
    λ i.
    record {
      state = (tally_of r ps).state;
      offset = r.offset + k;
      read = r.read + 1;
      refused = r.refused + 1;
      totals = sym (totalled_none r.totals) i;
    }

-- whatever its number
pub counted-kept : (t : Tally) (k : ℕ) (o : Outcome)
    → (o.code ≡ accepted → ⊥)
    → o.state ≡ t.state
    → o.actions ≡ []
    → counted t k (refused out_of_range t.state) ≡ counted t k o
unfolding counted
counted-kept t k o other state none =
    λ i.
    record {
      state = sym state i;
      offset = t.offset + k;
      read = t.read + 1;
      refused = t.refused + cond (sym (ne_eqb o.code accepted other) i) 0 1;
      totals = totalled t.totals (sym none i);
    }

-- the counts stay bounded
pub bounded-fresh : (s : State) → Bounded (fresh s)
bounded-fresh s =
    record {
      read = omega arith;
      refused = omega arith;
      totals = record {
        request = omega arith;
        release = omega arith;
        incompatible = omega arith;
        initiate = omega arith;
        terminate = omega arith;
        established = omega arith;
      };
    }

count-few : (number : ℕ) (acts : List Action) → total_of number acts ≤ length acts
unfolding total_of
count-few number [] = omega arith
count-few number (a ∷ acts) =
    let rest = count-few number acts in
    cond-holds (λ c. c + total_of number acts ≤ suc (length acts)) (eqb a.number number) 1 0 (omega arith) (omega arith)

pub totalled-below : (b c : ℕ) (t : Totals) (acts : List Action) → length acts ≤ c → Below b t → Below (b + c) (totalled t acts)
unfolding totalled
totalled-below b c t acts few below =
    let field : (number x : ℕ) → x ≤ b → x + total_of number acts ≤ b + c = λ number x h. omega (arith, count-few number acts) in
    record {
      request = field request t.request below.request;
      release = field release t.release below.release;
      incompatible = field incompatible t.incompatible below.incompatible;
      initiate = field initiate t.initiate below.initiate;
      terminate = field terminate t.terminate below.terminate;
      established = field established t.established below.established;
    }

pub bounded-next : (t : Tally) (k : ℕ) (o : Outcome)
    → Bounded t
    → 1 ≤ k
    → length o.actions ≤ most_actions
    → Bounded (counted t k o)
unfolding counted
bounded-next t k o bounded some few =
    let read = bounded.read in
    let refused = bounded.refused in
    record {
      read = omega arith;
      refused = cond-holds (λ c. t.refused + c ≤ t.read + 1) (eqb o.code accepted) 0 1 (omega arith) (omega arith);
      totals = below_more (omega arith) (totalled-below (4 * t.read) 4 t.totals o.actions few bounded.totals);
    }
