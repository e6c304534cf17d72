-- How many actions pass a test, of those of one partner and of a closing.
-- Defines: passing.
-- Proves: nothing, count-append, count_same, count-all, count-one, count-sent, closing_actions-most.
use mathlib.Core.Path.{◌≡◌, refl, sym, ap, ◌∙◌}
use mathlib.Core.Bool.{Bool, true, false, cond, ◌&&◌}
use mathlib.Core.List.{List, [], ◌∷◌, ◌++◌, map}
use Prim.Native.Nat.{ℕ, ◌+◌, ◌≤◌}
use native.Mathlib.Omega.{arith}
use lib.ListN.{length}
use Rattle.record.specs.declared.partner.Partner.{Partner}
use Rattle.place.specs.Table.{closed_by}
use Rattle.place.specs.declared.place.Place.{Place}
use Rattle.place.specs.declared.turn.Closing.{Closing}
use Rattle.unit.specs.Steps.{act, actions_in, closing_actions}
use Rattle.unit.specs.Kept.{count}
use Rattle.wire.specs.Bytes.{as_bit}
use Rattle.wire.specs.Sums.{sum}
use Rattle.unit.specs.declared.answer.Action.{Action}

-- how many of these numbers pass a test
abbrev pub passing : (ℕ → Bool) → List ℕ → ℕ
passing test [] = 0
passing test (number ∷ ks) = as_bit (test number) + passing test ks

-- nothing, whichever way a test goes
pub nothing : (b : Bool) → ◌≡◌ {A = ℕ} (cond b 0 0) 0
nothing true = refl
nothing false = refl

-- actions after others
pub count-append : (test : Action → Bool) (xs ys : List Action) → count test (xs ++ ys) ≡ count test xs + count test ys
unfolding count
count-append test [] ys = omega arith
count-append test (a ∷ xs) ys =
    let rest = count-append test xs ys in
    omega arith

-- two tests that agree count alike
pub count_same : (test other : Action → Bool)
    → ((a : Action) → test a ≡ other a)
    → (acts : List Action)
    → count test acts ≡ count other acts
unfolding count
count_same test other same [] = refl
count_same test other same (a ∷ acts) =
    let first = ap as_bit (same a) in
    let rest = count_same test other same acts in
    omega arith

-- each action counts one
pub count-all : (acts : List Action) → count (λ a. true) acts ≡ length acts
unfolding count
count-all [] = refl
count-all (a ∷ acts) =
    let rest = count-all acts in
    omega arith

-- the actions for one partner, where some partners are looked at: all or none
pub count-one : (mine : Partner → Bool) (p : Partner) (ks : List ℕ)
    → count (λ a. mine a.partner) (map (act p) ks) ≡ cond (mine p) (length ks) 0
unfolding count
count-one mine p [] = sym (nothing (mine p))
count-one mine p (k ∷ ks) = ap (λ c. as_bit (mine p) + c) (count-one mine p ks) ∙ by (mine p)
  where
    by : (b : Bool) → as_bit b + cond b (length ks) 0 ≡ cond b (length (k ∷ ks)) 0
    by true = omega arith
    by false = refl

-- and those of some numbers
pub count-sent : (mine : Partner → Bool) (test : ℕ → Bool) (p : Partner) (ks : List ℕ)
    → count (λ a. mine a.partner && test a.number) (map (act p) ks) ≡ cond (mine p) (passing test ks) 0
unfolding count
count-sent mine test p [] = sym (nothing (mine p))
count-sent mine test p (k ∷ ks) = ap (λ c. as_bit (mine p && test k) + c) (count-sent mine test p ks) ∙ by (mine p)
  where
    by : (b : Bool) → as_bit (b && test k) + cond b (passing test ks) 0 ≡ cond b (as_bit (test k) + passing test ks) 0
    by true = refl
    by false = refl

-- a closing has no more actions that pass a test than its places weigh, if each has no more than its own place weighs
pub closing_actions-most : (test : Action → Bool) (weight : Place → ℕ) (which : Closing)
    → ((p : Place) → count test (actions_in p.holding (closed_by which p)) ≤ weight p)
    → (ps : List Place)
    → count test (closing_actions which ps) ≤ sum weight ps
unfolding count closing_actions sum
closing_actions-most test weight which each [] = omega arith
closing_actions-most test weight which each (p ∷ ps) =
    let first = each p in
    let rest = closing_actions-most test weight which each ps in
    let joined = count-append test (actions_in p.holding (closed_by which p)) (closing_actions which ps) in
    omega arith
