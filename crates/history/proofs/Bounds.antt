-- Demand 3, the bound: so many actions for each accepted order, call and loss, and no more.
-- Each held place has a worth, the most actions that it can still cause with no further order, call or loss accepted.
-- Defines: worth, worths.
-- Proves: worths-balanced, bound-from, bound-of-from, bound, bound_of, demand-bound, demand-bound-of.
use mathlib.Core.Path.{◌≡◌, refl, subst}
use mathlib.Core.Bool.{true}
use mathlib.Core.List.{List}
use Prim.Native.Nat.{ℕ, ◌+◌, ◌*◌, ◌≤◌}
use native.Mathlib.Omega.{arith}
use lib.ListN.{length}
use Rattle.record.specs.Partners.{same_partner}
use Rattle.record.specs.Records.{reading}
use Rattle.wire.specs.Refusals.{accepted}
use Rattle.record.specs.declared.partner.Partner.{Partner}
use Rattle.place.specs.Places.{fleet_tries}
use Rattle.place.specs.declared.phase.Phase.{Phase}
use Rattle.place.specs.declared.limits.Limits.{Limits}
use Rattle.unit.specs.States.{cold_start}
use Rattle.unit.specs.OnRecords.{action_room, on_record}
use Rattle.unit.specs.declared.state.State.{State}
use Rattle.unit.specs.Kept.{count}
use Rattle.history.specs.Histories.{after, orders, calls, losses, actions, names}
use Rattle.history.specs.PerEvent.{per_order, per_call, per_loss}
use Rattle.history.specs.Histories.{actions_of, orders_of, calls_of, losses_of}
use Rattle.unit.proofs.Facts.{limits-tries}
use Rattle.unit.proofs.Starts.{cold-limits}
use Rattle.unit.proofs.Counts.{count-all}
use Rattle.unit.proofs.Balances.{at_most}
use Rattle.unit.proofs.Scales.{Scale, Balanced}
use Rattle.unit.proofs.StepAccounts.{total}
use Rattle.history.proofs.Counted.{summed_same, whose-any, whose-one, and-true, rated-account}
use Rattle.history.proofs.Along.{cold-light}
use Rattle.history.proofs.Falling.{Numbers, falling, fallings, falling-balanced}

-- what a place is worth at its last try, n being the limit of tries; an order, a call and a loss bring their parts
abbrev worth_numbers : ℕ → Numbers
worth_numbers n =
    record {
      connecting = 2 * n + 2;
      contacting = n + 2;
      opened = n + 1;
      lost = n + 1;
      ending = 1;
      order = per_order n;
      call = per_call n;
      up = 0;
      loss = per_loss n;
      version = 0;
    }

-- and one more for each try before that
abbrev pub worth : ℕ → Phase → ℕ
worth n = falling n (worth_numbers n)

-- every action counts
abbrev pub worths : ℕ → Scale
worths n = fallings n (worth_numbers n)

-- no turn costs more than its place is worth and its event brings
pub worths-balanced : (l : Limits) → 1 ≤ l.tries → Balanced at_most l (worths l.tries)
worths-balanced l some-try = falling-balanced l (worth_numbers l.tries) some-try (omega arith)

module _ (l : Limits) (some-try : 1 ≤ l.tries) where
  -- the limit of tries
  abbrev n : ℕ
  n = l.tries

  -- from every state with these limits: what its places are worth comes on top
  pub bound-from : (s : State)
      → s.limits ≡ l
      → (history : List (List ℕ))
      → actions s history + total (worths n) (λ p. true) (after s history).places
      ≤ total (worths n) (λ p. true) s.places
      + (per_order n * orders s history + (per_call n * calls s history + per_loss n * losses s history))
  bound-from s own history =
      let account =
      rated-account (worth n) (λ number. true) (per_order n) (per_call n) (per_loss n)
      (λ p. true) (λ s bytes. true) (λ s bytes. whose-any s.last (reading bytes)) at_most l
      (worths-balanced l some-try) (λ a. true) (λ a. refl) s own history in
      let all =
      summed_same (λ s bytes o. count (λ a. true) o.actions) (λ s bytes o. length o.actions)
      (λ s bytes. count-all (on_record s bytes action_room).actions) s history in
      omega arith

  -- and none for a partner but by its own orders, calls and losses
  pub bound-of-from : (p : Partner) (s : State)
      → s.limits ≡ l
      → (history : List (List ℕ))
      → actions_of p s history + total (worths n) (same_partner p) (after s history).places
      ≤ total (worths n) (same_partner p) s.places
      + (per_order n * orders_of p s history + (per_call n * calls_of p s history + per_loss n * losses_of p s history))
  bound-of-from p s own history =
      rated-account (worth n) (λ number. true) (per_order n) (per_call n) (per_loss n)
      (same_partner p) (names p) (λ s bytes. whose-one p s.last (reading bytes)) at_most l
      (worths-balanced l some-try) (λ a. same_partner p a.partner) (λ a. and-true (same_partner p a.partner)) s own history

module _ (l : Limits) (started : (cold_start l).code ≡ accepted) (history : List (List ℕ)) where
  -- a cold start that is accepted has these limits
  own : ((cold_start l).state.limits ≡ l) × (1 ≤ l.tries)
  own =
      let given = cold-limits l started in
      (given.0, (limits-tries l given.1).0)

  -- from a cold start, no more actions than these: "3n + 2 for an order, n + 2 for a call, n for a loss"
  -- promise
  pub bound :
      actions (cold_start l).state history
      ≤ per_order l.tries * orders (cold_start l).state history
      + per_call l.tries * calls (cold_start l).state history
      + per_loss l.tries * losses (cold_start l).state history
  bound =
      let most = bound-from l own.1 (cold_start l).state own.0 history in
      let none = cold-light (worths l.tries) (λ p. true) l in
      omega arith

  -- and none for a partner but by its own; an order that means it is its own
  -- promise
  pub bound_of : (p : Partner)
      → actions_of p (cold_start l).state history
      ≤ per_order l.tries * orders_of p (cold_start l).state history
      + per_call l.tries * calls_of p (cold_start l).state history
      + per_loss l.tries * losses_of p (cold_start l).state history
  bound_of p =
      let most = bound-of-from l own.1 p (cold_start l).state own.0 history in
      let none = cold-light (worths l.tries) (same_partner p) l in
      omega arith

-- with the three tries of document 01
-- promise
pub demand-bound : (l : Limits)
    → l.tries ≡ fleet_tries
    → (cold_start l).code ≡ accepted
    → (history : List (List ℕ))
    → actions (cold_start l).state history
    ≤ 11 * orders (cold_start l).state history
    + 5 * calls (cold_start l).state history
    + 3 * losses (cold_start l).state history
demand-bound l three started history =
    let s = (cold_start l).state in
    subst (λ n. actions s history ≤ per_order n * orders s history + per_call n * calls s history + per_loss n * losses s history)
    three
    (bound l started history)

-- promise
pub demand-bound-of : (p : Partner) (l : Limits)
    → l.tries ≡ fleet_tries
    → (cold_start l).code ≡ accepted
    → (history : List (List ℕ))
    → actions_of p (cold_start l).state history
    ≤ 11 * orders_of p (cold_start l).state history
    + 5 * calls_of p (cold_start l).state history
    + 3 * losses_of p (cold_start l).state history
demand-bound-of p l three started history =
    let s = (cold_start l).state in
    subst (λ n. actions_of p s history
    ≤ per_order n * orders_of p s history + per_call n * calls_of p s history + per_loss n * losses_of p s history)
    three
    (bound_of l started history p)
