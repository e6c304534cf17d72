-- Where a history leads and what it counts, put together from its parts.
-- Defines: Leads.
-- Proves: after-append, summed-append, stays, begins, goes_on, counted-as, again-and-again.
use mathlib.Core.Path.{◌≡◌, refl, ap, ap₂, ◌∙◌}
use mathlib.Core.List.{List, [], ◌∷◌, ◌++◌}
use Prim.Native.Nat.{ℕ, zero, suc, ◌+◌, ◌*◌}
use native.Mathlib.Omega.{arith}
use lib.ListN.{length}
use Rattle.unit.specs.Steps.{Outcome}
use Rattle.unit.specs.OnRecords.{action_room, on_record}
use Rattle.unit.specs.declared.state.State.{State}
use Rattle.history.specs.Histories.{after, summed, orders, calls, losses, actions}
use Rattle.history.specs.Histories.{is_order, is_call, is_loss, accepted_as}
use Rattle.history.specs.Reaching.{repeated}

-- a history after another
pub after-append : (s : State) (xs ys : List (List ℕ)) → after s (xs ++ ys) ≡ after (after s xs) ys
unfolding after
after-append s [] ys = refl
after-append s (bytes ∷ xs) ys = after-append (on_record s bytes action_room).state xs ys

pub summed-append : (f : State → List ℕ → Outcome → ℕ) (s : State) (xs ys : List (List ℕ))
    → summed f s (xs ++ ys) ≡ summed f s xs + summed f (after s xs) ys
unfolding summed after
summed-append f s [] ys = omega arith
summed-append f s (bytes ∷ xs) ys =
    let rest = summed-append f (on_record s bytes action_room).state xs ys in
    omega arith

-- from one state to another, with so many orders, calls, losses and actions
pub record Leads (s : State) (history : List (List ℕ)) (t : State) (a b c k : ℕ) : Type 0 where
  pub ends : after s history ≡ t
  pub ordered : orders s history ≡ a
  pub called : calls s history ≡ b
  pub lost : losses s history ≡ c
  pub acted : actions s history ≡ k

-- no record
pub stays : (s : State) → Leads s [] s 0 0 0 0
unfolding after summed
stays s = record { ends = refl; ordered = refl; called = refl; lost = refl; acted = refl }

-- one record, then the rest
pub begins : (s : State) (bytes : List ℕ) (o : Outcome) (history : List (List ℕ)) (t : State) (a b c k : ℕ)
    → on_record s bytes action_room ≡ o
    → Leads o.state history t a b c k
    → Leads s (bytes ∷ history) t
    (accepted_as (λ s. is_order) s bytes o + a)
    (accepted_as (λ s. is_call) s bytes o + b)
    (accepted_as (λ s. is_loss) s bytes o + c)
    (length o.actions + k)
unfolding after summed
begins s bytes o history t a b c k e rest =
    record {
      ends = rw e rest.ends;
      ordered = rw e (ap (λ x. accepted_as (λ s. is_order) s bytes o + x) rest.ordered);
      called = rw e (ap (λ x. accepted_as (λ s. is_call) s bytes o + x) rest.called);
      lost = rw e (ap (λ x. accepted_as (λ s. is_loss) s bytes o + x) rest.lost);
      acted = rw e (ap (λ x. length o.actions + x) rest.acted);
    }

-- one history, then another
pub goes_on : (s t u : State) (xs ys : List (List ℕ)) (a b c k a' b' c' k' : ℕ)
    → Leads s xs t a b c k
    → Leads t ys u a' b' c' k'
    → Leads s (xs ++ ys) u (a + a') (b + b') (c + c') (k + k')
goes_on s t u xs ys a b c k a' b' c' k' first rest =
    record {
      ends = after-append s xs ys ∙ ap (λ s. after s ys) first.ends ∙ rest.ends;
      ordered = both (accepted_as (λ s. is_order)) a a' first.ordered rest.ordered;
      called = both (accepted_as (λ s. is_call)) b b' first.called rest.called;
      lost = both (accepted_as (λ s. is_loss)) c c' first.lost rest.lost;
      acted = both (λ s bytes o. length o.actions) k k' first.acted rest.acted;
    }
  where
    both : (f : State → List ℕ → Outcome → ℕ) (x y : ℕ)
        → summed f s xs ≡ x
        → summed f t ys ≡ y
        → summed f s (xs ++ ys) ≡ x + y
    both f x y e g = summed-append f s xs ys ∙ ap₂ ◌+◌ e (ap (λ s. summed f s ys) first.ends ∙ g)

-- the same, its numbers written another way
pub counted-as : (s t : State) (history : List (List ℕ)) (a b c k a' b' c' k' : ℕ)
    → Leads s history t a b c k
    → a ≡ a'
    → b ≡ b'
    → c ≡ c'
    → k ≡ k'
    → Leads s history t a' b' c' k'
counted-as s t history a b c k a' b' c' k' leads e f g h =
    record {
      ends = leads.ends;
      ordered = leads.ordered ∙ e;
      called = leads.called ∙ f;
      lost = leads.lost ∙ g;
      acted = leads.acted ∙ h;
    }

-- a history that comes back to where it began, so many times
pub again-and-again : (s : State) (history : List (List ℕ)) (a b c k : ℕ)
    → Leads s history s a b c k
    → (times : ℕ)
    → Leads s (repeated times history) s (a * times) (b * times) (c * times) (k * times)
unfolding repeated
again-and-again s history a b c k leads zero =
    counted-as s s [] 0 0 0 0 (a * 0) (b * 0) (c * 0) (k * 0) (stays s)
    (omega arith)
    (omega arith)
    (omega arith)
    (omega arith)
again-and-again s history a b c k leads (suc times) =
    let rest = again-and-again s history a b c k leads times in
    counted-as s s (history ++ repeated times history) _ _ _ _ (a * suc times) (b * suc times) (c * suc times) (k * suc times)
    (goes_on s s s history (repeated times history) a b c k (a * times) (b * times) (c * times) (k * times) leads rest)
    (omega arith)
    (omega arith)
    (omega arith)
    (omega arith)
