-- A step of an event that names a partner, by what the search for the partner found.
-- Proves: order-found, call-found, named-found, order-by, call_by.
use mathlib.Core.Path.{◌≡◌, refl, sym, ap, subst, ◌∙◌}
use mathlib.Core.Bool.{Bool, true, false, cond, not}
use Prim.Native.Nat.{ℕ}
use lib.ListN.{get_or}
use Rattle.wire.proofs.Tests.{cond-case}
use Rattle.wire.specs.Refusals as refusal
use Rattle.record.specs.Partners.{is_rbc, reserved}
use Rattle.record.specs.declared.partner.Partner.{Partner}
use Rattle.record.specs.declared.event.Cause.{Cause}
use Rattle.record.specs.declared.event.PartnerEvent.{PartnerEvent}
use Rattle.record.specs.declared.event.Event.TheVariants.{Order, Call, Named}
use Rattle.place.specs.Places.{vacant, is_free, held_phase, holds}
use Rattle.place.specs.Table.{turn, takes}
use Rattle.place.specs.declared.phase.Phase.{Phase}
use Rattle.unit.specs.Lasts.{meant}
use Rattle.unit.specs.States.{some, first, seek, nowhere, standing}
use Rattle.unit.specs.Steps.{Outcome, refused_at, refused, in_force, ordered_at, called_at, turned_at, step}
use Rattle.unit.specs.Searching.{admitted, ordered_to, named_at}
use Rattle.unit.specs.declared.state.State.{State}
use Rattle.unit.specs.declared.search.Found.{Found}
use Rattle.unit.specs.declared.search.Found.TheVariants.{At, Vacant, Full}

cond-not : (b : Bool) (x y : Outcome) → cond (not b) x y ≡ cond b y x
cond-not true x y = refl
cond-not false x y = refl

module _ (s : State) where
  -- what a search answers, by its two tests
  abbrev answers : Bool → Bool → ℕ → Phase → ℕ → Found
  answers held free i ph j = cond held (At i ph) (cond free (Vacant j) Full)

  -- "5, 8"
  admitted-found : (p : Partner) (taken : ℕ → Outcome)
      → cond (not (some (holds p) s.places))
      (cond (some is_free s.places) (taken (first is_free s.places)) (refused_at refusal.all_taken nowhere s))
      (refused_at refusal.has_place (standing (seek p s.places)) s)
      ≡ admitted s taken (seek p s.places)
  unfolding seek
  admitted-found p taken = by (some (holds p) s.places) (some is_free s.places) _ _ _
    where
      by : (held free : Bool) (i : ℕ) (ph : Phase) (j : ℕ)
          → cond (not held) (cond free (taken j) (refused_at refusal.all_taken nowhere s))
          (refused_at refusal.has_place (standing (answers held free i ph j)) s)
          ≡ admitted s taken (answers held free i ph j)
      by true free i ph j = refl
      by false true i ph j = refl
      by false false i ph j = refl

  module _ (p : Partner) (accepting : Bool) (cause : Cause) where
    abbrev q : Partner
    q = meant s.last p

    -- "4, 15, 5, 8"
    pub order-found : step s (Order p accepting cause)
        ≡ cond (in_force cause s.train s.marks) (ordered_to s q accepting cause) (refused refusal.not_in_force s)
    unfolding step
    order-found =
        ap (λ o. cond (in_force cause s.train s.marks) o (refused refusal.not_in_force s))
        (cond-not (reserved q) _ _
        ∙ ap (cond (reserved q) (refused refusal.none_known s)) (admitted-found q (ordered_at s q accepting cause)))

    -- what holds of an order by what the search found, and of the refusals before it, holds of the step
    pub order-by : (P : Outcome → Type 0)
        → (in_force cause s.train s.marks ≡ true
        → reserved q ≡ false
        → P (admitted s (ordered_at s q accepting cause) (seek q s.places)))
        → P (refused refusal.none_known s)
        → P (refused refusal.not_in_force s)
        → P (step s (Order p accepting cause))
    order-by P found unknown other =
        subst P (sym order-found)
        (cond-case P (in_force cause s.train s.marks) _ _
        (λ in-force. cond-case P (reserved q) _ _ (λ none. unknown) (found in-force))
        (λ none. other))

  -- "9, 5, 8"
  pub call-found : (p : Partner)
      → step s (Call p) ≡ cond (is_rbc p) (admitted s (called_at s p) (seek p s.places)) (refused refusal.call_from_riu s)
  unfolding step
  call-found p = ap (λ o. cond (is_rbc p) o (refused refusal.call_from_riu s)) (admitted-found p (called_at s p))

  pub call_by : (p : Partner) (P : Outcome → Type 0)
      → (is_rbc p ≡ true → P (admitted s (called_at s p) (seek p s.places)))
      → P (refused refusal.call_from_riu s)
      → P (step s (Call p))
  call_by p P found other = subst P (sym (call-found p)) (cond-case P (is_rbc p) _ _ found (λ riu. other))

  -- "6, 7"
  pub named-found : (p : Partner) (e : PartnerEvent) → step s (Named p e) ≡ named_at s p e (seek p s.places)
  unfolding step seek
  named-found p e = by (some (holds p) s.places) (some is_free s.places) _ _
    where
      by : (held free : Bool) (i j : ℕ)
          → cond held
          (cond (takes (turn s.limits (held_phase (get_or s.places i vacant)) e))
          (turned_at s i p (turn s.limits (held_phase (get_or s.places i vacant)) e))
          (refused_at refusal.not_taken (standing (answers held free i (held_phase (get_or s.places i vacant)) j)) s))
          (refused_at refusal.has_none nowhere s)
          ≡ named_at s p e (answers held free i (held_phase (get_or s.places i vacant)) j)
      by true free i j = refl
      by false true i j = refl
      by false false i j = refl
