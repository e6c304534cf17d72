-- Each kind of step by what the code's tests and search showed, and the array of actions against the list.
-- Proves: hole-is, mission-is, order_is, call-is, named-is, turned-is, push-listed, send-listed, push-append.
use mathlib.Core.Path.{◌≡◌, refl, sym, ap, ap₂, ◌∙◌}
use mathlib.Core.Bool.{Bool, cond}
use mathlib.Core.List.{List, [], ◌∷◌, ◌++◌, map, append-nil, append_assoc}
use Prim.Native.Nat.{ℕ, ◌+◌, ◌≤◌, ◌<◌}
use native.Mathlib.Omega.{arith}
use lib.Dec.{eqb}
use lib.ListN.{length, length-append}
use borrow.Author.Tests.{lt-ltb}
use Rattle.record.specs.Partners.{is_rbc, reserved}
use Rattle.record.specs.Records.{mission_ended}
use Rattle.wire.specs.Refusals as refusal
use Rattle.record.specs.declared.partner.Partner.{Partner}
use Rattle.record.specs.declared.event.Cause.{Cause}
use Rattle.record.specs.declared.event.PartnerEvent.{PartnerEvent}
use Rattle.record.specs.declared.event.Event.TheVariants.{Mission, Hole, Order, Call, Named}
use Rattle.wire.proofs.Padded.{padded-push}
use Rattle.place.specs.Table.{takes}
use Rattle.place.specs.declared.phase.Phase.{Phase}
use Rattle.place.specs.declared.turn.Turn.{Turn}
use Rattle.place.specs.declared.turn.Closing.TheVariants.{Every}
use Rattle.unit.specs.Lasts.{meant}
use Rattle.unit.specs.States.{seek, standing}
use Rattle.unit.specs.Steps.{refused_at, refused, done, act, with_marks, with_mission, mark_hole, hole_taken, in_force}
use Rattle.unit.specs.Steps.{close_places, ordered_at, called_at, turned_at, step}
use Rattle.unit.specs.Searching.{admitted, turned, named_at, ordered_to}
use Rattle.unit.specs.Forms.{most_actions, no_action, listed}
use Rattle.unit.specs.Changes.{pushed, push_all}
use Rattle.unit.specs.declared.state.State.{State}
use Rattle.unit.specs.declared.search.Found.{Found}
use Rattle.unit.specs.declared.search.Found.TheVariants.{At}
use Rattle.unit.specs.declared.answer.Action.{Action}
use Rattle.unit.specs.declared.answer.Actions.{Actions}
use Rattle.unit.proofs.ByFound.{order-found, call-found, named-found}

module _ (s : State) where
  pub hole-is : (entered b : Bool)
      → hole_taken s.marks entered ≡ b
      → step s (Hole entered) ≡ cond b (done (with_marks s (mark_hole s.marks entered)) []) (refused refusal.not_taken s)
  unfolding step
  hole-is entered b test =
      ap (λ t. cond t (done (with_marks s (mark_hole s.marks entered)) []) (refused refusal.not_taken s)) test

  pub mission-is : (mission : ℕ) (b : Bool)
      → eqb mission mission_ended ≡ b
      → step s (Mission mission) ≡ cond b (close_places Every (with_mission s mission)) (done (with_mission s mission) [])
  unfolding step
  mission-is mission b test =
      ap (λ t. cond t (close_places Every (with_mission s mission)) (done (with_mission s mission) [])) test

  pub order_is : (p q : Partner) (accepting : Bool) (cause : Cause) (b : Bool)
      → in_force cause s.train s.marks ≡ b
      → meant s.last p ≡ q
      → step s (Order p accepting cause) ≡ cond b (ordered_to s q accepting cause) (refused refusal.not_in_force s)
  order_is p q accepting cause b test whom =
      order-found s p accepting cause
      ∙ ap₂ (λ t r. cond t (ordered_to s r accepting cause) (refused refusal.not_in_force s)) test whom

  pub ordered-is : (p : Partner) (accepting : Bool) (cause : Cause) (b : Bool) (found : Found)
      → reserved p ≡ b
      → seek p s.places ≡ found
      → ordered_to s p accepting cause ≡ cond b (refused refusal.none_known s) (admitted s (ordered_at s p accepting cause) found)
  ordered-is p accepting cause b found test search =
      ap₂ (λ t f. cond t (refused refusal.none_known s) (admitted s (ordered_at s p accepting cause) f)) test search

  pub call-is : (p : Partner) (b : Bool) (found : Found)
      → is_rbc p ≡ b
      → seek p s.places ≡ found
      → step s (Call p) ≡ cond b (admitted s (called_at s p) found) (refused refusal.call_from_riu s)
  call-is p b found test search =
      call-found s p
      ∙ ap₂ (λ t f. cond t (admitted s (called_at s p) f) (refused refusal.call_from_riu s)) test search

  pub named-is : (p : Partner) (e : PartnerEvent) (found : Found)
      → seek p s.places ≡ found
      → step s (Named p e) ≡ named_at s p e found
  named-is p e found search = named-found s p e ∙ ap (named_at s p e) search

  pub turned-is : (i : ℕ) (ph : Phase) (p : Partner) (t : Turn) (b : Bool)
      → takes t ≡ b
      → turned s i ph p t ≡ cond b (turned_at s i p t) (refused_at refusal.not_taken (standing (At i ph)) s)
  turned-is i ph p t b test = ap (λ u. cond u (turned_at s i p t) (refused_at refusal.not_taken (standing (At i ph)) s)) test

-- an action pushed where there is room stands last in the list
pub push-listed : (acts : List Action) (p : Partner) (number : ℕ)
    → length acts < most_actions
    → pushed (listed acts) p number ≡ listed (acts ++ (act p number ∷ []))
unfolding pushed listed
push-listed acts p number room =
    simp (lt-ltb (length acts) most_actions room)
    (λ i.
    record {
      items = padded-push 3 no_action (act p number) acts room i;
      count = sym (length-append acts (act p number ∷ [])) i;
    })

-- so do the actions of one partner
pub send-listed : (acts : List Action) (p : Partner) (ks : List ℕ)
    → length acts + length ks ≤ most_actions
    → push_all (listed acts) p ks ≡ listed (acts ++ map (act p) ks)
unfolding push_all
send-listed acts p [] room = ap listed (sym (append-nil acts))
send-listed acts p (k ∷ ks) room =
    ap (λ x. push_all x p ks) (push-listed acts p k (omega arith))
    ∙ send-listed (acts ++ (act p k ∷ [])) p ks (simp length-append (omega arith))
    ∙ ap listed (append_assoc acts (act p k ∷ []) (map (act p) ks))

-- numbers pushed one after the other
pub push-append : (a : Actions) (p : Partner) (xs ys : List ℕ) → push_all (push_all a p xs) p ys ≡ push_all a p (xs ++ ys)
unfolding push_all
push-append a p [] ys = refl
push-append a p (x ∷ xs) ys = push-append (pushed a p x) p xs ys
