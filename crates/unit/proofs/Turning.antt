-- A turn of a place, as the code hands it on, is the step's.
-- Proves: turn-given, turned_set, turned-refused.
use mathlib.Core.Path.{◌≡◌, refl, sym, ap, ◌∙◌}
use mathlib.Core.Bool.{true, false}
use mathlib.Core.List.{◌++◌, map}
use Prim.Native.Nat.{ℕ}
use lib.ListN.{get_or}
use Rattle.record.specs.declared.partner.Partner.{Partner}
use Rattle.record.specs.declared.event.PartnerEvent.{PartnerEvent}
use Rattle.wire.specs.Refusals.{not_taken}
use Rattle.wire.proofs.Tests.{cond-holds, All}
use Rattle.place.specs.Places.{vacant, held_phase, tries}
use Rattle.place.specs.Table.{again, one_more, table, turn, numbers, place_after, turned_to}
use Rattle.place.proofs.ByRow.{by_row, judged-case}
use Rattle.place.specs.declared.phase.Phase.{Phase}
use Rattle.place.specs.declared.phase.Phase.TheVariants.{Connecting, Contacting, Open, Lost, Ending}
use Rattle.place.specs.declared.place.Place.{Place}
use Rattle.place.specs.declared.limits.Limits.{Limits}
use Rattle.place.specs.declared.turn.Turn.{Turn}
use Rattle.place.specs.declared.turn.Turn.TheVariants.{Released, Sends}
use Rattle.place.specs.declared.turn.Turned.{Turned}
use Rattle.unit.specs.States.{standing}
use Rattle.unit.specs.Steps.{Outcome, act, refused_at, set_at}
use Rattle.unit.specs.Searching.{turned}
use Rattle.unit.specs.Changes.{given}
use Rattle.unit.specs.declared.state.State.{State}
use Rattle.unit.specs.declared.search.Found.TheVariants.{At}
use Rattle.unit.proofs.Rules.{turned-is}
use lib.Dec.{ltb}

-- the numbers of a turn are those that its first and second give: none of them is 0
Given : Turn → Type 0
Given t = given (get_or (numbers t) 0 0) ++ given (get_or (numbers t) 1 0) ≡ numbers t

row-given : (l : Limits) (ph : Phase) (v : ℕ) → All Given (table l v ph)
unfolding Given given
row-given l ph v = by ph
  where
    more : (number : ℕ) (q : Phase)
        → Given (Sends number (one_more q))
        → Given (again l number q)
    more number q sends = cond-holds Given (ltb (tries q) l.tries) (Sends number (one_more q)) Released sends refl

    by : (q : Phase) → All Given (table l v q)
    by (Connecting t) = (refl, (refl, (refl, (more 21 (Connecting t) refl, (refl, (refl, tt))))))
    by (Contacting t) = (refl, (refl, (refl, (more 155 (Contacting t) refl, (judged-case Given l v refl refl, (refl, tt))))))
    by Open = (refl, (refl, (refl, (refl, (refl, (refl, tt))))))
    by (Lost t) = (refl, (refl, (refl, (more 21 (Lost t) refl, (refl, (refl, tt))))))
    by (Ending t) = (refl, (refl, (refl, (more 156 (Ending t) refl, (refl, (refl, tt))))))

pub turn-given : (l : Limits) (ph : Phase) (e : PartnerEvent)
    → given (get_or (numbers (turn l ph e)) 0 0) ++ given (get_or (numbers (turn l ph e)) 1 0) ≡ numbers (turn l ph e)
unfolding Given given
turn-given l = by_row (λ ph. Given) l (row-given l) (λ ph. refl)

module _ (s : State) (at : ℕ) (ph : Phase) (p : Partner) (e : PartnerEvent) (place : Place) (r : Turned)
    (found : place ≡ get_or s.places at vacant)
    (in-phase : held_phase (get_or s.places at vacant) ≡ ph)
    (turning : r ≡ turned_to place (turn s.limits (held_phase place) e)) where
  t : Turn
  t = turn s.limits ph e

  is : r ≡ turned_to (get_or s.places at vacant) t
  unfolding t
  is =
      turning
      ∙ ap (λ q. turned_to q (turn s.limits (held_phase q) e)) found
      ∙ ap (λ q. turned_to (get_or s.places at vacant) (turn s.limits q e)) in-phase

  pub turned_set : r.taken ≡ true → (o : Outcome)
      → o ≡ set_at s at r.place (map (act p) (given r.first ++ given r.second))
      → o ≡ turned s at ph p (turn s.limits ph e)
  unfolding turned_to t
  turned_set taken o set =
      set
      ∙ ap (λ x. set_at s at x.place (map (act p) (given x.first ++ given x.second))) is
      ∙ ap (λ ks. set_at s at (place_after (get_or s.places at vacant) t) (map (act p) ks)) (turn-given s.limits ph e)
      ∙ sym (turned-is s at ph p t true (sym (ap (λ x. x.taken) is) ∙ taken))

  pub turned-refused : r.taken ≡ false → (o : Outcome)
      → o ≡ refused_at not_taken (standing (At at ph)) s
      → o ≡ turned s at ph p (turn s.limits ph e)
  unfolding turned_to t
  turned-refused taken o refusing = refusing ∙ sym (turned-is s at ph p t false (sym (ap (λ x. x.taken) is) ∙ taken))
