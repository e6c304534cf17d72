-- What a step sends to partners that are Connecting, for crates that stand on it without its definition.
-- Defines: Quiet.
-- Proves: step-quiet, on_record-quiet, connecting-quiet.
use mathlib.Core.Path.{◌≡◌, refl, sym, ap, subst, ◌∙◌}
use mathlib.Core.Bool.{Bool, true, false, cond, ◌&&◌, not}
use mathlib.Core.List.{List, [], ◌∷◌, map}
use Prim.Native.Nat.{ℕ, ◌≤◌, ◌<◌}
use native.Mathlib.Omega.{arith}
use lib.Dec.{eqb}
use lib.ListN.{length, get_or, set}
use Rattle.record.specs.Partners.{same_partner}
use Rattle.record.specs.Records.{reading}
use borrow.Table.Steps.{cases}
use Rattle.record.specs.declared.partner.Partner.{Partner}
use Rattle.record.specs.declared.event.PartnerEvent.{PartnerEvent}
use Rattle.record.specs.declared.event.PartnerEvent.TheVariants.{Drop, Up, Loss, Timeout, Version, Ended}
use Rattle.record.specs.declared.event.Event.{Event}
use Rattle.wire.proofs.Tests.{cond-holds, true-false}
use Rattle.record.proofs.Partners.{same-eq, same_refl}
use Rattle.place.specs.Places.{vacant, holds, seat}
use Rattle.place.proofs.Holdings.{holds_in, holding_turn, holding_closed_by}
use Rattle.place.specs.Table.{request, release, established, closing, closes, turn, numbers}
use Rattle.place.specs.declared.phase.Phase.{Phase}
use Rattle.place.specs.declared.phase.Phase.TheVariants.{Connecting, Contacting, Open, Lost, Ending}
use Rattle.place.specs.declared.place.Direction.{Direction}
use Rattle.place.specs.declared.place.Holding.{Holding}
use Rattle.place.specs.declared.place.Holding.TheVariants.{Free, Held}
use Rattle.place.specs.declared.limits.Limits.{Limits}
use Rattle.place.specs.declared.turn.Turn.TheVariants.{Stays}
use Rattle.place.specs.declared.turn.Closing.{Closing}
use Rattle.place.specs.declared.turn.Closing.TheVariants.{Every}
use Rattle.unit.specs.States.{seek, sound}
use Rattle.unit.specs.Steps.{Outcome, act, actions_in, closing_actions, step}
use Rattle.unit.specs.Concerns.{stirring, stirs, other_for, is_connecting, held_past, place_past}
use Rattle.unit.specs.Standings.{Concern, concern, concern_of}
use Rattle.unit.specs.Kept.{count, here}
use Rattle.wire.specs.Bytes.{as_bit}
use Rattle.wire.specs.Sums.{sum}
use Rattle.unit.specs.OnRecords.{on_record}
use Rattle.unit.specs.declared.state.State.{State}
use Rattle.unit.specs.declared.search.Found.TheVariants.{Vacant}
use Rattle.unit.proofs.Shapes.{Shape, refuses, notes, closes_every, orders, calls, turns, shape, by-concern}
use Rattle.unit.proofs.Weights.{weigh-at, weigh-less, weigh-set}
use Rattle.unit.proofs.Counts.{passing, count-append, count-sent, closing_actions-most}
use Rattle.unit.proofs.Searches.{found_ok}
use Rattle.unit.proofs.Facts.{sound-facts}

-- a step that stirs none of these partners sends them nothing but releases
abbrev pub Quiet : (Partner → Bool) → Concern → Outcome → Type 0
Quiet mine c o = stirs mine c ≡ false → count (other_for mine) o.actions ≡ 0

-- all numbers but the release
abbrev other : ℕ → Bool
other number = not (eqb number release)

-- a closing of a Connecting place sends a release, and so does an event that does not stir
closing-quiet : (ph : Phase) → passing other (numbers (closing ph)) ≤ as_bit (not (is_connecting ph))
closing-quiet (Connecting t) = omega arith
closing-quiet (Contacting t) = omega arith
closing-quiet Open = omega arith
closing-quiet (Lost t) = omega arith
closing-quiet (Ending t) = omega arith

turn-quiet : (l : Limits) (t : ℕ) (e : PartnerEvent)
    → stirring e ≡ false
    → passing other (numbers (turn l (Connecting t) e)) ≡ 0
unfolding turn
turn-quiet l t Drop calm = refl
turn-quiet l t Up calm = true-false true refl calm
turn-quiet l t Loss calm = refl
turn-quiet l t Timeout calm = true-false true refl calm
turn-quiet l t (Version v) calm = refl
turn-quiet l t Ended calm = refl

-- each of these partners has a place, and all their places are Connecting
module _ (s : State) (mine : Partner → Bool)
    (held : (p : Partner) → mine p ≡ true → 1 ≤ sum (here (holds p)) s.places)
    (connecting : sum (here (place_past mine)) s.places ≡ 0) where
  closed_by-quiet : (which : Closing) (k : Holding)
      → count (other_for mine) (actions_in k (holding_closed_by which k)) ≤ as_bit (held_past mine k)
  unfolding count
  closed_by-quiet which Free = omega arith
  closed_by-quiet which (Held d ph p) =
      let most = as_bit (mine p && not (is_connecting ph)) in
      cond-holds (λ t. count (other_for mine) (map (act p) (numbers t)) ≤ most) (closes which ph p) (closing ph) Stays
      (rw (count-sent mine other p (numbers (closing ph))) (by (mine p)))
      (omega arith)
    where
      by : (b : Bool) → cond b (passing other (numbers (closing ph))) 0 ≤ as_bit (b && not (is_connecting ph))
      by true = closing-quiet ph
      by false = omega arith

  closing_actions-quiet : (which : Closing) → count (other_for mine) (closing_actions which s.places) ≡ 0
  closing_actions-quiet which =
      let few =
      closing_actions-most (other_for mine) (here (place_past mine)) which (λ place. closed_by-quiet which place.holding)
      s.places in
      omega arith

  -- a partner that has no place is none of them
  none-of-them : (p : Partner) → sum (here (holds p)) s.places ≡ 0 → mine p ≡ false
  none-of-them p absent = cases (mine p) (λ is. absurd (omega (arith, held p is))) (λ none. none)

  -- so it is sent nothing that counts
  newcomer-quiet : (p : Partner) (i k : ℕ) → seek p s.places ≡ Vacant i → count (other_for mine) (act p k ∷ []) ≡ 0
  newcomer-quiet p i k found =
      let none = none-of-them p (found_ok p s.places (Vacant i) found).2 in
      count-sent mine other p (k ∷ []) ∙ ap (λ b. cond b (passing other (k ∷ [])) 0) none

  -- a place of theirs is Connecting
  held-quiet : (p : Partner) (e : PartnerEvent) (k : Holding)
      → holds_in p k ≡ true
      → as_bit (held_past mine k) ≡ 0
      → (mine p && stirring e) ≡ false
      → count (other_for mine) (map (act p) (numbers (holding_turn s.limits k e))) ≡ 0
  held-quiet p e Free holding past calm = true-false false holding refl
  held-quiet p e (Held d ph q) holding past calm =
      count-sent mine other p (numbers (turn s.limits ph e))
      ∙ by ph (mine p) (subst (λ r. as_bit (mine r && not (is_connecting ph)) ≡ 0) (sym (same-eq p q holding)) past) calm
    where
      by : (ph : Phase) (b : Bool)
          → as_bit (b && not (is_connecting ph)) ≡ 0
          → (b && stirring e) ≡ false
          → cond b (passing other (numbers (turn s.limits ph e))) 0 ≡ 0
      by (Connecting t) true past calm = turn-quiet s.limits t e calm
      by (Contacting t) true past calm = absurd (omega arith)
      by Open true past calm = absurd (omega arith)
      by (Lost t) true past calm = absurd (omega arith)
      by (Ending t) true past calm = absurd (omega arith)
      by ph false past calm = refl

  quiet : {e : Event} {c : Concern} {o : Outcome} → Shape s e c o → Quiet mine c o
  unfolding count
  quiet (refuses r may said) calm = refl
  quiet (notes t m within) calm = refl
  quiet (closes_every t within) calm = closing_actions-quiet Every
  quiet (orders p which m i within ok found) calm =
      let closings = closing_actions-quiet which in
      let last = newcomer-quiet p i request found in
      let joined = count-append (other_for mine) (closing_actions which s.places) (act p request ∷ []) in
      omega arith
  quiet (calls p i ok rbc found) calm = newcomer-quiet p i established found
  quiet (turns p event i ok found taken) calm =
      let at = found_ok p s.places _ found in
      let one = weigh-at (here (place_past mine)) s.places i at.0 in
      held-quiet p event (get_or s.places i vacant).holding at.1 (omega arith) calm

  -- no up, lost or timeout for them: nothing but a 22
  pub step-quiet : (e : Event) → Quiet mine (concern s.last e) (step s e)
  step-quiet e = quiet (shape s e)

  pub on_record-quiet : (bytes : List ℕ) (room : ℕ) → Quiet mine (concern_of s.last (reading bytes)) (on_record s bytes room)
  unfolding count
  on_record-quiet bytes room = by-concern s (Quiet mine) bytes room (λ c r may calm. refl) step-quiet

-- one partner of a sound state that is Connecting
module _ (s : State) (good : sound s ≡ true) (p : Partner) (i : ℕ) (d : Direction) (t : ℕ)
    (below : i < length s.places)
    (place : get_or s.places i vacant ≡ seat d (Connecting t) p) where
  -- has that place
  own-place : here (holds p) (get_or s.places i vacant) ≡ 1
  own-place = ap (here (holds p)) place ∙ ap as_bit (same_refl p)

  has-place : (q : Partner) → same_partner p q ≡ true → 1 ≤ sum (here (holds q)) s.places
  has-place q same =
      let one = own-place in
      let at = weigh-at (here (holds p)) s.places i below in
      rw (← same-eq p q same) (omega arith)

  -- and no other
  no_other : sum (here (place_past (same_partner p))) s.places ≡ 0
  no_other =
      let mine = same_partner p in
      let one = (sound-facts s good).places.1 p in
      let own = own-place in
      let past : here (place_past mine) (get_or s.places i vacant) ≡ 0 =
      ap (here (place_past mine)) place ∙ ap (λ b. as_bit (b && false)) (same_refl p) in
      let without = set s.places i vacant in
      let held = weigh-set (here (holds p)) s.places i vacant below in
      let other = weigh-set (here (place_past mine)) s.places i vacant below in
      let less = weigh-less (here (place_past mine)) (here (holds p)) (λ x. by x.holding) without in
      omega arith
    where
      by-test : (b c : Bool) → as_bit (b && c) ≤ as_bit b
      by-test true true = omega arith
      by-test true false = omega arith
      by-test false c = omega arith

      by : (k : Holding) → as_bit (held_past (same_partner p) k) ≤ as_bit (holds_in p k)
      by Free = omega arith
      by (Held e ph q) = by-test (same_partner p q) (not (is_connecting ph))

  -- an event that is no up, lost or timeout for it sends it nothing but a 22
  pub connecting-quiet : (e : Event) → Quiet (same_partner p) (concern s.last e) (step s e)
  connecting-quiet = step-quiet s (same_partner p) has-place no_other
