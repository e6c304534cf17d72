-- The table's entries as the code takes them: by number, and by what its tests showed; and so what is in its range.
-- Proves: chosen_none, chosen_at, turned_by, judged-by, again-more, again-last, closed_by-known, phase_ok-by, holding_ok-by.
use mathlib.Core.Path.{◌≡◌, refl, sym, ap, ap₂, ◌∙◌}
use mathlib.Core.Bool.{Bool, true, cond, ◌&&◌}
use Prim.Native.Nat.{ℕ, zero, suc, ◌+◌, ◌/◌, ◌≤◌, ◌<◌}
use native.Mathlib.Omega.{arith}
use lib.Dec.{leb}
use lib.ListN.{length, get_or-eq_default}
use borrow.Author.Tests.{lt-ltb, le-ltb}
use Rattle.record.specs.Partners.{named_ok}
use Rattle.record.specs.declared.partner.Partner.{Partner}
use Rattle.record.specs.declared.event.PartnerEvent.{PartnerEvent}
use Rattle.place.specs.Places.{tries, tries_ok, phase_ok, fits, held_phase}
use Rattle.place.specs.Table.{judged, with_tries, one_more, again, turn, version_of, established}
use Rattle.place.specs.Table.{incompatible, terminate, first_try, closing, closes, turned_to}
use Rattle.place.proofs.Holdings.{holding_ok, holding_closed_by}
use Rattle.place.specs.Cells.{legend, chosen_turn, Chooses, is_open}
use Rattle.place.specs.declared.phase.Phase.{Phase}
use Rattle.place.specs.declared.phase.Phase.TheVariants.{Connecting, Contacting, Open, Lost, Ending}
use Rattle.place.specs.declared.place.Direction.{Direction}
use Rattle.place.specs.declared.place.Holding.{Holding}
use Rattle.place.specs.declared.place.Holding.TheVariants.{Held}
use Rattle.place.specs.declared.place.Place.{Place}
use Rattle.place.specs.declared.limits.Limits.{Limits}
use Rattle.place.specs.declared.turn.Turn.{Turn}
use Rattle.place.specs.declared.turn.Turn.TheVariants.{Stays, Released, Sends, SendsBoth}
use Rattle.place.specs.declared.turn.Turned.{Turned}
use Rattle.place.specs.declared.turn.Closing.{Closing}

-- no number but 1 to 9 chooses another turn than "no"
pub chosen_none : (l : Limits) (v : ℕ) (ph : Phase) (choice : ℕ)
    → (1 ≤ choice → length (legend l v ph) ≤ choice)
    → chosen_turn l v ph choice ≡ Stays
chosen_none l v ph zero above = refl
chosen_none l v ph (suc choice) above = get_or-eq_default (legend l v ph) Stays (above (omega arith))

-- what a known number makes of a place in its phase
pub chosen_at : (place : Place) (l : Limits) (ph : Phase) (v choice number : ℕ) (t : Turn) (r : Turned)
    → choice ≡ number
    → t ≡ chosen_turn l v ph number
    → r ≡ turned_to place t
    → r ≡ turned_to place (chosen_turn l v ph choice)
chosen_at place l ph v choice number t r e is made = made ∙ ap (turned_to place) (is ∙ ap (chosen_turn l v ph) (sym e))

-- the chosen turn is the event's
pub turned_by : (l : Limits) (place : Place) (e : PartnerEvent) (ph : Phase) (v choice : ℕ) (r : Turned)
    → ph ≡ held_phase place
    → v ≡ version_of e
    → Chooses ph e choice
    → r ≡ turned_to place (chosen_turn l v ph choice)
    → r ≡ turned_to place (turn l (held_phase place) e)
turned_by l place e ph v choice r phase version chooses made =
    made ∙ ap (turned_to place) (ap (λ w. chosen_turn l w ph choice) version ∙ chooses l ∙ ap (λ q. turn l q e) phase)

pub judged-by : (l : Limits) (v x : ℕ) (b t : Bool)
    → x ≡ v / 16
    → b ≡ (leb l.lowest x && leb x l.highest)
    → b ≡ t
    → cond t (Sends established Open) (SendsBoth incompatible terminate (Ending first_try)) ≡ judged l v
judged-by l v x b t of-version test known =
    ap (λ u. cond u (Sends established Open) (SendsBoth incompatible terminate (Ending first_try)))
    (sym known ∙ test ∙ ap (λ y. leb l.lowest y && leb y l.highest) of-version)

module _ (l : Limits) (number : ℕ) (ph : Phase) (used : ℕ) (of-phase : used ≡ tries ph) where
  pub again-more : (q : Phase) → used < l.tries → q ≡ with_tries ph (used + 1) → Sends number q ≡ again l number ph
  again-more q below more =
      ap (Sends number) (more ∙ ap (λ t. with_tries ph (t + 1)) of-phase)
      ∙ sym (ap (λ b. cond b (Sends number (one_more ph)) Released) (lt-ltb (tries ph) l.tries (omega arith)))

  pub again-last : l.tries ≤ used → Released ≡ again l number ph
  again-last above = sym (ap (λ b. cond b (Sends number (one_more ph)) Released) (le-ltb (tries ph) l.tries (omega arith)))

-- a closing by what the test for it showed
pub closed_by-known : (which : Closing) (k : Holding) (d : Direction) (ph : Phase) (p : Partner) (b t : Bool)
    → k ≡ Held d ph p
    → b ≡ closes which ph p
    → b ≡ t
    → cond t (closing ph) Stays ≡ holding_closed_by which k
closed_by-known which k d ph p b t held test known =
    ap (λ u. cond u (closing ph) Stays) (sym known ∙ test) ∙ sym (ap (holding_closed_by which) held)

-- an open phase is in its range, another where its tries are
pub phase_ok-by : (l : Limits) (ph : Phase) (open-phase : Bool)
    → is_open ph ≡ open-phase
    → cond open-phase true (tries_ok l (tries ph)) ≡ phase_ok l ph
phase_ok-by l ph open-phase shown = ap (λ b. cond b true (tries_ok l (tries ph))) (sym shown) ∙ by ph
  where
    by : (ph : Phase) → cond (is_open ph) true (tries_ok l (tries ph)) ≡ phase_ok l ph
    by (Connecting t) = refl
    by (Contacting t) = refl
    by Open = refl
    by (Lost t) = refl
    by (Ending t) = refl

-- a held place is sound by itself where its partner may have one, its phase is in range and its direction fits
pub holding_ok-by : (l : Limits) (k : Holding) (d : Direction) (ph : Phase) (p : Partner) (named ranged : Bool)
    → k ≡ Held d ph p
    → named_ok p ≡ named
    → phase_ok l ph ≡ ranged
    → (named && (ranged && fits d ph p)) ≡ holding_ok l k
holding_ok-by l k d ph p named ranged held asked tested =
    ap₂ (λ a b. a && (b && fits d ph p)) (sym asked) (sym tested) ∙ sym (ap (holding_ok l) held)
