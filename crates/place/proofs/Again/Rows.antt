-- Cross-checks only: rules told a second time.
-- The phase table of document 01 in numbers, row by row: what each event makes of each phase; and whom an order's closing is for.
-- Proves: connecting-turns, contacting-turns, open-turns, lost-turns, ending-turns, released-sends, place_after-turns, closed_by-every,
-- closed_by-sessions, sessions-means.
use mathlib.Core.Path.{◌≡◌, refl, sym, ap}
use mathlib.Core.Logic.{◌↔◌, ◌⊎◌, inl, inr, ⊎_elim}
use mathlib.Core.Bool.{Bool, true, false, cond, true≢false}
use mathlib.Core.List.{[], ◌∷◌}
use Prim.Native.Nat.{ℕ, ◌+◌, ◌/◌, ◌≤◌, ◌<◌}
use native.Mathlib.Omega.{arith}
use lib.Dec.{leb}
use borrow.Author.Tests.{eqb-true, eq-eqb, leb-true, le-leb, lt-ltb, le-ltb}
use Rattle.wire.proofs.Tests.{and_left, and_right, and_both}
use Rattle.record.specs.Partners.{is_rbc}
use Rattle.record.specs.declared.partner.Partner.{Partner}
use Rattle.record.specs.declared.event.PartnerEvent.TheVariants.{Drop, Up, Loss, Timeout, Version, Ended}
use Rattle.place.specs.Places.{phase_number, vacant, seat}
use Rattle.place.specs.Table.{turn, numbers, place_after, closing, in_session, closes, closed_by}
use Rattle.place.specs.declared.phase.Phase.{Phase}
use Rattle.place.specs.declared.phase.Phase.TheVariants.{Connecting, Contacting, Open, Lost, Ending}
use Rattle.place.specs.declared.limits.Limits.{Limits}
use Rattle.place.specs.declared.turn.Turn.TheVariants.{Stays, Released, Becomes, Sends, SendsBoth}
use Rattle.place.specs.declared.place.Direction.{Direction}
use Rattle.place.specs.declared.turn.Closing.TheVariants.{Every, Sessions, Nothing}

-- a release sends 22
-- promise
pub released-sends : numbers Released ≡ 22 ∷ []
released-sends = refl

module _ (l : Limits) (t v : ℕ) where
  -- "Connecting"
  -- promise
  pub connecting-turns :
      (turn l (Connecting t) Drop ≡ Released)
      × (turn l (Connecting t) Up ≡ Sends 155 (Contacting 1))
      × (turn l (Connecting t) Loss ≡ Stays)
      × (t < l.tries → turn l (Connecting t) Timeout ≡ Sends 21 (Connecting (t + 1)))
      × (l.tries ≤ t → turn l (Connecting t) Timeout ≡ Released)
      × (turn l (Connecting t) (Version v) ≡ Stays)
      × (turn l (Connecting t) Ended ≡ Stays)
  unfolding turn
  connecting-turns = (
    refl,
    refl,
    refl,
    (λ less. simp (lt-ltb t l.tries less)),
    (λ enough. simp (le-ltb t l.tries enough)),
    refl,
    refl,
  )

  -- "Contacting"
  -- promise
  pub contacting-turns :
      (turn l (Contacting t) Drop ≡ Released)
      × (turn l (Contacting t) Up ≡ Stays)
      × (turn l (Contacting t) Loss ≡ Released)
      × (t < l.tries → turn l (Contacting t) Timeout ≡ Sends 155 (Contacting (t + 1)))
      × (l.tries ≤ t → turn l (Contacting t) Timeout ≡ Released)
      × ((l.lowest ≤ v / 16) × (v / 16 ≤ l.highest) → turn l (Contacting t) (Version v) ≡ Sends 159 Open)
      × (((l.lowest ≤ v / 16) × (v / 16 ≤ l.highest) → ⊥)
      → turn l (Contacting t) (Version v) ≡ SendsBoth 154 156 (Ending 1))
      × (turn l (Contacting t) Ended ≡ Stays)
  unfolding turn
  contacting-turns = (
    refl,
    refl,
    refl,
    (λ less. simp (lt-ltb t l.tries less)),
    (λ enough. simp (le-ltb t l.tries enough)),
    supports,
    (refuses (leb l.lowest (v / 16)) (leb (v / 16) l.highest) refl refl),
    refl,
  )
    where
      supports : (l.lowest ≤ v / 16) × (v / 16 ≤ l.highest) → turn l (Contacting t) (Version v) ≡ Sends 159 Open
      supports h = simp (le-leb l.lowest (v / 16) h.0, le-leb (v / 16) l.highest h.1)

      refuses : (a b : Bool)
          → leb l.lowest (v / 16) ≡ a
          → leb (v / 16) l.highest ≡ b
          → ((l.lowest ≤ v / 16) × (v / 16 ≤ l.highest) → ⊥)
          → turn l (Contacting t) (Version v) ≡ SendsBoth 154 156 (Ending 1)
      refuses true true low high none = absurd (none (leb-true l.lowest (v / 16) low, leb-true (v / 16) l.highest high))
      refuses true false low high none = simp (low, high)
      refuses false b low high none = simp low

  -- "Open"
  -- promise
  pub open-turns :
      (turn l Open Drop ≡ Sends 156 (Ending 1))
      × (turn l Open Up ≡ Stays)
      × (turn l Open Loss ≡ Sends 21 (Lost 1))
      × (turn l Open Timeout ≡ Stays)
      × (turn l Open (Version v) ≡ Stays)
      × (turn l Open Ended ≡ Stays)
  unfolding turn
  open-turns = (refl, refl, refl, refl, refl, refl)

  -- "Lost"
  -- promise
  pub lost-turns :
      (turn l (Lost t) Drop ≡ Released)
      × (turn l (Lost t) Up ≡ Becomes Open)
      × (turn l (Lost t) Loss ≡ Stays)
      × (t < l.tries → turn l (Lost t) Timeout ≡ Sends 21 (Lost (t + 1)))
      × (l.tries ≤ t → turn l (Lost t) Timeout ≡ Released)
      × (turn l (Lost t) (Version v) ≡ Stays)
      × (turn l (Lost t) Ended ≡ Stays)
  unfolding turn
  lost-turns = (refl, refl, refl, (λ less. simp (lt-ltb t l.tries less)), (λ enough. simp (le-ltb t l.tries enough)), refl, refl)

  -- "Ending"
  -- promise
  pub ending-turns :
      (turn l (Ending t) Drop ≡ Stays)
      × (turn l (Ending t) Up ≡ Stays)
      × (turn l (Ending t) Loss ≡ Released)
      × (t < l.tries → turn l (Ending t) Timeout ≡ Sends 156 (Ending (t + 1)))
      × (l.tries ≤ t → turn l (Ending t) Timeout ≡ Released)
      × (turn l (Ending t) (Version v) ≡ Stays)
      × (turn l (Ending t) Ended ≡ Released)
  unfolding turn
  ending-turns = (refl, refl, refl, (λ less. simp (lt-ltb t l.tries less)), (λ enough. simp (le-ltb t l.tries enough)), refl, refl)

module _ (d : Direction) (p : Partner) where
  -- what a place is after each turn: "Direction never changes while the place is held", and neither does its partner
  -- promise
  pub place_after-turns : (ph next : Phase) (first second : ℕ)
      → (place_after (seat d ph p) Stays ≡ seat d ph p)
      × (place_after (seat d ph p) Released ≡ vacant)
      × (place_after (seat d ph p) (Becomes next) ≡ seat d next p)
      × (place_after (seat d ph p) (Sends first next) ≡ seat d next p)
      × (place_after (seat d ph p) (SendsBoth first second next) ≡ seat d next p)
  place_after-turns ph next first second = (refl, refl, refl, refl, refl)

  -- "Connecting, Contacting or Lost gives 22 and frees it; Open gives 156 and becomes Ending, tries 1"; "not Ending"; a free place stays
  -- promise
  pub closed_by-every : (t : ℕ)
      → (closed_by Every (seat d (Connecting t) p) ≡ Released)
      × (closed_by Every (seat d (Contacting t) p) ≡ Released)
      × (closed_by Every (seat d Open p) ≡ Sends 156 (Ending 1))
      × (closed_by Every (seat d (Lost t) p) ≡ Released)
      × (closed_by Every (seat d (Ending t) p) ≡ Stays)
      × (closed_by Every vacant ≡ Stays)
  closed_by-every t = (refl, refl, refl, refl, refl, refl)

  -- "each RBC place in Open or Lost is closed ..; the other phases stay"; an RIU stays
  -- promise
  pub closed_by-sessions : (t : ℕ)
      → (is_rbc p ≡ true → closed_by Sessions (seat d Open p) ≡ Sends 156 (Ending 1))
      × (is_rbc p ≡ true → closed_by Sessions (seat d (Lost t) p) ≡ Released)
      × ((ph : Phase) → closes Sessions ph p ≡ false → closed_by Sessions (seat d ph p) ≡ Stays)
      × (closed_by Sessions vacant ≡ Stays)
      × ((ph : Phase) → closed_by Nothing (seat d ph p) ≡ Stays)
  closed_by-sessions t = (
    (λ rbc. simp rbc),
    (λ rbc. simp rbc),
    (λ ph other. ap (λ b. cond b (closing ph) Stays) other),
    refl,
    (λ ph. refl),
  )

-- "each RBC place in Open or Lost is closed": whom the closing of an order is for
-- promise
pub sessions-means : (ph : Phase) (p : Partner)
    → (closes Sessions ph p ≡ true)
    ↔ ((p.kind ≡ 0) × ((phase_number ph ≡ 3) ⊎ (phase_number ph ≡ 4)))
sessions-means ph p = (
  (λ h. (eqb-true p.kind 0 (and_left (is_rbc p) (in_session ph) h), there ph (and_right (is_rbc p) (in_session ph) h))),
  (λ h. and_both (is_rbc p) (in_session ph) (eq-eqb p.kind 0 h.0) (back ph h.1)),
)
  where
    there : (ph : Phase) → in_session ph ≡ true → (phase_number ph ≡ 3) ⊎ (phase_number ph ≡ 4)
    there (Connecting t) h = absurd (true≢false (sym h))
    there (Contacting t) h = absurd (true≢false (sym h))
    there Open h = inl refl
    there (Lost t) h = inr refl
    there (Ending t) h = absurd (true≢false (sym h))

    back : (ph : Phase) → (phase_number ph ≡ 3) ⊎ (phase_number ph ≡ 4) → in_session ph ≡ true
    back (Connecting t) h = absurd (⊎_elim (λ e. omega arith) (λ e. omega arith) h)
    back (Contacting t) h = absurd (⊎_elim (λ e. omega arith) (λ e. omega arith) h)
    back Open h = refl
    back (Lost t) h = refl
    back (Ending t) h = absurd (⊎_elim (λ e. omega arith) (λ e. omega arith) h)
