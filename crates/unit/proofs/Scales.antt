-- A scale: what a held place weighs by its phase, which actions count, and what an accepted event brings.
-- A balanced scale is one that every closing and every entry of the phase table keeps to; the partner plays no part in that.
-- Defines: Scale, sent, next, Turned, brings, Balanced, weight_in, weight_of, counted.
-- Proves: looked-at, place-account, held-account, closed_by-account, turns-by-row, again-turned.
use mathlib.Core.Path.{◌≡◌, refl, sym}
use mathlib.Core.Bool.{Bool, true, false, cond, ◌&&◌}
use mathlib.Core.List.{List, [], ◌∷◌, map}
use Prim.Native.Nat.{ℕ, ◌+◌, ◌≤◌, ◌<◌}
use native.Mathlib.Omega.{arith}
use lib.Dec.{ltb}
use lib.ListN.{get_or}
use borrow.Author.Tests.{ltb-true, ltb-false}
use Rattle.record.specs.declared.partner.Partner.{Partner}
use Rattle.record.specs.declared.event.PartnerEvent.{PartnerEvent}
use Rattle.wire.proofs.Tests.{cond-case, cond-holds, true-false}
use Rattle.record.proofs.Partners.{same-eq}
use Rattle.place.specs.Places.{tries, seat}
use Rattle.place.proofs.Holdings.{holds_in, holding_turn, holding_closed_by}
use Rattle.place.specs.Table.{request, established, first_try, table, column, closing, one_more, again, version_of}
use Rattle.place.specs.Table.{closes, numbers, turn, place_after, closed_by}
use Rattle.place.specs.declared.phase.Phase.{Phase}
use Rattle.place.specs.declared.phase.Phase.TheVariants.{Connecting, Open}
use Rattle.place.specs.declared.place.Direction.{Direction}
use Rattle.place.specs.declared.place.Holding.{Holding}
use Rattle.place.specs.declared.place.Holding.TheVariants.{Free, Held}
use Rattle.place.specs.declared.place.Place.{Place}
use Rattle.place.specs.declared.limits.Limits.{Limits}
use Rattle.place.specs.declared.turn.Turn.{Turn}
use Rattle.place.specs.declared.turn.Turn.TheVariants.{Stays, Released, Becomes, Sends, SendsBoth}
use Rattle.place.specs.declared.turn.Closing.{Closing}
use Rattle.unit.specs.Steps.{act, actions_in, closed, closing_actions}
use Rattle.unit.specs.Kept.{count}
use Rattle.wire.specs.Bytes.{as_bit}
use Rattle.wire.specs.Sums.{sum}
use Rattle.unit.specs.declared.answer.Action.{Action}
use Rattle.unit.proofs.Counts.{passing, nothing, count-append, count-sent}
use Rattle.unit.proofs.Rows.{Beside, beside_at}
use Rattle.unit.proofs.Balances.{Sense, Balance, level, joined}

pub record Scale : Type 0 where
  -- what a held place weighs
  pub weight : Phase → ℕ
  -- the actions that count, by their number
  pub counts : ℕ → Bool
  -- what an accepted order and an accepted call bring
  pub order : ℕ
  pub call : ℕ
  -- what each column of the phase table brings: drop, up, lost, timeout, 32, 39
  pub columns : List ℕ

-- how many of these numbers count
abbrev pub sent : Scale → List ℕ → ℕ
sent σ = passing σ.counts

-- what a place weighs after a turn
abbrev pub next : Scale → Phase → Turn → ℕ
next σ ph Stays = σ.weight ph
next σ ph Released = 0
next σ ph (Becomes q) = σ.weight q
next σ ph (Sends number q) = σ.weight q
next σ ph (SendsBoth first second q) = σ.weight q

-- the account of one turn, which was brought b
abbrev pub Turned : Sense → Scale → Phase → ℕ → Turn → Type 0
Turned m σ ph b t = Balance m (sent σ (numbers t) + next σ ph t) (σ.weight ph + b)

-- what an event that names the partner of a place brings
abbrev pub brings : Scale → PartnerEvent → ℕ
brings σ e = get_or σ.columns (column e) 0

-- the accounts of a taking in, of every closing and of every turn
pub record Balanced (m : Sense) (l : Limits) (σ : Scale) : Type 0 where
  pub ordered : Balance m (as_bit (σ.counts request) + σ.weight (Connecting first_try)) σ.order
  pub called : Balance m (as_bit (σ.counts established) + σ.weight Open) σ.call
  pub closings : (ph : Phase) → Turned m σ ph 0 (closing ph)
  pub turns : (ph : Phase) (e : PartnerEvent) → Turned m σ ph (brings σ e) (turn l ph e)

-- what counts where only some partners are looked at: their places and their actions
abbrev pub weight_in : Scale → (Partner → Bool) → Holding → ℕ
weight_in σ mine Free = 0
weight_in σ mine (Held d ph p) = cond (mine p) (σ.weight ph) 0

abbrev pub weight_of : Scale → (Partner → Bool) → Place → ℕ
weight_of σ mine place = weight_in σ mine place.holding

abbrev pub counted : Scale → (Partner → Bool) → Action → Bool
counted σ mine a = mine a.partner && σ.counts a.number

module _ (m : Sense) (σ : Scale) (mine : Partner → Bool) where
  -- a place weighs all or not at all
  weight-after : (d : Direction) (ph : Phase) (p : Partner) (t : Turn)
      → weight_of σ mine (place_after (seat d ph p) t) ≡ cond (mine p) (next σ ph t) 0
  weight-after d ph p Stays = refl
  weight-after d ph p Released = sym (nothing (mine p))
  weight-after d ph p (Becomes q) = refl
  weight-after d ph p (Sends number q) = refl
  weight-after d ph p (SendsBoth first second q) = refl

  -- an account of a partner that is not looked at is empty
  pub looked-at : (b : Bool) (k new old c : ℕ)
      → Balance m (k + new) (old + c)
      → Balance m (cond b k 0 + cond b new 0) (cond b old 0 + cond b c 0)
  looked-at true k new old c h = h
  looked-at false k new old c h = level m (0 + 0) (0 + 0) refl

  -- the account of a turn of a place
  pub place-account : (d : Direction) (ph : Phase) (p : Partner) (b : ℕ) (t : Turn)
      → Turned m σ ph b t
      → Balance m (count (counted σ mine) (map (act p) (numbers t)) + weight_of σ mine (place_after (seat d ph p) t))
      (weight_of σ mine (seat d ph p) + cond (mine p) b 0)
  place-account d ph p b t h =
      rw (count-sent mine σ.counts p (numbers t), weight-after d ph p t)
      (looked-at (mine p) (sent σ (numbers t)) (next σ ph t) (σ.weight ph) b h)

  module _ (l : Limits) (balanced : Balanced m l σ) where
    -- of an event that names the partner of a place
    pub held-account : (p : Partner) (e : PartnerEvent) (k : Holding)
        → holds_in p k ≡ true
        → Balance m
        (count (counted σ mine) (map (act p) (numbers (holding_turn l k e)))
        + weight_of σ mine (place_after (record { holding = k }) (holding_turn l k e)))
        (weight_in σ mine k + cond (mine p) (brings σ e) 0)
    held-account p e Free h = true-false false h refl
    held-account p e (Held d ph q) h =
        rw (same-eq p q h) (place-account d ph q (brings σ e) (turn l ph e) (balanced.turns ph e))

    -- of the closing of a place
    closed_by-place : (which : Closing) (k : Holding)
        → Balance m
        (count (counted σ mine) (actions_in k (holding_closed_by which k))
        + weight_of σ mine (place_after (record { holding = k }) (holding_closed_by which k)))
        (weight_in σ mine k + 0)
    unfolding count
    closed_by-place which Free = level m (0 + 0) (0 + 0) refl
    closed_by-place which (Held d ph p) =
        let whole = weight_of σ mine (seat d ph p) in
        let after : Turn → ℕ = λ t. weight_of σ mine (place_after (seat d ph p) t) in
        cond-holds (λ t. Balance m (count (counted σ mine) (map (act p) (numbers t)) + after t) (whole + 0)) (closes which ph p)
        (closing ph)
        Stays
        (rw (nothing (mine p)) at (place-account d ph p 0 (closing ph) (balanced.closings ph)))
        (level m (0 + whole) (whole + 0) (omega arith))

    -- and of all that are due
    pub closed_by-account : (which : Closing) (ps : List Place)
        → Balance m (count (counted σ mine) (closing_actions which ps) + sum (weight_of σ mine) (closed which ps))
        (sum (weight_of σ mine) ps + 0)
    unfolding count closed closing_actions sum
    closed_by-account which [] = level m (0 + 0) (0 + 0) refl
    closed_by-account which (p ∷ ps) =
        rw (count-append (counted σ mine) (actions_in p.holding (closed_by which p)) (closing_actions which ps))
        (joined m _ _ _ _ _ _ 0 0 (closed_by-place which p.holding) (closed_by-account which ps))

module _ (m : Sense) (l : Limits) (σ : Scale) where
  -- a law of every turn is one of every entry of every row, beside what its column brings
  pub turns-by-row : ((ph : Phase) (v : ℕ) → Beside (λ t b. Turned m σ ph b t) (table l v ph) σ.columns)
      → (ph : Phase) (e : PartnerEvent)
      → Turned m σ ph (brings σ e) (turn l ph e)
  unfolding turn
  turns-by-row row ph e =
      beside_at (λ t b. Turned m σ ph b t) (table l (version_of e) ph) σ.columns Stays (row ph (version_of e))
      (level m (0 + σ.weight ph) (σ.weight ph + 0) (omega arith))
      (column e)

  -- a timeout with a try left, and one with none
  pub again-turned : (number : ℕ) (ph : Phase) (b : ℕ)
      → (tries ph < l.tries → Turned m σ ph b (Sends number (one_more ph)))
      → (l.tries ≤ tries ph → Turned m σ ph b Released)
      → Turned m σ ph b (again l number ph)
  again-turned number ph b more last =
      cond-case (Turned m σ ph b) (ltb (tries ph) l.tries) (Sends number (one_more ph)) Released
      (λ lt. more (ltb-true (tries ph) l.tries lt))
      (λ ge. last (ltb-false (tries ph) l.tries ge))
