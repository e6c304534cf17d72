-- The closing of the places that are due, place after place as the code does it, and the actions of the numbers that it gives.
-- Proves: closings-places, closings-all, numbers-all, closing-number, closing-partner, closing-numbers, sent-closings, sent-few,
-- sent-more, sent-room, sent-all.
use mathlib.Core.Path.{◌≡◌, refl, sym, ap, ap₂, ◌∙◌}
use mathlib.Core.List.{List, [], ◌∷◌, ◌++◌, map, append-nil, append_assoc}
use Prim.Native.Nat.{ℕ, zero, suc, ◌+◌, ◌≤◌, ◌<◌}
use native.Mathlib.Nat.{zero-add, le_of_suc-le-suc}
use native.Mathlib.Numerals.{add-one}
use native.Mathlib.Omega.{arith}
use lib.Dec.{eqb}
use lib.ListN.{length, get_or, take, drop, set, drop_of_length-le, length-append, length-map}
use Rattle.wire.proofs.Tests.{get_or-map}
use lib.Seq.{drop-cons, take-suc, take_all, get_or_at, length-take-le, paste, paste-suc}
use lib.Seq as in-lists
use Rattle.place.specs.Places.{vacant, partner_of}
use Rattle.place.proofs.Holdings.{partner_held, holding_closed_by}
use Rattle.place.specs.Table.{closing, closes, numbers, place_after, closed_by, turned_to}
use Rattle.place.specs.declared.phase.Phase.{Phase}
use Rattle.place.specs.declared.phase.Phase.TheVariants.{Connecting, Contacting, Open, Lost, Ending}
use Rattle.place.specs.declared.place.Holding.{Holding}
use Rattle.place.specs.declared.place.Holding.TheVariants.{Free, Held}
use Rattle.place.specs.declared.place.Place.{Place}
use Rattle.place.specs.declared.turn.Turn.TheVariants.{Stays}
use Rattle.place.specs.declared.turn.Turned.{Turned}
use Rattle.place.specs.declared.turn.Closing.{Closing}
use Rattle.wire.proofs.Tests.{cond-holds}
use Rattle.unit.specs.Steps.{act, actions_in, closed, closing_actions}
use Rattle.unit.specs.Changes.{given, closing_number, sent_for}
use Rattle.unit.proofs.Weights.{length-closed}

closed-append : (which : Closing) (xs ys : List Place) → closed which (xs ++ ys) ≡ closed which xs ++ closed which ys
unfolding closed
closed-append which [] ys = refl
closed-append which (x ∷ xs) ys = ap (◌∷◌ (place_after x (closed_by which x))) (closed-append which xs ys)

module _ (which : Closing) (ps : List Place) (i : ℕ) (below : i < length ps) where
  p : Place
  p = get_or ps i vacant

  next : take (i + 1) ps ≡ take i ps ++ (p ∷ [])
  unfolding p
  next = ap (λ k. take k ps) (add-one i) ∙ take-suc ps i vacant below

  closed-length : length (closed which (take i ps)) ≡ i
  closed-length = length-closed which (take i ps) ∙ length-take-le i ps (omega arith)

  at-hand : closed which (take i ps) ++ drop i ps ≡ closed which (take i ps) ++ (p ∷ drop (suc i) ps)
  unfolding p
  at-hand = ap (◌++◌ (closed which (take i ps))) (drop-cons ps i vacant below)

  -- the next place is as it was
  closings-place : get_or (closed which (take i ps) ++ drop i ps) i vacant ≡ get_or ps i vacant
  unfolding p
  closings-place = ap (λ l. get_or l i vacant) at-hand ∙ get_or_at (closed which (take i ps)) p (drop (suc i) ps) vacant i closed-length

  -- its closing is one more
  closings-more :
      set (closed which (take i ps) ++ drop i ps) i (place_after (get_or ps i vacant) (closed_by which (get_or ps i vacant)))
      ≡ closed which (take (i + 1) ps) ++ drop (i + 1) ps
  unfolding p closed
  closings-more =
      ap (λ l. set l i (place_after p (closed_by which p))) at-hand
      ∙ in-lists.set_at (closed which (take i ps)) p (drop (suc i) ps) (place_after p (closed_by which p)) i closed-length
      ∙ sym (append_assoc (closed which (take i ps)) (place_after p (closed_by which p) ∷ []) (drop (suc i) ps))
      ∙ ap₂ ◌++◌ (sym (ap (closed which) next ∙ closed-append which (take i ps) (p ∷ [])))
      (ap (λ k. drop k ps) (sym (add-one i)))

  -- one turn of the code's loop: the place, and its number
  module _ (places : List Place) (so_far : places ≡ closed which (take i ps) ++ drop i ps) (t : Turned)
      (turns : t ≡ turned_to (get_or places i vacant) (closed_by which (get_or places i vacant))) where
    turned-is : t ≡ turned_to (get_or ps i vacant) (closed_by which (get_or ps i vacant))
    turned-is = turns ∙ ap (λ q. turned_to q (closed_by which q)) (ap (λ l. get_or l i vacant) so_far ∙ closings-place)

    pub closings-places : set places i t.place ≡ closed which (take (i + 1) ps) ++ drop (i + 1) ps
    unfolding turned_to
    closings-places = ap₂ (λ l x. set l i x.place) so_far turned-is ∙ closings-more

    pub closing-number : t.first ≡ get_or (map (closing_number which) ps) i 0
    unfolding turned_to
    closing-number = ap (λ (x : Turned). x.first) turned-is ∙ sym (get_or-map (closing_number which) ps i vacant)

    pub closing-partner : partner_of (get_or places i vacant) ≡ partner_of (get_or ps i vacant)
    closing-partner = ap partner_of (ap (λ l. get_or l i vacant) so_far ∙ closings-place)

    pub closing-numbers : (ks zeros : List ℕ)
        → length zeros ≡ length ps
        → ks ≡ paste zeros 0 (map (closing_number which) ps) i
        → set ks i t.first ≡ paste zeros 0 (map (closing_number which) ps) (i + 1)
    unfolding turned_to
    closing-numbers ks zeros long is =
        let all = map (closing_number which) ps in
        let same = length-map ps (closing_number which) in
        ap₂ (λ l x. set l i x.first) is turned-is
        ∙ ap (set (paste zeros 0 all i) i) (sym (get_or-map (closing_number which) ps i vacant))
        ∙ ap (λ k. set (paste zeros 0 all i) k (get_or all i 0)) (sym (zero-add i))
        ∙ paste-suc zeros 0 all i 0 (omega (arith, long)) (omega (arith, same))
        ∙ ap (paste zeros 0 all) (sym (add-one i))

module _ (which : Closing) (ps : List Place) (i : ℕ) (above : length ps ≤ i) where
  -- at the end all are closed
  pub closings-all : closed which (take i ps) ++ drop i ps ≡ closed which ps
  closings-all =
      ap₂ (λ a b. closed which a ++ b) (take_all i ps above) (drop_of_length-le ps above) ∙ append-nil (closed which ps)

  pub numbers-all : (zeros : List ℕ)
      → length zeros ≡ length ps
      → paste zeros 0 (map (closing_number which) ps) i ≡ map (closing_number which) ps
  numbers-all zeros long =
      let all = map (closing_number which) ps in
      ap₂ ◌++◌ (take_all i all (omega (arith, above, length-map ps (closing_number which))))
      (ap (λ k. drop k zeros) (zero-add i) ∙ drop_of_length-le zeros {i = i} (omega (arith, above, long)))
      ∙ append-nil all

-- a closing's one number gives its actions
given-closing : (ph : Phase) → given (get_or (numbers (closing ph)) 0 0) ≡ numbers (closing ph)
unfolding given
given-closing (Connecting t) = refl
given-closing (Contacting t) = refl
given-closing Open = refl
given-closing (Lost t) = refl
given-closing (Ending t) = refl

of-partner : (which : Closing) (k : Holding)
    → map (act (partner_held k)) (given (get_or (numbers (holding_closed_by which k)) 0 0)) ≡ actions_in k (holding_closed_by which k)
unfolding given
of-partner which Free = refl
of-partner which (Held d ph p) =
    ap (map (act p))
    (cond-holds (λ t. given (get_or (numbers t) 0 0) ≡ numbers t) (closes which ph p) (closing ph) Stays (given-closing ph) refl)

pub sent-closings : (which : Closing) (ps : List Place) → sent_for ps (map (closing_number which) ps) ≡ closing_actions which ps
unfolding sent_for closing_actions
sent-closings which [] = refl
sent-closings which (p ∷ ps) = ap₂ ◌++◌ (of-partner which p.holding) (sent-closings which ps)

-- at most one action for each place
given-few : (number : ℕ) → length (given number) ≤ 1
unfolding given
given-few number = cond-holds (λ l. length l ≤ 1) (eqb number 0) [] (number ∷ []) (omega arith) (omega arith)

pub sent-few : (ps : List Place) (ks : List ℕ) → length (sent_for ps ks) ≤ length ps
unfolding sent_for
sent-few [] ks = omega arith
sent-few (p ∷ ps) [] = omega arith
sent-few (p ∷ ps) (k ∷ ks) =
    let joined = length-append (map (act (partner_of p)) (given k)) (sent_for ps ks) in
    let same = length-map (given k) (act (partner_of p)) in
    omega (arith, joined, same, given-few k, sent-few ps ks)

-- the actions of the places so far, and of one more
sent-next : (ps : List Place) (ks : List ℕ) (i : ℕ)
    → i < length ps
    → i < length ks
    → sent_for (take i ps) (take i ks) ++ map (act (partner_of (get_or ps i vacant))) (given (get_or ks i 0))
    ≡ sent_for (take (suc i) ps) (take (suc i) ks)
unfolding sent_for
sent-next [] ks i below few = absurd (omega arith)
sent-next (p ∷ ps) [] i below few = absurd (omega arith)
sent-next (p ∷ ps) (k ∷ ks) zero below few = sym (append-nil (map (act (partner_of p)) (given k)))
sent-next (p ∷ ps) (k ∷ ks) (suc i) below few =
    append_assoc (map (act (partner_of p)) (given k)) (sent_for (take i ps) (take i ks)) _
    ∙ ap (◌++◌ (map (act (partner_of p)) (given k))) (sent-next ps ks i (le_of_suc-le-suc below) (le_of_suc-le-suc few))

-- one turn of the loops over places and numbers: a place's partner, its number, and what was sent before
module _ (ps : List Place) (ks : List ℕ) (i : ℕ) (below : i < length ps) (few : i < length ks) where
  pub sent-more :
      sent_for (take i ps) (take i ks) ++ map (act (partner_of (get_or ps i vacant))) (given (get_or ks i 0))
      ≡ sent_for (take (i + 1) ps) (take (i + 1) ks)
  sent-more = sent-next ps ks i below few ∙ ap (λ k. sent_for (take k ps) (take k ks)) (sym (add-one i))

  pub sent-room : length (sent_for (take i ps) (take i ks)) + length (given (get_or ks i 0)) ≤ i + 1
  sent-room =
      let most = sent-few (take i ps) (take i ks) in
      let long = length-take-le i ps (omega arith) in
      omega (arith, most, long, given-few (get_or ks i 0))

-- and their end
pub sent-all : (ps : List Place) (ks : List ℕ) (i : ℕ)
    → length ps ≤ i
    → length ks ≤ i
    → sent_for (take i ps) (take i ks) ≡ sent_for ps ks
sent-all ps ks i above over = ap₂ sent_for (take_all i ps above) (take_all i ks over)
