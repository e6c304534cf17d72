-- The queue and the numbers that wait in it.
-- Defines: Named.
-- Proves: somebody-named, named-append, waiting-named, waiting_none, waiting-one, waiting-two, waiting-queued, queued-ordered,
-- queued-waiting, joined-none, joined-first, joined-second.
use mathlib.Core.Path.{◌≡◌, refl, sym, ap, ◌∙◌}
use mathlib.Core.Bool.{Bool, true, false, cond}
use mathlib.Core.List.{List, [], ◌∷◌, ◌++◌, append-nil}
use Prim.Native.Nat.{ℕ, suc, ◌≤◌}
use native.Mathlib.Omega.{arith}
use lib.Dec.{eqb}
use lib.ListN.{length}
use borrow.Author.Tests.{eqb-true, eq-eqb, ne_eqb}
use Rattle.wire.proofs.Tests.{All, cond-case, true-false}
use Rattle.shunter.specs.Queues.{modem_count, no_place, somebody, waiting, queued, in_order}
use Rattle.shunter.specs.declared.queue.Queue.{Queue}

-- each number is somebody's
abbrev pub Named : List ℕ → Type 0
Named is = All (λ i. eqb i no_place ≡ false) is

-- what waits in one half of the queue is somebody
pub somebody-named : (i : ℕ) → Named (somebody i)
somebody-named i = cond-case Named (eqb i no_place) [] (i ∷ []) (λ none. tt) (λ some. (some, tt))

-- so are two rows of somebodies, one after the other
pub named-append : (is js : List ℕ) → Named is → Named js → Named (is ++ js)
named-append [] js first second = second
named-append (i ∷ is) js first second = (first.0, named-append is js first.1 second)

-- those that wait are somebody
pub waiting-named : (q : Queue) → Named (waiting q)
unfolding waiting
waiting-named q =
    named-append (somebody q.first) (somebody q.second) (somebody-named q.first) (somebody-named q.second)

-- nobody waits
pub waiting_none : (q : Queue) → in_order q ≡ true → q.first ≡ no_place → waiting q ≡ []
unfolding waiting
waiting_none q ordered empty =
    let front = eq-eqb q.first no_place empty in
    let behind : eqb q.second no_place ≡ true = simp front at ordered in
    simp (front, behind)

-- one waits
pub waiting-one : (q : Queue) → (q.first ≡ no_place → ⊥) → q.second ≡ no_place → waiting q ≡ q.first ∷ []
unfolding waiting
waiting-one q front alone = simp (ne_eqb q.first no_place front, eq-eqb q.second no_place alone)

-- two wait
pub waiting-two : (q : Queue)
    → (q.first ≡ no_place → ⊥)
    → (q.second ≡ no_place → ⊥)
    → waiting q ≡ q.first ∷ q.second ∷ []
unfolding waiting
waiting-two q front behind = simp (ne_eqb q.first no_place front, ne_eqb q.second no_place behind)

-- at most two that are queued wait then
pub waiting-queued : (is : List ℕ) → Named is → length is ≤ modem_count → waiting (queued is) ≡ is
unfolding waiting queued
waiting-queued [] named few = refl
waiting-queued (i ∷ []) named few = simp named.0
waiting-queued (i ∷ j ∷ []) named few = simp (named.0, named.1.0)
waiting-queued (i ∷ j ∷ k ∷ is) named few = absurd (omega arith)

-- a queue made so has nobody in front of somebody
pub queued-ordered : (is : List ℕ) → Named is → in_order (queued is) ≡ true
unfolding queued
queued-ordered [] named = refl
queued-ordered (i ∷ []) named = simp named.0
queued-ordered (i ∷ j ∷ is) named = simp named.0

-- those that wait in a queue in order are the queue
pub queued-waiting : (q : Queue) → in_order q ≡ true → q ≡ queued (waiting q)
unfolding waiting queued
queued-waiting q = by q.first q.second (eqb q.first no_place) (eqb q.second no_place) refl refl
  where
    by : (a b : ℕ) (x y : Bool)
        → eqb a no_place ≡ x
        → eqb b no_place ≡ y
        → cond x y true ≡ true
        → record { first = a; second = b } ≡ queued (cond x [] (a ∷ []) ++ cond y [] (b ∷ []))
    by a b true true none behind ordered = λ i. record { first = eqb-true a no_place none i; second = eqb-true b no_place behind i }
    by a b true false none behind ordered = true-false false ordered refl
    by a b false true some behind ordered = λ i. record { first = a; second = eqb-true b no_place behind i }
    by a b false false some behind ordered = refl

module _ (q : Queue) (place : ℕ) (ordered : in_order q ≡ true) where
  -- nobody joins
  pub joined-none : place ≡ no_place → q ≡ queued (waiting q ++ somebody place)
  joined-none none =
      queued-waiting q ordered
      ∙ ap queued (sym (append-nil (waiting q)) ∙ ap (λ k. waiting q ++ somebody k) (sym none))

  module _ (some : place ≡ no_place → ⊥) where
    -- somebody joins an empty queue
    pub joined-first : q.first ≡ no_place → record { first = place; second = no_place } ≡ queued (waiting q ++ somebody place)
    unfolding queued
    joined-first empty = simp (waiting_none q ordered empty, ne_eqb place no_place some)

    -- somebody joins behind another
    pub joined-second :
        (q.first ≡ no_place → ⊥)
        → length (waiting q ++ somebody place) ≤ modem_count
        → record { first = q.first; second = place } ≡ queued (waiting q ++ somebody place)
    unfolding waiting queued
    joined-second front =
        rw (ne_eqb q.first no_place front, ne_eqb place no_place some)
        (cond-case
        (λ is. suc (length (is ++ (place ∷ []))) ≤ modem_count
        → record { first = q.first; second = place } ≡ queued (q.first ∷ (is ++ (place ∷ []))))
        (eqb q.second no_place) [] (q.second ∷ [])
        (λ alone few. refl)
        (λ behind few. absurd (omega arith)))
