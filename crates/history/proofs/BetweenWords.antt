-- Cross-checks only: rules told a second time.
-- What the words of the instances of demand 3 mean: where the others' records stand, what is held and what is freed.
-- Proves: rounds-more, last-rows, held_until-means, both_held-means, freed-means, one_more-means.
use mathlib.Core.Path.{◌≡◌, refl}
use mathlib.Core.Logic.{◌↔◌}
use mathlib.Core.Bool.{true, false}
use mathlib.Core.List.{List, [], ◌∷◌, ◌++◌}
use Prim.Native.Nat.{ℕ, suc, ◌+◌, ◌-◌}
use lib.ListN.{get_or}
use Rattle.record.specs.declared.partner.Partner.{Partner}
use Rattle.place.specs.Places.{vacant, held_phase}
use Rattle.place.specs.declared.phase.Phase.{Phase}
use Rattle.history.specs.Histories.{after, silent, timeouts, holds_place, waits, releases_of}
use Rattle.history.specs.Reaching.{rbc5, timeout5, repeated}
use Rattle.history.specs.Sums.{started}
use Rattle.history.specs.Between.{riu7, timeout7, rounds, before_last5, to_last5, before_last7, to_last7, HeldUntil, BothHeld, Freed}
use Rattle.history.specs.Counting.{OneMore}

-- a round: the row, a timeout of RBC 5, the row again, a timeout of RIU 7
-- meaning
pub rounds-more : (row : List (List ℕ)) (k : ℕ)
    → (rounds row 0 ≡ [])
    × (rounds row (suc k) ≡ (row ++ (timeout5 ∷ (row ++ (timeout7 ∷ [])))) ++ rounds row k)
unfolding repeated
rounds-more row k = (refl, refl)

-- after n - 1 rounds the row and the n-th timeout of RBC 5, then the row and the n-th of RIU 7
-- meaning
pub last-rows : (row : List (List ℕ)) (n : ℕ)
    → (to_last5 row n ≡ (rounds row (n - 1) ++ row) ++ (timeout5 ∷ []))
    × (to_last7 row n ≡ (to_last5 row n ++ row) ++ (timeout7 ∷ []))
    × (before_last5 row n ≡ rounds row (n - 1) ++ row)
    × (before_last7 row n ≡ to_last5 row n ++ row)
last-rows row n = (refl, refl, refl, refl)

-- a partner waits, is named by nothing but n timeouts, and is held before the last of them
-- meaning
pub held_until-means : (p : Partner) (n : ℕ) (first before whole : List (List ℕ))
    → HeldUntil p n first before whole
    ↔ ((waits p (after (started n) first).places ≡ true)
    × (silent p (after (started n) first) whole ≡ true)
    × (timeouts p whole ≡ n)
    × (holds_place p (after (after (started n) first) before).places ≡ true))
held_until-means p n first before whole = ((λ h. h), (λ h. h))

-- RBC 5 in place 0 and RIU 7 in place 1, in this phase
-- meaning
pub both_held-means : (n : ℕ) (first row : List (List ℕ)) (ph : Phase)
    → BothHeld n first row ph
    ↔ ((held_phase (get_or (after (started n) first).places 0 vacant) ≡ ph)
    × (held_phase (get_or (after (started n) first).places 1 vacant) ≡ ph)
    × HeldUntil rbc5 n first (before_last5 row n) (to_last5 row n)
    × HeldUntil riu7 n first (before_last7 row n) (to_last7 row n))
both_held-means n first row ph = ((λ h. h), (λ h. h))

-- no place after the records, and one action 22 in them
-- meaning
pub freed-means : (p : Partner) (n : ℕ) (first whole : List (List ℕ))
    → Freed p n first whole
    ↔ ((holds_place p (after (started n) (first ++ whole)).places ≡ false) × (releases_of p (after (started n) first) whole ≡ 1))
freed-means p n first whole = ((λ h. h), (λ h. h))

-- one more where it holds, as many where it does not
-- meaning
pub one_more-means : (P : Type 0) (before now : ℕ)
    → OneMore P before now
    ↔ ((P → now ≡ before + 1) × ((P → ⊥) → now ≡ before))
one_more-means P before now = ((λ h. h), (λ h. h))
